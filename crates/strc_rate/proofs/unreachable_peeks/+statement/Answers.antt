use Rattle.std.proofs.Common.{◌+◌, ◌++◌, drop, sym, ap, ◌∙◌}
use Rattle.std.proofs.lemmas.Result.{on_ok_weaker}
use Rattle.strc_parse_tree.specs.View.{stmt_view, block_view}
use Rattle.strc_parse_tree.proofs.Blocks.{stmt_view-Block, block_view-drop}
use Rattle.strc_rate.specs.Entries.{peeks_of_stmt, peeks_of}
use Rattle.strc_rate.specs.Peeks.{unreached}
use Rattle.strc_rate.proofs.Unreaching.{stmts_unreached}
use Rattle.strc_rate.proofs.unreachable_peeks.+statement.Goals as goal

pub skip_block-loop-statement-preserved : goal.skip_block-loop-statement-preserved
skip_block-loop-statement-preserved t c =
    let all = c.args.block.now in
    let i = c.loop-statement.statement-index in
    let x = stmt_view c.statement-item.result in
    let rest = block_view (drop (i + 1) all) in
    stmts_unreached c.loop-statement.sites.items c.skip_statement.new.sites.items _ x rest
    (block_view (drop i all)) c.in_ok-skip_statement.ensures
    (block_view-drop all i c.statement-item.result c.loop-statement-test.true c.statement-item.is)
    c.loop-statement.invariant

pub skip_statement-returns-in-Block : goal.skip_statement-returns-in-Block
skip_statement-returns-in-Block t c =
    let same =
    ap (λ items. peeks_of (block_view items)) c.deref.ensures.value
    ∙ ap peeks_of_stmt (sym (stmt_view-Block c.in-Block.body))
    ∙ ap (λ s. peeks_of_stmt (stmt_view s)) (sym c.in-Block.is) in
    on_ok_weaker c.skip_block.result
    (λ h. h ∙ ap (λ p. c.args.sites.now.items ++ unreached p) same) c.skip_block.ensures
