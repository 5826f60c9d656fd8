use Rattle.std.proofs.Common.{◌≡◌, ◌<◌, ◌+◌, OnOk, length, drop, sym, ap, subst, ◌∙◌, arith}
use Rattle.strc_parse_tree.specs.View.{stmt_view, block_view}
use Rattle.strc_parse_tree.proofs.Blocks.{stmt_view-Block, block_view-drop}
use Rattle.strc_work_writes.specs.Calls.{called_in_stmt, called_in_stmts}
use Rattle.strc_work_writes.specs.Writers.{Places, with_calls}
use Rattle.strc_work_writes.proofs.Search.{calls_after}
use Rattle.strc_work_writes.proofs.calls.+calls.Goals as goal

pub find_in_block-loop-statement-preserved : goal.find_in_block-loop-statement-preserved
find_in_block-loop-statement-preserved t c =
    let helpers : Places = c.args.helpers.now in
    let found : Places = c.loop-statement.found in
    let items = c.args.block.now in
    let i = c.loop-statement.statement-index in
    let lt : i < length items = omega arith in
    let x = c.statement-item.result in
    let rest = called_in_stmts (block_view (drop (i + 1) items)) in
    ap (λ l. with_calls helpers l rest) c.in_ok-find_in_statement.ensures
    ∙ sym (calls_after helpers found (called_in_stmt (stmt_view x)) rest)
    ∙ ap (λ b. with_calls helpers found (called_in_stmts b))
    (sym (block_view-drop items i x lt c.statement-item.is))
    ∙ c.loop-statement.invariant

pub find_in_statement-returns-in-Block : goal.find_in_statement-returns-in-Block
find_in_statement-returns-in-Block t c =
    let helpers : Places = c.args.helpers.now in
    let found : Places = c.args.found.now in
    let is =
    ap (λ items. with_calls helpers found (called_in_stmts (block_view items)))
    c.deref.ensures.value
    ∙ ap (λ s. with_calls helpers found (called_in_stmt s)) (sym (stmt_view-Block c.in-Block.body))
    ∙ ap (λ s. with_calls helpers found (called_in_stmt (stmt_view s))) (sym c.in-Block.is) in
    subst (λ (after : Places). OnOk c.find_in_block.result (c.find_in_block.new.found ≡ after)) is
    c.find_in_block.ensures
