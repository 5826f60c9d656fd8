use Rattle.std.proofs.Common.{◌<◌, ◌+◌, ◌||◌, false, length, drop, sym, ap, ◌∙◌, arith}
use Rattle.std.proofs.lemmas.Result.{on_ok_weaker}
use Rattle.std.proofs.Math.ListN.{drop_of_length-le}
use Rattle.strc_parse_tree.specs.View.{stmt_view, block_view}
use Rattle.strc_work_code.specs.Nodes.{before}
use Rattle.strc_work_code.specs.Lowering.{stmt_nodes, stmts_nodes}
use Rattle.strc_work_lowering.specs.Written.{written}
use Rattle.strc_parse_tree.proofs.Blocks.{stmt_view-Block, block_view-drop}
use Rattle.strc_work_meaning.proofs.Growth.{base_of_after}
use Rattle.strc_work_code.proofs.Nodes.{before_end}
use Rattle.strc_work_lowering.proofs.Emitted.{stmts_nodes_more}
use Rattle.strc_work_lowering.proofs.statement_code.+statement.Goals as goal

pub emit_block-loop-statement-preserved : goal.emit_block-loop-statement-preserved
emit_block-loop-statement-preserved t c =
    let items = c.args.block.now in
    let i = c.loop-statement.statement-index in
    let lt : i < length items = omega arith in
    let x = c.statement-item.result in
    let names = c.in_ok-emit_after.ensures.names in
    let more = stmts_nodes_more c.loop-statement.names c.emit_after.new.names
    c.loop-statement.returns (c.loop-statement.returns || c.stmt_returns-returns.result)
    (written c.loop-statement.code) (written c.emit_after.new.code) (stmt_view x)
    (block_view (drop (i + 1) items)) c.in_ok-emit_after.ensures.code names
    (ap (λ t. c.loop-statement.returns || t) c.stmt_returns-returns.ensures) in
    record {
      code = more ∙ ap (λ b. before (written c.loop-statement.code)
          (stmts_nodes c.loop-statement.names c.loop-statement.returns b))
          (sym (block_view-drop items i x lt c.statement-item.is))
          ∙ c.loop-statement.invariant.code;
      names = rw names (base_of_after c.args.names.now c.loop-statement.names
          (stmt_view x) c.loop-statement.invariant.names);
    }

pub emit_block-returns-clause-code : goal.emit_block-returns-clause-code
emit_block-returns-clause-code t c =
    let items = c.args.block.now in
    sym (before_end (written c.loop-statement.code))
    ∙ ap (λ l. before (written c.loop-statement.code)
    (stmts_nodes c.loop-statement.names c.loop-statement.returns (block_view l)))
    (sym (drop_of_length-le items c.loop-statement-test.false))
    ∙ c.loop-statement.invariant.code

pub emit_stmt-returns-in-Block-clause-code : goal.emit_stmt-returns-in-Block-clause-code
emit_stmt-returns-in-Block-clause-code t c =
    let names = c.args.names.now in
    let same =
    ap (λ l. stmts_nodes names false (block_view l)) c.deref.ensures.value
    ∙ sym (ap (stmt_nodes names) (stmt_view-Block c.in-Block.body))
    ∙ ap (λ s. stmt_nodes names (stmt_view s)) (sym c.in-Block.is) in
    on_ok_weaker c.emit_block.result (λ h. h ∙ ap (before (written c.args.code.now)) same)
    c.emit_block.ensures.code
