use Rattle.std.proofs.Common.{◌≡◌, ◌<◌, ◌+◌, ◌||◌, false, length, drop, sym, ap, subst, ◌∙◌, arith}
use Rattle.std.proofs.lemmas.Result.{IfOk-weaker}
use Rattle.strc_parse_tree.specs.View.{stmt_view, block_view}
use Rattle.strc_parse_tree.proofs.Blocks.{stmt_view-Block, block_view-drop}
use Rattle.strc_work_writes.specs.LocalWrites.{locals_after}
use Rattle.strc_work_writes.specs.Walk.{stmt_writes_field, stmts_write_field}
use Rattle.strc_work_writes.proofs.Growth.{StandsOn, stands_on_after}
use Rattle.strc_work_writes.proofs.field_writes.+statement.Goals as goal

pub block_writes_field-loop-statement-preserved : goal.block_writes_field-loop-statement-preserved
block_writes_field-loop-statement-preserved t c =
    let fields = c.args.fields.now in
    let items = c.args.block.now in
    let i = c.loop-statement.statement-index in
    let lt : i < length items = omega arith in
    let x = c.statement-item.result in
    let rest = block_view (drop (i + 1) items) in
    let locals = c.loop-statement.locals in
    let told = c.if-branch.false in
    let none : stmt_writes_field fields locals (stmt_view x) ≡ false =
    sym c.in_ok-statement_writes_field.ensures.writes ∙ told in
    let after : c.statement_writes_field.new.locals ≡ locals_after locals (stmt_view x) =
    c.in_ok-statement_writes_field.ensures.locals told in
    record {
      writes = ap (λ l. stmts_write_field fields l rest) after
          ∙ ap (λ t. t || stmts_write_field fields (locals_after locals (stmt_view x)) rest)
          (sym none)
          ∙ ap (stmts_write_field fields locals)
          (sym (block_view-drop items i x lt c.statement-item.is))
          ∙ c.loop-statement.invariant.writes;
      locals = subst (StandsOn c.args.locals.now) (sym after)
          (stands_on_after c.args.locals.now locals (stmt_view x)
          c.loop-statement.invariant.locals);
    }

pub statement_writes_field-returns-in-Block-clause-writes :
    goal.statement_writes_field-returns-in-Block-clause-writes
statement_writes_field-returns-in-Block-clause-writes t c =
    let fields = c.args.fields.now in
    let locals = c.args.locals.now in
    let same =
    ap (λ items. stmts_write_field fields locals (block_view items)) c.deref.ensures.value
    ∙ ap (stmt_writes_field fields locals) (sym (stmt_view-Block c.in-Block.body))
    ∙ ap (λ s. stmt_writes_field fields locals (stmt_view s)) (sym c.in-Block.is) in
    IfOk-weaker c.block_writes_field.result _ _ (λ writes h. h ∙ same)
    c.block_writes_field.ensures.writes
