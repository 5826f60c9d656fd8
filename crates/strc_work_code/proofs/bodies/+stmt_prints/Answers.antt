use Rattle.std.proofs.Common.{◌≡◌, ◌<◌, ◌+◌, ◌||◌, true, length, drop, sym, ap, ◌∙◌, arith, rules}
use Rattle.std.proofs.Math.ListN.{drop_of_length-le}
use Rattle.strc_parse_tree.specs.View.{stmt_view, block_view}
use Rattle.strc_work_meaning.specs.Filters.{stmt_prints, stmts_print}
use Rattle.strc_parse_tree.proofs.Blocks.{stmt_view-Block, block_view-drop}
use Rattle.strc_work_code.proofs.bodies.+stmt_prints.Goals as goal

pub returns-then-stmt_prints : goal.returns-then-stmt_prints
returns-then-stmt_prints t c =
    let items = c.deref-inner-items.result.now in
    let i = c.loop-inner.inner-index in
    let lt : i < length items = omega arith in
    let prints : stmt_prints (stmt_view c.inner-item.result) ≡ true = search rules in
    sym (ap (λ b. b || stmts_print (block_view (drop (i + 1) items))) prints)
    ∙ sym (ap stmts_print (block_view-drop items i c.inner-item.result lt c.inner-item.is))
    ∙ c.loop-inner.invariant
    ∙ ap (λ l. stmts_print (block_view l)) c.deref-inner-items.ensures.value
    ∙ sym (ap stmt_prints (stmt_view-Block c.in-Block.body))
    ∙ ap (λ s. stmt_prints (stmt_view s)) (sym c.in-Block.is)

pub returns-after-loop-inner : goal.returns-after-loop-inner
returns-after-loop-inner t c =
    let items = c.deref-inner-items.result.now in
    sym (ap (λ l. stmts_print (block_view l)) (drop_of_length-le items c.loop-inner-test.false))
    ∙ c.loop-inner.invariant
    ∙ ap (λ l. stmts_print (block_view l)) c.deref-inner-items.ensures.value
    ∙ sym (ap stmt_prints (stmt_view-Block c.in-Block.body))
    ∙ ap (λ s. stmt_prints (stmt_view s)) (sym c.in-Block.is)
