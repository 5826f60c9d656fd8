use Rattle.std.proofs.Common.{◌<◌, ◌+◌, Ok, length, drop, sym, ap, ◌∙◌, subst}
use Rattle.std.proofs.Common.{arith}
use Rattle.std.proofs.Math.ListN.{drop_of_length-le}
use Rattle.std.proofs.lemmas.Result.{err_from_is_err_and}
use Rattle.strc_lex_names.specs.Results.{result_and_then}
use Rattle.strc_parse_tree.specs.Tree as tree
use Rattle.strc_parse_tree.specs.View.{stmt_view, block_view}
use Rattle.strc_work_rules.specs.Resolution.{body_resolved, stmt_resolved, stmts_resolved}
use Rattle.strc_work_rules.specs.Verdicts.{context_of}
use Rattle.strc_parse_tree.proofs.Blocks.{stmt_view-Block, block_view-drop}
use Rattle.strc_work_rules.proofs.TypedGrowth.{stands_on_after}
use Rattle.strc_work_rules.proofs.Resolved.{block_after, block_after_step, block_refused}
use Rattle.strc_work_rules.proofs.Resolved.{block_onto-Done, next_refused, refusal_same}
use Rattle.strc_work_rules.proofs.Resolved.{refusal_through}
use Rattle.strc_work_rules.specs.RefusedPlaces.{IsPlaceOf, stmt_place, block_place}
use Rattle.strc_work_rules.proofs.RefusedPlaces.{next_place, place_same, block_place_step}
use Rattle.strc_work_rules.proofs.RefusedPlaces.{block_place_refused, stmt_place-Block}
use Rattle.strc_work_rules.proofs.statement_rules.+statement.Goals as goal

pub resolve_block-loop-inner-preserved : goal.resolve_block-loop-inner-preserved
resolve_block-loop-inner-preserved t c =
    let items = c.args.block.now in
    let i = c.loop-inner.inner-index in
    let lt : i < length items = omega arith in
    let x = c.inner-item.result in
    let y = c.in_ok-push_next.ensures.ok.0 in
    let told = c.in_ok-push_next.ensures.ok.1 in
    let context = context_of c.args.context.now in
    let rest = block_view (drop (i + 1) items) in
    let start = c.len-start.result in
    let names = rw told at c.resolve_stmt-next.ensures.names in
    record {
      left =
          ap (λ l. block_after l (stmts_resolved context c.resolve_stmt-next.new.names start rest))
          c.in_ok-push_next.ensures.ok.2
          ∙ block_after_step context c.loop-inner.names c.resolve_stmt-next.new.names start
          c.loop-inner.resolved.items (stmt_view x) y rest
          (rw told at c.resolve_stmt-next.ensures.verdict) names
          ∙ ap (λ b. block_after c.loop-inner.resolved.items
          (stmts_resolved context c.loop-inner.names start b))
          (sym (block_view-drop items i x lt c.inner-item.is))
          ∙ c.loop-inner.invariant.left;
      names = rw names (stands_on_after c.args.names.now c.loop-inner.names
          (stmt_view x) c.loop-inner.invariant.names);
      here = (rw told at c.resolve_stmt-next.ensures.here) ∙ c.loop-inner.invariant.here;
      place = block_place_step context c.loop-inner.names c.resolve_stmt-next.new.names start
          c.args.here.now items i x y lt c.inner-item.is
          (rw told at c.resolve_stmt-next.ensures.verdict) names
          ∙ c.loop-inner.invariant.place;
    }

pub resolve_block-returns-in_err-push_next-clause-verdict :
    goal.resolve_block-returns-in_err-push_next-clause-verdict
resolve_block-returns-in_err-push_next-clause-verdict t c =
    let items = c.args.block.now in
    let i = c.loop-inner.inner-index in
    let lt : i < length items = omega arith in
    let x = c.inner-item.result in
    let e = c.in_err-push_next.field-0.0 in
    let context = context_of c.args.context.now in
    let start = c.len-start.result in
    let refusal = next_refused stmt_view
    (stmt_resolved context c.loop-inner.names start (stmt_view x))
    c.resolve_stmt-next.result e c.resolve_stmt-next.ensures.verdict
    c.in_err-push_next.ensures.err in
    let p = err_from_is_err_and c.from_residual.result c.from_residual.ensures.1 in
    let here = block_refused context c.loop-inner.names start c.loop-inner.resolved.items
    (stmt_view x) (block_view (drop (i + 1) items)) e refusal in
    let left = ap (λ b. block_after c.loop-inner.resolved.items
    (stmts_resolved context c.loop-inner.names start b))
    (sym (block_view-drop items i x lt c.inner-item.is)) ∙ c.loop-inner.invariant.left
    ∙ ap (λ n. stmts_resolved context c.args.names.now n (block_view items))
    c.len-start.ensures in
    rw (p.1, p.2) (refusal_same _ _ e left here)

pub resolve_block-returns-clause-verdict : goal.resolve_block-returns-clause-verdict
resolve_block-returns-clause-verdict t c =
    let items = c.args.block.now in
    let context = context_of c.args.context.now in
    let start = c.len-start.result in
    sym (ap (λ n. stmts_resolved context c.args.names.now n (block_view items)) c.len-start.ensures)
    ∙ sym c.loop-inner.invariant.left
    ∙ ap (λ l. block_after c.loop-inner.resolved.items
    (stmts_resolved context c.loop-inner.names start (block_view l)))
    (drop_of_length-le items c.loop-inner-test.false)
    ∙ ap Ok (block_onto-Done c.loop-inner.resolved.items)

pub resolve_stmt-returns-in_ok-body-in-Block-clause-verdict :
    goal.resolve_stmt-returns-in_ok-body-in-Block-clause-verdict
resolve_stmt-returns-in_ok-body-in-Block-clause-verdict t c =
    let context = context_of c.args.context.now in
    let names = c.args.names.now in
    ap (λ s. stmt_resolved context names c.args.start (stmt_view s)) c.in-Block.is
    ∙ ap (stmt_resolved context names c.args.start) (stmt_view-Block c.in-Block.body)
    ∙ ap (λ l. result_and_then (body_resolved context names (block_view l))
    (λ b. Ok (tree.Block b))) (sym c.deref.ensures.value)
    ∙ ap (λ r. result_and_then r (λ b. Ok (tree.Block b))) c.in_ok-body-in-Block.ensures.verdict
    ∙ ap Ok (sym (stmt_view-Block c.in_ok-body-in-Block.body))

pub resolve_stmt-returns-in_err-body-in-Block-clause-verdict :
    goal.resolve_stmt-returns-in_err-body-in-Block-clause-verdict
resolve_stmt-returns-in_err-body-in-Block-clause-verdict t c =
    let context = context_of c.args.context.now in
    let names = c.args.names.now in
    let e = c.in_err-body-in-Block.field-0.0 in
    let p = err_from_is_err_and c.from_residual.result c.from_residual.ensures.1 in
    let whole = ap (λ l. result_and_then (body_resolved context names (block_view l))
    (λ b. Ok (tree.Block b))) c.deref.ensures.value
    ∙ sym (ap (stmt_resolved context names c.args.start) (stmt_view-Block c.in-Block.body))
    ∙ ap (λ s. stmt_resolved context names c.args.start (stmt_view s)) (sym c.in-Block.is) in
    let inside = refusal_through (body_resolved context names (block_view c.deref.result.now))
    (λ b. Ok (tree.Block b)) e c.in_err-body-in-Block.ensures.verdict in
    rw (p.1, p.2) (refusal_same _ _ e whole inside)

pub resolve_block-returns-in_err-push_next-clause-here :
    goal.resolve_block-returns-in_err-push_next-clause-here
resolve_block-returns-in_err-push_next-clause-here t c =
    let items = c.args.block.now in
    let i = c.loop-inner.inner-index in
    let lt : i < length items = omega arith in
    let x = c.inner-item.result in
    let e = c.in_err-push_next.field-0.0 in
    let context = context_of c.args.context.now in
    let start = c.len-start.result in
    let names = c.loop-inner.names in
    let after = c.resolve_stmt-next.new.here in
    let refusal = next_refused stmt_view (stmt_resolved context names start (stmt_view x))
    c.resolve_stmt-next.result e c.resolve_stmt-next.ensures.verdict
    c.in_err-push_next.ensures.err in
    let stands = next_place c.resolve_stmt-next.result e
    (stmt_place context names start c.loop-inner.here x) c.loop-inner.here after
    c.resolve_stmt-next.ensures.here c.in_err-push_next.ensures.err in
    let at = subst (λ h. IsPlaceOf e (stmt_place context names start h x) after)
    c.loop-inner.invariant.here stands in
    let p = err_from_is_err_and c.from_residual.result c.from_residual.ensures.1 in
    let left = block_place_refused context names start c.args.here.now items i x e after lt
    c.inner-item.is refusal at in
    let whole = c.loop-inner.invariant.place
    ∙ ap (λ n. block_place context c.args.names.now n c.args.here.now items) c.len-start.ensures in
    rw (p.1, p.2) (place_same e _ _ after whole left)

pub resolve_block-returns-clause-here : goal.resolve_block-returns-clause-here
resolve_block-returns-clause-here t c = c.loop-inner.invariant.here

pub resolve_stmt-returns-in_err-body-in-Block-clause-here :
    goal.resolve_stmt-returns-in_err-body-in-Block-clause-here
resolve_stmt-returns-in_err-body-in-Block-clause-here t c =
    let context = context_of c.args.context.now in
    let names = c.args.names.now in
    let here = c.args.here.now in
    let e = c.in_err-body-in-Block.field-0.0 in
    let p = err_from_is_err_and c.from_residual.result c.from_residual.ensures.1 in
    let whole = ap (block_place context names (length names) here) c.deref.ensures.value
    ∙ sym (stmt_place-Block context names c.args.start here c.in-Block.body)
    ∙ ap (stmt_place context names c.args.start here) (sym c.in-Block.is) in
    rw (p.1, p.2) (place_same e _ _ _ whole c.in_err-body-in-Block.ensures.here)
