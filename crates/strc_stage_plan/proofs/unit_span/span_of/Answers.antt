use Rattle.std.proofs.Common.{◌≡◌, ◌∙◌, sym, ap, subst, ℕ, suc, ◌+◌, ◌<◌, List, [], ◌∷◌, ◌++◌}
use Rattle.std.proofs.Common.{get_or, length, arith}
use Rattle.std.proofs.Math.Seq.{take-suc}
use Rattle.std.specs.Prelude.{take, min, max}
use Rattle.strc_stage_plan.specs.Spans.{IsSpanOf}
use Rattle.strc_stage_plan.proofs.Between.{span_more}
use Rattle.strc_stage_plan.proofs.unit_span.span_of.Goals as goal

pub loop-node-preserved : goal.loop-node-preserved
loop-node-preserved c =
    let nodes = c.args.nodes.now in
    let later = c.in_ok-first.later.now in
    let k = c.loop-node.node-index in
    let node = get_or later k 0 in
    let span = c.loop-node.span in
    let whole : nodes ≡ c.in_ok-first.first.now ∷ later = c.in_ok-first.ensures.cases.0 in
    let less : suc k < length nodes = omega (arith, ap length whole, c.loop-node-test.true) in
    let more : take (suc (k + 1)) nodes ≡ take (suc k) nodes ++ node ∷ [] =
    ap (λ (n : ℕ). take (suc n) nodes) (let e : k + 1 ≡ suc k = omega arith in e)
    ∙ take-suc nodes (suc k) 0 less
    ∙ ap (λ (l : List ℕ). take (suc k) nodes ++ get_or l (suc k) 0 ∷ []) whole in
    let least : min span.least node ≡ c.min.result = sym c.min.ensures in
    let greatest : max span.greatest node ≡ c.max.result = sym c.max.ensures in
    subst (λ (seen : List ℕ). IsSpanOf seen (record {
      least = c.min.result;
      greatest = c.max.result;
    })) (sym more)
    (subst (λ (n : ℕ). IsSpanOf (take (suc k) nodes ++ node ∷ []) (record {
      least = c.min.result;
      greatest = n;
    })) greatest
    (subst (λ (n : ℕ). IsSpanOf (take (suc k) nodes ++ node ∷ []) (record {
      least = n;
      greatest = max span.greatest node;
    })) least (span_more (take (suc k) nodes) span node c.loop-node.invariant)))
