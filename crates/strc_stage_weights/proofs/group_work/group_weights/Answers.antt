use Rattle.std.proofs.Common.{◌≡◌, ◌∙◌, ◌+◌, ap, sym, arith, suc, ℕ, List, [], ◌∷◌, ◌++◌}
use Rattle.std.proofs.Common.{slice_index}
use Rattle.std.specs.Prelude.{sum}
use Rattle.std.proofs.lemmas.List.Sums.{sum_by_push}
use Rattle.strc_batch_cut.specs.Work.{group_weights, work_between}
use Rattle.strc_stage_weights.proofs.Groups.{weights_more}
use Rattle.strc_stage_weights.proofs.group_work.group_weights.Goals as goal

pub loop-group-preserved : goal.loop-group-preserved
loop-group-preserved c =
    let work : ℕ → ℕ = λ n. slice_index c.args.works.now n in
    let bound : ℕ → ℕ = λ n. slice_index c.args.bounds.now n in
    let group : ℕ = c.loop-group.group in
    let before : List ℕ = c.loop-group.weights.items in
    let next : bound (group + 1) ≡ bound (suc group) = ap bound (omega arith) in
    record {
      weights_are = c.in_ok-push.ensures.items
          ∙ ap (λ (l : List ℕ). l ++ c.work_between.result ∷ []) c.loop-group.invariant.weights_are
          ∙ ap (λ (w : ℕ). group_weights work bound group ++ w ∷ [])
          (c.work_between.ensures.work ∙ ap (work_between work (bound group)) next)
          ∙ sym (weights_more work bound group);
      light = omega (
        arith,
        ap (λ (l : List ℕ). sum l) c.in_ok-push.ensures.items,
        sum_by_push (λ (x : ℕ). x) before c.work_between.result,
        c.loop-group.invariant.light,
        c.work_between.ensures.light,
        next,
        c.requires.rising group (omega (arith, c.loop-group-test.true)),
      );
    }
