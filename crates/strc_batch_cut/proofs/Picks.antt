-- Stages of whole groups are a cut where the groups are.
use Rattle.std.proofs.Common.{◌≡◌, refl, ap, ◌∙◌, ℕ, zero, suc, ◌+◌, ◌-◌, ◌≤◌}
use Rattle.std.proofs.Common.{arith}
use Rattle.strc_elab_dataflow.proofs.Ranges.{bounds_from}
use Rattle.strc_batch_cut.specs.Picks.{IsPick, PickedBoundsAreACut}

module _ (pick : (stage : ℕ) → ℕ) (stages groups : ℕ) (is : IsPick pick stages groups) where
  less_left : (left stage : ℕ) → stage + left ≡ stages → pick stage ≤ groups
  less_left zero stage e =
      let same : stage ≡ stages = omega (arith, e) in omega (arith, ap pick same, is.all)
  less_left (suc left) stage e =
      omega (
        arith,
        is.rising stage (omega (arith, e)),
        less_left left (suc stage)
            (omega (arith, e)),
      )

  pub within_groups : (stage : ℕ) → stage ≤ stages → pick stage ≤ groups
  within_groups stage less = less_left (stages - stage) stage (omega (arith, less))

pub picked_bounds_are_a_cut : PickedBoundsAreACut
picked_bounds_are_a_cut graph round bound groups pick stages cut is = (
  record {
    first = ap bound is.first ∙ cut.first;
    all = ap bound is.all ∙ cut.all;
    rising = λ stage less. bounds_from bound groups cut.rising (pick stage) (pick (suc stage))
        (omega (arith, is.rising stage less))
        (within_groups pick stages groups is (suc stage) less);
    between = λ stage less. cut.between (pick stage)
        (within_groups pick stages groups is stage less);
    units = λ stage less. cut.units (pick stage) (within_groups pick stages groups is stage less);
  },
  λ stage less. (pick stage, within_groups pick stages groups is stage less, refl),
)
