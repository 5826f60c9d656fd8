-- Each stage has some group by weight.
use Rattle.std.proofs.Common.{◌≡◌, refl, sym, ap, ◌∙◌, ℕ, suc, ◌-◌, ◌<◌, ◌≤◌}
use Rattle.std.proofs.Common.{Bool, List, min, arith}
use Rattle.std.proofs.Common.{lt-ltb, le-ltb}
use Rattle.std.specs.Prelude.{if◌then◌else◌}
use Rattle.std.proofs.lemmas.Bool.{cases_lt}
use mathlib.Core.Logic.{inl, inr}
use Rattle.strc_batch_cut.specs.Picks.{IsPick}
use Rattle.strc_batch_cut.specs.Rows.{WeighedRow, WorkRow}
use Rattle.strc_batch_cut.specs.Weighed.{least_group, weighed_group}
use Rattle.strc_batch_cut.specs.Weighed.{WeighedGroupsArePicks}

module _ (weights : List ℕ) (groups stages : ℕ) (some : 0 < stages) (few : stages ≤ groups) where
  abbrev pub least : (stage : ℕ) → ℕ
  least = least_group weights stages

  abbrev pub group : (stage : ℕ) → ℕ
  group = weighed_group weights groups stages

  pub before : (stage : ℕ) → stage < stages
      → group stage ≡ min (least stage) (groups - (stages - stage))
  before stage less =
      ap (λ (t : Bool). if t then min (least stage) (groups - (stages - stage)) else groups)
      (lt-ltb stage stages less)

  pub past : group stages ≡ groups
  past =
      ap (λ (t : Bool). if t then min (least stages) (groups - (stages - stages)) else groups)
      (le-ltb stages stages (omega arith))

  least_rises : (stage : ℕ) → least stage < least (suc stage)
  least_rises stage = omega arith

  pub rises : (stage : ℕ) → stage < stages → group stage < group (suc stage)
  rises stage less = elim (cases_lt (suc stage) stages) [
    | inl more ↦ omega (arith, before stage less, before (suc stage) more, least_rises stage, few)
    | inr last ↦
        let same : stages ≡ suc stage = omega (arith, less, last) in
        omega (arith, before stage less, ap group (sym same) ∙ past, few)
  ]

  pub is_pick : IsPick (weighed_group weights groups stages) stages groups
  is_pick = record {
    first = omega (arith, before 0 some, few);
    all = past;
    rising = rises;
  }

pub weighed_groups_are_picks : WeighedGroupsArePicks
weighed_groups_are_picks weights groups stages some few = is_pick weights groups stages some few

pub weighed_row : WeighedRow
weighed_row = record {
  middle = refl;
  weights = refl;
  evenly = refl;
  first = refl;
  last = refl;
  equal = refl;
  nothing = refl;
}

pub work_row : WorkRow
work_row = refl
