-- Where no event of any actor is allowed.
use Rattle.std.proofs.Common.{◌≡◌, ℕ, ◌≤◌, false, length, arith}
use Rattle.std.proofs.lemmas.Bool.{cases_lt}
use mathlib.Core.Logic.{inl, inr}
use Rattle.strc_stage_core.specs.declared.event.Event.{Event}
use Rattle.strc_stage_core.specs.declared.event.Event.TheVariants.{Take, Give}
use Rattle.strc_stage_core.specs.Events.{may}
use Rattle.strc_stage_core.proofs.Reading.{past_allows_none}
use Rattle.strc_stage_steps.specs.Pipes.{PipeView, Precedes}

-- No event of the actors before this one is allowed.
abbrev pub NoneBefore : PipeView → ℕ → Type 0
NoneBefore core actor = (other : Event) → Precedes other (Give actor) → may core other ≡ false

-- Past the hands there are no actors.
pub none_at_all : (core : PipeView) (actor : ℕ) → NoneBefore core actor
    → length core.hands ≤ actor → (event : Event) → may core event ≡ false
none_at_all core actor none past (Take other) = elim (cases_lt other actor) [
  | inl less ↦ none (Take other) less
  | inr more ↦ (past_allows_none core other (omega (arith, past, more))).0
]
none_at_all core actor none past (Give other) = elim (cases_lt other actor) [
  | inl less ↦ none (Give other) less
  | inr more ↦ (past_allows_none core other (omega (arith, past, more))).1
]
