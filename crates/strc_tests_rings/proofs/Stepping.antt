-- A toy's step is one of the core's.
use Rattle.std.proofs.Common.{◌≡◌, refl, ℕ, suc, Bool, true, false, cond, ◌||◌, not, nat_eq, nat_lt}
use Rattle.std.proofs.Common.{Option, Some, None, is_some}
use mathlib.Core.Logic.{◌⊎◌, inl, inr}
use Rattle.strc_stage_core.specs.Actors.{Step, next, made, is_passing, is_marked, stop_of, or_else}
use Rattle.strc_sched_outcome.specs.declared.stop.Stop.{Stop}
use Rattle.strc_sched_outcome.specs.declared.stop.Stop.TheVariants as stop
use Rattle.strc_stage_core.specs.Parcels.{Load, ParcelView, parcel, emptied}
use Rattle.strc_stage_steps.specs.Steps.{stage_work}
use Rattle.strc_tests_rings.specs.Toys.{idle_stage, idle_stop, idle_mark, is_done, refusal}

refusal_is : (taken refused : ℕ) → (refusal taken refused ≡ None)
    ⊎ (refusal taken refused ≡ Some stop.NoMemory)
refusal_is taken refused = by_test (nat_eq taken refused)
  where
    by_test : (b : Bool) → (◌≡◌ {A = Option Stop} (cond b (Some stop.NoMemory) None) None)
        ⊎ (◌≡◌ {A = Option Stop} (cond b (Some stop.NoMemory) None) (Some stop.NoMemory))
    by_test true = inr refl
    by_test false = inl refl

module _ (first : Bool) (rounds taken : ℕ) (load : Load) (last : Bool) where
  steps_with : (late : Option Stop) → (late ≡ None) ⊎ (late ≡ Some stop.NoMemory)
      → (given own : Option Stop)
      → Step stage_work (idle_stage first rounds taken own false) (parcel load given last)
      (idle_stage first rounds (suc taken) (or_else given (or_else own late))
      (idle_mark first taken rounds (parcel load given last)))
      (parcel (cond (is_some given || is_some own) load (emptied load))
      (or_else given (or_else own late)) (idle_mark first taken rounds (parcel load given last)))
  unfolding Step next made is_passing is_marked stop_of
  steps_with late why (Some x) own = (Some x, refl, inl refl, refl, refl)
  steps_with late why None (Some y) = (Some y, refl, inl refl, refl, refl)
  steps_with late why None None = (
    late,
    refl,
    elim why [
      | inl none ↦ inl none
      | inr some ↦ inr (refl, some)
    ],
    refl,
    refl,
  )

pub idle_steps : (first : Bool) (rounds taken refused : ℕ) (own : Option Stop) (given : ParcelView)
    → Step stage_work (idle_stage first rounds taken own false) given
    (idle_stage first rounds (suc taken) (idle_stop taken refused own given)
    (idle_mark first taken rounds given))
    (parcel (cond (is_some given.stop || is_some own) given.load (emptied given.load))
    (idle_stop taken refused own given) (idle_mark first taken rounds given))
idle_steps first rounds taken refused own given = steps_with first rounds taken given.load
    given.last (refusal taken refused) (refusal_is taken refused) given.stop own

module _ (first finished : Bool) (rounds taken refused : ℕ) (own : Option Stop)
    (given result : ParcelView) (later : ℕ) (why : Option Stop) (last passes : Bool) where
  pub idle_step : is_done finished taken rounds ≡ false → later ≡ suc taken
      → why ≡ idle_stop taken refused own given → last ≡ idle_mark first taken rounds given
      → passes ≡ (is_some given.stop || is_some own)
      → result ≡ parcel (cond passes given.load (emptied given.load)) why last
      → Step stage_work (idle_stage first rounds taken own finished) given
      (idle_stage first rounds later why last) result
  idle_step going one why_is last_is passes_is is = rw (
    is,
    passes_is,
    why_is,
    last_is,
    one,
    first_false finished (not (nat_lt taken rounds)) going,
  ) (idle_steps first rounds taken refused own given)
    where
      first_false : (a b : Bool) → (a || b) ≡ false → a ≡ false
      first_false true b e = e
      first_false false b e = refl
