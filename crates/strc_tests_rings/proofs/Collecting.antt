-- A toy collector's step is one of the core's.
use Rattle.std.proofs.Common.{◌≡◌, refl, ℕ, suc, Bool, true, false, cond, ◌||◌, not, nat_lt, Option}
use Rattle.std.proofs.Common.{Some, None, is_some}
use mathlib.Core.Logic.{inl}
use Rattle.strc_stage_core.specs.Actors.{Collects, collected, returned, or_else}
use Rattle.strc_sched_outcome.specs.declared.stop.Stop.{Stop}
use Rattle.strc_stage_core.specs.Parcels.{Load, ParcelView, parcel, emptied}
use Rattle.strc_stage_steps.specs.Steps.{stage_work}
use Rattle.strc_tests_rings.specs.Toys.{counter, counted, is_done}

module _ (rounds taken gathered : ℕ) (load : Load) (last : Bool) where
  collects_with : (own given : Option Stop)
      → Collects stage_work (counter rounds taken gathered own false) (parcel load given last)
      (counter rounds (suc taken) (counted own gathered taken) (or_else own given) last)
      (parcel (cond (is_some given) load (emptied load)) given last)
  unfolding Collects collected returned
  collects_with (Some x) given = (given, refl, inl refl, refl, refl)
  collects_with None (Some y) = (Some y, refl, inl refl, refl, refl)
  collects_with None None = (None, refl, inl refl, refl, refl)

module _ (finished last : Bool) (rounds taken gathered later count : ℕ) (own why : Option Stop)
    (given result : ParcelView) where
  pub counter_collects : is_done finished taken rounds ≡ false → later ≡ suc taken
      → count ≡ counted own gathered taken → why ≡ or_else own given.stop → last ≡ given.last
      → result ≡ parcel (cond (is_some given.stop) given.load (emptied given.load)) given.stop
      given.last
      → Collects stage_work (counter rounds taken gathered own finished) given
      (counter rounds later count why last) result
  counter_collects going one count_is why_is last_is is = rw (
    is,
    why_is,
    last_is,
    count_is,
    one,
    first_false finished (not (nat_lt taken rounds)) going,
  ) (collects_with rounds taken gathered given.load given.last own given.stop)
    where
      first_false : (a b : Bool) → (a || b) ≡ false → a ≡ false
      first_false true b e = e
      first_false false b e = refl
