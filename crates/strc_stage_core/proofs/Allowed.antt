-- An event can happen exactly where it is allowed.
use Rattle.std.proofs.Common.{◌≡◌, refl, ℕ, zero, suc, true, false, List, [], ◌∷◌}
use Rattle.strc_stage_core.specs.Actors.{Plain, Stage, Collector, Work}
use Rattle.strc_stage_core.specs.States.{Start, Core, IsState}
use Rattle.strc_stage_core.specs.Events.{Event, Take, Give, is_finished, may, Does, Happens}
use Rattle.strc_stage_core.specs.Driving.{core_after}
use Rattle.strc_stage_core.proofs.Steps.{stepped, gathers}
use Rattle.strc_stage_core.proofs.Driving.{after_happens}

module _ {State Load Stop Total : Type 0} (work : Work State Load Stop Total) where
  does_goes : (actor : ℕ) (stages : List (Stage State Stop)) (c : Collector Total Stop)
      (p : Plain Load Stop) (stages' : List (Stage State Stop)) (c' : Collector Total Stop)
      (q : Plain Load Stop) → Does work actor stages c p stages' c' q
      → is_finished actor stages c ≡ false
  does_goes zero [] c p stages' c' q (does, e) = (gathers work c p c' q does).goes
  does_goes zero (stage ∷ stages) c p stages' c' q (later, step, e, same) =
      (stepped work stage p later q step).goes
  does_goes (suc actor) [] c p stages' c' q does = absurd does
  does_goes (suc actor) (stage ∷ stages) c p stages' c' q (later, e, does) =
      does_goes actor stages c p later c' q does

  pub happens_allowed : (old : Core State Load Stop Total) (event : Event)
      (new : Core State Load Stop Total) → Happens work old event new → may old event ≡ true
  unfolding may
  happens_allowed old (Take actor) new happens =
      rw (
        does_goes actor old.stages old.collector happens.parcel new.stages new.collector
            happens.result happens.does,
        happens.free,
        happens.comes,
      ) refl
  happens_allowed old (Give actor) new happens = rw happens.held refl

  pub allowed_happens : (start : Start State Load Stop Total) (old : Core State Load Stop Total)
      (event : Event) → IsState work start old → may old event ≡ true
      → (new : Core State Load Stop Total) × Happens work old event new
  allowed_happens start old event state allowed =
      (core_after work old event, after_happens work start old event state allowed)
