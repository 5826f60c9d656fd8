-- What a driver does are events.
use Rattle.std.proofs.Common.{◌≡◌, refl, sym, ap, ◌∙◌, ℕ, zero, suc, ◌<◌, Bool, true, false, cond}
use Rattle.std.proofs.Common.{List, [], ◌∷◌, length, Option, Some, None, slice_get, get_or, arith}
use Rattle.std.proofs.Common.{true≢false}
use Rattle.std.proofs.lemmas.Option.{slice_get_within, slice_get-get_or, get_or_from_slice_get}
use mathlib.Core.Logic.{inl}
use Rattle.strc_stage_core.specs.Actors.{Plain, Stage, Collector, Work, stop_of, next, Step}
use Rattle.strc_stage_core.specs.Actors.{Collects}
use Rattle.strc_stage_core.specs.States.{Start, Core, IsState}
use Rattle.strc_stage_core.specs.Events.{Event, Take, Give, before, is_finished, may, Does, Happens}
use Rattle.strc_stage_core.specs.Events.{Happen}
use Rattle.strc_stage_core.specs.Driving.{past, step_at, take_from, give_from, core_after}
use Rattle.strc_stage_core.specs.Driving.{first_allowed}
use Rattle.strc_stage_core.specs.Driving.{after_first, drive_by, drive}
use Rattle.strc_stage_core.proofs.Runs.{some_is, none_not_some}
use Rattle.strc_stage_core.proofs.Events.{state_after}
use Rattle.strc_stage_core.proofs.Counts.{lengths}
use Rattle.strc_stage_core.proofs.Taking.{may_take, holding_is}

module _ {State Load Stop Total : Type 0} (work : Work State Load Stop Total) where
  -- The step of the actor of this number, which has not finished.
  does_at : (actor : ℕ) (stages : List (Stage State Stop)) (c : Collector Total Stop)
      (p : Plain Load Stop) → is_finished actor stages c ≡ false
      → Does work actor stages c p (step_at work actor stages c p).stages
      (step_at work actor stages c p).collector (step_at work actor stages c p).result
  unfolding Step Collects step_at past
  does_at zero [] c p goes = ((p.stop, goes, inl refl, refl, refl), refl)
  does_at zero (stage ∷ stages) c p goes = (
    next work stage p (stop_of work stage p),
    (stop_of work stage p, goes, inl refl, refl, refl),
    refl,
    refl,
  )
  does_at (suc actor) [] c p goes = absurd (true≢false goes)
  does_at (suc actor) (stage ∷ stages) c p goes =
      ((step_at work actor stages c p).stages, refl, does_at actor stages c p goes)

  pub after_happens : (start : Start State Load Stop Total) (old : Core State Load Stop Total)
      (event : Event) → IsState work start old → may old event ≡ true
      → Happens work old event (core_after work old event)
  unfolding core_after take_from give_from may
  after_happens start old (Take actor) state allowed =
      let take = may_take old actor allowed in
      rw (get_or_from_slice_get old.links (before (length old.stages) actor)
      (take.parcel ∷ take.rest) [] take.comes) (record {
        parcel = take.parcel;
        rest = take.rest;
        result = (step_at work actor old.stages old.collector take.parcel).result;
        comes = take.comes;
        free = take.free;
        does = does_at actor old.stages old.collector take.parcel take.goes;
        links_are = refl;
        hands_are = refl;
      })
  after_happens start old (Give actor) state allowed =
      let (parcel, held) = holding_is (slice_get old.hands actor) allowed in
      let (a, b, d) = lengths work start old state in
      let within : actor < length old.links =
      omega (arith, slice_get_within old.hands actor (Some parcel) held, b, d) in
      rw (get_or_from_slice_get old.hands actor (Some parcel) None held) (record {
        parcel = parcel;
        queue = get_or old.links actor [];
        held = held;
        link_is = slice_get-get_or old.links actor [] within;
        stages_are = refl;
        collector_is = refl;
        links_are = refl;
        hands_are = refl;
      })

  first_is_allowed : (core : Core State Load Stop Total) (choices : List Event) (event : Event)
      → first_allowed core choices ≡ Some event → may core event ≡ true
  unfolding first_allowed
  first_is_allowed core [] event e = absurd (none_not_some event e)
  first_is_allowed core (choice ∷ choices) event e = by_test (may core choice) refl
      (first_is_allowed core choices event) e
    where
      by_test : (test : Bool) → may core choice ≡ test
          → (first_allowed core choices ≡ Some event → may core event ≡ true)
          → cond test (Some choice) (first_allowed core choices) ≡ Some event
          → may core event ≡ true
      by_test true is further e = ap (may core) (sym (some_is choice event e)) ∙ is
      by_test false is further e = further e

  -- The driven events happen, and lead to a state.
  pub driven_happen : (start : Start State Load Stop Total) (choices : List Event) (left : ℕ)
      (core : Core State Load Stop Total) → IsState work start core
      → Happen work core (drive work choices left core).events (drive work choices left core).core
      × IsState work start (drive work choices left core).core
  unfolding drive drive_by after_first
  driven_happen start choices zero core state = (refl, state)
  driven_happen start choices (suc left) core state = by_choice (first_allowed core choices)
      refl (driven_happen start choices left)
    where
      by_choice : (choice : Option Event) → first_allowed core choices ≡ choice
          → ((next : Core State Load Stop Total) → IsState work start next
          → Happen work next (drive work choices left next).events
          (drive work choices left next).core
          × IsState work start (drive work choices left next).core)
          → Happen work core (drive_by work core choice (drive work choices left)).events
          (drive_by work core choice (drive work choices left)).core
          × IsState work start (drive_by work core choice (drive work choices left)).core
      by_choice None is further = (refl, state)
      by_choice (Some event) is further =
          let happens = after_happens start core event state
          (first_is_allowed core choices event is) in
          let (later, end) = further (core_after work core event)
          (state_after work start core event (core_after work core event) state happens) in
          ((core_after work core event, happens, later), end)
