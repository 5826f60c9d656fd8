-- What events make where memory suffices, and a driver that lets the first allowed one happen as
-- long as there is one.
use Rattle.std.specs.Prelude.{ℕ, zero, suc, cond, List, [], ◌∷◌, ◌++◌, length, set, get_or, Option}
use Rattle.std.specs.Prelude.{Some, None}
use Rattle.strc_stage_core.specs.Actors.{Plain, Stage, Collector, Work, stop_of, next, made}
use Rattle.strc_stage_core.specs.Actors.{collected}
use Rattle.strc_stage_core.specs.Actors.{returned}
use Rattle.strc_stage_core.specs.States.{Core}
use Rattle.strc_stage_core.specs.Events.{Event, Take, Give, before, may}

-- Stages and collector, and what an actor then holds, after its step.
pub record Stepped (State Load Stop Total : Type 0) : Type 0 where
  pub stages : List (Stage State Stop)
  pub collector : Collector Total Stop
  pub result : Plain Load Stop

-- Events that happened, and the core after them.
pub record Driven (State Load Stop Total : Type 0) : Type 0 where
  pub events : List Event
  pub core : Core State Load Stop Total

module _ {State Load Stop Total : Type 0} where
  unfoldable pub past : Stage State Stop → Stepped State Load Stop Total
      → Stepped State Load Stop Total
  past stage stepped = record {
    stages = stage ∷ stepped.stages;
    collector = stepped.collector;
    result = stepped.result;
  }

  unfoldable pub after_first : Event → Driven State Load Stop Total → Driven State Load Stop Total
  after_first event driven = record {
    events = event ∷ driven.events;
    core = driven.core;
  }

  -- The first allowed of these events.
  unfoldable pub first_allowed : Core State Load Stop Total → List Event → Option Event
  first_allowed core [] = None
  first_allowed core (event ∷ events) =
      cond (may core event) (Some event) (first_allowed core events)

module _ {State Load Stop Total : Type 0} (work : Work State Load Stop Total) where
  -- The step of the actor of this number, with the stop that is due.
  unfoldable pub step_at : ℕ → List (Stage State Stop) → Collector Total Stop → Plain Load Stop
      → Stepped State Load Stop Total
  step_at zero [] collector parcel = record {
    stages = [];
    collector = collected work collector parcel parcel.stop;
    result = returned work parcel parcel.stop;
  }
  step_at zero (stage ∷ stages) collector parcel = record {
    stages = next work stage parcel (stop_of work stage parcel) ∷ stages;
    collector = collector;
    result = made work stage parcel (stop_of work stage parcel);
  }
  step_at (suc actor) [] collector parcel = record {
    stages = [];
    collector = collector;
    result = parcel;
  }
  step_at (suc actor) (stage ∷ stages) collector parcel =
      past stage (step_at actor stages collector parcel)

  unfoldable pub take_from : Core State Load Stop Total → ℕ → List (Plain Load Stop)
      → Core State Load Stop Total
  take_from core actor [] = core
  take_from core actor (parcel ∷ rest) = record {
    stages = (step_at actor core.stages core.collector parcel).stages;
    links = set core.links (before (length core.stages) actor) rest;
    hands = set core.hands actor
        (Some (step_at actor core.stages core.collector parcel).result);
    collector = (step_at actor core.stages core.collector parcel).collector;
  }

  unfoldable pub give_from : Core State Load Stop Total → ℕ → Option (Plain Load Stop)
      → Core State Load Stop Total
  give_from core actor None = core
  give_from core actor (Some parcel) = record {
    stages = core.stages;
    links = set core.links actor (get_or core.links actor [] ++ (parcel ∷ []));
    hands = set core.hands actor None;
    collector = core.collector;
  }

  -- The core after an event, where memory suffices.
  unfoldable pub core_after : Core State Load Stop Total → Event → Core State Load Stop Total
  core_after core (Take actor) =
      take_from core actor (get_or core.links (before (length core.stages) actor) [])
  core_after core (Give actor) = give_from core actor (get_or core.hands actor None)

  unfoldable pub drive_by : Core State Load Stop Total → Option Event
      → (Core State Load Stop Total → Driven State Load Stop Total)
      → Driven State Load Stop Total
  drive_by core None later = record { events = []; core = core }
  drive_by core (Some event) later = after_first event (later (core_after core event))

  -- The first allowed of these events happens, again and again, so many times at most.
  unfoldable pub drive : List Event → ℕ → Core State Load Stop Total
      → Driven State Load Stop Total
  drive choices zero core = record { events = []; core = core }
  drive choices (suc left) core = drive_by core (first_allowed core choices) (drive choices left)
