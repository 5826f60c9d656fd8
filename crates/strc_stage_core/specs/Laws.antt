-- The theorems of this crate, each the contract of a function of the root file. They hold at all
-- types and for all that stages compute.
use Rattle.std.specs.Prelude.{◌≡◌, ◌⊎◌, ℕ, suc, ◌+◌, ◌*◌, ◌<◌, ◌≤◌, Bool, true, false, List, ◌∷◌}
use Rattle.std.specs.Prelude.{length, Some, None, IsSome, slice_get}
use Rattle.strc_stage_core.specs.Actors.{Plain, Stage, Collector, Work, Step, Collects}
use Rattle.strc_stage_core.specs.States.{Runs, Start, Core, IsStart, IsState, first_core}
use Rattle.strc_stage_core.specs.Events.{Event, Take, Happens, before, may, is_over, HasRounds}
use Rattle.strc_stage_core.specs.Events.{taken_by}
use Rattle.strc_stage_core.specs.Events.{weight, acts, most_acts, Happen}
use Rattle.strc_stage_core.specs.Invariants.{AllFirst, AreHandedOn, IsHandedOnByStep, after}
use Rattle.strc_stage_core.specs.Endings.{IsEnded, Gathers, StayStopped}
use Rattle.strc_stage_core.specs.Parts.{Part, core_of, AreJoined}

-- The core before any event is a state.
abbrev pub FirstCoreIsState : (State Load Stop Total : Type 0) → Type 0
FirstCoreIsState State Load Stop Total =
    (work : Work State Load Stop Total) (start : Start State Load Stop Total)
    → IsStart start → IsState work start (first_core start)

-- An event takes each state to a state, of every start at once.
abbrev pub EventsKeepStates : (State Load Stop Total : Type 0) → Type 0
EventsKeepStates State Load Stop Total =
    (work : Work State Load Stop Total) (old new : Core State Load Stop Total) (event : Event)
    → Happens work old event new
    → (start : Start State Load Stop Total) → IsState work start old → IsState work start new

-- An event can happen exactly where it is allowed.
abbrev pub EventsAreAllowed : (State Load Stop Total : Type 0) → Type 0
EventsAreAllowed State Load Stop Total =
    (work : Work State Load Stop Total) (old : Core State Load Stop Total) (event : Event)
    → ((new : Core State Load Stop Total) → Happens work old event new → may old event ≡ true)
    × ((start : Start State Load Stop Total) → IsState work start old → may old event ≡ true
    → (new : Core State Load Stop Total) × Happens work old event new)

-- Each event counts one, and there are at most two for each actor and round.
abbrev pub EventsAreCounted : (State Load Stop Total : Type 0) → Type 0
EventsAreCounted State Load Stop Total =
    (work : Work State Load Stop Total) (start : Start State Load Stop Total)
    (core : Core State Load Stop Total) → IsState work start core
    → (acts core ≤ most_acts core)
    × (most_acts core ≡ 2 * start.collector.rounds * suc (length start.stages))
    × ((event : Event) (new : Core State Load Stop Total) → Happens work core event new
    → acts new ≡ suc (acts core))

-- Events one after another: as many as the count grows by, so no more than the bound.
abbrev pub EventsEnd : (State Load Stop Total : Type 0) → Type 0
EventsEnd State Load Stop Total =
    (work : Work State Load Stop Total) (start : Start State Load Stop Total)
    (old new : Core State Load Stop Total) (events : List Event) → IsState work start old
    → Happen work old events new
    → IsState work start new
    × (acts new ≡ acts old + length events)
    × (length events ≤ 2 * start.collector.rounds * suc (length start.stages))

-- Links and actors hold the free parcels that there were at first, two for each stage; so a link
-- with room for them all is never full for an actor that holds one.
abbrev pub ParcelsAreKept : (State Load Stop Total : Type 0) → Type 0
ParcelsAreKept State Load Stop Total =
    (work : Work State Load Stop Total) (start : Start State Load Stop Total)
    (core : Core State Load Stop Total) → IsState work start core
    → (weight core ≡ 2 * length core.stages)
    × ((actor : ℕ) (link : List (Plain Load Stop)) → slice_get core.links actor ≡ Some link
    → length link ≤ 2 * length core.stages)
    × ((actor : ℕ) (parcel : Plain Load Stop) (link : List (Plain Load Stop))
    → slice_get core.hands actor ≡ Some (Some parcel) → slice_get core.links actor ≡ Some link
    → length link < 2 * length core.stages)

-- The four lists of a state are in step: a link and a hand for each stage and for the collector.
abbrev pub ListsAreInStep : (State Load Stop Total : Type 0) → Type 0
ListsAreInStep State Load Stop Total =
    (work : Work State Load Stop Total) (start : Start State Load Stop Total)
    (core : Core State Load Stop Total) → IsState work start core
    → (length core.stages ≡ length start.stages)
    × (length core.links ≡ suc (length core.stages))
    × (length core.hands ≡ suc (length core.stages))

-- While the collector has not given its last parcel, some event is allowed; after it none is.
abbrev pub SomeEventIsAllowed : (State Load Stop Total : Type 0) → Type 0
SomeEventIsAllowed State Load Stop Total =
    (work : Work State Load Stop Total) (start : Start State Load Stop Total)
    (core : Core State Load Stop Total) → IsState work start core
    → (is_over core ≡ false → (event : Event) × (may core event ≡ true))
    × (is_over core ≡ true → (event : Event) → may core event ≡ false)

-- An actor that may take a parcel has not finished, and has rounds left.
abbrev pub TakersHaveRounds : (State Load Stop Total : Type 0) → Type 0
TakersHaveRounds State Load Stop Total =
    (work : Work State Load Stop Total) (start : Start State Load Stop Total)
    (core : Core State Load Stop Total) → IsState work start core
    → (actor : ℕ) → may core (Take actor) ≡ true
    → HasRounds actor core.stages core.collector
    × (taken_by actor core.stages core.collector < start.collector.rounds)

-- Stages and collector have the rounds of the start, and each took at most one parcel a round.
abbrev pub RoundsStay : (State Load Stop Total : Type 0) → Type 0
RoundsStay State Load Stop Total =
    (work : Work State Load Stop Total) (start : Start State Load Stop Total)
    (core : Core State Load Stop Total) → IsState work start core
    → (core.collector.rounds ≡ start.collector.rounds)
    × ((actor : ℕ) (stage : Stage State Stop) → slice_get core.stages actor ≡ Some stage
    → stage.rounds ≡ start.collector.rounds)
    × ((actor : ℕ) → taken_by actor core.stages core.collector ≤ start.collector.rounds)

-- A test that each actor hands on is passed by all parcels: by those that wait for an actor, and by
-- the one that an actor holds for the next.
abbrev pub ParcelsPass : (State Load Stop Total : Type 0) → Type 0
ParcelsPass State Load Stop Total =
    (work : Work State Load Stop Total) (start : Start State Load Stop Total)
    (core : Core State Load Stop Total) → IsState work start core
    → (passes : ℕ → Plain Load Stop → Bool) → AreHandedOn work start passes
    → ((actor count : ℕ) (link : List (Plain Load Stop)) → actor ≤ length core.stages
    → slice_get core.links (before (length core.stages) actor) ≡ Some link
    → AllFirst count (passes actor) link)
    × ((actor : ℕ) (parcel : Plain Load Stop) → slice_get core.hands actor ≡ Some (Some parcel)
    → passes (after (length core.stages) actor) parcel ≡ true)

-- A test that single steps hand on is handed on.
abbrev pub StepsHandOn : (State Load Stop Total : Type 0) → Type 0
StepsHandOn State Load Stop Total =
    (work : Work State Load Stop Total) (start : Start State Load Stop Total)
    (passes : ℕ → Plain Load Stop → Bool) (stays : ℕ → Stage State Stop → Bool)
    → IsHandedOnByStep work start passes stays → AreHandedOn work start passes

-- A marked parcel that an actor past the first stage can take is that of the last round, or it is
-- stopped.
abbrev pub MarksAreLast : (State Load Stop Total : Type 0) → Type 0
MarksAreLast State Load Stop Total =
    (work : Work State Load Stop Total) (start : Start State Load Stop Total)
    (core : Core State Load Stop Total) → IsState work start core
    → (actor : ℕ) (parcel : Plain Load Stop) (rest : List (Plain Load Stop))
    → actor < length core.stages
    → slice_get core.links actor ≡ Some (parcel ∷ rest)
    → parcel.last ≡ true
    → (suc (taken_by (suc actor) core.stages core.collector) ≡ start.collector.rounds)
    ⊎ IsSome parcel.stop

-- A stage that has given a stopped parcel gives stopped ones from then on.
abbrev pub StopsStay : (State Load Stop Total : Type 0) → Type 0
StopsStay State Load Stop Total =
    (work : Work State Load Stop Total) (stage₀ stage : Stage State Stop)
    (taken made : List (Plain Load Stop))
    → Runs (Step work) stage₀ taken made stage → StayStopped made

-- What a ring that is over has done.
abbrev pub OverIsEnded : (State Load Stop Total : Type 0) → Type 0
OverIsEnded State Load Stop Total =
    (work : Work State Load Stop Total) (start : Start State Load Stop Total)
    (core : Core State Load Stop Total) → IsState work start core
    → is_over core ≡ true → IsEnded work start core

-- What a collector makes of what it took: all of it, or what came before the first stop.
abbrev pub CollectorGathers : (State Load Stop Total : Type 0) → Type 0
CollectorGathers State Load Stop Total =
    (work : Work State Load Stop Total) (first collector : Collector Total Stop)
    (taken made : List (Plain Load Stop))
    → Runs (Collects work) first taken made collector → first.stop ≡ None
    → Gathers work first taken collector.stop collector.total

-- Joined parts are a state, and each state has such parts.
abbrev pub JoinedPartsAreState : (State Load Stop Total : Type 0) → Type 0
JoinedPartsAreState State Load Stop Total =
    (work : Work State Load Stop Total) (start : Start State Load Stop Total)
    → ((parts : List (Part (Stage State Stop) (Plain Load Stop)))
    (end : Part (Collector Total Stop) (Plain Load Stop))
    → AreJoined work start parts end → IsState work start (core_of parts end))
    × ((core : Core State Load Stop Total) → IsState work start core
    → (parts : List (Part (Stage State Stop) (Plain Load Stop)))
    × (end : Part (Collector Total Stop) (Plain Load Stop))
    × AreJoined work start parts end
    × (core_of parts end ≡ core))
