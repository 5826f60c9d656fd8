-- A plan's stages on one thread: a ring in some state, or the fault of start-up.
use Rattle.std.specs.Prelude.{◌≡◌, ℕ, Bool, false, true, ℤ, List}
use Rattle.strc_stage_core.specs.declared.event.Event.{Event}
use Rattle.strc_stage_core.specs.Events as events
use Rattle.strc_stage_core.specs.Events.{is_over, may}
use Rattle.strc_stage_core.specs.States.{first_core}
use Rattle.strc_stage_plan.specs.Plans.{PlanParts}
use Rattle.strc_stage_steps.specs.Steps.{stage_work}
use Rattle.strc_stage_steps.specs.Pipes.{PipeView, IsStateOf}
use Rattle.strc_stage_core.specs.Seeing.{Ring, core_of, ring_of}
use Rattle.strc_stage_steps.specs.Collectors.{sees}
use Rattle.strc_stage_steps.specs.Stages.{see}
use Rattle.strc_stage_steps.specs.declared.collector.CollectorParts.{CollectorParts}
use Rattle.strc_stage_core.specs.declared.ring.Parts.{Parts}
use Rattle.strc_stage_steps.specs.declared.stage.StageParts.{StageParts}
use Rattle.strc_stage_cut.specs.Launches.{HasBegun, IsLaunch, start_of}
use Rattle.strc_stage_cut.specs.Startups as startup
use Rattle.strc_stage_cut.specs.Launches as launching
use Rattle.strc_stage_cut.specs.declared.stage_ring.Launch.{Launch}
use Rattle.strc_stage_cut.specs.declared.stage_ring.Launch.TheVariants as launched
use Rattle.strc_stage.specs.declared.pipe.State.{State}
use Rattle.strc_stage.specs.declared.pipe.State.TheVariants as state

-- A ring of stages as the core sees it.
abbrev pub core_seen : Ring StageParts CollectorParts → PipeView
core_seen ring = core_of see sees ring

-- Some events have led here from the ring that start-up of a plan left.
pub record HasGoneOn (plan : PlanParts) (input : List ℤ) (rounds : ℕ)
    (ring : Ring StageParts CollectorParts) : Type 0 where
  pub workers : ℕ
  pub first : launching.Ring
  pub begun : HasBegun plan input rounds workers first
  pub state : IsStateOf (start_of first) (core_seen ring)

-- Or a firing of start-up faulted.
abbrev pub IsPipe : PlanParts → (input : List ℤ) → (rounds : ℕ) → State → Type 0
IsPipe plan input rounds (state.Going ring) = HasGoneOn plan input rounds ring
IsPipe plan input rounds (state.Faulted node firing cause) =
    startup.HasFaulted plan input node firing cause

-- Nothing is left to happen: the collector has ended, or start-up faulted.
abbrev pub HasEnded : State → Type 0
HasEnded (state.Going ring) = is_over (core_seen ring) ≡ true
HasEnded (state.Faulted node firing cause) = Unit {0}

-- Start-up faulted.
abbrev pub HasFaulted : State → Type 0
HasFaulted (state.Going ring) = ⊥
HasFaulted (state.Faulted node firing cause) = Unit {0}

-- Parts are those of a pipe's ring.
abbrev pub IsRingOf : Parts StageParts CollectorParts → State → Type 0
IsRingOf parts (state.Going ring) = ring ≡ ring_of parts
IsRingOf parts (state.Faulted node firing cause) = ⊥

-- Which events are allowed; none after a fault of start-up.
abbrev pub may_happen : State → Event → Bool
may_happen (state.Going ring) event = may (core_seen ring) event
may_happen (state.Faulted node firing cause) event = false

-- What an event does.
abbrev pub Happens : Event → (old new : State) → Type 0
Happens event (state.Going old) (state.Going new) =
    events.Happens stage_work (core_seen old) event (core_seen new)
Happens event old new = ⊥

-- A ring before any event is what a launch gave.
abbrev pub IsFirstOf : launching.Ring → Ring StageParts CollectorParts → Type 0
IsFirstOf first ring = core_seen ring ≡ first_core (start_of first)

-- A state before any event.
abbrev pub StateOf : Launch → State → Type 0
StateOf (launched.Going first) (state.Going ring) = IsFirstOf first ring
StateOf (launched.Faulted node firing cause) (state.Faulted at number why) =
    (at ≡ node) × (number ≡ firing) × (why ≡ cause)
StateOf _ _ = ⊥

-- The first state of the stages that so many workers share: before any event, after start-up.
abbrev pub IsFirstState : PlanParts → (input : List ℤ) → (rounds workers : ℕ) → State → Type 0
IsFirstState plan input rounds workers now =
    (launch : Launch) × IsLaunch plan input rounds workers launch × StateOf launch now
