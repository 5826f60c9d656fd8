-- What the parcels of a ring carry, and what its stages hold, in any of its states, by the
-- equations.
use Rattle.std.specs.Prelude.{◌≡◌, ◌⊎◌, ℕ, zero, suc, ◌≤◌, ℤ, List, [], ◌∷◌, ◌++◌, length, take}
use Rattle.std.specs.Prelude.{Option, Some, None, IsSome, option_to_list, slice_get}
use Rattle.strc_work_meaning.specs.declared.fault.Cause.{Cause}
use Rattle.strc_work_meaning.specs.declared.word.Word.{Word}
use Rattle.strc_elab_dataflow.specs.Chains.{staging_from}
use Rattle.strc_elab_dataflow.specs.Flat as flat
use Rattle.strc_elab_dataflow.specs.Machine as generic
use Rattle.strc_elab_dataflow.specs.Node.{ByPort}
use Rattle.strc_elab_dataflow.specs.Parcels.{HasMoved, IsFirstStop, IsWorking}
use Rattle.strc_elab_dataflow.specs.Restart.{Restarted, numbered_on}
use Rattle.strc_elab_dataflow.specs.Staging.{IsStaging, Staging}
use Rattle.strc_elab_graph.specs.Graphs.{NodeCode}
use Rattle.strc_sched_laws.specs.Fits.{Queues}
use Rattle.strc_sched_laws.specs.Machine.{CircuitView, MachineView}
use Rattle.strc_sched_laws.specs.Simulation.{Simulates}
use Rattle.strc_stage_core.specs.Actors.{Collector, Stage}
use Rattle.strc_stage_core.specs.Endings.{AreRunning}
use Rattle.strc_stage_core.specs.Parcels.{Load, ParcelView}
use Rattle.strc_stage_core.specs.Parts.{Part}
use Rattle.strc_sched_outcome.specs.declared.stop.Stop.{Stop}
use Rattle.strc_sched_outcome.specs.declared.stop.Stop.TheVariants as stop
use Rattle.strc_stage_steps.specs.Holding.{IsHeld, IsLoaded}
use Rattle.strc_stage_steps.specs.Runnings.{IsRunning, Running, resumed}
use Rattle.strc_stage_steps.specs.Steps.{StageState, Gathered}

-- A stage with what it received, sent and holds; and the collector.
abbrev pub StagePart : Type 0
StagePart = Part (Stage StageState Stop) ParcelView

abbrev pub CollectorPart : Type 0
CollectorPart = Part (Collector Gathered Stop) ParcelView

-- What a stage made: it sent it, or holds it.
abbrev pub made_by : StagePart → List ParcelView
made_by part = part.sent ++ option_to_list part.held

-- What was made for each actor, the collector the last, where these came to the first stage.
abbrev pub made_at : List StagePart → (first : List ParcelView) → ℕ → List ParcelView
made_at parts first zero = first
made_at [] first (suc b) = []
made_at (part ∷ parts) first (suc b) = made_at parts (made_by part) b

-- One of the first so many is stopped.
abbrev pub HasStopped : ℕ → List ParcelView → Type 0
HasStopped zero parcels = ⊥
HasStopped (suc n) [] = ⊥
HasStopped (suc n) (own ∷ parcels) = IsSome own.stop ⊎ HasStopped n parcels

module _ (running : Running) (from : Queues) (bound : (stage : ℕ) → ℕ) (last : ℕ)
    (circuit : CircuitView) (staging : Staging (Restarted NodeCode (List ℤ)) (List ℤ) Cause Word)
  where
    -- What a parcel carries of a round before an actor: the items that are to come there or later,
    -- and the words of the stages before.
    pub record HasCome (actor round : ℕ) (load : Load) : Type 0 where
      pub blocks : ℕ → ByPort
      pub words : ℕ → List Word
      pub loaded : IsLoaded running bound last load blocks words
      pub moved : HasMoved staging actor round blocks words

    -- The first fault of a round in the stages before an actor, where no round before has any
    -- there.
    pub record IsFaultBefore (actor round node firing : ℕ) (cause : Cause) : Type 0 where
      pub stop : generic.Stop Cause
      pub first : IsFirstStop staging actor round stop
      pub named : numbered_on from stop ≡ record { node = node; firing = firing; cause = cause }

    -- A parcel of a round before an actor. Where it is stopped by a fault and that isn't the first
    -- of its round, it came back so: the collector had received a stopped one before. Of one for
    -- which there was no memory nothing is known.
    abbrev pub IsOfRound : (received : List ParcelView) → (actor round : ℕ) → Option Stop → Load
        → Type 0
    IsOfRound received actor round None load = HasCome actor round load
    IsOfRound received actor round (Some (stop.Fault node firing cause)) load =
        IsFaultBefore actor round node firing cause ⊎ HasStopped round received
    IsOfRound received actor round (Some stop.NoMemory) load = Unit {0}

    -- A stage before a round.
    pub record HoldsRound (stage round : ℕ) (state : StageState) : Type 0 where
      pub now : Queues
      pub held : IsHeld running from bound last circuit stage state now
      pub working : IsWorking staging stage round now

    -- The parcels that were made for each actor are those of the rounds, up to the first that is
    -- stopped; and each stage that has not stopped holds what it is to hold before its next round.
    pub record AreInRounds (free : List ParcelView) (parts : List StagePart) (end : CollectorPart)
        : Type 0 where
      pub parcels : (actor round : ℕ) (own : ParcelView) → actor ≤ length parts
          → slice_get (made_at parts (free ++ end.sent) actor) round ≡ Some own
          → AreRunning (take round (made_at parts (free ++ end.sent) actor))
          → IsOfRound end.received actor round own.stop own.load
      pub stages : (stage : ℕ) (part : StagePart) → slice_get parts stage ≡ Some part
          → part.actor.stop ≡ None → HoldsRound stage part.actor.taken part.actor.inner

-- Rounds that go on from a state that a machine holds, in the restarted graph of which a ring's
-- state is in rounds.
pub record GoesInRounds (running : Running) (rounds : ℕ) (bound : (stage : ℕ) → ℕ) (last : ℕ)
    (circuit : CircuitView) (started : MachineView) (free : List ParcelView)
    (parts : List StagePart) (end : CollectorPart) : Type 0 where
  pub by_source : flat.Graph NodeCode
  pub from : Queues
  pub holds : Simulates running.graph running.sizes circuit.input from started
  pub is_running : IsRunning running by_source from rounds bound last circuit
  pub inputs : ℕ → ℕ → ByPort
  pub staging : IsStaging (staging_from (resumed running by_source from rounds bound last) inputs)
  pub in_rounds : AreInRounds running from bound last circuit
      (staging_from (resumed running by_source from rounds bound last) inputs) free parts end
