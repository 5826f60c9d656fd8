-- What a parcel and a stage are, by the equations at the counts of whole rounds.
use Rattle.std.specs.Prelude.{◌≡◌, ℕ, suc, ◌<◌, ◌≤◌, true, cond, List, [], ◌++◌, length, drop}
use Rattle.std.specs.Prelude.{Some, None, ◌⊎◌, ℤ}
use Rattle.strc_elab_dataflow.specs.Node.{ByPort, total}
use Rattle.strc_elab_dataflow.specs.Histories.{Run}
use Rattle.strc_elab_dataflow.specs.Flat.{Origin, Origin.Nowhere, Origin.Input, Origin.Port}
use Rattle.strc_elab_dataflow.specs.Flat.{arrived}
use Rattle.strc_elab_dataflow.specs.Machine.{Stop, first_fault}
use Rattle.strc_elab_dataflow.specs.Queues.{Fifo}
use Rattle.strc_elab_dataflow.specs.Cut.{HasFaultIn, IsFaultlessIn}
use Rattle.strc_elab_dataflow.specs.Staging.{Staging, joined, before, in_stage, counts, after}
use Rattle.strc_elab_dataflow.specs.Stages.{Parcel, Parcel.Moves, Parcel.Halts, Stage, Stage.Works}
use Rattle.strc_elab_dataflow.specs.Stages.{Stage.Halted, quiet}

module _ {Code State Cause Word : Type 0} (plan : Staging Code State Cause Word) where
  -- The runs in round t when the stages before b have done their segments, and no other.
  unfoldable pub begun_at : (b t : ℕ) → ℕ → Run State Cause Word
  begun_at b t node = cond (before plan.stage_of b node) (after plan (suc t) node)
      (after plan t node)

  -- The items that an origin gives in round t, where its stage is before b.
  unfoldable pub items_in : (b t : ℕ) → Origin → List ℤ
  items_in b t Nowhere = []
  items_in b t Input = []
  items_in b t (Port node port) = drop (length ((after plan t node).pushes port))
      ((begun_at b t node).pushes port)

  -- The segment of stage a in round t is due: the earlier stages have no fault up to the end of the
  -- round, and this one has none before it.
  pub record IsDue (a t : ℕ) : Type 0 where
    pub is_stage : a < plan.stages
    pub is_round : t < plan.rounds
    pub fine_now : IsFaultlessIn (before plan.stage_of a) (after plan (suc t))
    pub fine_so_far : IsFaultlessIn (before plan.stage_of (suc a)) (after plan t)

  module _ (b t : ℕ) where
    -- Parcel t before stage b, not stopped: no earlier stage has a fault so far, each block of a
    -- later port is what has come there in this round, the others are spent, and its words are
    -- those of the round so far.
    pub record HasMoved (blocks : ℕ → ByPort) (words : ℕ → List Word) : Type 0 where
      pub fine : IsFaultlessIn (before plan.stage_of b) (after plan (suc t))
      pub blocks_are : (node port : ℕ) → b ≤ plan.stage_of node
          → port < plan.meaning.ports (plan.graph.code node)
          → arrived plan.input (begun_at b t) (plan.graph.source node port)
          ≡ arrived plan.input (after plan t) (plan.graph.source node port) ++ blocks node port
      pub spent : (node port : ℕ) → plan.stage_of node < b → blocks node port ≡ []
      pub words_are : (node : ℕ)
          → (begun_at b t node).words ≡ (after plan t node).words ++ words node

    -- Before stage b there is no fault up to round t, and this is the first one of round t.
    pub record IsFirstStop (stop : Stop Cause) : Type 0 where
      pub fine_before : IsFaultlessIn (before plan.stage_of b) (after plan t)
      pub first : first_fault (after plan (suc t)) (counts plan t) (joined plan.segment b)
          ≡ Some stop

    -- Parcel t before stage b: what has moved; or the first stop, if no earlier round has one.
    abbrev pub IsParcel : Parcel Cause Word → Type 0
    IsParcel (Moves blocks words) = HasMoved blocks words
    IsParcel (Halts (Some stop)) = IsFirstStop stop
        ⊎ HasFaultIn (before plan.stage_of b) (after plan t)
    IsParcel (Halts None) = HasFaultIn (before plan.stage_of b) (after plan t)

  module _ (a t : ℕ) where
    -- Stage a before its step t: no fault up to here, its nodes' runs are those of the equations,
    -- and each queue is what has come without what was taken.
    pub record IsWorking (now : Fifo State Cause Word) : Type 0 where
      pub fine_so_far : IsFaultlessIn (before plan.stage_of (suc a)) (after plan t)
      pub runs_are : (node : ℕ) → in_stage plan.stage_of a node ≡ true
          → quiet (now.runs node) ≡ quiet (after plan t node)
      pub queues_are : (node port : ℕ) → in_stage plan.stage_of a node ≡ true
          → port < plan.meaning.ports (plan.graph.code node)
          → now.queues node port
          ≡ drop (total (plan.meaning.popped (plan.graph.code node)) (counts plan t node) port)
          (arrived plan.input (after plan t) (plan.graph.source node port))

    -- A stage before its step t, halted if there was a fault up to here.
    abbrev pub IsStage : Stage State Cause Word → Type 0
    IsStage (Works now) = IsWorking now
    IsStage Halted = HasFaultIn (before plan.stage_of (suc a)) (after plan t)

  -- All stages before round t.
  abbrev pub IsRound : ℕ → (ℕ → Stage State Cause Word) → Type 0
  IsRound t stages = (a : ℕ) → a < plan.stages → IsStage a t (stages a)
