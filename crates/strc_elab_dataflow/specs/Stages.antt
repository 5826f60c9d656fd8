-- Stages that run beside each other: a stage keeps its own nodes' runs and queues; from stage to
-- stage goes, for each round, a parcel of the items that cross, and of the words of the round.
use Rattle.std.specs.Prelude.{ℕ, suc, zero, cond, ltb, List, [], ◌++◌, Option, Some, None}
use Rattle.strc_elab_dataflow.specs.Node.{ByPort}
use Rattle.strc_elab_dataflow.specs.Histories.{Run}
use Rattle.strc_elab_dataflow.specs.Machine.{Stop}
use Rattle.strc_elab_dataflow.specs.Answer.{Outcome, Outcome.Done, Outcome.RoundFault, words_of}
use Rattle.strc_elab_dataflow.specs.Answer.{Outcome.StartupFault}
use Rattle.strc_elab_dataflow.specs.Queues.{Fifo, FifoProgress, FifoProgress.FifoWent, fifo_go}
use Rattle.strc_elab_dataflow.specs.Queues.{FifoProgress.FifoStopped, fifo_at_first}
use Rattle.strc_elab_dataflow.specs.Staging.{Staging, in_stage}

-- The items of a round for the input ports of later stages, and its words so far, by node. Or a
-- stop: at a fault that it names, or at none where a stage had stopped before or was out of memory.
pub data Parcel (Cause Word : Type 0) : Type 0 where
  Moves : (blocks : ℕ → ByPort) → (words : ℕ → List Word) → Parcel Cause Word
  Halts : Option (Stop Cause) → Parcel Cause Word

-- The runs of a stage's nodes and their queues; or it has stopped.
pub data Stage (State Cause Word : Type 0) : Type 0 where
  Works : Fifo State Cause Word → Stage State Cause Word
  Halted : Stage State Cause Word

-- What a step leaves, and what it sends on.
pub record Stepped (State Cause Word : Type 0) : Type 0 where
  pub stage : Stage State Cause Word
  pub parcel : Parcel Cause Word

-- A parcel before the first stage.
unfoldable pub empty_parcel : {Cause Word : Type 0} → Parcel Cause Word
empty_parcel = Moves (λ node port. []) (λ node. [])

-- A run without its words.
unfoldable pub quiet : {State Cause Word : Type 0} → Run State Cause Word → Run State Cause Word
quiet run = record {
  fired = run.fired;
  state = run.state;
  pushes = run.pushes;
  words = [];
  fault = run.fault;
}

module _ {Code State Cause Word : Type 0} (plan : Staging Code State Cause Word) where
  module _ (a : ℕ) where
    -- A stage's state at the beginning of its step: the blocks stand behind its own queues, there
    -- are no words, and nothing waits elsewhere.
    unfoldable pub entered : Fifo State Cause Word → (ℕ → ByPort) → Fifo State Cause Word
    entered now blocks = record {
      runs = λ node. quiet (now.runs node);
      queues = λ node port. cond (in_stage plan.stage_of a node)
          (now.queues node port ++ blocks node port) [];
    }

    -- The blocks of later stages, what came to their queues behind them.
    unfoldable pub sent_blocks : (blocks queues : ℕ → ByPort) → ℕ → ByPort
    sent_blocks blocks queues node port = cond (ltb a (plan.stage_of node))
        (blocks node port ++ queues node port) []

    -- The words of earlier stages and of this one.
    unfoldable pub sent_words : (ℕ → List Word) → (ℕ → Run State Cause Word) → ℕ → List Word
    sent_words words runs node = cond (in_stage plan.stage_of a node) (runs node).words
        (words node)

    unfoldable pub sent : (ℕ → ByPort) → (ℕ → List Word) → FifoProgress State Cause Word
        → Stepped State Cause Word
    sent blocks words (FifoWent next) = record {
      stage = Works next;
      parcel = Moves (sent_blocks blocks next.queues) (sent_words words next.runs);
    }
    sent blocks words (FifoStopped stop) = record {
      stage = Halted;
      parcel = Halts (Some stop);
    }

    -- A stage's step: its segment over its own queues. A stopped parcel goes on as it is and halts
    -- the stage; a halted stage stops every parcel.
    unfoldable pub step : Stage State Cause Word → Parcel Cause Word → Stepped State Cause Word
    step (Works now) (Moves blocks words) = sent blocks words
        (fifo_go plan.meaning plan.graph (plan.segment a) (entered now blocks))
    step (Works now) (Halts stop) = record { stage = Halted; parcel = Halts stop }
    step Halted (Moves blocks words) = record { stage = Halted; parcel = Halts None }
    step Halted (Halts stop) = record { stage = Halted; parcel = Halts stop }

  -- A round, stage by stage: the parcel that comes to a stage, and each stage after its step.
  unfoldable pub parcel_at : (ℕ → Stage State Cause Word) → ℕ → Parcel Cause Word
  parcel_at stages zero = empty_parcel
  parcel_at stages (suc a) = (step a (stages a) (parcel_at stages a)).parcel

  unfoldable pub stages_after : (ℕ → Stage State Cause Word) → ℕ → Stage State Cause Word
  stages_after stages a = (step a (stages a) (parcel_at stages a)).stage

  -- What the parcel of round q comes to, where the later rounds have theirs; a stop that names no
  -- fault gives no answer.
  unfoldable pub collected : ℕ → (ℕ → List Word) → Parcel Cause Word
      → ((ℕ → List Word) → Option (Outcome Cause Word)) → Option (Outcome Cause Word)
  collected q words (Moves blocks new) later = later (λ node. words node ++ new node)
  collected q words (Halts (Some stop)) later = Some (RoundFault q stop words)
  collected q words (Halts None) later = None

  unfoldable pub staged_rounds : (left q : ℕ) → (ℕ → List Word) → (ℕ → Stage State Cause Word)
      → Option (Outcome Cause Word)
  staged_rounds zero q words stages = Some (Done words)
  staged_rounds (suc left) q words stages = collected q words (parcel_at stages plan.stages)
      (λ more. staged_rounds left (suc q) more (stages_after stages))

  unfoldable pub staged_startup : FifoProgress State Cause Word → Option (Outcome Cause Word)
  staged_startup (FifoWent now) =
      staged_rounds plan.rounds 0 (words_of now.runs) (λ a. Works now)
  staged_startup (FifoStopped stop) = Some (StartupFault stop)

  -- Start-up on one thread, and then each round stage by stage, over the stages' own states.
  unfoldable pub staged_run : Option (Outcome Cause Word)
  staged_run = staged_startup (fifo_go plan.meaning plan.graph plan.startup_order
      (fifo_at_first plan.meaning plan.graph plan.input))
