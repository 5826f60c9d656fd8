-- The answer of start-up and k rounds, as a relation to the equations at the counts after each
-- round.
use Rattle.std.specs.Prelude.{◌≡◌, ℕ, zero, suc, ◌<◌, ◌≤◌, ℤ, List, Some, None}
use Rattle.strc_elab_dataflow.specs.Node.{Meaning}
use Rattle.strc_elab_dataflow.specs.Histories.{Run}
use Rattle.strc_elab_dataflow.specs.Flat.{Graph, runs_at}
use Rattle.strc_elab_dataflow.specs.Streams.{Stream, flat, solution}
use Rattle.strc_elab_dataflow.specs.Order.{counts_after}
use Rattle.strc_elab_dataflow.specs.Machine.{Stop, Progress, Progress.Went, Progress.Stopped}
use Rattle.strc_elab_dataflow.specs.Machine.{at_first}
use Rattle.strc_elab_dataflow.specs.Machine.{go, first_fault}

-- All words, by node; or a fault in start-up, without words; or a fault in a round, with the words
-- of start-up and the rounds before.
pub data Outcome (Cause Word : Type 0) : Type 0 where
  Done : (ℕ → List Word) → Outcome Cause Word
  StartupFault : Stop Cause → Outcome Cause Word
  RoundFault : ℕ → Stop Cause → (ℕ → List Word) → Outcome Cause Word

-- An outcome without the firing that it names.
pub data Verdict (Word : Type 0) : Type 0 where
  AllWords : (ℕ → List Word) → Verdict Word
  StoppedAtStartup : Verdict Word
  StoppedInRound : ℕ → (ℕ → List Word) → Verdict Word

unfoldable pub verdict : {Cause Word : Type 0} → Outcome Cause Word → Verdict Word
verdict (Done words) = AllWords words
verdict (StartupFault stop) = StoppedAtStartup
verdict (RoundFault q stop words) = StoppedInRound q words

module _ {State Cause Word : Type 0} where
  -- The words of each node.
  unfoldable pub words_of : (ℕ → Run State Cause Word) → ℕ → List Word
  words_of all node = (all node).words

  -- No node has a fault.
  abbrev pub IsFaultless : (ℕ → Run State Cause Word) → Type 0
  IsFaultless all = (node : ℕ) → (all node).fault ≡ None

  -- The answer, where `after q` are the runs that the equations give after start-up and q rounds.
  abbrev pub IsAnswerOf : (after : ℕ → ℕ → Run State Cause Word) (startup round : ℕ → ℕ)
      (startup_order round_order : List ℕ) (k : ℕ) → Outcome Cause Word → Type 0
  IsAnswerOf after startup round startup_order round_order k (Done words) =
      IsFaultless (after k) × (words ≡ words_of (after k))
  IsAnswerOf after startup round startup_order round_order k (StartupFault stop) =
      first_fault (after 0) (λ node. 0) startup_order ≡ Some stop
  IsAnswerOf after startup round startup_order round_order k (RoundFault q stop words) =
      (q < k)
      × ((j : ℕ) → j ≤ q → IsFaultless (after j))
      × (first_fault (after (suc q)) (counts_after startup round q) round_order ≡ Some stop)
      × (words ≡ words_of (after q))

module _ {Code State Cause Word : Type 0} (meaning : Meaning Code State Cause Word) where
  -- The runs of a stream's nodes that the stream equations give after start-up and q rounds.
  unfoldable pub stream_runs : Stream Code → List ℤ → (startup round : ℕ → ℕ) → ℕ → ℕ
      → Run State Cause Word
  stream_runs stream input startup round q =
      runs_at meaning (flat stream) (counts_after startup round q)
      (solution meaning (counts_after startup round q) input stream)

  -- The answer that the stream equations give.
  abbrev pub IsAnswer : Stream Code → List ℤ → (startup round : ℕ → ℕ)
      → (startup_order round_order : List ℕ) → ℕ → Outcome Cause Word → Type 0
  IsAnswer stream input startup round = IsAnswerOf
      (stream_runs stream input startup round) startup round

  module _ (graph : Graph Code) (input : List ℤ) (round_order : List ℕ) where
    -- A round's outcome, where the later rounds have theirs.
    unfoldable pub round_outcome : ℕ → (ℕ → List Word) → Progress State Cause Word
        → ((ℕ → Run State Cause Word) → Outcome Cause Word) → Outcome Cause Word
    round_outcome q words (Went now) later = later now
    round_outcome q words (Stopped stop) later = RoundFault q stop words

    -- What is left of the run: so many rounds, from round q on.
    unfoldable pub rounds : (left : ℕ) (q : ℕ) → (ℕ → Run State Cause Word) → Outcome Cause Word
    rounds zero q now = Done (words_of now)
    rounds (suc left) q now = round_outcome q (words_of now)
        (go meaning graph input round_order now) (rounds left (suc q))

    unfoldable pub startup_outcome : ℕ → Progress State Cause Word → Outcome Cause Word
    startup_outcome k (Went now) = rounds k 0 now
    startup_outcome k (Stopped stop) = StartupFault stop

    -- The run of the machine: start-up and k rounds.
    unfoldable pub whole_run : List ℕ → ℕ → Outcome Cause Word
    whole_run startup_order k = startup_outcome k
        (go meaning graph input startup_order (at_first meaning graph))
