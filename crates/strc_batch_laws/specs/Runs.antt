-- Runs by batches: first the rounds that are no whole batch, then the batches. Where no firing
-- faults, they are the run round by round.
use Rattle.std.specs.Prelude.{◌≡◌, ℕ, ◌+◌, ◌*◌, ℤ, List, [], ◌++◌, None}
use Rattle.strc_elab_dataflow.specs.Node.{Meaning}
use Rattle.strc_elab_dataflow.specs.Histories.{KeepsRates}
use Rattle.strc_elab_dataflow.specs.Flat.{Graph}
use Rattle.strc_elab_dataflow.specs.Streams.{Stream, flat}
use Rattle.strc_elab_dataflow.specs.Order.{counts_after, IsSchedule}
use Rattle.strc_elab_dataflow.specs.Answer.{Outcome.Done, IsAnswer}
use Rattle.strc_elab_dataflow.specs.Queues.{Fifo, FifoProgress.FifoWent, fifo_go, fifo_rounds}
use Rattle.strc_elab_dataflow.specs.Queues.{fifo_run, TakesWithinWindow}
use Rattle.strc_elab_dataflow.specs.Staging.{repeated, IsStaged}
use Rattle.strc_elab_dataflow.specs.Restart.{restarted_meaning, restarted}
use Rattle.strc_batch_laws.specs.Batches.{batch_order, batch_counts}

-- What is fired before the first batch: start-up, and m rounds one by one.
abbrev pub before_batches : (startup_order : List ℕ) → (m : ℕ) → (round_order : List ℕ) → List ℕ
before_batches startup_order m round_order = startup_order ++ repeated m round_order

-- A schedule of m and n times b rounds gives one of n batches: its start-up is the old one and the
-- m rounds, its round is a batch.
abbrev pub BatchesAreSchedule : (Code State Cause Word : Type 0) → Type 0
BatchesAreSchedule Code State Cause Word =
    (meaning : Meaning Code State Cause Word) (graph : Graph Code) (input : List ℤ)
    (stage_of : ℕ → ℕ) (segment : ℕ → List ℕ) (stages : ℕ)
    (startup round : ℕ → ℕ) (startup_order round_order : List ℕ) (b m n : ℕ)
    → IsStaged graph stage_of segment stages round_order
    → IsSchedule meaning graph input startup round startup_order round_order (m + n * b)
    → IsSchedule meaning graph input (counts_after startup round m) (batch_counts b round)
    (before_batches startup_order m round_order) (batch_order b segment stages) n

-- And where the run by batches comes to its end, its words are the answer of the stream equations
-- for start-up and all m and n times b rounds.
abbrev pub BatchesAnswer : (Code State Cause Word : Type 0) → Type 0
BatchesAnswer Code State Cause Word =
    (meaning : Meaning Code State Cause Word) (stream : Stream Code) (input : List ℤ)
    (stage_of : ℕ → ℕ) (segment : ℕ → List ℕ) (stages : ℕ)
    (startup round : ℕ → ℕ) (startup_order round_order : List ℕ) (b m n : ℕ)
    (words : ℕ → List Word)
    → ((node : ℕ) → KeepsRates meaning ((flat stream).code node))
    → TakesWithinWindow meaning (flat stream)
    → IsStaged (flat stream) stage_of segment stages round_order
    → IsSchedule meaning (flat stream) input startup round startup_order round_order (m + n * b)
    → fifo_run meaning (flat stream) input (batch_order b segment stages)
    (before_batches startup_order m round_order) n ≡ Done words
    → IsAnswer meaning stream input startup round startup_order round_order (m + n * b) (Done words)

-- A graph that goes on from a state without faults, whose round is a schedule from there for m and
-- n times b rounds; and the state after m rounds.
module _ {Code State Cause Word : Type 0} (meaning : Meaning Code State Cause Word)
    (graph : Graph Code) (from mid : Fifo State Cause Word) (stage_of : ℕ → ℕ)
    (segment : ℕ → List ℕ) (stages : ℕ) (round : ℕ → ℕ) (round_order : List ℕ) (b m n : ℕ) where
  pub record AreBatchedFrom : Type 0 where
    pub faultless : (node : ℕ) → (from.runs node).fault ≡ None
    pub keeps : (node : ℕ) → KeepsRates (restarted_meaning meaning)
        ((restarted from graph).code node)
    pub takes_within : TakesWithinWindow meaning graph
    pub staged : IsStaged graph stage_of segment stages round_order
    pub schedule : IsSchedule (restarted_meaning meaning) (restarted from graph) [] (λ node. 0)
        round [] round_order (m + n * b)
    pub reaches : fifo_go meaning graph (repeated m round_order) from ≡ FifoWent mid

-- Of any graph, from any state: where n batches after m rounds come to their end, the m and n times
-- b rounds come to theirs with the same words.
abbrev pub BatchesAreRounds : (Code State Cause Word : Type 0) → Type 0
BatchesAreRounds Code State Cause Word =
    (meaning : Meaning Code State Cause Word) (graph : Graph Code) (input : List ℤ)
    (from mid : Fifo State Cause Word) (stage_of : ℕ → ℕ) (segment : ℕ → List ℕ) (stages : ℕ)
    (round : ℕ → ℕ) (round_order : List ℕ) (b m n : ℕ) (words : ℕ → List Word)
    → AreBatchedFrom meaning graph from mid stage_of segment stages round round_order b m n
    → fifo_rounds meaning graph input (batch_order b segment stages) n 0 mid ≡ Done words
    → fifo_rounds meaning graph input round_order (m + n * b) 0 from ≡ Done words

-- The m rounds reach a state, and n batches from there come to their end with these words.
pub record EndsByBatches {Code State Cause Word : Type 0} (meaning : Meaning Code State Cause Word)
    (graph : Graph Code) (input : List ℤ) (from : Fifo State Cause Word) (before batch : List ℕ)
    (n : ℕ) (words : ℕ → List Word) : Type 0 where
  pub mid : Fifo State Cause Word
  pub reaches : fifo_go meaning graph before from ≡ FifoWent mid
  pub ends : fifo_rounds meaning graph input batch n 0 mid ≡ Done words

-- And the other way: where the rounds come to their end, so do the m rounds and the n batches, with
-- the same words. So a run by batches stops only at a fault of the rounds.
abbrev pub RoundsAreBatches : (Code State Cause Word : Type 0) → Type 0
RoundsAreBatches Code State Cause Word =
    (meaning : Meaning Code State Cause Word) (graph : Graph Code) (input : List ℤ)
    (from : Fifo State Cause Word) (stage_of : ℕ → ℕ) (segment : ℕ → List ℕ) (stages : ℕ)
    (round : ℕ → ℕ) (round_order : List ℕ) (b m n : ℕ) (words : ℕ → List Word)
    → ((node : ℕ) → (from.runs node).fault ≡ None)
    → ((node : ℕ) → KeepsRates (restarted_meaning meaning) ((restarted from graph).code node))
    → TakesWithinWindow meaning graph
    → IsStaged graph stage_of segment stages round_order
    → IsSchedule (restarted_meaning meaning) (restarted from graph) [] (λ node. 0) round []
    round_order (m + n * b)
    → fifo_rounds meaning graph input round_order (m + n * b) 0 from ≡ Done words
    → EndsByBatches meaning graph input from (repeated m round_order) (batch_order b segment stages)
    n words
