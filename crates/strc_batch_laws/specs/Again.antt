-- The state after the rounds that are no whole batch, from which the batches go on.
use Rattle.std.specs.Prelude.{◌≡◌, ℕ, ◌+◌, ◌*◌, ◌<◌, List, [], None}
use Rattle.strc_elab_dataflow.specs.Node.{Meaning}
use Rattle.strc_elab_dataflow.specs.Flat.{Graph}
use Rattle.strc_elab_dataflow.specs.Order.{IsSchedule, fill}
use Rattle.strc_elab_dataflow.specs.Queues.{Fifo}
use Rattle.strc_elab_dataflow.specs.Restart.{restarted_meaning, restarted}
use Rattle.strc_batch_laws.specs.Batches.{batch_order, batch_counts}
use Rattle.strc_batch_laws.specs.Runs.{AreBatchedFrom}

module _ {Code State Cause Word : Type 0} (meaning : Meaning Code State Cause Word)
    (graph : Graph Code) (from mid : Fifo State Cause Word) (round : ℕ → ℕ) (m : ℕ) where
  -- What is known of the state after m rounds: no node has a fault, each has fired m rounds more,
  -- and in what follows as many items wait at each input port as where all firings since the
  -- earlier state are counted.
  pub record IsRoundsLater : Type 0 where
    pub faultless : (node : ℕ) → (mid.runs node).fault ≡ None
    pub fired : (node : ℕ) → (mid.runs node).fired ≡ (from.runs node).fired + m * round node
    pub waits : (counts : ℕ → ℕ) (node port : ℕ) → port < meaning.ports (graph.code node)
        → fill (restarted_meaning meaning) (restarted mid graph) [] counts node port
        ≡ fill (restarted_meaning meaning) (restarted from graph) []
        (λ v. counts v + m * round v) node port

-- The batches are a schedule, without start-up, of the graph restarted at the state after m rounds.
abbrev pub BatchesResume : (Code State Cause Word : Type 0) → Type 0
BatchesResume Code State Cause Word =
    (meaning : Meaning Code State Cause Word) (graph : Graph Code)
    (from mid : Fifo State Cause Word) (stage_of : ℕ → ℕ) (segment : ℕ → List ℕ) (stages : ℕ)
    (round : ℕ → ℕ) (round_order : List ℕ) (b m n : ℕ)
    → AreBatchedFrom meaning graph from mid stage_of segment stages round round_order b m n
    → IsRoundsLater meaning graph from mid round m
    × IsSchedule (restarted_meaning meaning) (restarted mid graph) [] (λ node. 0)
    (batch_counts b round) [] (batch_order b segment stages) n
