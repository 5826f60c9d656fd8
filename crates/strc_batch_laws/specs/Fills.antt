-- What waits on a channel in the course of a batch.
use Rattle.std.specs.Prelude.{◌≡◌, ℕ, ◌<◌, List, []}
use Rattle.strc_elab_dataflow.specs.Node.{Meaning}
use Rattle.strc_elab_dataflow.specs.Flat.{Origin.Port, Graph}
use Rattle.strc_elab_dataflow.specs.Order.{counted, counts_after, fill}
use Rattle.strc_elab_dataflow.specs.Queues.{Fifo}
use Rattle.strc_elab_dataflow.specs.Restart.{restarted_meaning, restarted}
use Rattle.strc_elab_dataflow.specs.RestartRounds.{RepeatsByRounds, IsBalancedByRounds}
use Rattle.strc_elab_dataflow.specs.Schedules.{fired_in}
use Rattle.strc_batch_laws.specs.Batches.{batch_counts}
use Rattle.strc_batch_laws.specs.Runs.{AreBatchedFrom}

-- Where rates repeat round by round from a state on and the channels balance over a round: in each
-- batch, after any firings of it, as many items wait on a channel as where the same firings were
-- the first ones from that state. So buffers for one batch from there are large enough for all.
abbrev pub BatchesFillAlike : (Code State Cause Word : Type 0) → Type 0
BatchesFillAlike Code State Cause Word =
    (meaning : Meaning Code State Cause Word) (graph : Graph Code)
    (from mid : Fifo State Cause Word) (stage_of : ℕ → ℕ) (segment : ℕ → List ℕ) (stages : ℕ)
    (round : ℕ → ℕ) (round_order : List ℕ) (b m n : ℕ) (q : ℕ) (done : List ℕ)
    (node port source source_port : ℕ)
    → AreBatchedFrom meaning graph from mid stage_of segment stages round round_order b m n
    → RepeatsByRounds meaning graph (fired_in meaning graph from) round
    → IsBalancedByRounds meaning graph (fired_in meaning graph from) round
    → port < meaning.ports (graph.code node)
    → (graph.source node port).origin ≡ Port source source_port
    → fill (restarted_meaning meaning) (restarted mid graph) []
    (counted (counts_after (λ v. 0) (batch_counts b round) q) done) node port
    ≡ fill (restarted_meaning meaning) (restarted from graph) [] (counted (λ v. 0) done) node port
