-- Room for batches: how much waits on a channel in the course of a batch, by how much waits in the
-- course of a round.
use Rattle.std.specs.Prelude.{◌≡◌, ℕ, ◌+◌, ◌-◌, ◌*◌, ◌<◌, ◌≤◌, List, [], ◌++◌}
use Rattle.strc_elab_dataflow.specs.Node.{Meaning}
use Rattle.strc_elab_dataflow.specs.Flat.{Origin.Port, Graph}
use Rattle.strc_elab_dataflow.specs.Order.{counted, firing_count, fill}
use Rattle.strc_elab_dataflow.specs.Queues.{Fifo}
use Rattle.strc_elab_dataflow.specs.Restart.{restarted_meaning, restarted}
use Rattle.strc_elab_dataflow.specs.RestartRounds.{total_from, RepeatsByRounds, IsBalancedByRounds}
use Rattle.strc_elab_dataflow.specs.Schedules.{fired_in}
use Rattle.strc_elab_dataflow.specs.Staging.{IsStaged}
use Rattle.strc_batch_laws.specs.Batches.{batch_order}

module _ {Code State Cause Word : Type 0} (meaning : Meaning Code State Cause Word)
    (graph : Graph Code) (from : Fifo State Cause Word) where
  -- Before, between and after the firings of an order, from a state on, at most so many items wait
  -- at a port, by counts.
  abbrev pub IsRoom : (order : List ℕ) → (node port size : ℕ) → Type 0
  IsRoom order node port size =
      (done left : List ℕ) → done ++ left ≡ order
      → fill (restarted_meaning meaning) (restarted from graph) [] (counted (λ v. 0) done) node port
      ≤ size

  -- How much a node pushes at an output port in the next round.
  abbrev pub round_gives : (round : ℕ → ℕ) → (node port : ℕ) → ℕ
  round_gives round node port = total_from (meaning.pushed (graph.code node)) (from.runs node).fired
      (round node) port

-- Where rates repeat round by round from a state on and the channels balance: a buffer that is
-- large enough for a round is large enough for a batch, if both ends of the channel are in one
-- stage; else with room for what its source pushes in b - 1 rounds more.
abbrev pub BatchesFit : (Code State Cause Word : Type 0) → Type 0
BatchesFit Code State Cause Word =
    (meaning : Meaning Code State Cause Word) (graph : Graph Code) (from : Fifo State Cause Word)
    (stage_of : ℕ → ℕ) (segment : ℕ → List ℕ) (stages : ℕ) (round : ℕ → ℕ) (round_order : List ℕ)
    (b : ℕ) (node port source source_port size : ℕ)
    → IsStaged graph stage_of segment stages round_order
    → ((v : ℕ) → firing_count round_order v ≡ round v)
    → RepeatsByRounds meaning graph (fired_in meaning graph from) round
    → IsBalancedByRounds meaning graph (fired_in meaning graph from) round
    → port < meaning.ports (graph.code node)
    → (graph.source node port).origin ≡ Port source source_port
    → IsRoom meaning graph from round_order node port size
    → (stage_of source ≡ stage_of node
    → IsRoom meaning graph from (batch_order b segment stages) node port size)
    × IsRoom meaning graph from (batch_order b segment stages) node port
    (size + (b - 1) * round_gives meaning graph from round source source_port)
