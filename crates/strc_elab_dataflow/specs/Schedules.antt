-- When a round of a restarted graph is valid in every round, by the rates of the graph from its
-- state on.
use Rattle.std.specs.Prelude.{◌≡◌, ℕ, ◌+◌, ◌*◌, ◌<◌, ◌≤◌, List, [], length}
use Rattle.strc_elab_dataflow.specs.Node.{Meaning}
use Rattle.strc_elab_dataflow.specs.Flat.{Graph}
use Rattle.strc_elab_dataflow.specs.Order.{firing_count, IsOrder, IsSchedule}
use Rattle.strc_elab_dataflow.specs.Queues.{Fifo}
use Rattle.strc_elab_dataflow.specs.Restart.{restarted_meaning, restarted}
use Rattle.strc_elab_dataflow.specs.RestartRounds.{total_from, IsOutside, RepeatsByRounds}
use Rattle.strc_elab_dataflow.specs.RestartRounds.{IsBalancedByRounds}

module _ {Code State Cause Word : Type 0} (meaning : Meaning Code State Cause Word)
    (graph : Graph Code) (from : Fifo State Cause Word) where
  -- How often each node has fired.
  unfoldable pub fired_in : ℕ → ℕ
  fired_in node = (from.runs node).fired

  -- What waits where items come from outside reaches to the windows of so many further firings.
  abbrev pub IsSuppliedFrom : (more : ℕ → ℕ) → Type 0
  IsSuppliedFrom more =
      (node port firing : ℕ)
      → port < meaning.ports (graph.code node)
      → IsOutside (graph.source node port).origin
      → firing < more node
      → total_from (meaning.popped (graph.code node)) (fired_in node) firing port
      + meaning.window (graph.code node) (fired_in node + firing) port
      ≤ length (from.queues node port)

-- Where rates repeat round by round from a state on, the channels balance, and what waits from
-- outside suffices for k rounds, an order of a round that finds its windows in the state's queues
-- once is a schedule of the restarted graph.
abbrev pub RestartedRoundsAreSchedules : (Code State Cause Word : Type 0) → Type 0
RestartedRoundsAreSchedules Code State Cause Word =
    (meaning : Meaning Code State Cause Word) (graph : Graph Code) (from : Fifo State Cause Word)
    (round : ℕ → ℕ) (round_order : List ℕ) (k : ℕ)
    → ((node : ℕ) → firing_count round_order node ≡ round node)
    → RepeatsByRounds meaning graph (fired_in meaning graph from) round
    → IsBalancedByRounds meaning graph (fired_in meaning graph from) round
    → IsSuppliedFrom meaning graph from (λ node. k * round node)
    → IsOrder (restarted_meaning meaning) (restarted from graph) [] (λ node. 0) round_order
    → IsSchedule (restarted_meaning meaning) (restarted from graph) [] (λ node. 0) round []
    round_order k
