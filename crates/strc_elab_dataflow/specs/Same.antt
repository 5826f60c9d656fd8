-- Two orders of the same firings: from one state of the queues they come to the same.
use Rattle.std.specs.Prelude.{◌≡◌, ℕ, ◌≤◌, ◌⊎◌, true, List, [], ◌∷◌, Option, Some, None}
use Rattle.strc_elab_dataflow.specs.Node.{Meaning}
use Rattle.strc_elab_dataflow.specs.Flat.{Graph, Origin.Nowhere}
use Rattle.strc_elab_dataflow.specs.Order.{firing_count}
use Rattle.strc_elab_dataflow.specs.Queues.{Fifo, FifoProgress, FifoProgress.FifoWent}
use Rattle.strc_elab_dataflow.specs.Queues.{FifoProgress.FifoStopped, holds, fifo_fire, fifo_go}
use Rattle.strc_elab_dataflow.specs.Queues.{TakesWithinWindow}

-- The state that firing the nodes of a list came to, if none faulted.
unfoldable pub gone : {State Cause Word : Type 0} → FifoProgress State Cause Word
    → Option (Fifo State Cause Word)
gone (FifoWent now) = Some now
gone (FifoStopped stop) = None

module _ {Code State Cause Word : Type 0} (meaning : Meaning Code State Cause Word)
    (graph : Graph Code) where
  -- Each firing of the order finds its windows in its queues, up to the first that faults.
  abbrev pub IsValid : List ℕ → Fifo State Cause Word → Type 0
  IsValid [] now = Unit {0}
  IsValid (node ∷ rest) now =
      (holds meaning graph node (now.runs node).fired (now.queues node) ≡ true)
      × ((next : Fifo State Cause Word) → fifo_fire meaning graph now node ≡ FifoWent next
      → IsValid rest next)

  -- Nothing comes to a port that a node doesn't have, or its firings take nothing there.
  abbrev pub IsWired : Type 0
  IsWired = (node port : ℕ) → meaning.ports (graph.code node) ≤ port
      → ((graph.source node port).origin ≡ Nowhere)
      ⊎ ((firing : ℕ) → meaning.popped (graph.code node) firing port ≡ 0)

-- Two valid orders of the same firings, from one state of the queues: both stop at a fault, or both
-- come to the same state, and so to the same words of each node.
abbrev pub SameRound : (Code State Cause Word : Type 0) → Type 0
SameRound Code State Cause Word =
    (meaning : Meaning Code State Cause Word) (graph : Graph Code) (order other : List ℕ)
    (now : Fifo State Cause Word)
    → TakesWithinWindow meaning graph
    → IsWired meaning graph
    → ((node : ℕ) → firing_count order node ≡ firing_count other node)
    → IsValid meaning graph order now
    → IsValid meaning graph other now
    → gone (fifo_go meaning graph order now) ≡ gone (fifo_go meaning graph other now)
