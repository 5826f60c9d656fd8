-- Orders that are valid by counts, from states that firings of these counts reach.
use Rattle.std.specs.Prelude.{◌≡◌, ℕ, ℤ, List}
use Rattle.strc_elab_dataflow.specs.Node.{Meaning}
use Rattle.strc_elab_dataflow.specs.Histories.{runs, KeepsRates}
use Rattle.strc_elab_dataflow.specs.Flat.{Graph, arrived}
use Rattle.strc_elab_dataflow.specs.Order.{counted, IsOrder}
use Rattle.strc_elab_dataflow.specs.Queues.{Fifo, FifoProgress.FifoWent, fifo_go, IsQueued}
use Rattle.strc_elab_dataflow.specs.Queues.{TakesWithinWindow, fifo_at_first}
use Rattle.strc_elab_dataflow.specs.Same.{IsValid}
use Rattle.strc_elab_dataflow.specs.Split.{Parts, IsSplitGraph}
use Rattle.strc_elab_dataflow.specs.Blocks.{Block, AreBlocks, old_order, AreFed}

module _ {Code State Cause Word : Type 0} (meaning : Meaning Code State Cause Word)
    (graph : Graph Code) (input : List ℤ) where
  -- Each node has done its number of firings over what has come to it, and each queue is what has
  -- come without what was taken.
  pub record IsCounted (counts : ℕ → ℕ) (now : Fifo State Cause Word) : Type 0 where
    pub own : (node : ℕ) → now.runs node ≡ runs meaning (graph.code node) (counts node)
        (λ port. arrived input now.runs (graph.source node port))
    pub fired : (node : ℕ) → (now.runs node).fired ≡ counts node
    pub queued : IsQueued meaning graph input now

-- An order that is valid by counts finds its windows in the queues, and comes to a state of its
-- counts; the beginning is such a state.
abbrev pub OrderIsValid : (Code State Cause Word : Type 0) → Type 0
OrderIsValid Code State Cause Word =
    (meaning : Meaning Code State Cause Word) (graph : Graph Code) (input : List ℤ)
    → ((node : ℕ) → KeepsRates meaning (graph.code node))
    → TakesWithinWindow meaning graph
    → IsCounted meaning graph input (λ node. 0) (fifo_at_first meaning graph input)
    × ((counts : ℕ → ℕ) (order : List ℕ) (now : Fifo State Cause Word)
    → IsOrder meaning graph input counts order
    → IsCounted meaning graph input counts now
    → IsValid meaning graph order now
    × ((next : Fifo State Cause Word) → fifo_go meaning graph order now ≡ FifoWent next
    → IsCounted meaning graph input (counted counts order) next))

-- And each block of a round finds its windows, all of a block that is split at once.
abbrev pub BlocksAreFed : (Code State Cause Word : Type 0) → Type 0
BlocksAreFed Code State Cause Word =
    (meaning : Meaning Code State Cause Word) (graph new : Graph Code) (input : List ℤ)
    (parts : Parts) (blocks : List Block) (counts : ℕ → ℕ) (old : Fifo State Cause Word)
    → ((node : ℕ) → KeepsRates meaning (graph.code node))
    → TakesWithinWindow meaning graph
    → IsSplitGraph parts meaning graph new
    → AreBlocks parts blocks
    → IsOrder meaning graph input counts (old_order parts blocks)
    → IsCounted meaning graph input counts old
    → AreFed parts meaning graph blocks old
