-- Any number of rounds before and after fission.
use Rattle.std.specs.Prelude.{◌≡◌, ℕ, ◌<◌, ◌≤◌, true, false, ℤ, List, []}
use Rattle.strc_elab_dataflow.specs.Node.{Meaning}
use Rattle.strc_elab_dataflow.specs.Histories.{KeepsRates}
use Rattle.strc_elab_dataflow.specs.Flat.{Graph}
use Rattle.strc_elab_dataflow.specs.Order.{firing_count, counts_after, IsOrder}
use Rattle.strc_elab_dataflow.specs.Answer.{Outcome, Outcome.Done, Outcome.StartupFault}
use Rattle.strc_elab_dataflow.specs.Answer.{Outcome.RoundFault}
use Rattle.strc_elab_dataflow.specs.Queues.{Fifo, TakesWithinWindow, fifo_rounds}
use Rattle.strc_elab_dataflow.specs.Split.{Parts, outlet, IsSplitGraph, Agree}
use Rattle.strc_elab_dataflow.specs.Blocks.{Block, AreBlocks, old_order, new_order, IsOldStop}
use Rattle.strc_elab_dataflow.specs.Counted.{IsCounted}

module _ (parts : Parts) {Word : Type 0} where
  -- The same words of the nodes that aren't split, and none of the others and their parts.
  pub record AreSameWords (old new : ℕ → List Word) : Type 0 where
    pub kept : (u : ℕ) → parts.is_split u ≡ false → new (parts.name u 0) ≡ old u
    pub split : (v : ℕ) → parts.is_split v ≡ true → old v ≡ []
    pub part : (v k : ℕ) → parts.is_split v ≡ true → k ≤ outlet parts v
        → new (parts.name v k) ≡ []

  -- The same words; or the same fault in the same round, after the same words.
  abbrev pub IsSameOutcome : {Cause : Type 0} → (old new : Outcome Cause Word) → Type 0
  IsSameOutcome (Done words) (Done others) = AreSameWords words others
  IsSameOutcome (Done words) (StartupFault stop) = ⊥
  IsSameOutcome (Done words) (RoundFault q stop others) = ⊥
  IsSameOutcome (StartupFault stop) other = ⊥
  IsSameOutcome (RoundFault q stop words) (Done others) = ⊥
  IsSameOutcome (RoundFault q stop words) (StartupFault other) = ⊥
  IsSameOutcome (RoundFault q stop words) (RoundFault r other others) =
      (r ≡ q) × IsOldStop parts stop other × AreSameWords words others

-- So many rounds of a graph, and of the graph after fission, from states that agree: the same
-- words, or the same fault in the same round.
abbrev pub FissionKeepsRuns : (Code State Cause Word : Type 0) → Type 0
FissionKeepsRuns Code State Cause Word =
    (meaning : Meaning Code State Cause Word) (graph new : Graph Code) (input : List ℤ)
    (parts : Parts) (blocks : List Block) (startup round rounds : ℕ → ℕ) (k : ℕ)
    (old now : Fifo State Cause Word)
    → ((node : ℕ) → KeepsRates meaning (graph.code node))
    → TakesWithinWindow meaning graph
    → IsSplitGraph parts meaning graph new
    → AreBlocks parts blocks
    → ((node : ℕ) → firing_count (old_order parts blocks) node ≡ round node)
    → ((q : ℕ) → q < k
    → IsOrder meaning graph input (counts_after startup round q) (old_order parts blocks))
    → IsCounted meaning graph input startup old
    → Agree parts meaning graph rounds old now
    → IsSameOutcome parts (fifo_rounds meaning graph input (old_order parts blocks) k 0 old)
    (fifo_rounds meaning new input (new_order parts blocks) k 0 now)
