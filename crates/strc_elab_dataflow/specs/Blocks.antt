-- A round before and after fission, and what each comes to.
use Rattle.std.specs.Prelude.{◌≡◌, ℕ, zero, suc, ◌+◌, ◌*◌, ◌<◌, ◌≤◌, ◌⊎◌, true, false, List, []}
use Rattle.std.specs.Prelude.{◌∷◌, length}
use Rattle.strc_elab_dataflow.specs.Node.{Meaning}
use Rattle.strc_elab_dataflow.specs.Flat.{Graph}
use Rattle.strc_elab_dataflow.specs.Order.{raised}
use Rattle.strc_elab_dataflow.specs.Machine.{Stop}
use Rattle.strc_elab_dataflow.specs.Queues.{Fifo, FifoProgress, FifoProgress.FifoWent}
use Rattle.strc_elab_dataflow.specs.Queues.{FifoProgress.FifoStopped, holds, fifo_fire, fifo_go}
use Rattle.strc_elab_dataflow.specs.Same.{IsValid}
use Rattle.strc_elab_dataflow.specs.Split.{all_firings, reach, Parts, IsSplitGraph, Agree}

-- One firing of a node that isn't split, or a round's firings of one that is.
pub data Block : Type 0 where
  One : ℕ → Block
  All : ℕ → Block

-- A node so many times, and then an order.
abbrev pub times : ℕ → ℕ → (later : List ℕ) → List ℕ
times zero node later = later
times (suc n) node later = node ∷ times n node later

module _ (parts : Parts) where
  -- The firings of a round before fission.
  abbrev pub old_order : List Block → List ℕ
  old_order [] = []
  old_order (One u ∷ rest) = u ∷ old_order rest
  old_order (All v ∷ rest) = times (all_firings (parts.share v)) v (old_order rest)

  -- The firings of so many copies, from copy i on, and then an order.
  abbrev pub copies : (v i left : ℕ) → (later : List ℕ) → List ℕ
  copies v i zero later = later
  copies v i (suc left) later = times (parts.share v).firings (parts.name v (suc i))
      (copies v (suc i) left later)

  -- The firings of a round after fission: a scatter, each copy in turn, and a gather.
  abbrev pub new_order : List Block → List ℕ
  new_order [] = []
  new_order (One u ∷ rest) = parts.name u 0 ∷ new_order rest
  new_order (All v ∷ rest) = parts.name v 0 ∷ copies v 0 (parts.share v).ways
      (parts.name v (suc (parts.share v).ways) ∷ new_order rest)

  -- Nodes that are split have all their firings in one block.
  abbrev pub AreBlocks : List Block → Type 0
  AreBlocks [] = Unit {0}
  AreBlocks (One u ∷ rest) = (parts.is_split u ≡ false) × AreBlocks rest
  AreBlocks (All v ∷ rest) = (parts.is_split v ≡ true) × AreBlocks rest

  -- How many rounds each node has done after the blocks.
  abbrev pub rounds_after : (ℕ → ℕ) → List Block → ℕ → ℕ
  rounds_after rounds [] = rounds
  rounds_after rounds (One u ∷ rest) = rounds_after rounds rest
  rounds_after rounds (All v ∷ rest) = rounds_after (raised rounds v) rest

  module _ {Cause : Type 0} where
    -- The same fault at a node that isn't split.
    pub record IsSameStop (old new : Stop Cause) : Type 0 where
      pub not_split : parts.is_split old.node ≡ false
      pub node : new.node ≡ parts.name old.node 0
      pub firing : new.firing ≡ old.firing
      pub cause : new.cause ≡ old.cause

    -- The same fault in a copy: firing j of copy i in a round is the node's firing that stands at
    -- that place among all firings of the copies in order.
    pub record IsCopyStop (old new : Stop Cause) : Type 0 where
      pub split : parts.is_split old.node ≡ true
      pub copy : ℕ
      pub in_round : ℕ
      pub round : ℕ
      pub copy_less : copy < (parts.share old.node).ways
      pub in_round_less : in_round < (parts.share old.node).firings
      pub node : new.node ≡ parts.name old.node (suc copy)
      pub firing : new.firing ≡ round * (parts.share old.node).firings + in_round
      pub old_firing : old.firing ≡ parts.first old.node
          + round * all_firings (parts.share old.node)
          + (copy * (parts.share old.node).firings + in_round)
      pub cause : new.cause ≡ old.cause

    -- The fault of the new graph is the one of the old graph, renamed.
    abbrev pub IsOldStop : (old new : Stop Cause) → Type 0
    IsOldStop old new = IsSameStop old new ⊎ IsCopyStop old new

  module _ {Code State Cause Word : Type 0} (meaning : Meaning Code State Cause Word)
      (graph : Graph Code) where
    -- In the old graph each block finds its windows, all of a block that is split at once.
    abbrev pub AreFed : List Block → Fifo State Cause Word → Type 0
    AreFed [] old = Unit {0}
    AreFed (One u ∷ rest) old =
        (holds meaning graph u (old.runs u).fired (old.queues u) ≡ true)
        × ((next : Fifo State Cause Word) → fifo_fire meaning graph old u ≡ FifoWent next
        → AreFed rest next)
    AreFed (All v ∷ rest) old =
        (reach (parts.share v) (all_firings (parts.share v)) ≤ length (old.queues v 0))
        × ((next : Fifo State Cause Word)
        → fifo_go meaning graph (times (all_firings (parts.share v)) v []) old ≡ FifoWent next
        → AreFed rest next)

    -- Both went, to states that agree; or both stopped, at the same fault.
    abbrev pub BothCome : (rounds : ℕ → ℕ) → (old now : FifoProgress State Cause Word) → Type 0
    BothCome rounds (FifoWent old) (FifoWent now) = Agree parts meaning graph rounds old now
    BothCome rounds (FifoWent old) (FifoStopped stop) = ⊥
    BothCome rounds (FifoStopped stop) (FifoWent now) = ⊥
    BothCome rounds (FifoStopped stop) (FifoStopped other) = IsOldStop stop other

-- A round of a graph and one of the graph after fission, from states that agree: they end in states
-- that agree, or at the same fault; and each firing of the new one finds its windows.
abbrev pub FissionKeepsRounds : (Code State Cause Word : Type 0) → Type 0
FissionKeepsRounds Code State Cause Word =
    (meaning : Meaning Code State Cause Word) (graph new : Graph Code) (parts : Parts)
    (blocks : List Block) (rounds : ℕ → ℕ) (old now : Fifo State Cause Word)
    → IsSplitGraph parts meaning graph new
    → AreBlocks parts blocks
    → AreFed parts meaning graph blocks old
    → Agree parts meaning graph rounds old now
    → BothCome parts meaning graph (rounds_after parts rounds blocks)
    (fifo_go meaning graph (old_order parts blocks) old)
    (fifo_go meaning new (new_order parts blocks) now)
    × IsValid meaning new (new_order parts blocks) now
