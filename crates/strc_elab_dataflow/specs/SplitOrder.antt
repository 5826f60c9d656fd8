-- The round after fission is valid by counts.
use Rattle.std.specs.Prelude.{◌≡◌, ℕ, suc, ◌+◌, ◌*◌, ◌<◌, ◌≤◌, true, false, ℤ, List}
use Rattle.strc_elab_dataflow.specs.Node.{Meaning, total}
use Rattle.strc_elab_dataflow.specs.Flat.{Origin.Port, Graph}
use Rattle.strc_elab_dataflow.specs.Order.{supply, IsOrder}
use Rattle.strc_elab_dataflow.specs.Rounds.{RepeatsRates}
use Rattle.strc_elab_dataflow.specs.Split.{Share, all_firings, reach, Parts, outlet, renamed}
use Rattle.strc_elab_dataflow.specs.Blocks.{Block, AreBlocks, old_order, new_order}
use Rattle.strc_elab_dataflow.specs.Starting.{IsOwner}

module _ {Code State Cause Word : Type 0} (meaning : Meaning Code State Cause Word)
    (graph new : Graph Code) (input : List ℤ) (parts : Parts) (counts new_counts : ℕ → ℕ) where
  -- A node's rates, and what it gives, in its next firing.
  unfoldable pub window_of : Graph Code → (ℕ → ℕ) → ℕ → ℕ → ℕ
  window_of g c node port = meaning.window (g.code node) (c node) port

  unfoldable pub pop_of : Graph Code → (ℕ → ℕ) → ℕ → ℕ → ℕ
  pop_of g c node port = meaning.popped (g.code node) (c node) port

  unfoldable pub push_of : Graph Code → (ℕ → ℕ) → ℕ → ℕ → ℕ
  push_of g c node port = meaning.pushed (g.code node) (c node) port

  -- What waits at a port, by counts: no less at one than at another.
  pub record IsAsFull (u port : ℕ) : Type 0 where
    pub fuller : supply meaning graph input counts (graph.source u port)
        + total (meaning.popped (new.code (parts.name u 0))) (new_counts (parts.name u 0)) port
        ≤ supply meaning new input new_counts (new.source (parts.name u 0) port)
        + total (meaning.popped (graph.code u)) (counts u) port

  -- A port at which no more was taken than came.
  abbrev pub IsCovered : ℕ → ℕ → Type 0
  IsCovered node port =
      total (meaning.popped (new.code node)) (new_counts node) port
      ≤ supply meaning new input new_counts (new.source node port)

  -- The rates of the parts of a node that is split, and how they are wired. Here a copy takes in
  -- each firing what its node takes; what its last firing drops besides isn't counted, so that the
  -- rates of all firings are those of the first.
  pub record HaveSplitRates (v : ℕ) (share : Share) : Type 0 where
    pub one_port : meaning.ports (graph.code v) ≡ 1
    pub window : window_of graph counts v 0 ≡ share.window
    pub pop : pop_of graph counts v 0 ≡ share.pop
    pub narrow : share.pop ≤ share.window
    pub some : 0 < all_firings share
    pub no_loop : (port : ℕ) → (graph.source v 0).origin ≡ Port v port → ⊥
    pub scatter_port : meaning.ports (new.code (parts.name v 0)) ≡ 1
    pub scatter_window : window_of new new_counts (parts.name v 0) 0
        ≡ reach share (all_firings share)
    pub scatter_pop : pop_of new new_counts (parts.name v 0) 0 ≡ all_firings share * share.pop
    pub scatter_push : (i : ℕ) → i < share.ways
        → push_of new new_counts (parts.name v 0) i ≡ reach share share.firings
    pub copy_port : (i : ℕ) → i < share.ways
        → meaning.ports (new.code (parts.name v (suc i))) ≡ 1
    pub copy_window : (i : ℕ) → i < share.ways
        → window_of new new_counts (parts.name v (suc i)) 0 ≡ share.window
    pub copy_pop : (i : ℕ) → i < share.ways
        → pop_of new new_counts (parts.name v (suc i)) 0 ≡ share.pop
    pub copy_push : (i : ℕ) → i < share.ways
        → push_of new new_counts (parts.name v (suc i)) 0 ≡ share.push
    pub gather_ports : meaning.ports (new.code (parts.name v (suc share.ways))) ≡ share.ways
    pub gather_window : (i : ℕ) → i < share.ways
        → window_of new new_counts (parts.name v (suc share.ways)) i
        ≡ share.firings * share.push
    pub gather_pop : (i : ℕ) → i < share.ways
        → pop_of new new_counts (parts.name v (suc share.ways)) i ≡ share.firings * share.push
    pub gather_push : (q : ℕ) → push_of new new_counts (parts.name v (suc share.ways)) q
        ≡ all_firings share * push_of graph counts v q
    pub to_copy : (i : ℕ) → i < share.ways
        → (new.source (parts.name v (suc i)) 0).origin ≡ Port (parts.name v 0) i
    pub from_copy : (i : ℕ) → i < share.ways
        → (new.source (parts.name v (suc share.ways)) i).origin ≡ Port (parts.name v (suc i)) 0
    pub copy_covered : (i : ℕ) → i < share.ways → IsCovered (parts.name v (suc i)) 0
    pub gather_covered : (i : ℕ) → i < share.ways
        → IsCovered (parts.name v (suc share.ways)) i

  -- The new graph by its rates: nodes that aren't split keep theirs, what waits at old channels is
  -- as before, and nothing needs to wait at the new ones.
  pub record IsSplitByCounts : Type 0 where
    pub apart : (u k v l : ℕ) → k ≤ outlet parts u → l ≤ outlet parts v
        → parts.name u k ≡ parts.name v l → (u ≡ v) × (k ≡ l)
    pub owner : (number : ℕ) → (node : ℕ) × (part : ℕ) × IsOwner parts number node part
    pub ports : (u : ℕ) → meaning.ports (new.code (parts.name u 0))
        ≡ meaning.ports (graph.code u)
    pub window : (u port : ℕ) → parts.is_split u ≡ false
        → window_of new new_counts (parts.name u 0) port ≡ window_of graph counts u port
    pub pop : (u port : ℕ) → parts.is_split u ≡ false
        → pop_of new new_counts (parts.name u 0) port ≡ pop_of graph counts u port
    pub push : (u port : ℕ) → parts.is_split u ≡ false
        → push_of new new_counts (parts.name u 0) port ≡ push_of graph counts u port
    pub inputs : (u port : ℕ) → port < meaning.ports (graph.code u)
        → (new.source (parts.name u 0) port).origin
        ≡ renamed parts (graph.source u port).origin
    pub full : (u port : ℕ) → port < meaning.ports (graph.code u) → IsAsFull u port
    pub split : (v : ℕ) → parts.is_split v ≡ true → HaveSplitRates v (parts.share v)

-- Where a round is valid by counts, the one after fission is.
abbrev pub SplitIsOrder : (Code State Cause Word : Type 0) → Type 0
SplitIsOrder Code State Cause Word =
    (meaning : Meaning Code State Cause Word) (graph new : Graph Code) (input : List ℤ)
    (parts : Parts) (counts new_counts : ℕ → ℕ) (blocks : List Block)
    → RepeatsRates meaning graph counts
    → RepeatsRates meaning new new_counts
    → IsSplitByCounts meaning graph new input parts counts new_counts
    → AreBlocks parts blocks
    → IsOrder meaning graph input counts (old_order parts blocks)
    → IsOrder meaning new input new_counts (new_order parts blocks)
