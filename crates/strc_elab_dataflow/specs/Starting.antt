-- Where the rounds after fission begin: the numbers of the parts, and the state after start-up
-- dealt out to them.
use Rattle.std.specs.Prelude.{◌≡◌, ℕ, zero, suc, ◌+◌, ◌≤◌, true, cond, List, []}
use Rattle.strc_elab_dataflow.specs.Node.{ByPort, Meaning}
use Rattle.strc_elab_dataflow.specs.Histories.{Run, initial_run}
use Rattle.strc_elab_dataflow.specs.Flat.{Graph}
use Rattle.strc_elab_dataflow.specs.Queues.{Fifo, FifoProgress.FifoWent, fifo_go}
use Rattle.strc_elab_dataflow.specs.Split.{Share, IsStateless, Parts, outlet, Agree}

module _ (parts : Parts) where
  -- The parts of each node have numbers in a row, those of the next node follow.
  pub record AreNumbered (base : ℕ → ℕ) : Type 0 where
    pub first : base 0 ≡ 0
    pub next : (v : ℕ) → base (suc v) ≡ base v + suc (outlet parts v)
    pub names : (v k : ℕ) → parts.name v k ≡ base v + k

  -- A number's node and part.
  pub record IsOwner (number node part : ℕ) : Type 0 where
    pub within : part ≤ outlet parts node
    pub is : parts.name node part ≡ number

  module _ {Code State Cause Word : Type 0} (meaning : Meaning Code State Cause Word)
      (graph : Graph Code) (old : Fifo State Cause Word) where
    -- A node that isn't split goes on with its run; the parts of one that is begin anew.
    unfoldable pub run_dealt : ℕ → Run State Cause Word
    run_dealt node = cond (parts.is_split node) (initial_run meaning (graph.code node))
        (old.runs node)

    -- What waits at a node waits at its first part.
    unfoldable pub queues_dealt : (node part : ℕ) → ByPort
    queues_dealt node zero = old.queues node
    queues_dealt node (suc part) = λ port. []

    -- The state of the new graph, where each number's node and part are known.
    unfoldable pub state_dealt : (node_of part_of : ℕ → ℕ) → Fifo State Cause Word
    state_dealt node_of part_of = record {
      runs = λ number. run_dealt (node_of number);
      queues =
          λ number. queues_dealt (node_of number) (part_of number);
    }

-- Numbers in a row are apart, and each is of one node's part.
abbrev pub NumbersHaveOwners : Type 0
NumbersHaveOwners =
    (parts : Parts) (base : ℕ → ℕ)
    → AreNumbered parts base
    → ((u k v l : ℕ) → k ≤ outlet parts u → l ≤ outlet parts v
    → parts.name u k ≡ parts.name v l → (u ≡ v) × (k ≡ l))
    × ((number : ℕ) → (node : ℕ) × (part : ℕ) × IsOwner parts number node part)

-- After start-up, in which the nodes to be split kept their state and wrote nothing, the state
-- dealt out agrees with the old one.
abbrev pub StartsAgree : (Code State Cause Word : Type 0) → Type 0
StartsAgree Code State Cause Word =
    (meaning : Meaning Code State Cause Word) (graph : Graph Code) (parts : Parts)
    (node_of part_of : ℕ → ℕ) (old : Fifo State Cause Word)
    → ((v k : ℕ) → k ≤ outlet parts v
    → (node_of (parts.name v k) ≡ v) × (part_of (parts.name v k) ≡ k))
    → ((v : ℕ) → parts.is_split v ≡ true → ((old.runs v).fired ≡ parts.first v)
    × ((old.runs v).state ≡ meaning.start (graph.code v)) × ((old.runs v).words ≡ []))
    → Agree parts meaning graph (λ v. 0) old (state_dealt parts meaning graph old node_of part_of)

-- A stateless node keeps the state that it starts with, and writes nothing, whatever fires.
abbrev pub StaysStill : (Code State Cause Word : Type 0) → Type 0
StaysStill Code State Cause Word =
    (meaning : Meaning Code State Cause Word) (graph : Graph Code) (share : Share) (v : ℕ)
    (order : List ℕ) (now next : Fifo State Cause Word)
    → IsStateless meaning share (graph.code v)
    → (now.runs v).state ≡ meaning.start (graph.code v)
    → (now.runs v).words ≡ []
    → fifo_go meaning graph order now ≡ FifoWent next
    → ((next.runs v).state ≡ meaning.start (graph.code v)) × ((next.runs v).words ≡ [])
