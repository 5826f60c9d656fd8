-- Fission of stateless nodes: a node that fires so often in a round becomes a scatter, copies that
-- share its firings, and a gather (Gordon, Thies and Amarasinghe 2006).
use Rattle.std.specs.Prelude.{◌≡◌, ℕ, zero, suc, ◌+◌, ◌-◌, ◌*◌, ◌<◌, ◌≤◌, Bool, true, false, cond}
use Rattle.std.specs.Prelude.{ℤ, List, [], ◌++◌, length, take, drop}
use Rattle.strc_elab_dataflow.specs.Node.{ByPort, Fired.Fires, Meaning, at_port_0}
use Rattle.strc_elab_dataflow.specs.Flat.{Origin, Origin.Nowhere, Origin.Input, Origin.Port, Graph}
use Rattle.strc_elab_dataflow.specs.Queues.{Fifo}

-- How many copies share a node's firings of a round, how many firings each has, and the node's
-- rates.
pub record Share : Type 0 where
  pub ways : ℕ
  pub firings : ℕ
  pub pop : ℕ
  pub window : ℕ
  pub push : ℕ

-- A round's firings of all copies.
abbrev pub all_firings : Share → ℕ
all_firings share = share.ways * share.firings

-- The items that so many firings look at.
abbrev pub reach : Share → ℕ → ℕ
reach share n = n * share.pop + (share.window - share.pop)

-- The first lists, joined.
unfoldable pub joined : ByPort → ℕ → List ℤ
joined lists zero = []
joined lists (suc n) = joined lists n ++ lists n

module _ {Code State Cause Word : Type 0} (meaning : Meaning Code State Cause Word)
    (share : Share) where
  -- A filter of these rates whose firings at windows of the right length are all alike: they leave
  -- the state that it starts with, write nothing, and push at port 0.
  pub record IsStateless (code : Code) : Type 0 where
    pub one_port : meaning.ports code ≡ 1
    pub windows : (n : ℕ) → meaning.window code n 0 ≡ share.window
    pub pops : (n : ℕ) → meaning.popped code n 0 ≡ share.pop
    pub same : (n m : ℕ) (inputs : ByPort)
        → meaning.fire code n (meaning.start code) inputs
        ≡ meaning.fire code m (meaning.start code) inputs
    pub stays : (n : ℕ) (inputs : ByPort) (next : State) (pushes : ByPort) (words : List Word)
        → length (inputs 0) ≡ share.window
        → meaning.fire code n (meaning.start code) inputs ≡ Fires next pushes words
        → (next ≡ meaning.start code) × (words ≡ []) × (length (pushes 0) ≡ share.push)
        × (pushes ≡ at_port_0 (pushes 0))

  -- A firing deals a round's items to the copies, each with what its firings look at.
  pub record IsScatter (code : Code) : Type 0 where
    pub one_port : meaning.ports code ≡ 1
    pub windows : (n : ℕ) → meaning.window code n 0 ≡ reach share (all_firings share)
    pub pops : (n : ℕ) → meaning.popped code n 0 ≡ all_firings share * share.pop
    pub deals : (n : ℕ) (state : State) (inputs : ByPort)
        → (next : State) × (pushes : ByPort)
        × (meaning.fire code n state inputs ≡ Fires next pushes [])
        × ((i : ℕ) → i < share.ways → pushes i
        ≡ take (reach share share.firings) (drop (i * share.firings * share.pop) (inputs 0)))

  -- A copy of a filter fires as it does; its last firing of a round takes all that is left.
  pub record IsCopy (filter code : Code) : Type 0 where
    pub one_port : meaning.ports code ≡ 1
    pub windows : (n : ℕ) → meaning.window code n 0 ≡ share.window
    pub pops : (k j : ℕ) → suc j < share.firings
        → meaning.popped code (k * share.firings + j) 0 ≡ share.pop
    pub last_pops : (k j : ℕ) → suc j ≡ share.firings
        → meaning.popped code (k * share.firings + j) 0 ≡ share.window
    pub same : (n : ℕ) (inputs : ByPort)
        → meaning.fire code n (meaning.start filter) inputs
        ≡ meaning.fire filter n (meaning.start filter) inputs

  -- A firing joins what the copies give in a round.
  pub record IsGather (code : Code) : Type 0 where
    pub ports : meaning.ports code ≡ share.ways
    pub windows : (n i : ℕ) → i < share.ways
        → meaning.window code n i ≡ share.firings * share.push
    pub pops : (n i : ℕ) → i < share.ways
        → meaning.popped code n i ≡ share.firings * share.push
    pub joins : (n : ℕ) (state : State) (inputs : ByPort)
        → (next : State)
        × (meaning.fire code n state inputs ≡ Fires next (at_port_0 (joined inputs share.ways)) [])

-- Which nodes of a graph are split, their shares, the number of each part of a node in the new
-- graph (part 0 is the node itself or its scatter, part i + 1 copy i, the last one the gather), and
-- how often each had fired before the first round.
pub record Parts : Type 0 where
  pub is_split : ℕ → Bool
  pub share : ℕ → Share
  pub name : ℕ → ℕ → ℕ
  pub first : ℕ → ℕ

module _ (parts : Parts) where
  -- The part that gives what the node gave: its last one.
  abbrev pub outlet : ℕ → ℕ
  outlet node = cond (parts.is_split node) (suc (parts.share node).ways) 0

  unfoldable pub renamed : Origin → Origin
  renamed Nowhere = Nowhere
  renamed Input = Input
  renamed (Port node port) = Port (parts.name node (outlet node)) port

  module _ {Code State Cause Word : Type 0} (meaning : Meaning Code State Cause Word)
      (graph new : Graph Code) where
    -- The parts of a node that is split.
    pub record AreParts (node : ℕ) (share : Share) : Type 0 where
      pub filter : IsStateless meaning share (graph.code node)
      pub scatter : IsScatter meaning share (new.code (parts.name node 0))
      pub copy : (i : ℕ) → i < share.ways
          → IsCopy meaning share (graph.code node) (new.code (parts.name node (suc i)))
      pub gather : IsGather meaning share (new.code (parts.name node (suc share.ways)))
      pub to_copy : (i : ℕ) → i < share.ways
          → (new.source (parts.name node (suc i)) 0).origin ≡ Port (parts.name node 0) i
      pub from_copy : (i : ℕ) → i < share.ways
          → (new.source (parts.name node (suc share.ways)) i).origin
          ≡ Port (parts.name node (suc i)) 0
      pub no_loop : (port : ℕ) → (graph.source node 0).origin ≡ Port node port → ⊥
      pub some_ways : 0 < share.ways
      pub some_firings : 0 < share.firings
      pub narrow : share.pop ≤ share.window

    -- The new graph has each node's parts, wired as the old one is.
    pub record IsSplitGraph : Type 0 where
      pub apart : (u k v l : ℕ) → k ≤ outlet u → l ≤ outlet v
          → parts.name u k ≡ parts.name v l → (u ≡ v) × (k ≡ l)
      pub kept : (u : ℕ) → parts.is_split u ≡ false → new.code (parts.name u 0) ≡ graph.code u
      pub inputs : (u port : ℕ) → port < meaning.ports (graph.code u)
          → (new.source (parts.name u 0) port).origin ≡ renamed (graph.source u port).origin
      pub split : (v : ℕ) → parts.is_split v ≡ true → AreParts v (parts.share v)

  module _ {Code State Cause Word : Type 0} (meaning : Meaning Code State Cause Word)
      (graph : Graph Code) where
    -- A copy that has done whole rounds only.
    pub record IsIdleCopy (now : Fifo State Cause Word) (rounds v i : ℕ) : Type 0 where
      pub fired : (now.runs (parts.name v (suc i))).fired ≡ rounds * (parts.share v).firings
      pub state : (now.runs (parts.name v (suc i))).state ≡ meaning.start (graph.code v)
      pub silent : (now.runs (parts.name v (suc i))).words ≡ []
      pub empty : now.queues (parts.name v (suc i)) 0 ≡ []
      pub passed_on : now.queues (parts.name v (suc (parts.share v).ways)) i ≡ []

    -- A node that is split, and its parts, after so many rounds.
    pub record AreIdle (old now : Fifo State Cause Word) (rounds v : ℕ) : Type 0 where
      pub fired : (old.runs v).fired ≡ parts.first v + rounds * all_firings (parts.share v)
      pub state : (old.runs v).state ≡ meaning.start (graph.code v)
      pub silent : (old.runs v).words ≡ []
      pub scatter_silent : (now.runs (parts.name v 0)).words ≡ []
      pub gather_silent : (now.runs (parts.name v (suc (parts.share v).ways))).words ≡ []
      pub copy : (i : ℕ) → i < (parts.share v).ways → IsIdleCopy now rounds v i

    -- The states of both graphs agree: the same items in the old queues and none in the new ones,
    -- the same runs of the nodes that aren't split; the others have done so many rounds each.
    pub record Agree (rounds : ℕ → ℕ) (old now : Fifo State Cause Word) : Type 0 where
      pub queues : (u port : ℕ) → port < meaning.ports (graph.code u)
          → now.queues (parts.name u 0) port ≡ old.queues u port
      pub kept : (u : ℕ) → parts.is_split u ≡ false → now.runs (parts.name u 0) ≡ old.runs u
      pub idle : (v : ℕ) → parts.is_split v ≡ true → AreIdle old now (rounds v) v
