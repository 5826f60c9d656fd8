-- The numbers of nodes after fission: a node that is split gives its place to a scatter, the copies
-- and a gather, in this order.
use Rattle.std.specs.Prelude.{ℕ, zero, suc, ◌+◌, ◌*◌, Bool, cond, nat_lt, List, [], ◌∷◌, ◌++◌}
use Rattle.std.specs.Prelude.{get_or}
use Rattle.strc_elab_dataflow.specs.Split.{Parts}
use Rattle.strc_sched_laws.specs.Dealing.{share_of}
use Rattle.strc_elab_graph.specs.declared.graph.TheConstants.{NODE_LIMIT}
use Rattle.strc_elab_graph.specs.declared.graph.Fission.{Fission}
use Rattle.strc_fiss.specs.Ways.{whole}
use Rattle.strc_fiss.specs.declared.split.Origin.{Origin}

-- how many nodes a graph may have
abbrev pub node_limit : ℕ
node_limit = NODE_LIMIT

-- the values of the numbers below a number, in order
abbrev pub up_to : {A : Type 0} → (value : ℕ → A) → (count : ℕ) → List A
up_to value zero = []
up_to value (suc count) = up_to value count ++ value count ∷ []

-- and lists of them, joined
abbrev pub joined_up_to : {A : Type 0} → (lists : ℕ → List A) → (count : ℕ) → List A
joined_up_to lists zero = []
joined_up_to lists (suc count) = joined_up_to lists count ++ lists count

-- how the firings of each node are dealt, by a list
abbrev pub share_at : List Fission → (node : ℕ) → Fission
share_at shares node = get_or shares node whole

-- a node whose firings are dealt to several copies is split
abbrev pub is_dealt : Fission → Bool
is_dealt fission = nat_lt 1 fission.ways

-- part 0 of a node is itself or its scatter, part i + 1 its copy i, and the last one its gather
abbrev pub last_of : Fission → ℕ
last_of fission = cond (is_dealt fission) (suc fission.ways) 0

-- the first firing of a part in a round, by the numbers of the node's firings: the copies have
-- theirs in order
abbrev pub first_of : Fission → (part : ℕ) → ℕ
first_of fission zero = 0
first_of fission (suc copy) = cond (nat_lt copy fission.ways) (copy * fission.firings) 0

module _ (share : ℕ → Fission) where
  abbrev pub is_split : (node : ℕ) → Bool
  is_split node = is_dealt (share node)

  abbrev pub last_part : (node : ℕ) → ℕ
  last_part node = last_of (share node)

  -- the number of a node's part 0: the parts of the nodes before it come first
  abbrev pub base : (node : ℕ) → ℕ
  base zero = 0
  base (suc node) = base node + suc (last_part node)

  -- a value for each part of so many nodes, in order of the parts' numbers
  abbrev pub each_part : {A : Type 0} → (value : (node part : ℕ) → A) → (nodes : ℕ) → List A
  each_part value nodes =
      joined_up_to (λ node. up_to (value node) (suc (last_part node))) nodes

  -- the node that a part is of, and its first firing
  abbrev pub origin_of : (node part : ℕ) → Origin
  origin_of node part = record { node = node; first = first_of (share node) part }

  -- the parts as laws on rounds have them, where each node had fired so often before
  abbrev pub parts_after : (fired : ℕ → ℕ) → Parts
  parts_after fired = record {
    is_split = is_split;
    share = λ node. share_of (share node);
    name = λ node part. base node + part;
    first = fired;
  }
