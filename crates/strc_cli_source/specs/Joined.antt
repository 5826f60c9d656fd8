-- Which nodes channels join.
use Rattle.std.specs.Prelude.{◌≡◌, ◌⊎◌, ℕ, ◌<◌, Bool, true, false, List, Any, length}
use Rattle.std.specs.Prelude.{get_or, set, count_by, Option, Some, None}
use Rattle.strc_cli_source.specs.declared.preorder.Preorder.{Preorder}

-- a channel goes from one of two nodes to the other
abbrev pub IsLink : List (ℕ × ℕ) → (one other : ℕ) → Type 0
IsLink links one other = Any (λ link. link ≡ (one, other)) links
    ⊎ Any (λ link. link ≡ (other, one)) links

-- of so many nodes channels join this one with another, from node to node, along channels and
-- against them
pub data IsJoined (links : List (ℕ × ℕ)) (count one : ℕ) : ℕ → Type 0 where
  Itself : IsJoined links count one one
  Further : {near far : ℕ} (joined : IsJoined links count one near) (link : IsLink links near far)
      (within : far < count) → IsJoined links count one far

-- channels join a node with node 0
abbrev pub IsWithFirst : Preorder → ℕ → Type 0
IsWithFirst order node = IsJoined order.links.items (length order.nodes.items) 0 node

-- the first node that no channels join with node 0; none where they join all
abbrev pub IsFirstApart : Preorder → Option ℕ → Type 0
IsFirstApart order None = (node : ℕ) → node < length order.nodes.items → IsWithFirst order node
IsFirstApart order (Some node) = (node < length order.nodes.items)
    × (IsWithFirst order node → ⊥) × ((before : ℕ) → before < node → IsWithFirst order before)

-- a node is one of those that are marked
abbrev pub IsMarked : List Bool → ℕ → Type 0
IsMarked marks node = get_or marks node false ≡ true

-- each node that is marked is joined with node 0
abbrev pub AreJoined : List (ℕ × ℕ) → List Bool → Type 0
AreJoined links marks = (node : ℕ) → IsMarked marks node
    → IsJoined links (length marks) 0 node

-- each node that was marked is still
abbrev pub AreKept : (old new : List Bool) → Type 0
AreKept old new = (node : ℕ) → IsMarked old node → IsMarked new node

-- how many are marked
abbrev pub joined_count : List Bool → ℕ
joined_count marks = count_by (λ mark. mark) marks

-- of two nodes this one is marked, and the other isn't
abbrev pub IsNext : List Bool → (near far : ℕ) → Type 0
IsNext marks near far =
    IsMarked marks near × (far < length marks) × (get_or marks far false ≡ false)

-- and it is what is marked besides
abbrev pub IsNextBy : (old new : List Bool) → (near far : ℕ) → Type 0
IsNextBy old new near far = IsNext old near far × (new ≡ set old far true)

-- of the ends of a channel both are marked, or neither
abbrev pub IsFollowed : List Bool → ℕ × ℕ → Type 0
IsFollowed marks link = (IsNext marks link.0 link.1 → ⊥) × (IsNext marks link.1 link.0 → ⊥)
