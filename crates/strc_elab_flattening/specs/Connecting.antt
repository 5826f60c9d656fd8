-- Numbers that channels connect, and trees of numbers that are linked to their parents.
use Rattle.std.specs.Prelude.{◌≡◌, ◌≢◌, ℕ, ◌<◌, ◌≤◌, List, length, ◌⊎◌, slice_index, slice_set}
use Rattle.std.specs.Prelude.{EachIndex}
use Rattle.strc_elab_graph.specs.Graphs.{Channel}
use Rattle.strc_elab_graph.specs.Connections.{Path}

-- both ends of a channel are numbers below this one
pub record EndsBelow (count : ℕ) (channel : Channel) : Type 0 where
  pub source : channel.source.node < count
  pub target : channel.target.node < count

-- from each number below this one there is a path to each other
abbrev pub AreConnected : ℕ → List Channel → Type 0
AreConnected count channels = (node other : ℕ) → node < count → other < count
    → Path channels node other

-- no number's parent is greater
abbrev pub AreTrees : List ℕ → Type 0
AreTrees parents = EachIndex parents (λ node. slice_index parents node ≤ node)

-- a root is its own parent
abbrev pub IsRoot : List ℕ → ℕ → Type 0
IsRoot parents node = slice_index parents node ≡ node

-- from parent to parent
pub data Climbs (parents : List ℕ) (node : ℕ) : ℕ → Type 0 where
  Here : Climbs parents node node
  Then : {last next : ℕ} → Climbs parents node last → last < length parents
      → slice_index parents last ≡ next → Climbs parents node next

-- the greater of two numbers' roots has come to be under the lesser one
pub record AreLinked (old new : List ℕ) (one other : ℕ) : Type 0 where
  pub lesser : ℕ
  pub greater : ℕ
  pub order : lesser ≤ greater
  pub within : greater < length old
  pub lesser_root : IsRoot old lesser
  pub greater_root : IsRoot old greater
  pub ends : (Climbs old one lesser × Climbs old other greater)
      ⊎ (Climbs old one greater × Climbs old other lesser)
  pub linked : new ≡ slice_set old greater lesser

-- there is no root but 0
abbrev pub HaveOneRoot : List ℕ → Type 0
HaveOneRoot parents = (node : ℕ) → 0 < node → node < length parents
    → slice_index parents node ≢ node
