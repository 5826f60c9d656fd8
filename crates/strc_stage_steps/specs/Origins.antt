-- What the nodes of a graph after fission stand for.
use Rattle.std.specs.Prelude.{◌≡◌, ℕ, ◌<◌, Bool, true, false, List, length, Some, slice_get}
use Rattle.strc_elab_graph.specs.Graphs as graphs
use Rattle.strc_elab_graph.specs.Graphs.{NodeCode}
use Rattle.strc_elab_graph.specs.Rates.{fires_by_rounds}
use Rattle.strc_fiss.specs.declared.split.Origin.{Origin}
use Rattle.strc_stage_plan.specs.Named.{old_node}

-- only channels between the parts of one node end here
abbrev pub is_inside : NodeCode → Bool
is_inside (graphs.Copy copied fission) = true
is_inside (graphs.Gather fission) = true
is_inside code = false

-- a node that isn't split
pub record IsWhole (nodes : List NodeCode) (number : ℕ) : Type 0 where
  pub code : NodeCode
  pub there : slice_get nodes number ≡ Some code
  pub whole : fires_by_rounds code ≡ false

-- each node is a part of an old one; one that isn't split is that one, of which it is all
pub record AreOrigins (codes nodes : List NodeCode) (origins : List Origin) : Type 0 where
  pub each : length origins ≡ length nodes
  pub within : (number : ℕ) → number < length nodes → old_node origins number < length codes
  pub kept : (number : ℕ) (code : NodeCode) → slice_get nodes number ≡ Some code
      → fires_by_rounds code ≡ false → slice_get codes (old_node origins number) ≡ Some code
  pub apart : (one other : ℕ) → IsWhole nodes one → IsWhole nodes other
      → old_node origins one ≡ old_node origins other → one ≡ other
