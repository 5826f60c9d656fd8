-- How often the nodes of a graph after fission fire, by how often those before it do.
use Rattle.std.specs.Prelude.{ℕ, List, [], codes, length, map, slice_get, slice_index_or}
use Rattle.std.specs.List.{range_with_len}
use Rattle.std.specs.Option.{option_map_or}
use Rattle.strc_elab_graph.specs.Graphs.{NodeCode, Scatter, Copy, Gather}
use Rattle.strc_elab_graph.specs.NodeView.{node_view}
use Rattle.strc_elab_graph.specs.declared.graph.Node.{Node}
use Rattle.strc_fiss.specs.declared.split.Origin.{Origin}

-- in a round: a scatter and a gather fire once, a copy has its share, and a node that isn't split
-- has all firings
abbrev pub round_share : NodeCode → (count : ℕ) → ℕ
round_share (Scatter fission) count = 1
round_share (Copy copied fission) count = fission.firings
round_share (Gather fission) count = 1
round_share code count = count

-- before the first round: nodes are split after start-up, so their parts don't fire in it
abbrev pub startup_share : NodeCode → (count : ℕ) → ℕ
startup_share (Scatter fission) count = 0
startup_share (Copy copied fission) count = 0
startup_share (Gather fission) count = 0
startup_share code count = count

-- the count of the node that one after fission comes from
abbrev pub count_before : List Origin → (counts : List ℕ) → (number : ℕ) → ℕ
count_before origins counts number =
    option_map_or (λ (origin : Origin). slice_index_or counts origin.node 0)
    (slice_get origins number) 0

-- the share of a node after fission, and those of all
abbrev pub share_at : (share : NodeCode → (count : ℕ) → ℕ) → List Node → List Origin
    → (counts : List ℕ) → (number : ℕ) → ℕ
share_at share nodes origins counts number =
    option_map_or (λ node. share (node_view node) (count_before origins counts number))
    (slice_get nodes number) 0

abbrev pub shares_of : (share : NodeCode → (count : ℕ) → ℕ) → List Node → List Origin
    → (counts : List ℕ) → List ℕ
shares_of share nodes origins counts =
    map (share_at share nodes origins counts) (range_with_len 0 (length nodes))

abbrev pub round_shares : List Node → List Origin → (counts : List ℕ) → List ℕ
round_shares nodes origins counts = shares_of round_share nodes origins counts

abbrev pub startup_shares : List Node → List Origin → (counts : List ℕ) → List ℕ
startup_shares nodes origins counts = shares_of startup_share nodes origins counts

-- what a node is called that comes from one of this label: a scatter and a gather are called what
-- they are
abbrev pub label_after : NodeCode → (before : List ℕ) → List ℕ
label_after (Scatter fission) before = codes "scatter"
label_after (Gather fission) before = codes "gather"
label_after code before = before

-- the label of the node that one after fission comes from
abbrev pub label_before : List Origin → (labels : List (List ℕ)) → (number : ℕ) → List ℕ
label_before origins labels number =
    option_map_or (λ (origin : Origin). slice_index_or labels origin.node [])
    (slice_get origins number) []

abbrev pub label_at : List Node → List Origin → (labels : List (List ℕ)) → (number : ℕ) → List ℕ
label_at nodes origins labels number =
    option_map_or (λ node. label_after (node_view node) (label_before origins labels number))
    (slice_get nodes number) []

-- the labels of all
abbrev pub labels_after : List Node → List Origin → (labels : List (List ℕ)) → List (List ℕ)
labels_after nodes origins labels =
    map (label_at nodes origins labels) (range_with_len 0 (length nodes))
