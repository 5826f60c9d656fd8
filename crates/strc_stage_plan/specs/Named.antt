-- Nodes and firings after fission, by the nodes before it.
use Rattle.std.specs.Prelude.{ℕ, Bool, true, false, List, [], ◌∷◌, Option, Some}
use Rattle.std.specs.Prelude.{if◌then◌else◌, length, slice_get, slice_index_or}
use Rattle.strc_elab_graph.specs.Graphs as graphs
use Rattle.strc_elab_graph.specs.Graphs.{NodeCode, Graph}
use Rattle.strc_fiss.specs.Numbers.{each_part, origin_of}
use Rattle.strc_fiss.specs.Ways.{fission_of}
use Rattle.strc_fiss.specs.declared.split.Origin.{Origin}

-- what each node after fission is a part of
abbrev pub new_origins : (old : Graph) → (round : List ℕ) → (ways : ℕ) → List Origin
new_origins old round ways =
    each_part (fission_of old round ways) (origin_of (fission_of old round ways))
    (length old.nodes)

-- the node before fission that a node is a part of
abbrev pub old_node : List Origin → (number : ℕ) → ℕ
old_node origins number = (slice_index_or origins number (record { node = 0; first = 0 })).node

-- whether a node only deals out and gathers what copies take and give
abbrev pub passes_on : Option NodeCode → Bool
passes_on (Some (graphs.Scatter fission)) = true
passes_on (Some (graphs.Gather fission)) = true
passes_on code = false

-- The firings of an order after fission: a copy's firing is one of the node that it copies, and a
-- scatter's and a gather's are none.
abbrev pub old_firings : List NodeCode → List Origin → (order : List ℕ) → List ℕ
old_firings nodes origins [] = []
old_firings nodes origins (number ∷ order) =
    if passes_on (slice_get nodes number) then old_firings nodes origins order
    else old_node origins number ∷ old_firings nodes origins order
