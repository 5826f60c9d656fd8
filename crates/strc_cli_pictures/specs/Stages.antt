-- The picture of a plan: its graph in boxes of stages, and of the fused units that they fire.
use Rattle.std.specs.Prelude.{ℕ, ◌+◌, ◌-◌, Bool, true, List, [], ◌∷◌, ◌++◌, codes, decimal, drop}
use Rattle.std.specs.Prelude.{take, nat_lt, flat_map}
use Rattle.std.specs.List.{prefix_len, range_with_len}
use Rattle.strc_elab_graph.specs.NodeView.{GraphParts}
use Rattle.strc_sched_orders.specs.declared.unit as units
use Rattle.strc_cli_pictures.specs.Pictures.{Nodes, channel_lines, close_line, counted_nodes}
use Rattle.strc_cli_pictures.specs.Pictures.{node_line}
use Rattle.strc_cli_pictures.specs.Legends.{stage_legend}

-- a node that is written already, in a box more
abbrev pub node_row : (node : ℕ) → List ℕ
node_row node = codes "  n" ++ decimal node ++ codes ";\n"

-- the lines that open the box of a fused unit: how many times its nodes fire in turn; it is named
-- for its first node
abbrev pub unit_open : (first turns : ℕ) → List ℕ
unit_open first turns =
    codes "  subgraph cluster_unit_" ++ decimal first ++ codes " {\n  label=\"" ++ decimal turns
    ++ codes " times\";\n"

-- the box of a unit; one of a single node has none
abbrev pub unit_box : (turns : ℕ) → (nodes : List ℕ) → List ℕ
unit_box turns (first ∷ second ∷ later) =
    unit_open first turns ++ flat_map node_row (first ∷ second ∷ later) ++ close_line
unit_box turns nodes = []

abbrev pub unit_boxes : List units.Unit.Unit → List ℕ
unit_boxes units = flat_map (λ unit. unit_box unit.turns unit.nodes.items) units

-- whether the first of a unit's nodes is below a bound
abbrev pub begins_below : (bound : ℕ) → (nodes : List ℕ) → Bool
begins_below bound [] = true
begins_below bound (first ∷ later) = nat_lt first bound

-- how many of a round's units are of the stage with this end: a round goes stage by stage, so they
-- are those up to the first one that begins past it
abbrev pub unit_count : (end : ℕ) → List units.Unit.Unit → ℕ
unit_count end units = prefix_len (λ unit. begins_below end unit.nodes.items) units

abbrev pub stage_open : (stage : ℕ) → List ℕ
stage_open stage =
    codes "  subgraph cluster_stage_" ++ decimal stage ++ codes " {\n  label=\"stage "
    ++ decimal stage ++ codes "\";\n"

-- the lines of the nodes from one to before another
abbrev pub node_lines : Nodes → (first end : ℕ) → List ℕ
node_lines nodes first end = flat_map (node_line nodes) (range_with_len first (end - first))

-- the box of a stage: the nodes that it fires, and its units
abbrev pub stage_box : Nodes → (stage first end : ℕ) → List units.Unit.Unit → List ℕ
stage_box nodes stage first end units =
    stage_open stage ++ node_lines nodes first end ++ unit_boxes units ++ close_line

-- the boxes of stages, of which the first has this number, begins with this node, and fires the
-- first of these units
abbrev pub stage_boxes : Nodes → (stage first : ℕ) → List units.Unit.Unit → (ends : List ℕ)
    → List ℕ
stage_boxes nodes stage first units [] = []
stage_boxes nodes stage first units (end ∷ ends) =
    stage_box nodes stage first end (take (unit_count end units) units)
    ++ stage_boxes nodes (stage + 1) end (drop (unit_count end units) units) ends

-- the boxes of the stages that begin with the nodes at these bounds, of which the last is the
-- number of nodes
abbrev pub bounded_boxes : Nodes → List units.Unit.Unit → (bounds : List ℕ) → List ℕ
bounded_boxes nodes units [] = []
bounded_boxes nodes units (first ∷ ends) = stage_boxes nodes 0 first units ends

-- how many rounds go at a time
abbrev pub batch_line : (batch : ℕ) → List ℕ
batch_line batch =
    codes "  label=\"" ++ codes "rounds at a time: at most " ++ decimal batch ++ codes "\";\n"

-- the picture of a plan with these labels and counts, sizes of buffers, and units of a round, in
-- stages with these bounds, so many rounds at a time
abbrev pub plan_picture_text : GraphParts → (labels : List (List ℕ))
    → (startup round sizes : List ℕ) → List units.Unit.Unit → (bounds : List ℕ) → (batch : ℕ)
    → List ℕ
plan_picture_text graph labels startup round sizes units bounds batch =
    codes "digraph strc {\n  node [shape=box];\n"
    ++ bounded_boxes (counted_nodes graph labels startup round []) units bounds
    ++ channel_lines bounds [] graph.nodes graph.channels sizes ++ stage_legend
    ++ batch_line batch ++ codes "}\n"
