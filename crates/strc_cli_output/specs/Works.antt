-- The text that is written of a plan with the paths, the work and the buffers of its nodes.
use Rattle.std.specs.Prelude.{◌≡◌, ℕ, List, [], ◌∷◌, ◌++◌, codes, decimal, map, flat_map, length}
use Rattle.std.specs.Prelude.{slice_index_or, Vec}
use Rattle.std.specs.declared.alloc.Global.{Global}
use Rattle.strc_elab_stream.specs.declared.stream.Stream.{Stream}
use Rattle.strc_stage_plan.specs.Plans.{PlanParts, graph_of}
use Rattle.strc_stage_weights.specs.FiringWork.{firing_works}
use Rattle.strc_stage_weights.specs.RoundWork.{work_in_round}
use Rattle.strc_elab_paths.specs.Outlines.{outline}
use Rattle.strc_elab_paths.specs.Paths.{paths_of}
use Rattle.strc_cli_output.specs.NodeOrders.{AreIn}
use Rattle.strc_cli_output.specs.Output.{line_end, plan_text}
use Rattle.strc_cli_output.specs.Totals.{sizes_behind, sum_of}
use Rattle.strc_cli_output.specs.declared.node_order.NodeOrder.{NodeOrder}
use Rattle.strc_cli_output.specs.declared.works.Told.{Told}

-- what is told of nodes: their paths, the work of a firing and of a round of each, and the items
-- that fit in the buffers behind it
pub record Nodes : Type 0 where
  pub paths : List (List ℕ)
  pub firings : List ℕ
  pub rounds : List ℕ
  pub sizes : List ℕ

abbrev pub told_view : Told → Nodes
told_view told = record {
  paths = map (λ p. p.items) told.paths.now;
  firings = told.firings.now;
  rounds = told.rounds.now;
  sizes = told.sizes.now;
}

abbrev pub path_at : List (Vec ℕ Global) → (node : ℕ) → List ℕ
path_at paths node = slice_index_or (map (λ p. p.items) paths) node []

-- `path 2 Main / Sum(3)`
abbrev pub path_line : (node : ℕ) → (path : List ℕ) → List ℕ
path_line node path = codes "path " ++ decimal node ++ codes " " ++ path ++ line_end

-- `work 2 firing 9 round 18`
abbrev pub work_line : (node firing round : ℕ) → List ℕ
work_line node firing round =
    codes "work " ++ decimal node ++ codes " firing " ++ decimal firing ++ codes " round "
    ++ decimal round ++ line_end

-- `size 2 items 6`
abbrev pub size_line : (node items : ℕ) → List ℕ
size_line node items =
    codes "size " ++ decimal node ++ codes " items " ++ decimal items ++ line_end

abbrev pub node_line : Nodes → (node : ℕ) → List ℕ
node_line nodes node =
    path_line node (slice_index_or nodes.paths node [])
    ++ work_line node (slice_index_or nodes.firings node 0) (slice_index_or nodes.rounds node 0)
    ++ size_line node (slice_index_or nodes.sizes node 0)

abbrev pub node_lines : Nodes → (numbers : List ℕ) → List ℕ
node_lines nodes numbers = flat_map (node_line nodes) numbers

-- `total nodes 4 channels 3 items 12 work 40`
abbrev pub total_line : (nodes channels items work : ℕ) → List ℕ
total_line nodes channels items work =
    codes "total nodes " ++ decimal nodes ++ codes " channels " ++ decimal channels
    ++ codes " items " ++ decimal items ++ codes " work " ++ decimal work ++ line_end

-- the work in a round of nodes whose firings have so much, and that fire so often in it
abbrev pub round_works : (firings counts : List ℕ) → List ℕ
round_works (firing ∷ firings) (count ∷ counts) =
    work_in_round count firing ∷ round_works firings counts
round_works firings counts = []

-- what is told of a plan's nodes, where its graph is that of this stream
abbrev pub nodes_of : PlanParts → Stream → Nodes
nodes_of plan stream =
    let firings = firing_works (graph_of plan).nodes in
    record {
      paths = paths_of (outline [] stream);
      firings = firings;
      rounds = round_works firings plan.round_counts;
      sizes = sizes_behind (length plan.graph.nodes) plan.graph.channels plan.schedule.sizes;
    }

-- all that is written of a plan, then the lines of its nodes in an order, and last the totals
pub record IsLongPlanText (plan : PlanParts) (stream : Stream) (order : NodeOrder)
    (text : List ℕ) : Type 0 where
  pub numbers : List ℕ
  pub ordered : AreIn order (nodes_of plan stream).rounds (nodes_of plan stream).sizes numbers
  pub is : text ≡ plan_text plan ++ node_lines (nodes_of plan stream) numbers
      ++ total_line (length plan.graph.nodes) (length plan.graph.channels)
      (sum_of (nodes_of plan stream).sizes) (sum_of (nodes_of plan stream).rounds)
