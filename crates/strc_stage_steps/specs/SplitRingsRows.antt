-- A worked row: a reader, a filter that is split in two ways, a filter that isn't, and a writer.
-- The first two fire four times in a round, and the others once.
use Rattle.std.specs.Prelude.{◌≡◌, ℕ, pos, List, [], ◌∷◌, None}
use Rattle.strc_parse_tree.specs.Tree as tree
use Rattle.strc_parse_tree.specs.declared.tree.ItemType.TheVariants as item
use Rattle.strc_parse_tree.specs.declared.tree.RateKind.{RateKind}
use Rattle.strc_parse_tree.specs.declared.tree.RateKind.TheVariants as kind
use Rattle.strc_work_meaning.specs.Filters as filters
use Rattle.strc_elab_graph.specs.Graphs.{Graph, Filter, FileReader, FileWriter}
use Rattle.strc_elab_graph.specs.declared.graph.Fission.{Fission}
use Rattle.strc_sched_laws.specs.DealingRow.{peeking}
use Rattle.strc_elab_dataflow.specs.FusedUnits.{RoundUnit, AreFused, firings_of}
use Rattle.strc_elab_dataflow.specs.Pieces.{unit_of}
use Rattle.strc_fuse.specs.Units.{is_free}
use Rattle.strc_fiss.specs.Rows.{channel}
use Rattle.strc_fiss.specs.Splitting.{split_graph}
use Rattle.strc_fiss.specs.Units.{split_units}
use Rattle.strc_fiss.specs.Ways.{fission_of}
use Rattle.strc_stage_plan.specs.Bounds.{stage_bound, stage_bounds}
use Rattle.strc_stage_plan.specs.Cuts.{segment_of}

abbrev rate_of : (kind : RateKind) → (rate : ℕ) → tree.Rate
rate_of kind rate = record { kind = kind; rate = tree.Number (pos rate) }

-- `int->int filter { work push 1 pop 4 peek 4 { push(pop()); pop(); pop(); pop(); } }`
abbrev pub thinning : filters.Filter
thinning = record {
  input = item.Int;
  output = item.Int;
  members = tree.Work
      (rate_of kind.Push 1 ∷ rate_of kind.Pop 4 ∷ rate_of kind.Peek 4 ∷ [])
      (tree.row (tree.Push tree.Pop ∷ tree.Evaluate tree.Pop ∷ tree.Evaluate tree.Pop
      ∷ tree.Evaluate tree.Pop ∷ []))
      ∷ [];
}

abbrev pub graph : Graph
graph = record {
  nodes = FileReader [] ∷ Filter None peeking ∷ Filter None thinning ∷ FileWriter [] ∷ [];
  channels = channel 0 0 1 0 ∷ channel 1 0 2 0 ∷ channel 2 0 3 0 ∷ [];
  outer_loops = None ∷ None ∷ None ∷ None ∷ [];
}

abbrev pub share : (node : ℕ) → Fission
share = fission_of graph (4 ∷ 4 ∷ 1 ∷ 1 ∷ []) 2

-- two items are read ahead
abbrev pub split : Graph
split = split_graph share graph (2 ∷ 0 ∷ 0 ∷ []) (2 ∷ 0 ∷ 0 ∷ [])

abbrev pub units : List RoundUnit
units = unit_of 4 0 ∷ unit_of 4 1 ∷ unit_of 1 2 ∷ unit_of 1 3 ∷ []

-- the last filter and the writer are one unit
abbrev pub fused : List RoundUnit
fused = unit_of 4 0 ∷ unit_of 1 1 ∷ unit_of 2 2 ∷ unit_of 2 3 ∷ unit_of 1 4
    ∷ record { turns = 1; nodes = 5 ∷ 6 ∷ [] } ∷ []

abbrev pub bound : (stage : ℕ) → ℕ
bound = stage_bound split.outer_loops fused 3

-- the stages of three workers are the reader and the scatter, the copies, and the gather and what
-- comes after it
pub record SplitCutRow : Type 0 where
  pub fusion : AreFused (is_free split) 2 (split_units share units) fused
  pub bounds : stage_bounds split.outer_loops fused 3 ≡ 0 ∷ 2 ∷ 4 ∷ 7 ∷ []
  pub first : segment_of bound (firings_of fused) 0 ≡ 0 ∷ 0 ∷ 0 ∷ 0 ∷ 1 ∷ []
  pub second : segment_of bound (firings_of fused) 1 ≡ 2 ∷ 2 ∷ 3 ∷ 3 ∷ []
  pub third : segment_of bound (firings_of fused) 2 ≡ 4 ∷ 5 ∷ 6 ∷ []
