-- Small graphs, and their start-up counts.
use Rattle.std.specs.Prelude.{ℕ, [], ◌∷◌, None}
use Rattle.strc_parse_tree.specs.Tree as tree
use Rattle.strc_parse_tree.specs.declared.tree.ItemType.TheVariants.{Int}
use Rattle.strc_parse_tree.specs.declared.tree.RateKind.TheVariants as rate
use Rattle.strc_elab_graph.specs.Graphs as graphs
use Rattle.strc_elab_graph.specs.Graphs.{NodeCode, Graph}
use Rattle.strc_balance.specs.Examples.{declared, filter, with_prework, link}
use Rattle.strc_startup.specs.Startup.{IsLeast}
use Rattle.strc_startup.specs.Rates.{first_counts, rates_of}

-- a filter that pushes and pops one item, and looks at so many
abbrev pub peeking : (peeks : ℕ) → NodeCode
peeking peeks =
    let rates = declared rate.Push 1 ∷ declared rate.Pop 1 ∷ declared rate.Peek peeks ∷ [] in
    graphs.Filter None (record {
      input = Int;
      output = Int;
      members = tree.Work rates tree.Done ∷ [];
    })

-- a source, a filter, and a sink
abbrev pub around : NodeCode → Graph
around node =
    record {
      nodes = filter 1 0 ∷ node ∷ filter 0 1 ∷ [];
      channels = link 0 ∷ link 1 ∷ [];
      outer_loops = None ∷ None ∷ None ∷ [];
    }

-- a moving sum of three items has two of them before the first round
abbrev pub MovingSum : Type 0
MovingSum =
    let graph = around (peeking 3) in
    IsLeast (first_counts graph) (rates_of graph) (2 ∷ 0 ∷ 0 ∷ [])

-- a prework that gives an item and takes none fires once
abbrev pub Delay : Type 0
Delay =
    let graph = around (with_prework 1 0 1 1) in
    IsLeast (first_counts graph) (rates_of graph) (0 ∷ 1 ∷ 0 ∷ [])

-- a filter that looks at 65,536 items has all but one of them
abbrev pub FarPeek : Type 0
FarPeek =
    let graph = around (peeking 65536) in
    IsLeast (first_counts graph) (rates_of graph) (65535 ∷ 0 ∷ 0 ∷ [])
