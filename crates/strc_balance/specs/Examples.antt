-- Small graphs, and their counts.
use Rattle.std.specs.Prelude.{◌≡◌, ℕ, ◌+◌, pos, true, [], ◌∷◌, None, Ok, Err}
use Rattle.strc_parse_tree.specs.Tree as tree
use Rattle.strc_parse_tree.specs.declared.tree.ItemType.TheVariants.{Int}
use Rattle.strc_parse_tree.specs.declared.tree.RateKind.{RateKind}
use Rattle.strc_parse_tree.specs.declared.tree.RateKind.TheVariants as rate
use Rattle.strc_elab_graph.specs.Graphs as graphs
use Rattle.strc_elab_graph.specs.Graphs.{NodeCode, Channel, Graph}
use Rattle.strc_balance.specs.declared.error.BalanceError.TheVariants.{CountsTooLarge, Inconsistent}
use Rattle.strc_balance.specs.Rates.{equations_of, size_of}
use Rattle.strc_balance.specs.Verdicts.{judged}

-- a declared rate
abbrev pub declared : RateKind → ℕ → tree.Rate
declared kind items = record { kind = kind; rate = tree.Number (pos items) }

-- a filter whose work pushes and pops so many items
abbrev pub filter : (pushes pops : ℕ) → NodeCode
filter pushes pops =
    graphs.Filter None (record {
      input = Int;
      output = Int;
      members =
          tree.Work (declared rate.Push pushes ∷ declared rate.Pop pops ∷ []) tree.Done ∷ [];
    })

-- a filter with a prework that pushes and pops other numbers of items than its work
abbrev pub with_prework : (first_pushes first_pops pushes pops : ℕ) → NodeCode
with_prework first_pushes first_pops pushes pops =
    let first = declared rate.Push first_pushes ∷ declared rate.Pop first_pops ∷ [] in
    let later = declared rate.Push pushes ∷ declared rate.Pop pops ∷ [] in
    graphs.Filter None (record {
      input = Int;
      output = Int;
      members = tree.Prework first tree.Done ∷ tree.Work later tree.Done ∷ [];
    })

-- a channel between a port of one node and a port of another
abbrev pub channel : (source source_port target target_port : ℕ) → Channel
channel source source_port target target_port =
    record {
      source = record { node = source; port = source_port };
      target = record { node = target; port = target_port };
      enqueued = [];
    }

-- a channel from port 0 of one node to port 0 of the next one
abbrev pub link : ℕ → Channel
link node = channel node 0 (node + 1) 0

-- four nodes in a row
abbrev pub row : (first second third fourth : NodeCode) → Graph
row first second third fourth =
    record {
      nodes = first ∷ second ∷ third ∷ fourth ∷ [];
      channels = link 0 ∷ link 1 ∷ link 2 ∷ [];
      outer_loops = None ∷ None ∷ None ∷ None ∷ [];
    }

-- a source, a splitter, two nodes side by side, a joiner and a sink
abbrev pub split_join : (splitter first second joiner : NodeCode) → Graph
split_join splitter first second joiner =
    record {
      nodes =
          graphs.FileReader [] ∷ splitter ∷ first ∷ second ∷ joiner ∷ graphs.FileWriter [] ∷ [];
      channels =
          channel 0 0 1 0 ∷ channel 1 0 2 0 ∷ channel 1 1 3 0 ∷ channel 2 0 4 0 ∷ channel 3 0 4 1
          ∷ channel 4 0 5 0 ∷ [];
      outer_loops = None ∷ None ∷ None ∷ None ∷ None ∷ None ∷ [];
    }

-- a filter that doubles the items, and one that adds three of them: 3, 3, 2 and 2
abbrev pub ChangedRates : Type 0
ChangedRates =
    let graph = row (filter 1 0) (filter 2 1) (filter 1 3) (filter 0 1) in
    judged (size_of graph) (equations_of graph) ≡ Ok (3 ∷ 3 ∷ 2 ∷ 2 ∷ [])

-- a prework that pushes 5 items and pops 7 changes no count
abbrev pub PreworkLeftOut : Type 0
PreworkLeftOut =
    let graph = row (filter 1 0) (with_prework 5 7 2 1) (filter 1 3) (filter 0 1) in
    judged (size_of graph) (equations_of graph) ≡ Ok (3 ∷ 3 ∷ 2 ∷ 2 ∷ [])

-- a thousand times a thousand items: the limit
abbrev pub ManyItems : Type 0
ManyItems =
    let graph = row (filter 1 0) (filter 1000 1) (filter 1000 1) (filter 0 1) in
    judged (size_of graph) (equations_of graph) ≡ Ok (1 ∷ 1 ∷ 1000 ∷ 1000000 ∷ [])

-- 101 times 9,901 items: one more than the limit
abbrev pub TooManyItems : Type 0
TooManyItems =
    let graph = row (filter 1 0) (filter 101 1) (filter 9901 1) (filter 0 1) in
    judged (size_of graph) (equations_of graph) ≡ Err CountsTooLarge

-- items dealt two and one: 3, 1, 2, 1, 1 and 3
abbrev pub DealtByWeights : Type 0
DealtByWeights =
    let splitter = graphs.Splitter (graphs.Roundrobin (2 ∷ 1 ∷ [])) in
    let joiner = graphs.Joiner (2 ∷ 1 ∷ []) in
    let graph = split_join splitter graphs.Identity (filter 1 1) joiner in
    judged (size_of graph) (equations_of graph) ≡ Ok (3 ∷ 1 ∷ 2 ∷ 1 ∷ 1 ∷ 3 ∷ [])

-- one side gives twice the items of the other, which the joiner doesn't take: the channel from that
-- side fails
abbrev pub DoubledSide : Type 0
DoubledSide =
    let splitter = graphs.Splitter (graphs.Duplicate (true ∷ true ∷ [])) in
    let joiner = graphs.Joiner (1 ∷ 1 ∷ []) in
    let graph = split_join splitter graphs.Identity (filter 2 1) joiner in
    judged (size_of graph) (equations_of graph) ≡ Err (Inconsistent 4)
