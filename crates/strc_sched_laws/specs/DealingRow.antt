-- A worked row: a filter that peeks, between a reader and a writer, and its parts after fission in
-- two ways with two firings each.
use Rattle.std.specs.Prelude.{◌≡◌, ℕ, ℤ, pos, List, [], ◌∷◌, None, get_or}
use Rattle.strc_elab_dataflow.specs.Answer.{Outcome, Outcome.Done, Outcome.StartupFault}
use Rattle.strc_elab_dataflow.specs.Answer.{Outcome.RoundFault}
use Rattle.strc_elab_dataflow.specs.Flat.{Origin, Origin.Nowhere, Origin.Input, Origin.Port, Source}
use Rattle.strc_elab_dataflow.specs.Flat as flat
use Rattle.strc_elab_dataflow.specs.Queues.{fifo_run}
use Rattle.strc_parse_tree.specs.Tree as tree
use Rattle.strc_parse_tree.specs.declared.tree.ItemType.TheVariants as item
use Rattle.strc_parse_tree.specs.declared.tree.RateKind.{RateKind}
use Rattle.strc_parse_tree.specs.declared.tree.RateKind.TheVariants as kind
use Rattle.strc_parse_tree.specs.declared.tree.BinaryOperator.TheVariants as binary
use Rattle.strc_work_meaning.specs.Filters as filters
use Rattle.strc_work_meaning.specs.declared.fault.Cause.{Cause}
use Rattle.strc_work_meaning.specs.declared.word.Word.{Word}
use Rattle.strc_elab_graph.specs.Graphs.{NodeCode, Filter, FileReader, FileWriter, Scatter, Copy}
use Rattle.strc_elab_graph.specs.Graphs.{Gather}
use Rattle.strc_elab_graph.specs.Graphs.{OfFilter}
use Rattle.strc_elab_graph.specs.Meaning.{node_meaning, line_of}
use Rattle.strc_elab_graph.specs.declared.graph.Fission.{Fission}

abbrev rate_of : RateKind → ℤ → tree.Rate
rate_of kind rate = record { kind = kind; rate = tree.Number rate }

-- `int->int filter { work push 1 pop 1 peek 3 { push(pop() + peek(1)); } }`
abbrev pub peeking : filters.Filter
peeking = record {
  input = item.Int;
  output = item.Int;
  members = tree.Work
      (rate_of kind.Push (pos 1) ∷ rate_of kind.Pop (pos 1) ∷ rate_of kind.Peek (pos 3) ∷ [])
      (tree.row
      (tree.Push (tree.Binary binary.Add tree.Pop (tree.Peek (tree.Number (pos 1)))) ∷ []))
      ∷ [];
}

abbrev pub two_ways : Fission
two_ways = record { ways = 2; firings = 2; pop = 1; window = 3; push = 1 }

unfoldable pub from : Origin → Source
from origin = record { enqueued = []; origin = origin }

-- a reader, the filter and a writer
unfoldable pub plain_graph : flat.Graph NodeCode
plain_graph = record {
  size = 3;
  code = λ node.
      get_or (FileReader [] ∷ Filter None peeking ∷ FileWriter [] ∷ []) node (FileWriter []);
  source = λ node port. from (get_or (Input ∷ Port 0 0 ∷ Port 1 0 ∷ []) node Nowhere);
}

abbrev pub a_copy : NodeCode
a_copy = Copy (OfFilter None peeking) two_ways

-- where what comes to a port of a node comes from
unfoldable pub split_source : (node port : ℕ) → Origin
split_source node port = get_or (Input ∷ Port 0 0 ∷ Port 1 0 ∷ Port 1 1
    ∷ get_or (Port 2 0 ∷ Port 3 0 ∷ []) port Nowhere ∷ Port 4 0 ∷ []) node Nowhere

-- a reader, a scatter, two copies of the filter, a gather and a writer
unfoldable pub split_graph : flat.Graph NodeCode
split_graph = record {
  size = 6;
  code = λ node. get_or (FileReader [] ∷ Scatter two_ways ∷ a_copy ∷ a_copy
      ∷ Gather two_ways ∷ FileWriter [] ∷ []) node (FileWriter []);
  source = λ node port. from (split_source node port);
}

-- what a node wrote
unfoldable pub written : (node : ℕ) → Outcome Cause Word → List Word
written node (Done words) = words node
written node (StartupFault stop) = []
written node (RoundFault round stop words) = words node

abbrev pub input : List ℤ
input = pos 1 ∷ pos 2 ∷ pos 3 ∷ pos 4 ∷ pos 5 ∷ pos 6 ∷ pos 7 ∷ pos 8 ∷ pos 9 ∷ pos 10 ∷ []

abbrev pub sums : List Word
sums = line_of (pos 4) ∷ line_of (pos 6) ∷ line_of (pos 8) ∷ line_of (pos 10)
    ∷ line_of (pos 12) ∷ line_of (pos 14) ∷ line_of (pos 16) ∷ line_of (pos 18) ∷ []

-- Two rounds of four firings of the filter, after two items are read ahead: each item and the one
-- two places after it are added up, by the filter alone and by its copies.
pub record PeekingRow : Type 0 where
  pub plain : written 2 (fifo_run node_meaning plain_graph input
      (0 ∷ 0 ∷ 0 ∷ 0 ∷ 1 ∷ 1 ∷ 1 ∷ 1 ∷ 2 ∷ 2 ∷ 2 ∷ 2 ∷ []) (0 ∷ 0 ∷ []) 2) ≡ sums
  pub split : written 5 (fifo_run node_meaning split_graph input
      (0 ∷ 0 ∷ 0 ∷ 0 ∷ 1 ∷ 2 ∷ 2 ∷ 3 ∷ 3 ∷ 4 ∷ 5 ∷ 5 ∷ 5 ∷ 5 ∷ []) (0 ∷ 0 ∷ []) 2) ≡ sums
