-- Worked rows: a reader, a filter without state that looks at three items, takes one and gives one,
-- and a writer. The filter fires four times in a round, and is split in two ways. And a graph in
-- which an identity fires in two units, and stays whole.
use Rattle.std.specs.Prelude.{◌≡◌, ℕ, pos, List, [], ◌∷◌, None}
use Rattle.strc_elab_graph.specs.Graphs.{Graph, Channel, NodeCode, Filter, FileReader, FileWriter}
use Rattle.strc_elab_graph.specs.Graphs.{Scatter, Copy, Gather, OfFilter, Identity, Splitter}
use Rattle.strc_elab_graph.specs.Graphs.{Roundrobin}
use Rattle.strc_elab_graph.specs.declared.graph.Fission.{Fission}
use Rattle.strc_sched_laws.specs.DealingRow.{peeking, two_ways}
use Rattle.strc_elab_dataflow.specs.FusedUnits.{RoundUnit}
use Rattle.strc_elab_dataflow.specs.Pieces.{unit_of}
use Rattle.strc_fiss.specs.Numbers.{each_part, origin_of}
use Rattle.strc_fiss.specs.OwnUnits.{dealt_counts, round_fission}
use Rattle.strc_fiss.specs.Splitting.{port, split_graph, split_greatest}
use Rattle.strc_fiss.specs.Units.{split_units}
use Rattle.strc_fiss.specs.Ways.{fission_of}
use Rattle.strc_fiss.specs.declared.split.Origin.{Origin}

abbrev pub channel : (source output target input : ℕ) → Channel
channel source output target input = record
    { source = port source output; target = port target input; enqueued = [] }

abbrev pub plain : Graph
plain = record {
  nodes = FileReader [] ∷ Filter None peeking ∷ FileWriter [] ∷ [];
  channels = channel 0 0 1 0 ∷ channel 1 0 2 0 ∷ [];
  outer_loops = None ∷ None ∷ None ∷ [];
}

-- each node fires four times in a round
abbrev pub round : List ℕ
round = 4 ∷ 4 ∷ 4 ∷ []

-- two items are read ahead
abbrev pub greatest : List ℕ
greatest = 2 ∷ 0 ∷ []

abbrev pub share : (node : ℕ) → Fission
share = fission_of plain round 2

abbrev pub split : Graph
split = split_graph share plain greatest greatest

abbrev pub a_copy : NodeCode
a_copy = Copy (OfFilter None peeking) two_ways

abbrev pub first_of : (node first : ℕ) → Origin
first_of node first = record { node = node; first = first }

pub record FissionRow : Type 0 where
  pub nodes : split.nodes
      ≡ FileReader [] ∷ Scatter two_ways ∷ a_copy ∷ a_copy ∷ Gather two_ways ∷ FileWriter [] ∷ []
  pub channels : split.channels
      ≡ channel 0 0 1 0 ∷ channel 1 0 2 0 ∷ channel 1 1 3 0 ∷ channel 2 0 4 0 ∷ channel 3 0 4 1
      ∷ channel 4 0 5 0 ∷ []
  pub loops : split.outer_loops ≡ None ∷ None ∷ None ∷ None ∷ None ∷ None ∷ []
  pub greatest : split_greatest share plain greatest greatest ≡ 2 ∷ 0 ∷ 0 ∷ 0 ∷ 0 ∷ 0 ∷ []
  pub units : split_units share (unit_of 4 0 ∷ unit_of 4 1 ∷ unit_of 4 2 ∷ [])
      ≡ unit_of 4 0 ∷ unit_of 1 1 ∷ unit_of 2 2 ∷ unit_of 2 3 ∷ unit_of 1 4 ∷ unit_of 4 5 ∷ []
  pub origins : each_part share (origin_of share) 3
      ≡ first_of 0 0 ∷ first_of 1 0 ∷ first_of 1 0 ∷ first_of 1 2 ∷ first_of 1 0 ∷ first_of 2 0
      ∷ []

-- an identity, the reader that gives to it, with one item enqueued, and a node that takes two items
abbrev pub turned : Graph
turned = record {
  nodes = Identity ∷ FileReader [] ∷ Splitter (Roundrobin (1 ∷ 1 ∷ [])) ∷ [];
  channels = record { source = port 1 0; target = port 0 0; enqueued = pos 0 ∷ [] }
      ∷ channel 0 0 2 0 ∷ [];
  outer_loops = None ∷ None ∷ None ∷ [];
}

-- the identity fires once at first, and then once more
abbrev pub turned_units : List RoundUnit
turned_units = unit_of 1 0 ∷ unit_of 2 1 ∷ unit_of 1 0 ∷ unit_of 1 2 ∷ []

abbrev pub turned_counts : List ℕ
turned_counts = 2 ∷ 2 ∷ 1 ∷ []

abbrev pub turned_share : (node : ℕ) → Fission
turned_share = round_fission turned turned_units turned_counts 2

pub record WholeRow : Type 0 where
  pub dealt : dealt_counts turned.outer_loops turned_units turned_counts ≡ 0 ∷ 2 ∷ 1 ∷ []
  pub by_counts : (fission_of turned turned_counts 2 0).ways ≡ 2
  pub whole : (turned_share 0).ways ≡ 1
  pub units : split_units turned_share turned_units ≡ turned_units
