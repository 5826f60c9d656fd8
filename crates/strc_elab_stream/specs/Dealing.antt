-- Splitters and joiners deal items (StreamIt specification 2.1, "Split-joins"): a firing moves one
-- at least.
use Rattle.std.specs.Prelude.{◌<◌, sum}
use Rattle.std.specs.List.{AllByRecursion}
use Rattle.strc_elab_graph.specs.Graphs as graphs
use Rattle.strc_elab_graph.specs.Graphs.{NodeCode, SplitterCode, Duplicate, Roundrobin}
use Rattle.strc_elab_stream.specs.Flattening.{nodes_of}
use Rattle.strc_elab_stream.specs.Instances.{Stream}
use Rattle.strc_elab_stream.specs.Types.{IsWellTyped}

-- a splitter's or a joiner's weights have a sum above 0
abbrev pub SplitterDeals : SplitterCode → Type 0
SplitterDeals (Duplicate carried) = Unit {0}
SplitterDeals (Roundrobin weights) = 0 < sum weights

abbrev pub Deals : NodeCode → Type 0
Deals (graphs.Splitter splitter) = SplitterDeals splitter
Deals (graphs.Joiner weights) = 0 < sum weights
Deals code = Unit {0}

-- those of well-typed streams do
abbrev pub NodesDeal : Type 0
NodesDeal = (stream : Stream) → IsWellTyped stream → AllByRecursion Deals (nodes_of stream)
