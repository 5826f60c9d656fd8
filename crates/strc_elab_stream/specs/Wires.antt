-- The channels of a stream's flat graph, in order of the ports that they leave, by recursion over
-- the stream (StreamIt specification 2.1, "Streams").
use Rattle.std.specs.Prelude.{ℕ, ◌+◌, ℤ, Bool, true, false, List, [], ◌∷◌, ◌++◌, length}
use Rattle.std.specs.Prelude.{Option, Some, None}
use Rattle.strc_elab_graph.specs.declared.graph.Port.{Port}
use Rattle.strc_elab_graph.specs.Graphs.{Channel, Graph, SplitterCode}
use Rattle.strc_elab_graph.specs.Carriers.{splitter_carries}
use Rattle.strc_elab_stream.specs.Instances.{Stream, Streams, Filter, Identity, FileReader}
use Rattle.strc_elab_stream.specs.Instances.{FileWriter}
use Rattle.strc_elab_stream.specs.Instances.{Pipeline, SplitJoin, FeedbackLoop, Done, More}
use Rattle.strc_elab_stream.specs.Types.{splitter_carried, is_int}
use Rattle.strc_elab_stream.specs.Flattening.{nodes_of, row_nodes, size_of, splitter_nodes}
use Rattle.strc_elab_stream.specs.Flattening.{outer_loops}

-- where a stream's items go: to an input port, after enqueued items; what a whole program gives
-- goes nowhere
pub record Target : Type 0 where
  pub port : Port
  pub enqueued : List ℤ

-- the first port of a node, and a port of it, with nothing enqueued
abbrev pub to_port : (node port : ℕ) → Option Target
to_port node port = Some (record { port = record { node = node; port = port }; enqueued = [] })

-- the channel from an output port to where its items go, where the port carries items
abbrev pub wire : (carries : Bool) → (node port : ℕ) → Option Target → List Channel
wire false node port target = []
wire true node port None = []
wire true node port (Some target) = record {
  source = record { node = node; port = port };
  target =
      target.port;
  enqueued = target.enqueued;
} ∷ []

-- where the items of a stream in a row go: to the first node of the next one, or where those of the
-- row go
abbrev pub target_after : (next : ℕ) → Streams → Option Target → Option Target
target_after next Done target = target
target_after next (More first rest) target = to_port next 0

-- from a splitter's ports, from this one on, to the first nodes of the streams after it
abbrev pub split_wires : (splitter port : ℕ) → List Bool → (first : ℕ) → Streams → List Channel
split_wires splitter port [] first children = []
split_wires splitter port (carries ∷ others) first Done = []
split_wires splitter port (carries ∷ others) first (More child rest) =
    wire carries splitter port (to_port first 0)
    ++ split_wires splitter (port + 1) others (first + size_of child) rest

-- those of a splitter and of a joiner, where there is one
abbrev pub splitter_wires : (first : ℕ) → Option SplitterCode → Streams → List Channel
splitter_wires first None children = []
splitter_wires first (Some splitter) children =
    split_wires first 0 (splitter_carried splitter) (first + 1) children

abbrev pub joiner_wires : (joiner : ℕ) → Option (List ℕ) → Option Target → List Channel
joiner_wires joiner None target = []
joiner_wires joiner (Some weights) target = wire true joiner 0 target

abbrev mutual
  -- the channels of a stream whose first node has this number
  pub wires : (first : ℕ) → Stream → Option Target → List Channel
  wires first (Filter name filter) target = wire (is_int filter.output) first 0 target
  wires first Identity target = wire true first 0 target
  wires first (FileReader text) target = wire true first 0 target
  wires first (FileWriter text) target = []
  wires first (Pipeline children) target = row_wires first children target
  wires first (SplitJoin splitter children joiner) target =
      splitter_wires first splitter children
      ++ branch_wires (first + length (splitter_nodes splitter)) children
      (first + length (splitter_nodes splitter) + length (row_nodes children)) 0
      ++ joiner_wires (first + length (splitter_nodes splitter) + length (row_nodes children))
      joiner target
  wires first (FeedbackLoop joiner body splitter loop enqueued) target =
      wire true first 0 (to_port (first + 1) 0)
      ++ wires (first + 1) body (to_port (first + 1 + size_of body) 0)
      ++ wire (splitter_carries splitter 0) (first + 1 + size_of body) 0 target
      ++ wire true (first + 1 + size_of body) 1 (to_port (first + 2 + size_of body) 0)
      ++ wires (first + 2 + size_of body) loop
      (Some (record { port = record { node = first; port = 1 }; enqueued = enqueued }))

  -- those of streams in a row
  pub row_wires : (first : ℕ) → Streams → Option Target → List Channel
  row_wires first Done target = []
  row_wires first (More next rest) target =
      wires first next (target_after (first + size_of next) rest target)
      ++ row_wires (first + size_of next) rest target

  -- those of streams side by side, whose items come to a joiner's ports, from this one on
  pub branch_wires : (first : ℕ) → Streams → (joiner port : ℕ) → List Channel
  branch_wires first Done joiner port = []
  branch_wires first (More next rest) joiner port =
      wires first next (to_port joiner port)
      ++ branch_wires (first + size_of next) rest joiner (port + 1)

-- the graph of a whole stream
abbrev pub wired : Stream → Graph
wired stream = record {
  nodes = nodes_of stream;
  channels = wires 0 stream None;
  outer_loops = outer_loops 0 stream;
}
