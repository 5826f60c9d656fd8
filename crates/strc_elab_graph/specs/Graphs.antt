-- Flat graphs by channels (Lee and Messerschmitt 1987): nodes by what they do, without where they
-- lie in memory, and what each channel joins.
use Rattle.std.specs.Prelude.{◌≡◌, ℕ, ◌<◌, Bool, true, false, ◌&&◌, nat_eq, ℤ, List, [], ◌∷◌}
use Rattle.std.specs.Prelude.{length, All, slice_get, codes, Option, Some, None, if◌then◌else◌}
use Rattle.std.specs.Option.{option_map_or}
use Rattle.strc_elab_dataflow.specs.Flat.{Source}
use Rattle.strc_elab_dataflow.specs.Flat as flat
use Rattle.strc_elab_dataflow.specs.Streams.{nothing}
use Rattle.strc_parse_tree.specs.declared.tree.ItemType.{ItemType}
use Rattle.strc_parse_tree.specs.declared.tree.ItemType.TheVariants as item
use Rattle.strc_work_meaning.specs.Filters.{filter_prints}
use Rattle.strc_work_meaning.specs.Filters as filters
use Rattle.strc_elab_graph.specs.declared.graph.Fission.{Fission}
use Rattle.strc_elab_graph.specs.declared.graph.Port.{Port}

-- how a splitter deals its items: each item to each port that carries items, or so many to each
-- port in turn
pub data SplitterCode : Type 0 where
  Duplicate : (carried : List Bool) → SplitterCode
  Roundrobin : (weights : List ℕ) → SplitterCode

-- what a copy is a copy of
pub data CopiedCode : Type 0 where
  OfFilter : (name : Option (List ℕ)) (filter : filters.Filter) → CopiedCode
  OfIdentity : CopiedCode

-- what a node is
pub data NodeCode : Type 0 where
  Filter : (name : Option (List ℕ)) (filter : filters.Filter) → NodeCode
  Identity : NodeCode
  FileReader : (text : List ℕ) → NodeCode
  FileWriter : (text : List ℕ) → NodeCode
  Splitter : (splitter : SplitterCode) → NodeCode
  Joiner : (weights : List ℕ) → NodeCode
  Scatter : (fission : Fission) → NodeCode
  Copy : (copied : CopiedCode) (fission : Fission) → NodeCode
  Gather : (fission : Fission) → NodeCode

-- the node that is copied
abbrev pub original : CopiedCode → NodeCode
original (OfFilter name filter) = Filter name filter
original OfIdentity = Identity

-- the name of a filter
abbrev pub filter_name : Option (List ℕ) → List ℕ
filter_name (Some name) = name
filter_name None = codes "filter"

-- the name of a copy
abbrev pub copied_name : CopiedCode → List ℕ
copied_name (OfFilter name filter) = filter_name name
copied_name OfIdentity = codes "Identity"

-- the name of a node
abbrev pub node_name : NodeCode → List ℕ
node_name (Filter name filter) = filter_name name
node_name Identity = codes "Identity"
node_name (FileReader text) = codes "FileReader"
node_name (FileWriter text) = codes "FileWriter"
node_name (Splitter splitter) = codes "split"
node_name (Joiner weights) = codes "join"
node_name (Scatter fission) = codes "scatter"
node_name (Copy copied fission) = copied_name copied
node_name (Gather fission) = codes "gather"

-- ports

-- one where a side of a filter has items
abbrev pub ports_of : ItemType → ℕ
ports_of item.Int = 1
ports_of item.Void = 0

-- those of a copy
abbrev pub copied_inputs : CopiedCode → ℕ
copied_inputs (OfFilter name filter) = ports_of filter.input
copied_inputs OfIdentity = 1

abbrev pub copied_outputs : CopiedCode → ℕ
copied_outputs (OfFilter name filter) = ports_of filter.output
copied_outputs OfIdentity = 1

abbrev pub input_ports : NodeCode → ℕ
input_ports (Filter name filter) = ports_of filter.input
input_ports Identity = 1
input_ports (FileReader text) = 0
input_ports (FileWriter text) = 1
input_ports (Splitter splitter) = 1
input_ports (Joiner weights) = length weights
input_ports (Scatter fission) = 1
input_ports (Copy copied fission) = copied_inputs copied
input_ports (Gather fission) = fission.ways

abbrev pub splitter_ports : SplitterCode → ℕ
splitter_ports (Duplicate carried) = length carried
splitter_ports (Roundrobin weights) = length weights

abbrev pub output_ports : NodeCode → ℕ
output_ports (Filter name filter) = ports_of filter.output
output_ports Identity = 1
output_ports (FileReader text) = 1
output_ports (FileWriter text) = 0
output_ports (Splitter splitter) = splitter_ports splitter
output_ports (Joiner weights) = 1
output_ports (Scatter fission) = fission.ways
output_ports (Copy copied fission) = copied_outputs copied
output_ports (Gather fission) = 1

-- the number of ports of a node by its number; none where there is no node
abbrev pub inputs_at : List NodeCode → ℕ → ℕ
inputs_at nodes node = option_map_or input_ports (slice_get nodes node) 0

abbrev pub outputs_at : List NodeCode → ℕ → ℕ
outputs_at nodes node = option_map_or output_ports (slice_get nodes node) 0

-- input and output of the program

-- whether a node takes the program's input
abbrev pub reads_input : NodeCode → Bool
reads_input (FileReader text) = true
reads_input _ = false

-- whether a firing of a copy can write words
abbrev pub copied_prints : CopiedCode → Bool
copied_prints (OfFilter name filter) = filter_prints filter
copied_prints OfIdentity = false

-- whether a firing of a node can write words
abbrev pub gives_words : NodeCode → Bool
gives_words (Filter name filter) = filter_prints filter
gives_words (Copy copied fission) = copied_prints copied
gives_words (FileWriter text) = true
gives_words _ = false

-- channels

-- what leaves an output port comes to an input port, after items that are enqueued
pub record Channel : Type 0 where
  pub source : Port
  pub target : Port
  pub enqueued : List ℤ

-- what comes through a channel
abbrev pub source_of : Channel → Source
source_of channel = record {
  enqueued = channel.enqueued;
  origin =
      flat.Port channel.source.node channel.source.port;
}

-- whether a channel ends at this input port
abbrev pub ends_at : ℕ → ℕ → Channel → Bool
ends_at node port channel = nat_eq channel.target.node node && nat_eq channel.target.port port

-- the source that channels give an input port: the first that ends there, or nothing
abbrev pub source_in : List Channel → ℕ → ℕ → Source
source_in [] node port = nothing
source_in (first ∷ rest) node port = if ends_at node port first then source_of first
    else source_in rest node port

-- graphs

-- nodes, channels between them, and the joiner of the outermost feedback loop that each node is
-- in
pub record Graph : Type 0 where
  pub nodes : List NodeCode
  pub channels : List Channel
  pub outer_loops : List (Option ℕ)

-- a channel leaves an output port of a node and ends at an input port of one
pub record JoinsPorts (nodes : List NodeCode) (channel : Channel) : Type 0 where
  pub source : channel.source.port < outputs_at nodes channel.source.node
  pub target : channel.target.port < inputs_at nodes channel.target.node

-- each channel joins ports of the nodes, and each node has its outermost loop or none
pub record IsGraph (graph : Graph) : Type 0 where
  pub channels : All (JoinsPorts graph.nodes) graph.channels
  pub outer_loops : length graph.outer_loops ≡ length graph.nodes
