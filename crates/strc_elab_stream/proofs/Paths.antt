-- Paths along the channels of a stream's flat graph are those along the ways of items, both ways.
use Rattle.std.proofs.Common.{◌≡◌, ℕ, zero, suc, ◌<◌, Bool, true, false, cond, nat_eq, List}
use Rattle.std.proofs.Common.{[], ◌∷◌, length, get_or, sym, ap, subst, ◌∙◌, refl, inl, inr, arith}
use Rattle.std.proofs.Common.{Contains, eqb-true}
use Rattle.std.proofs.lemmas.Bool.{cases_lt}
use Rattle.std.proofs.lemmas.List.{get_or_past}
use Rattle.strc_elab_dataflow.specs.Flat.{Source}
use Rattle.strc_elab_dataflow.specs.Flat as flat
use Rattle.strc_elab_dataflow.specs.Streams as trees
use Rattle.strc_elab_dataflow.specs.Streams.{nothing}
use Rattle.strc_elab_graph.specs.Carriers.{carries_in, carries_out, takes_at, gives_at}
use Rattle.strc_elab_graph.specs.Carriers.{JoinsCarriers}
use Rattle.strc_elab_graph.specs.Connections as channels
use Rattle.strc_elab_graph.specs.Graphs.{NodeCode, Channel, Graph, ends_at, source_of, source_in}
use Rattle.strc_elab_stream.specs.Connections as ways
use Rattle.strc_elab_stream.specs.Connections.{Feeds}
use Rattle.strc_elab_stream.specs.Flattening.{IsFlat, meaning_of, codes_of, tree_of}
use Rattle.strc_elab_stream.specs.Instances.{Stream}
use Rattle.strc_elab_stream.specs.Laws.{WiresConnect}
use Rattle.strc_elab_stream.specs.Wires.{wired}
use Rattle.strc_elab_stream.proofs.Layouts.{layout_sources}
use Rattle.strc_elab_stream.proofs.Whole.{wires_are_flat, both_first}

-- a channel of a list between two nodes
record Joins (channels : List Channel) (node next : ℕ) : Type 0 where
  channel : Channel
  member : Contains channels channel
  source : channel.source.node ≡ node
  target : channel.target.node ≡ next

no_origin : (node port : ℕ) → flat.Nowhere ≡ flat.Port node port → ⊥
no_origin node port e = cc

same_origin : (node other port output : ℕ) → flat.Port node port ≡ flat.Port other output
    → node ≡ other
same_origin node other port output e = cc

later : (first : Channel) (rest : List Channel) (node next : ℕ) → Joins rest node next
    → Joins (first ∷ rest) node next
later first rest node next h = record {
  channel = h.channel;
  member = (suc h.member.0, (let w = h.member.1 in omega arith), h.member.2);
  source = h.source;
  target = h.target;
}

-- the channel that gives an input port its source
first_joins : (test : Bool) (first : Channel) (rest : List Channel) (next input node output : ℕ)
    → ends_at next input first ≡ test → ((source_in rest next input).origin ≡ flat.Port node output
    → Joins rest node next) → (cond test (source_of first) (source_in rest next input)).origin
    ≡ flat.Port node output → Joins (first ∷ rest) node next
first_joins true first rest next input node output ends go h = record {
  channel = first;
  member = (0, omega arith, refl);
  source = same_origin first.source.node node first.source.port output h;
  target = eqb-true first.target.node next
      (both_first (nat_eq first.target.node next) (nat_eq first.target.port input) ends);
}
first_joins false first rest next input node output ends go h = later first rest node next (go h)

source_joins : (channels : List Channel) (next input node output : ℕ)
    → (source_in channels next input).origin ≡ flat.Port node output → Joins channels node next
source_joins [] next input node output h = absurd (no_origin node output h)
source_joins (first ∷ rest) next input node output h =
    first_joins (ends_at next input first) first rest next input node output refl
    (source_joins rest next input node output) h

-- a port of a node by its code, and by the node's number

takes_within : (nodes : List NodeCode) (node port : ℕ) (other : NodeCode) → node < length nodes
    → takes_at nodes node port ≡ carries_in (get_or nodes node other) port
takes_within [] node port other within = absurd (omega arith)
takes_within (code ∷ codes) zero port other within = refl
takes_within (code ∷ codes) (suc node) port other within =
    takes_within codes node port other (omega (arith, within))

taker_code : (nodes : List NodeCode) (node port : ℕ) (other : NodeCode)
    → takes_at nodes node port ≡ true → carries_in (get_or nodes node other) port ≡ true
taker_code [] node port other takes = absurd (cc)
taker_code (code ∷ codes) zero port other takes = takes
taker_code (code ∷ codes) (suc node) port other takes = taker_code codes node port other takes

giver_code : (nodes : List NodeCode) (node port : ℕ) (other : NodeCode)
    → gives_at nodes node port ≡ true → carries_out (get_or nodes node other) port ≡ true
giver_code [] node port other gives = absurd (cc)
giver_code (code ∷ codes) zero port other gives = gives
giver_code (code ∷ codes) (suc node) port other gives = giver_code codes node port other gives

module _ (stream : Stream) (graph : Graph) (is : IsFlat stream graph) where
  -- a node that is fed is one of the graph
  fed_within : (node next : ℕ) → Feeds (meaning_of stream) node next
      → next < length (codes_of stream)
  unfolding trees.flat
  fed_within node next feeds =
      let tree = tree_of stream in
      let codes = (trees.layout tree).codes in
      let none : ℕ → Source = λ port. nothing in
      let sources = (trees.layout tree).sources 0 none in
      let same : length sources ≡ length codes = layout_sources tree 0 none in
      elim (cases_lt next (length codes)) [
        | inl within ↦ within
        | inr past ↦
            let missing : get_or sources next none ≡ none =
            get_or_past sources next none (omega arith) in
            absurd (no_origin node feeds.output
            (ap (λ (f : ℕ → Source). (f feeds.input).origin) (sym missing) ∙ feeds.comes))
      ]

  -- what feeds a node does so by a channel
  feeds_joins : (node next : ℕ) → Feeds (meaning_of stream) node next
      → Joins graph.channels node next
  unfolding trees.flat
  feeds_joins node next feeds =
      let codes = codes_of stream in
      let within : next < length codes = fed_within node next feeds in
      let any = trees.any_code (tree_of stream) in
      let takes : takes_at graph.nodes next feeds.input ≡ true =
      ap (λ l. takes_at l next feeds.input) is.nodes
      ∙ takes_within codes next feeds.input any within
      ∙ feeds.is_input in
      source_joins graph.channels next feeds.input node feeds.output
      (ap (λ (s : Source). s.origin) (is.sources next feeds.input takes) ∙ feeds.comes)

  -- and each channel feeds the node where it ends
  channel_feeds : (channel : Channel) → Contains graph.channels channel
      → Feeds (meaning_of stream) channel.source.node channel.target.node
  unfolding trees.flat
  channel_feeds channel member =
      let codes = codes_of stream in
      let any = trees.any_code (tree_of stream) in
      let joins : JoinsCarriers codes channel =
      subst (λ l. JoinsCarriers l channel) is.nodes
      (subst (JoinsCarriers graph.nodes) member.2 (is.joined member.0 channel member.1)) in
      let comes : (meaning_of stream).source channel.target.node channel.target.port
      ≡ source_of channel =
      subst (λ c. (meaning_of stream).source c.target.node c.target.port ≡ source_of c) member.2
      (is.channels member.0 channel member.1) in
      record {
        output = channel.source.port;
        input = channel.target.port;
        is_output = giver_code codes channel.source.node channel.source.port any joins.source;
        is_input = taker_code codes channel.target.node channel.target.port any joins.target;
        comes = ap (λ (s : Source). s.origin) comes;
      }

  -- paths

  by_channels : {node last : ℕ} → ways.Path (meaning_of stream) node last
      → channels.Path graph.channels node last
  by_channels ways.Here = channels.Here
  by_channels {node} {last} (ways.Along {next = next} feeds rest) =
      let joins = feeds_joins node next feeds in
      channels.Along joins.channel joins.member joins.source
      (subst (λ n. channels.Path graph.channels n last) (sym joins.target) (by_channels rest))
  by_channels {node} {last} (ways.Against {next = next} feeds rest) =
      let joins = feeds_joins next node feeds in
      channels.Against joins.channel joins.member joins.target
      (subst (λ n. channels.Path graph.channels n last) (sym joins.source) (by_channels rest))

  by_ways : {node last : ℕ} → channels.Path graph.channels node last
      → ways.Path (meaning_of stream) node last
  by_ways channels.Here = ways.Here
  by_ways {node} {last} (channels.Along channel member at rest) =
      ways.Along (subst (λ n. Feeds (meaning_of stream) n channel.target.node) at
      (channel_feeds channel member)) (by_ways rest)
  by_ways {node} {last} (channels.Against channel member at rest) =
      ways.Against (subst (λ n. Feeds (meaning_of stream) channel.source.node n) at
      (channel_feeds channel member)) (by_ways rest)

  size_is : (meaning_of stream).size ≡ length graph.nodes
  unfolding trees.flat
  size_is = ap length (sym is.nodes)

  channels_connect : channels.IsConnected graph → ways.IsConnected (meaning_of stream)
  channels_connect connected node other node_within other_within =
      by_ways (connected node other (subst (λ n. node < n) size_is node_within)
      (subst (λ n. other < n) size_is other_within))

  ways_connect : ways.IsConnected (meaning_of stream) → channels.IsConnected graph
  ways_connect connected node other node_within other_within =
      by_channels (connected node other (subst (λ n. node < n) (sym size_is) node_within)
      (subst (λ n. other < n) (sym size_is) other_within))

pub wires_connect : WiresConnect
wires_connect stream typed =
    let is = wires_are_flat stream typed in
    (channels_connect stream (wired stream) is, ways_connect stream (wired stream) is)
