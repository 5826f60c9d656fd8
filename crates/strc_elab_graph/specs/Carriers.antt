-- Which ports carry items (StreamIt specification 2.1, "Split-joins"). A port that never does, as
-- a joiner's of weight 0, is in the tree of a stream, but no channel leaves it or ends there.
use Rattle.std.specs.Prelude.{◌≡◌, ℕ, nat_lt, Bool, true, false, List}
use Rattle.std.specs.Prelude.{slice_get, slice_index, slice_index_or}
use Rattle.std.specs.Option.{option_map_or}
use Rattle.strc_elab_graph.specs.Graphs.{NodeCode, Joiner, Splitter, input_ports, output_ports}
use Rattle.strc_elab_graph.specs.Graphs.{SplitterCode, Duplicate, Roundrobin, Channel}

-- whether an input port carries items: a joiner's of weight 0 doesn't
abbrev pub carries_in : NodeCode → (port : ℕ) → Bool
carries_in (Joiner weights) port = nat_lt 0 (slice_index weights port)
carries_in code port = nat_lt port (input_ports code)

-- whether an output port of a splitter does: one of weight 0 doesn't, nor one of a duplicating
-- splitter to a child without input
abbrev pub splitter_carries : SplitterCode → (port : ℕ) → Bool
splitter_carries (Duplicate carried) port = slice_index_or carried port false
splitter_carries (Roundrobin weights) port = nat_lt 0 (slice_index weights port)

-- whether an output port does
abbrev pub carries_out : NodeCode → (port : ℕ) → Bool
carries_out (Splitter splitter) port = splitter_carries splitter port
carries_out code port = nat_lt port (output_ports code)

-- whether an input port of the node of this number does; no port does where there is no node
abbrev pub takes_at : List NodeCode → (node port : ℕ) → Bool
takes_at nodes node port = option_map_or (λ code. carries_in code port) (slice_get nodes node) false

abbrev pub gives_at : List NodeCode → (node port : ℕ) → Bool
gives_at nodes node port =
    option_map_or (λ code. carries_out code port) (slice_get nodes node) false

-- a channel leaves a port that carries items and ends at one that does
pub record JoinsCarriers (nodes : List NodeCode) (channel : Channel) : Type 0 where
  pub source : gives_at nodes channel.source.node channel.source.port ≡ true
  pub target : takes_at nodes channel.target.node channel.target.port ≡ true
