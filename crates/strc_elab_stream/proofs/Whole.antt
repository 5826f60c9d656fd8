-- The channels of a whole stream by recursion are those of its flat graph.
use Rattle.std.proofs.Common.{◌≡◌, ℕ, zero, suc, ◌+◌, ◌⊎◌, Bool, true, false, List, [], ◌∷◌}
use Rattle.std.proofs.Common.{Some, None, slice_get, refl, sym, ap, ◌∙◌, subst, inl, inr}
use Rattle.std.proofs.Common.{cond, arith, ◌&&◌, nat_eq, eqb-true}
use Rattle.std.specs.List.{AllByRecursion}
use Rattle.strc_elab_dataflow.specs.Flat.{Source}
use Rattle.strc_elab_dataflow.specs.Streams.{layout, flat, nothing}
use Rattle.strc_elab_graph.proofs.Carriers.{carriers_are_joined}
use Rattle.strc_elab_graph.specs.Carriers.{carries_in, takes_at, JoinsCarriers}
use Rattle.strc_elab_graph.specs.FlatGraphs.{IsFed}
use Rattle.strc_elab_graph.specs.Graphs as graphs
use Rattle.strc_elab_graph.specs.Graphs.{Channel, NodeCode, ends_at, source_in, source_of}
use Rattle.strc_elab_stream.specs.Instances.{Stream}
use Rattle.strc_elab_stream.specs.Types.{IsWellTyped, IsClosed, input_of}
use Rattle.strc_elab_stream.specs.Flattening.{tree_of, nodes_of, codes_of, meaning_of}
use Rattle.strc_elab_stream.specs.Laws.{WiresAreFlat, WiresAreGraphs, WiresArePrograms}
use Rattle.strc_elab_stream.specs.Wires.{wires, wired}
use Rattle.strc_elab_stream.proofs.Channels.{each_all, each_follows}
use Rattle.strc_elab_stream.proofs.Comes.{IsWire}
use Rattle.strc_elab_stream.proofs.Ends.{Ends, ends_number}
use Rattle.strc_elab_stream.proofs.Fed.{IsFront, IsServed}
use Rattle.strc_elab_stream.proofs.Inlets.{inlet, no_items}
use Rattle.strc_elab_stream.proofs.Loops.{loops_are_by_node}
use Rattle.strc_elab_stream.proofs.Nodes.{nodes_are_codes}
use Rattle.strc_elab_stream.proofs.Numbered.{by_place, by_place_or, numbered_get}
use Rattle.strc_elab_stream.proofs.Ordered.{wires_ordered}
use Rattle.strc_elab_stream.proofs.Placed.{Placed}
use Rattle.strc_elab_stream.proofs.Places.{placed}
use Rattle.strc_elab_stream.proofs.Readers.{IsReader, readers}
use Rattle.strc_elab_stream.proofs.Served.{served}
use Rattle.strc_elab_stream.proofs.Sits.{Sits}
use Rattle.strc_elab_stream.proofs.Wired.{comes}

-- the stream is in its own flat graph

abbrev source_at : Stream → ℕ → ℕ → Source
source_at stream = (meaning_of stream).source

whole_sits : (stream : Stream)
    → Sits (codes_of stream) (source_at stream) (layout (tree_of stream)) 0 (λ port. nothing)
unfolding flat
whole_sits stream = record {
  codes = by_place (codes_of stream);
  sources = by_place_or ((layout (tree_of stream)).sources 0 (λ port. nothing)) (λ port. nothing);
}

whole_placed : (stream : Stream) → IsWellTyped stream
    → Placed (nodes_of stream) (source_at stream) 0 nothing stream
whole_placed stream typed =
    subst (λ l. Placed l (source_at stream) 0 nothing stream) (sym (nodes_are_codes stream typed))
    (placed (codes_of stream) (source_at stream) stream typed 0 (λ port. nothing)
    (whole_sits stream))

whole_wires : (stream : Stream) → IsWellTyped stream
    → AllByRecursion (IsWire (nodes_of stream) (source_at stream)) (wires 0 stream None)
whole_wires stream typed = comes (nodes_of stream) (source_at stream) stream typed 0 nothing None
    (whole_placed stream typed) (λ is. tt)

-- the source that channels give a port

found_by : (test : Bool) (node port : ℕ) (first : Channel) (rest : List Channel) (given : Source)
    → ends_at node port first ≡ test → (test ≡ true → source_of first ≡ given)
    → (test ≡ false → source_in rest node port ≡ given)
    → source_in (first ∷ rest) node port ≡ given
found_by true node port first rest given ends here later =
    ap (λ b. cond b (source_of first) (source_in rest node port)) ends ∙ here refl
found_by false node port first rest given ends here later =
    ap (λ b. cond b (source_of first) (source_in rest node port)) ends ∙ later refl

pub both_first : (a b : Bool) → (a && b) ≡ true → a ≡ true
both_first true b e = refl
both_first false b e = absurd (cc)

both_second : (a b : Bool) → (a && b) ≡ true → b ≡ true
both_second true b e = e
both_second false b e = absurd (cc)

module _ (nodes : List NodeCode) (source : ℕ → ℕ → Source) where
  -- a channel that ends at a port has the port's source
  here_is : (channel : Channel) (node port : ℕ) → IsWire nodes source channel
      → ends_at node port channel ≡ true → source_of channel ≡ source node port
  here_is channel node port is ends =
      let at_node : channel.target.node ≡ node =
      eqb-true channel.target.node node
      (both_first (nat_eq channel.target.node node) (nat_eq channel.target.port port) ends) in
      let at_port : channel.target.port ≡ port =
      eqb-true channel.target.port port
      (both_second (nat_eq channel.target.node node) (nat_eq channel.target.port port) ends) in
      sym is.comes ∙ ap (λ n. source n channel.target.port) at_node ∙ ap (source node) at_port

  -- where the port has none, or a channel ends there, the first one that does has its source
  found : (channels : List Channel) (node port : ℕ) → AllByRecursion (IsWire nodes source) channels
      → (nothing ≡ source node port) ⊎ Ends channels node port
      → source_in channels node port ≡ source node port
  found [] node port all (inl none) = none
  found [] node port all (inr ends) = absurd ends
  found (first ∷ rest) node port all (inl none) =
      found_by (ends_at node port first) node port first rest (source node port) refl
      (here_is first node port all.0) (λ e. found rest node port all.1 (inl none))
  found (first ∷ rest) node port all (inr (inl here)) =
      found_by true node port first rest (source node port) here
      (λ e. here_is first node port all.0 here) (λ e. absurd (cc))
  found (first ∷ rest) node port all (inr (inr later)) =
      found_by (ends_at node port first) node port first rest (source node port) refl
      (here_is first node port all.0) (λ e. found rest node port all.1 (inr later))

-- the code of a node that takes items

taker : (nodes : List NodeCode) (node port : ℕ) → takes_at nodes node port ≡ true
    → (code : NodeCode) × (slice_get nodes node ≡ Some code) × (carries_in code port ≡ true)
taker [] node port takes = absurd (cc)
taker (code ∷ codes) zero port takes = (code, refl, takes)
taker (code ∷ codes) (suc node) port takes = taker codes node port takes

whole_served : (stream : Stream) → IsWellTyped stream → (node port : ℕ)
    → takes_at (nodes_of stream) node port ≡ true
    → IsFront 0 (input_of stream) node port ⊎ Ends (wires 0 stream None) node port
whole_served stream typed node port takes =
    let code = taker (nodes_of stream) node port takes in
    let plain : 0 + node ≡ node = omega arith in
    let P = IsServed (IsFront 0 (input_of stream)) (wires 0 stream None) in
    subst (λ n. P n code.0) plain
    (numbered_get P (nodes_of stream) 0 node code.0 (served stream typed 0 None) code.1) port code.2

-- at port 0 of the first node nothing comes in from outside
none_there : (stream : Stream) → IsWellTyped stream → (node port : ℕ)
    → IsFront 0 (input_of stream) node port → nothing ≡ source_at stream node port
none_there stream typed node port front =
    sym (inlet (nodes_of stream) (source_at stream) stream 0 nothing (whole_placed stream typed)
    front.2).comes
    ∙ ap (λ n. source_at stream n 0) (sym front.0)
    ∙ ap (λ p. source_at stream node p) (sym front.1)

one_of : (A B C : Type 0) → (A → C) → A ⊎ B → C ⊎ B
one_of A B C step (inl a) = inl (step a)
one_of A B C step (inr b) = inr b

pub wires_are_flat : WiresAreFlat
wires_are_flat stream typed =
    let all = whole_wires stream typed in
    let P = IsWire (nodes_of stream) (source_at stream) in
    record {
      nodes = nodes_are_codes stream typed;
      sources = λ node port takes. found (nodes_of stream) (source_at stream) (wires 0 stream None)
          node port all
          (one_of (IsFront 0 (input_of stream) node port) (Ends (wires 0 stream None) node port)
          (nothing ≡ source_at stream node port) (none_there stream typed node port)
          (whole_served stream typed node port takes));
      joined = each_all (JoinsCarriers (nodes_of stream)) (wires 0 stream None)
          (each_follows P (JoinsCarriers (nodes_of stream)) (λ channel is. is.joins)
          (wires 0 stream None) all);
      channels = each_all (λ channel. source_at stream channel.target.node channel.target.port
          ≡ source_of channel) (wires 0 stream None)
          (each_follows P (λ channel. source_at stream channel.target.node channel.target.port
          ≡ source_of channel) (λ channel is. is.comes) (wires 0 stream None) all);
      ordered = wires_ordered stream 0 None;
    }

pub wires_are_graphs : WiresAreGraphs
wires_are_graphs stream typed = record {
  channels = carriers_are_joined (nodes_of stream) (wires 0 stream None)
      (wires_are_flat stream typed).joined;
  outer_loops = loops_are_by_node stream 0;
}

-- a stream that takes nothing is served in full
all_served : (stream : Stream) → IsClosed stream → (node port : ℕ)
    → IsFront 0 (input_of stream) node port ⊎ Ends (wires 0 stream None) node port
    → IsFed (wired stream) node port
all_served stream closed node port (inl front) = absurd (no_items (sym closed.input ∙ front.2))
all_served stream closed node port (inr ends) = ends_number (wires 0 stream None) node port ends

pub wires_are_programs : WiresArePrograms
wires_are_programs stream closed one_input = record {
  flat = wires_are_flat stream closed.typed;
  inputs = λ node text reads.
      let plain : 0 + node ≡ node = omega arith in
      let P = IsReader (nodes_of stream) (source_at stream) in
      subst (λ n. P n (graphs.FileReader text)) plain
      (numbered_get P (nodes_of stream) 0 node (graphs.FileReader text)
      (readers (nodes_of stream) (source_at stream) stream 0 nothing
      (whole_placed stream closed.typed)) reads) text refl;
  fed = λ node port takes. all_served stream closed node port
      (whole_served stream closed.typed node port takes);
  one_input = one_input;
}
