-- The rings at the ports of a graph's nodes: each channel's ring is at the channel's two ends, and
-- at no other port.
use Rattle.std.proofs.Common.{◌≡◌, refl, sym, ap, ◌∙◌, subst, ℕ, true, false}
use Rattle.std.proofs.Common.{List, length, map, Option, Some, None, slice_get, eqb-true}
use Rattle.std.specs.Option.{option_map, option_map_or}
use Rattle.std.proofs.lemmas.Bool.{true≢false}
use Rattle.std.proofs.lemmas.Option.{same_Some, slice_get_within, slice_get-map}
use Rattle.strc_elab_dataflow.specs.Flat.{Origin.Port}
use Rattle.strc_elab_dataflow.specs.Flat as flat
use Rattle.strc_elab_graph.specs.declared.graph.Port.{Port as End}
use Rattle.strc_elab_graph.specs.Graphs.{NodeCode, Channel, Graph}
use Rattle.strc_elab_graph.specs.Carriers.{carries_in, takes_at, JoinsCarriers}
use Rattle.strc_sched_laws.specs.ByChannels.{IsByChannels}
use Rattle.strc_sched_laws.specs.Rings.{at_port}
use Rattle.strc_sched_laws.specs.Wiring.{IsWired, PortRings, ports_at}
use Rattle.strc_sched_laws.specs.Machine.{CircuitView}
use Rattle.strc_sched_laws.specs.Circuits.{IsCircuit}
use Rattle.strc_sched_laws.specs.NodeSteps.{ArePlaced}
use Rattle.strc_sched_laws.proofs.Supplies.{element}
use Rattle.strc_sched_laws.proofs.Windows.{both_hold}

abbrev port_of : (node port : ℕ) → End
port_of node port = record { node = node; port = port }

mapped_from : {A B : Type 0} (f : A → B) (found : Option A) (y : B) → option_map f found ≡ Some y
    → (x : A) × (found ≡ Some x) × (f x ≡ y)
mapped_from f None y e = absurd (cc)
mapped_from f (Some x) y e = (x, refl, same_Some (f x) y e)

module _ (running : flat.Graph NodeCode) (graph : Graph) (joins : IsByChannels running graph)
    (circuit : CircuitView) (is : IsCircuit graph circuit) where
  -- a channel by its number
  abbrev pub IsAt : ℕ → Channel → Type 0
  IsAt number channel = slice_get graph.channels number ≡ Some channel

  same_channel : (number : ℕ) (a b : Channel) → IsAt number a → IsAt number b → a ≡ b
  same_channel number a b is_a is_b = same_Some a b (sym is_a ∙ is_b)

  -- ---- no two channels have one end

  one_target : (first second : ℕ) (a b : Channel) → IsAt first a → IsAt second b
      → a.target ≡ b.target → first ≡ second
  one_target first second a b is_a is_b same =
      joins.one_source first second a b is_a is_b
      (same_port (sym (joins.origins first a is_a)
      ∙ ap (λ (end : End). (running.source end.node end.port).origin) same
      ∙ joins.origins second b is_b))
    where
      same_port : Port a.source.node a.source.port ≡ Port b.source.node b.source.port
          → a.source ≡ b.source
      same_port e =
          let node : a.source.node ≡ b.source.node = cc in
          let port : a.source.port ≡ b.source.port = cc in
          ap (λ (n : ℕ). port_of n a.source.port) node ∙ ap (port_of b.source.node) port

  -- ---- a ring at a port is that of a channel with its end there

  ended : (end : Channel → End) (rings : PortRings) → IsWired (map end graph.channels) rings
      → (node port number : ℕ) → at_port (ports_at rings node) port ≡ Some number
      → (channel : Channel) × IsAt number channel × (end channel ≡ port_of node port)
  ended end rings wired node port number e =
      mapped_from end (slice_get graph.channels number) (port_of node port)
      (sym (slice_get-map end graph.channels number) ∙ wired.sound node port number e)

  ring_at_end : (end : Channel → End) (rings : PortRings) → IsWired (map end graph.channels) rings
      → ((first second : ℕ) (a b : Channel) → IsAt first a → IsAt second b → end a ≡ end b
      → first ≡ second)
      → (number : ℕ) (channel : Channel) → IsAt number channel
      → at_port (ports_at rings (end channel).node) (end channel).port ≡ Some number
  ring_at_end end rings wired one number channel there =
      let (other, found) = wired.complete number (end channel)
      (slice_get-map end graph.channels number ∙ ap (option_map end) there) in
      let (own, listed, same) = ended end rings wired (end channel).node (end channel).port other
      found in
      found ∙ ap Some (one other number own channel listed there same)

  pub input_channel : (node port number : ℕ)
      → at_port (ports_at circuit.inputs node) port ≡ Some number
      → (channel : Channel) × IsAt number channel × (channel.target ≡ port_of node port)
  input_channel = ended (λ channel. channel.target) circuit.inputs is.inputs

  pub output_channel : (node port number : ℕ)
      → at_port (ports_at circuit.outputs node) port ≡ Some number
      → (channel : Channel) × IsAt number channel × (channel.source ≡ port_of node port)
  output_channel = ended (λ channel. channel.source) circuit.outputs is.outputs

  pub target_ring : (number : ℕ) (channel : Channel) → IsAt number channel
      → at_port (ports_at circuit.inputs channel.target.node) channel.target.port ≡ Some number
  target_ring = ring_at_end (λ channel. channel.target) circuit.inputs is.inputs one_target

  pub source_ring : (number : ℕ) (channel : Channel) → IsAt number channel
      → at_port (ports_at circuit.outputs channel.source.node) channel.source.port ≡ Some number
  source_ring = ring_at_end (λ channel. channel.source) circuit.outputs is.outputs joins.one_source

  -- ---- the ports of a node

  module _ (node : ℕ) where
    abbrev inputs : List (Option ℕ)
    inputs = ports_at circuit.inputs node

    abbrev outputs : List (Option ℕ)
    outputs = ports_at circuit.outputs node

    same_end : (end : Channel → End) (number : ℕ) (a b : Channel) → IsAt number a → IsAt number b
        → (port other : ℕ) → end a ≡ port_of node port → end b ≡ port_of node other → port ≡ other
    same_end end number a b is_a is_b port other e f =
        ap (λ (own : End). own.port)
        (sym e ∙ ap end (same_channel number a b is_a is_b) ∙ f)

    pub are_placed : ArePlaced inputs outputs (length graph.channels)
    are_placed = record {
      inner = λ port number e.
          let (channel, there, ends) = input_channel node port number e in
          slice_get_within graph.channels number channel there;
      outer = λ port number e.
          let (channel, there, ends) = output_channel node port number e in
          slice_get_within graph.channels number channel there;
      one_input = λ port other number e f.
          let (a, is_a, ends_a) = input_channel node port number e in
          let (b, is_b, ends_b) = input_channel node other number f in
          same_end (λ channel. channel.target) number a b is_a is_b port other ends_a ends_b;
      one_output = λ port other number e f.
          let (a, is_a, ends_a) = output_channel node port number e in
          let (b, is_b, ends_b) = output_channel node other number f in
          same_end (λ channel. channel.source) number a b is_a is_b port other ends_a ends_b;
      apart = λ port other number e f.
          let (a, is_a, ends_a) = input_channel node port number e in
          let (b, is_b, ends_b) = output_channel node other number f in
          joins.apart number a is_a
          (ap (λ (own : Channel). own.source.node) (same_channel number a b is_a is_b)
          ∙ ap (λ (own : End). own.node) (ends_b ∙ refl)
          ∙ sym (ap (λ (own : End). own.node) ends_a));
    }

    -- no ring is at a port that carries no items
    pub idle_empty : (code : NodeCode) → slice_get graph.nodes node ≡ Some code → (port : ℕ)
        → carries_in code port ≡ false → at_port inputs port ≡ None
    idle_empty code there port idle = by_port (at_port inputs port) refl
      where
        by_port : (found : Option ℕ) → at_port inputs port ≡ found → found ≡ None
        by_port None e = refl
        by_port (Some number) e =
            let (channel, listed, ends) = input_channel node port number e in
            let ends_joined = element (JoinsCarriers graph.nodes) graph.channels number channel
            joins.joined listed in
            let takes = ap (λ (end : End). takes_at graph.nodes end.node end.port) (sym ends)
            ∙ ends_joined.target in
            let carries = ap (λ (found : Option NodeCode).
            option_map_or (λ own. carries_in own port) found false) (sym there) ∙ takes in
            absurd (true≢false (sym carries ∙ idle))

    -- a channel ends at each port that carries items
    pub carrier_fed : (code : NodeCode) → slice_get graph.nodes node ≡ Some code → (port : ℕ)
        → carries_in code port ≡ true
        → (number : ℕ) × (channel : Channel) × IsAt number channel
        × (channel.target ≡ port_of node port) × (at_port inputs port ≡ Some number)
    carrier_fed code there port carries =
        let (number, channel, listed, ends) = joins.fed node port
        (ap (λ (found : Option NodeCode).
        option_map_or (λ own. carries_in own port) found false) there ∙ carries) in
        let both = both_hold _ _ ends in
        let target : channel.target ≡ port_of node port =
        ap (λ (n : ℕ). port_of n channel.target.port) (eqb-true channel.target.node node both.0)
        ∙ ap (port_of node) (eqb-true channel.target.port port both.1) in (
          number,
          channel,
          listed,
          target,
          subst (λ (end : End). at_port (ports_at circuit.inputs end.node) end.port
              ≡ Some number) target (target_ring number channel listed),
        )
