use Rattle.std.proofs.Common.{◌≡◌, ◌∙◌, sym, ap, subst, ◌+◌, List, length, map, arith}
use Rattle.std.specs.Prelude.{All, slice_get}
use Rattle.std.proofs.lemmas.List.{length-map}
use Rattle.strc_elab_graph.specs.Graphs as graphs
use Rattle.strc_elab_graph.specs.NodeView.{node_view}
use Rattle.strc_elab_graph.specs.declared.graph.Node.{Node}
use Rattle.strc_elab_graph.specs.declared.graph.Channel.{Channel}
use Rattle.strc_sched_laws.specs.Wiring.{HasPort, IsWired}
use Rattle.strc_sched_rings.specs.Circuits.{source_of, target_of}
use Rattle.strc_sched_rings.proofs.CircuitPorts.{all_apart, ends_there, ends_of_views}
use Rattle.strc_sched_rings.specs.Parts.{IsOutside, part_codes}
use Rattle.strc_sched_rings.proofs.PartLists.{codes_long, other_code, own_code}
use Rattle.strc_sched_rings.proofs.circuit.Circuit.part.Goals as goal

pub wired-requires : goal.wired-requires
wired-requires c =
    let nodes : List Node = c.args.graph.now.nodes in
    let channels : List Channel = c.args.graph.now.channels in
    record {
      ends =
          subst (λ counts. All (HasPort counts) c.deref-2.result.now)
          (sym (c.deref.ensures.value ∙ c.in_ok-input_counts.ensures
          ∙ ap (map (λ (n : Node). graphs.input_ports (node_view n))) c.nodes-2.ensures))
          (subst (All (HasPort (map (λ (n : Node). graphs.input_ports (node_view n)) nodes)))
          (sym (c.deref-2.ensures.value ∙ c.in_ok-targets.ensures
          ∙ ap (map target_of) c.channels-channels.ensures.channels))
          (ends_there graphs.input_ports nodes target_of channels (λ channel joins. joins.target)
          c.channels-channels.ensures.ports.channels));
    }

pub wired-requires-2 : goal.wired-requires-2
wired-requires-2 c =
    let nodes : List Node = c.args.graph.now.nodes in
    let channels : List Channel = c.args.graph.now.channels in
    record {
      ends =
          subst (λ counts. All (HasPort counts) c.deref-4.result.now)
          (sym (c.deref-3.ensures.value ∙ c.in_ok-output_counts.ensures
          ∙ ap (map (λ (n : Node). graphs.output_ports (node_view n))) c.nodes-3.ensures))
          (subst (All (HasPort (map (λ (n : Node). graphs.output_ports (node_view n)) nodes)))
          (sym (c.deref-4.ensures.value ∙ c.in_ok-sources.ensures
          ∙ ap (map source_of) c.channels-channels.ensures.channels))
          (ends_there graphs.output_ports nodes source_of channels (λ channel joins. joins.source)
          c.channels-channels.ensures.ports.channels));
    }

pub returns-clause-part : goal.returns-clause-part
returns-clause-part c =
    let first = c.args.first in
    let next = c.args.next in
    let nodes : List Node = c.args.graph.now.nodes in
    let channels : List Channel = c.args.graph.now.channels in
    let codes = map node_view nodes in
    let views = ends_of_views channels in
    let own = c.in_ok-nodes.ensures
    ∙ ap (λ l. part_codes first next 0 (map node_view l)) c.nodes.ensures in
    record {
      each = ap length own ∙ codes_long first next 0 codes;
      own = λ node from below. ap (λ l. slice_get l node) own
          ∙ own_code first next 0 codes node (omega arith) (omega arith);
      others = λ node less outside. ap (λ l. slice_get l node) own
          ∙ other_code first next 0 codes node less
          (let e : node ≡ 0 + node = omega arith in
          subst (IsOutside first next) e outside);
      inputs = subst (λ ends. IsWired ends c.in_ok-inputs.inputs)
          (c.deref-2.ensures.value ∙ c.in_ok-targets.ensures
          ∙ ap (map target_of) c.channels-channels.ensures.channels ∙ views.0)
          c.in_ok-inputs.ensures.wired;
      outputs = subst (λ ends. IsWired ends c.in_ok-outputs.outputs)
          (c.deref-4.ensures.value ∙ c.in_ok-sources.ensures
          ∙ ap (map source_of) c.channels-channels.ensures.channels ∙ views.1)
          c.in_ok-outputs.ensures.wired;
      input_nodes = c.in_ok-inputs.ensures.nodes
          ∙ ap length (c.deref.ensures.value ∙ c.in_ok-input_counts.ensures)
          ∙ length-map c.nodes-2.result.now _
          ∙ ap length c.nodes-2.ensures
          ∙ sym (length-map nodes node_view);
      output_nodes = c.in_ok-outputs.ensures.nodes
          ∙ ap length (c.deref-3.ensures.value
          ∙ c.in_ok-output_counts.ensures)
          ∙ length-map c.nodes-3.result.now _
          ∙ ap length c.nodes-3.ensures
          ∙ sym (length-map nodes node_view);
    }

pub returns-clause-ready : goal.returns-clause-ready
returns-clause-ready c =
    let nodes : List Node = c.args.graph.now.nodes in
    let own = ap length (c.in_ok-nodes.ensures
    ∙ ap (λ l. part_codes c.args.first c.args.next 0 (map node_view l)) c.nodes.ensures)
    ∙ codes_long c.args.first c.args.next 0 (map node_view nodes)
    ∙ length-map nodes node_view in
    let held = length-map c.in_ok-nodes.nodes.items node_view in
    let many : length nodes ≡ length c.in_ok-nodes.nodes.items = omega (arith, own, held) in
    record {
      input_nodes = c.in_ok-inputs.ensures.nodes
          ∙ ap length (c.deref.ensures.value ∙ c.in_ok-input_counts.ensures)
          ∙ length-map c.nodes-2.result.now _
          ∙ ap length c.nodes-2.ensures ∙ many;
      output_nodes = c.in_ok-outputs.ensures.nodes
          ∙ ap length (c.deref-3.ensures.value ∙ c.in_ok-output_counts.ensures)
          ∙ length-map c.nodes-3.result.now _
          ∙ ap length c.nodes-3.ensures ∙ many;
      apart = λ apart. all_apart c.channels-channels.result.now c.in_ok-inputs.inputs
          c.in_ok-outputs.outputs
          (subst (λ ends. IsWired ends c.in_ok-inputs.inputs)
          (c.deref-2.ensures.value ∙ c.in_ok-targets.ensures) c.in_ok-inputs.ensures.wired)
          (subst (λ ends. IsWired ends c.in_ok-outputs.outputs)
          (c.deref-4.ensures.value ∙ c.in_ok-sources.ensures) c.in_ok-outputs.ensures.wired)
          (c.are_apart.ensures apart);
    }
