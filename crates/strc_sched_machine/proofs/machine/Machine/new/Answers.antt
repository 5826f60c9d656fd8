use Rattle.std.proofs.Common.{◌∙◌, sym, ap, subst, length, map, [], arith}
use Rattle.std.proofs.lemmas.List.{length-map, length-replicate}
use Rattle.strc_elab_graph.specs.NodeView.{node_view, channel_view}
use Rattle.strc_sched_machine.specs.Actors.{AreActors}
use Rattle.strc_sched_machine.proofs.Done.{hold_rings}
use Rattle.strc_sched_machine.proofs.machine.Machine.new.Goals as goal

pub start_actors-requires-clause-inputs : goal.start_actors-requires-clause-inputs
start_actors-requires-clause-inputs c =
    let nodes = ap length c.nodes.ensures in
    let each = length-map c.args.graph.now.nodes node_view in
    omega (arith, nodes, each, c.requires.circuit.input_nodes)

pub start_actors-requires-clause-outputs : goal.start_actors-requires-clause-outputs
start_actors-requires-clause-outputs c =
    let nodes = ap length c.nodes.ensures in
    let each = length-map c.args.graph.now.nodes node_view in
    omega (arith, nodes, each, c.requires.circuit.output_nodes)

pub returns-clause-machine : goal.returns-clause-machine
returns-clause-machine c =
    let wired = c.requires.circuit in
    let nodes = ap (map node_view) c.nodes.ensures ∙ sym wired.codes in
    let channels = c.in_ok-rings.ensures.each
    ∙ ap (λ l. length (map channel_view l)) c.channels.ensures.channels in
    record {
      actors = subst (λ codes. AreActors codes c.in_ok-actors.actors.items) nodes
          c.in_ok-actors.ensures.actors;
      fired = sym c.in_ok-fired.fired.ok.0 ∙ c.in_ok-fired.ensures.len ∙ ap length c.nodes-2.ensures
          ∙ sym (length-map c.args.graph.now.nodes node_view) ∙ sym (ap length wired.codes);
      words = sym (length-map c.in_ok-words.words.items (λ words. words.items))
          ∙ ap length c.in_ok-words.ensures ∙ length-replicate _ []
          ∙ ap length c.nodes-3.ensures
          ∙ sym (length-map c.args.graph.now.nodes node_view) ∙ sym (ap length wired.codes);
      input_nodes = wired.input_nodes ∙ sym (ap length wired.codes);
      output_nodes = wired.output_nodes ∙ sym (ap length wired.codes);
      inputs = hold_rings _ c.args.circuit.now.inputs _ wired.inputs
          (length-map _ _ ∙ sym channels);
      outputs = hold_rings _ c.args.circuit.now.outputs _ wired.outputs
          (length-map _ _ ∙ sym channels);
    }
