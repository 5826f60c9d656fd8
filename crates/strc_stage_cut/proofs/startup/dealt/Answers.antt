use Rattle.std.proofs.Common.{◌∙◌, sym, ap, subst, length}
use Rattle.std.proofs.lemmas.List.{length-map}
use Rattle.strc_elab_graph.specs.NodeView.{GraphParts, channel_view, graph_view}
use Rattle.strc_sched_laws.specs.Circuits.{IsCircuit}
use Rattle.strc_sched_rings.specs.Circuits.{circuit_view}
use Rattle.strc_sched_machine.specs.Running.{machine_view}
use Rattle.strc_stage_cut.proofs.Started.{has_dealt, parts_have_origins, parts_start}
use Rattle.strc_stage_cut.proofs.startup.dealt.Goals as goal

pub deal_out-requires-clause-starts : goal.deal_out-requires-clause-starts
deal_out-requires-clause-starts c =
    parts_start c.args.plan.now c.known.ensures.is c.transformed_graph-graph.result.now
    c.transformed_graph-graph.ensures

pub deal_out-requires-clause-origins : goal.deal_out-requires-clause-origins
deal_out-requires-clause-origins c =
    parts_have_origins c.args.plan.now c.known.ensures.is (circuit_view c.args.old.now).codes
    c.transformed_graph-graph.result.now c.origins.result.now c.requires.old.codes
    c.transformed_graph-graph.ensures c.origins.ensures

pub returns : goal.returns
returns c =
    let plan = c.args.plan.now in
    let graph = c.transformed_graph-graph in
    record {
      circuit_is = subst (λ (g : GraphParts). IsCircuit (graph_view g)
          (circuit_view c.in_ok-circuit.circuit)) graph.ensures c.in_ok-circuit.ensures.circuit;
      input_is = c.in_ok-circuit.ensures.input;
      can_run = record {
        ready = c.in_ok-circuit.ensures.ready;
        machine_is = c.in_ok-machine.ensures.machine;
        rings = c.in_ok-machine.ensures.rings
            ∙ ap (λ (g : GraphParts). length g.channels) graph.ensures
            ∙ sym (length-map plan.split.graph.channels channel_view);
      };
      dealt = has_dealt plan (circuit_view c.args.old.now) (machine_view c.args.machine)
          (machine_view c.in_ok-machine.machine) graph.result.now c.origins.result.now
          c.args.sizes.now graph.ensures c.origins.ensures c.in_ok-machine.ensures.dealt;
    }
