use Rattle.strc_elab_graph.specs.NodeView.{graph_view}
use Rattle.strc_sched_rings.specs.Circuits.{circuit_view}
use Rattle.strc_sched_laws.specs.Machine.{CircuitView}
use Rattle.strc_sched_machine.specs.Running.{IsMachine, machine_view}
use Rattle.strc_stage_steps.specs.Handing.{HasFilled, items_before}
use Rattle.strc_stage_steps.proofs.dealt_state.hand_channels.Given as goal

abbrev pub invariant-loop-number : goal.invariant-loop-number
invariant-loop-number l = record {
  filled : HasFilled (items_before (circuit_view l.old) (graph_view l.graph).nodes l.origins
      (machine_view l.left)) (graph_view l.graph).channels l.number (machine_view l.fn.after)
      (machine_view l.after);
  machine : (circuit : CircuitView) → IsMachine circuit l.fn.after → IsMachine circuit l.after;
}
