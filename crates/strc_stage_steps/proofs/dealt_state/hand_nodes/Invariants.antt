use Rattle.std.proofs.Common.{◌≡◌, map}
use Rattle.strc_elab_graph.specs.NodeView.{node_view}
use Rattle.strc_sched_laws.specs.Machine.{CircuitView}
use Rattle.strc_sched_machine.specs.Running.{IsMachine, machine_view}
use Rattle.strc_stage_steps.specs.Handing.{HasHanded}
use Rattle.strc_stage_steps.specs.Origins.{AreOrigins}
use Rattle.strc_stage_steps.proofs.dealt_state.hand_nodes.Given as goal

abbrev pub invariant-loop-number : goal.invariant-loop-number
invariant-loop-number l = record {
  handed : HasHanded (map node_view l.nodes) l.origins l.number (machine_view l.fn.left)
      (machine_view l.fn.after) (machine_view l.left) (machine_view l.after);
  machines : (old circuit : CircuitView) → circuit.codes ≡ map node_view l.nodes
      → AreOrigins old.codes circuit.codes l.origins
      → IsMachine old l.fn.left → IsMachine circuit l.fn.after
      → IsMachine old l.left × IsMachine circuit l.after;
}
