use Rattle.std.proofs.Common.{◌≡◌, length}
use Rattle.strc_sched_rings.specs.Circuits.{circuit_view}
use Rattle.strc_elab_graph.specs.NodeView.{graph_view}
use Rattle.strc_sched_machine.specs.Parts.{HoldsFrom, IsRest}
use Rattle.strc_sched_machine.specs.Running.{machine_view}
use Rattle.strc_stage_cut.specs.Bounds.{bound_in}
use Rattle.strc_stage_cut.specs.Fired.{running_by}
use Rattle.strc_stage_cut.specs.Made.{AreMade}
use Rattle.strc_stage_cut.proofs.stage_parts.stages_of.Given as goal

abbrev pub invariant-loop-stage : goal.invariant-loop-stage
invariant-loop-stage l = record {
  each : length l.stages.items ≡ l.stage;
  made : AreMade (running_by l.fn.plan l.fn.fired) l.fn.cut.bounds.items (circuit_view l.fn.circuit)
      (machine_view l.fn.machine) l.fn.rounds l.stages.items;
  rest : IsRest (graph_view l.fn.plan.split.graph) (bound_in l.fn.cut.bounds.items l.stage)
      (machine_view l.fn.machine) (machine_view l.machine);
  holds : HoldsFrom (graph_view l.fn.plan.split.graph) (bound_in l.fn.cut.bounds.items l.stage)
      l.machine;
}
