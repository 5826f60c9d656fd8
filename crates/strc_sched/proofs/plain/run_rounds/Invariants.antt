use Rattle.std.proofs.Common.{◌≡◌, ◌-◌, map}
use Rattle.strc_elab_graph.specs.NodeView.{node_view}
use Rattle.strc_sched_orders.specs.Greedy.{firings_of}
use Rattle.strc_sched_laws.specs.Machine.{rounds_run}
use Rattle.strc_sched_machine.specs.Batches.{units_of}
use Rattle.strc_sched_rings.specs.Circuits.{circuit_view}
use Rattle.strc_sched.specs.Marks.{IsMarks}
use Rattle.strc_sched_machine.specs.Running.{IsMachine, machine_view}
use Rattle.strc_sched.proofs.plain.run_rounds.Given as goal

abbrev pub invariant-loop-round : goal.invariant-loop-round
invariant-loop-round l = record {
  machine : IsMachine (circuit_view l.circuit) l.running;
  marks : IsMarks l.before;
  nodes : map node_view l.before.nodes.now ≡ (circuit_view l.circuit).codes;
  rest : rounds_run (circuit_view l.circuit) (firings_of (units_of l.order)) l.fn.rounds 0
      (machine_view l.fn.machine)
      ≡ rounds_run (circuit_view l.circuit) (firings_of (units_of l.order))
      (l.fn.rounds - l.round) l.round (machine_view l.running);
}
