use Rattle.std.proofs.Common.{◌∙◌, ap, subst}
use Rattle.strc_elab_graph.specs.NodeView.{graph_view}
use Rattle.strc_sched_orders.specs.Greedy.{firings_of}
use Rattle.strc_sched_laws.specs.Circuits.{IsFirst}
use Rattle.strc_sched_laws.specs.Laws.{round_order, startup_order}
use Rattle.strc_sched_laws.specs.Machine.{whole_run}
use Rattle.strc_sched_machine.specs.Batches.{units_of}
use Rattle.strc_sched_rings.specs.Circuits.{circuit_view}
use Rattle.strc_sched.specs.Plain.{IsEnding, ReportsRun}
use Rattle.strc_sched_machine.specs.Running.{machine_view}
use Rattle.strc_sched.proofs.Endings.{outcome_so}
use Rattle.strc_sched.proofs.plain.run_circuit.Goals as goal

pub returns-clause-reported : goal.returns-clause-reported
returns-clause-reported c =
    let graph = graph_view c.args.graph.now in
    let schedule = c.args.schedule.now in
    let rounds = c.args.rounds in
    let circuit = circuit_view c.args.circuit.now in
    let machine = machine_view c.in-Ok-new.machine in
    let startup = c.in-Ok.ensures.firings ∙ ap firings_of c.startup.ensures in
    let round = c.in-Ok-order_of.ensures.firings ∙ ap firings_of c.round.ensures in
    outcome_so c.run_orders.result _ (ReportsRun graph circuit schedule rounds)
    c.run_orders.ensures.ending
    (λ outcome reported. record {
      machine = machine;
      first = subst (λ sizes. IsFirst graph sizes machine) c.sizes.ensures
          c.in-Ok-new.ensures.first;
      known = c.in-Ok-new.ensures.known;
      reported =
          subst (λ codes. IsEnding codes outcome (whole_run circuit (startup_order schedule)
          (round_order schedule) rounds machine)) c.requires.circuit.codes
          (subst (λ order. IsEnding circuit.codes outcome (whole_run circuit order
          (round_order schedule) rounds machine)) startup
          (subst (λ order. IsEnding circuit.codes outcome (whole_run circuit
          (firings_of (units_of c.in-Ok.startup)) order rounds machine)) round reported));
    })
