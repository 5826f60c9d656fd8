use Rattle.std.proofs.Common.{length, arith, ◌≤◌}
use Rattle.strc_elab_graph.specs.NodeView.{graph_view}
use Rattle.strc_sched_laws.specs.Laws.{counts_at, startup_order, round_order}
use Rattle.strc_sched_laws.specs.Machine.{whole_run}
use Rattle.strc_sched_laws.specs.Planned.{items_read}
use Rattle.strc_sched_laws.proofs.RingRuns.{ring_runs}
use Rattle.strc_sched_rings.specs.Circuits.{circuit_view}
use Rattle.strc_sched_machine.proofs.Startable.{all_start}
use Rattle.strc_sched.specs.Plain.{AnswersGraph, IsPlainRefusal, ReportsRun, need_of}
use Rattle.strc_sched.proofs.Endings.{closed_known, outcome_so, memory_so}
use Rattle.strc_sched.proofs.plain.run_plain.Goals as goal

pub returns-in_default-clause-refused : goal.returns-in_default-clause-refused
returns-in_default-clause-refused c =
    let graph = graph_view c.args.graph.now in
    let schedule = c.args.schedule.now in
    let need = c.input_needed-need.ensures in
    let enough = c.if-got-need.false in
    let supplied : need_of graph schedule c.args.rounds ≤ length c.args.input.now =
    omega (arith, need, enough) in
    supplied

pub run_circuit-requires-clause-circuit : goal.run_circuit-requires-clause-circuit
run_circuit-requires-clause-circuit c = c.in-Ok.ensures.circuit

pub run_circuit-requires-clause-starts : goal.run_circuit-requires-clause-starts
run_circuit-requires-clause-starts c =
    all_start (graph_view c.args.graph.now) c.args.schedule.now c.requires.planned

pub run_circuit-requires-clause-ready : goal.run_circuit-requires-clause-ready
run_circuit-requires-clause-ready c = c.in-Ok.ensures.ready

pub returns-clause-enough : goal.returns-clause-enough
returns-clause-enough c =
    let graph = graph_view c.args.graph.now in
    let schedule = c.args.schedule.now in
    let need = c.input_needed-need.ensures in
    let enough = c.if-got-need.false in
    let supplied : need_of graph schedule c.args.rounds ≤ length c.args.input.now =
    omega (arith, need, enough) in
    outcome_so c.run_circuit.result
    (ReportsRun graph (circuit_view c.in-Ok.circuit) schedule c.args.rounds)
    (λ outcome. need_of graph schedule c.args.rounds ≤ length c.args.input.now)
    c.run_circuit.ensures.reported (λ outcome reports. supplied)

pub returns-clause-refused : goal.returns-clause-refused
returns-clause-refused c =
    let graph = graph_view c.args.graph.now in
    let schedule = c.args.schedule.now in
    let need = c.input_needed-need.ensures in
    let enough = c.if-got-need.false in
    let supplied : need_of graph schedule c.args.rounds ≤ length c.args.input.now =
    omega (arith, need, enough) in
    memory_so c.run_circuit.result
    (IsPlainRefusal (need_of graph schedule c.args.rounds) (length c.args.input.now))
    c.run_circuit.ensures.memory supplied

pub returns-clause-answer : goal.returns-clause-answer
returns-clause-answer c =
    let graph = graph_view c.args.graph.now in
    let schedule = c.args.schedule.now in
    let rounds = c.args.rounds in
    let circuit = circuit_view c.in-Ok.circuit in
    let need = c.input_needed-need.ensures in
    let enough = c.if-got-need.false in
    let supplied : items_read graph.nodes (counts_at schedule rounds)
    ≤ length c.args.input.now = omega (arith, need, enough) in
    outcome_so c.run_circuit.result (ReportsRun graph circuit schedule rounds)
    (AnswersGraph graph schedule c.args.input.now rounds) c.run_circuit.ensures.reported
    (λ outcome reports tree program. record {
      ending = whole_run circuit (startup_order schedule) (round_order schedule) rounds
          reports.machine;
      answered = ring_runs tree graph schedule c.args.input.now rounds circuit reports.machine
          program c.requires.planned (closed_known graph reports.known) c.ranges.rounds.fits
          supplied c.in-Ok.ensures.circuit c.in-Ok.ensures.input reports.first;
      reported = reports.reported;
    })
