use Rattle.std.proofs.Common.{◌∙◌, ap, subst, map, IfOk}
use Rattle.strc_elab_dataflow.specs.Answer.{Outcome.StartupFault}
use Rattle.strc_elab_graph.specs.NodeView.{GraphParts, node_view}
use Rattle.strc_sched_rings.specs.Circuits.{circuit_view}
use Rattle.strc_sched_machine.specs.Running.{machine_view}
use Rattle.strc_stage_cut.specs.Startups.{HasFaulted, IsStartup}
use Rattle.strc_stage.specs.Answers.{IsTold, stop_at}
use Rattle.strc_stage.proofs.Answering.{faults_told, runs_told}
use Rattle.strc_run_workers.proofs.alone.run_alone.Goals as goal

pub returns-in-Ok-Ended-clause-answer : goal.returns-in-Ok-Ended-clause-answer
returns-in-Ok-Ended-clause-answer c =
    let plan = c.args.plan.now in
    let input = c.args.input.now in
    let left = subst (IsStartup plan input) c.in-Ok-Ended.field-0-is c.in-Ok-Ended.ensures in
    runs_told plan input c.args.rounds c.ranges.rounds.fits c.requires.enough
    (circuit_view c.in-Ok-Ended.circuit) (machine_view c.in-Ok-Ended.machine) left.0
    c.run_rounds.result c.run_rounds.ensures.ending

pub returns-in-Ok-Faulted-clause-answer : goal.returns-in-Ok-Faulted-clause-answer
returns-in-Ok-Faulted-clause-answer c =
    let plan = c.args.plan.now in
    let input = c.args.input.now in
    let node = c.in-Ok-Faulted.node in
    let firing = c.in-Ok-Faulted.firing in
    let cause = c.in-Ok-Faulted.cause in
    let faulted : HasFaulted plan input node firing cause =
    subst (IsStartup plan input) c.in-Ok-Faulted.field-0-is c.in-Ok-Faulted.ensures in
    faults_told plan input c.args.rounds c.ranges.rounds.fits c.requires.enough node firing cause
    faulted c.faulted.result
    (subst (λ nodes. IfOk c.faulted.result (IsTold (map node_view nodes)
    (StartupFault (stop_at node firing cause))))
    (c.nodes.ensures ∙ ap (λ (g : GraphParts). g.nodes) c.graph.ensures.graph)
    c.faulted.ensures.ending)
