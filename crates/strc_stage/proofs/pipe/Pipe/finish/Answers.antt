use Rattle.std.proofs.Common.{◌∙◌, ap, subst, sym, map, IfOk}
use Rattle.strc_elab_dataflow.specs.Answer.{Outcome.StartupFault}
use Rattle.strc_elab_graph.specs.NodeView.{GraphParts, node_view}
use Rattle.strc_stage_cut.specs.Startups.{HasFaulted}
use Rattle.strc_stage.specs.Answers.{IsTold, stop_at}
use Rattle.strc_stage.specs.Piped.{HasEnded, HasGoneOn, IsPipe}
use Rattle.strc_stage.proofs.Answering.{faults_told}
use Rattle.strc_stage.proofs.Piping.{over_answers}
use Rattle.strc_stage.proofs.pipe.Pipe.finish.Goals as goal

pub returns-in-Ok-clause-answer : goal.returns-in-Ok-clause-answer
returns-in-Ok-clause-answer c = λ input rounds few supplied is.
    let plan = c.args.self.plan in
    let gone : HasGoneOn plan input rounds c.in-Going.ring =
    subst (IsPipe plan input rounds) c.in-Going.is is in
    over_answers plan input rounds few supplied c.in-Going.ring gone c.in-Ok.ensures.over.0
    c.in-Ok.collector c.in-Ok.ensures.over.1 c.collected.result c.collected.ensures.ending

pub returns-in-Faulted-clause-answer : goal.returns-in-Faulted-clause-answer
returns-in-Faulted-clause-answer c = λ input rounds few supplied is.
    let plan = c.args.self.plan in
    let node = c.in-Faulted.node in
    let firing = c.in-Faulted.firing in
    let cause = c.in-Faulted.cause in
    let faulted : HasFaulted plan input node firing cause =
    subst (IsPipe plan input rounds) c.in-Faulted.is is in
    faults_told plan input rounds few supplied node firing cause faulted c.faulted.result
    (subst (λ nodes. IfOk c.faulted.result (IsTold (map node_view nodes)
    (StartupFault (stop_at node firing cause))))
    (c.nodes.ensures ∙ ap (λ (g : GraphParts). g.nodes) c.graph.ensures.graph)
    c.faulted.ensures.ending)

pub returns-in-Ok-clause-over : goal.returns-in-Ok-clause-over
returns-in-Ok-clause-over c = subst HasEnded (sym c.in-Going.is) c.in-Ok.ensures.over.0

pub returns-in-Faulted-clause-over : goal.returns-in-Faulted-clause-over
returns-in-Faulted-clause-over c = subst HasEnded (sym c.in-Faulted.is) tt
