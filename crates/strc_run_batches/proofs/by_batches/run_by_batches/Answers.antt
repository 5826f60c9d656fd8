use Rattle.std.proofs.Common.{sym, subst, ◌<◌, List, ℕ}
use Rattle.std.proofs.lemmas.List.{length-map}
use Rattle.strc_elab_graph.specs.NodeView.{node_view}
use Rattle.strc_stage_cut.specs.Startups.{HasLeft, IsStartupIn}
use Rattle.strc_run_batches.proofs.Answering.{answers_found, faults_found}
use Rattle.strc_run_batches.proofs.by_batches.run_by_batches.Goals as goal

pub returns-in-Ok-Ended-clause-answer : goal.returns-in-Ok-Ended-clause-answer
returns-in-Ok-Ended-clause-answer c =
    let plan = c.args.plan.now in
    let input = c.args.input.now in
    let some = subst (λ n. 0 < n) (sym (length-map plan.graph.nodes node_view)) c.requires.nodes in
    let left = subst (λ (l : List ℕ). HasLeft plan l input c.in-Ok-Ended.circuit
    c.in-Ok-Ended.machine) c.sizes.ensures
    (subst (IsStartupIn plan c.sizes.result.now input) c.in-Ok-Ended.field-0-is
    c.in-Ok-Ended.ensures) in
    answers_found plan input c.args.rounds c.args.batch.now c.ranges.rounds.fits c.requires.enough
    some c.requires.batch c.in-Ok-Ended.circuit c.in-Ok-Ended.machine left c.run_rounds.result
    c.run_rounds.ensures

pub returns-in-Ok-Ended-clause-faults : goal.returns-in-Ok-Ended-clause-faults
returns-in-Ok-Ended-clause-faults c =
    let plan = c.args.plan.now in
    let input = c.args.input.now in
    let some = subst (λ n. 0 < n) (sym (length-map plan.graph.nodes node_view)) c.requires.nodes in
    let left = subst (λ (l : List ℕ). HasLeft plan l input c.in-Ok-Ended.circuit
    c.in-Ok-Ended.machine) c.sizes.ensures
    (subst (IsStartupIn plan c.sizes.result.now input) c.in-Ok-Ended.field-0-is
    c.in-Ok-Ended.ensures) in
    faults_found plan input c.args.rounds c.args.batch.now c.ranges.rounds.fits c.requires.enough
    some c.requires.batch c.in-Ok-Ended.circuit c.in-Ok-Ended.machine left c.run_rounds.result
    c.run_rounds.ensures
