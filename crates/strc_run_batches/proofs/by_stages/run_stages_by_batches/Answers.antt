use Rattle.std.proofs.Common.{sym, subst, ◌<◌, ◌≤◌, ℤ, List, length}
use Rattle.std.proofs.lemmas.List.{length-map}
use Rattle.strc_elab_graph.specs.NodeView.{node_view}
use Rattle.strc_stage_steps.specs.Plans.{need_of}
use Rattle.strc_stage_cut.specs.Startups.{HasLeft}
use Rattle.strc_run_batches.proofs.Ringing.{left_so, ring_answers, ring_faults}
use Rattle.strc_run_batches.proofs.by_stages.run_stages_by_batches.Goals as goal

pub run_rounds-requires-clause-enough : goal.run_rounds-requires-clause-enough
run_rounds-requires-clause-enough g c κs within =
    let left = left_so c.args.plan.now c.args.batch.now.sizes c.sizes.result.now c.args.input.now
    c.in-Ended.circuit c.in-Ended.machine c.in_ok-circuit.field-0 c.sizes.ensures c.in-Ended.is
    c.in_ok-circuit.ensures in
    subst (λ (l : List ℤ). need_of c.args.plan.now c.args.rounds ≤ length l)
    (sym left.dealt.input_is) c.requires.enough

pub run_rounds-requires-clause-left : goal.run_rounds-requires-clause-left
run_rounds-requires-clause-left g c κs within =
    let left = left_so c.args.plan.now c.args.batch.now.sizes c.sizes.result.now c.args.input.now
    c.in-Ended.circuit c.in-Ended.machine c.in_ok-circuit.field-0 c.sizes.ensures c.in-Ended.is
    c.in_ok-circuit.ensures in
    subst (λ (l : List ℤ). HasLeft c.args.plan.now c.args.batch.now.sizes l c.in-Ended.circuit
    c.in-Ended.machine) (sym left.dealt.input_is) left

pub returns-in-Ended-clause-answer : goal.returns-in-Ended-clause-answer
returns-in-Ended-clause-answer g c =
    let plan = c.args.plan.now in
    let input = c.args.input.now in
    let some = subst (λ n. 0 < n) (sym (length-map plan.graph.nodes node_view)) c.requires.nodes in
    let left = left_so plan c.args.batch.now.sizes c.sizes.result.now input c.in-Ended.circuit
    c.in-Ended.machine c.in_ok-circuit.field-0 c.sizes.ensures c.in-Ended.is
    c.in_ok-circuit.ensures in
    ring_answers plan input c.args.rounds c.args.batch.now c.ranges.rounds.fits c.requires.enough
    some c.requires.batch c.in-Ended.circuit c.in-Ended.machine left c.requires.cut.graph
    c.args.bounds.items c.run_rounds.result c.run_rounds.ensures

pub returns-in-Ended-clause-faults : goal.returns-in-Ended-clause-faults
returns-in-Ended-clause-faults g c =
    let plan = c.args.plan.now in
    let input = c.args.input.now in
    let some = subst (λ n. 0 < n) (sym (length-map plan.graph.nodes node_view)) c.requires.nodes in
    let left = left_so plan c.args.batch.now.sizes c.sizes.result.now input c.in-Ended.circuit
    c.in-Ended.machine c.in_ok-circuit.field-0 c.sizes.ensures c.in-Ended.is
    c.in_ok-circuit.ensures in
    ring_faults plan input c.args.rounds c.args.batch.now c.ranges.rounds.fits c.requires.enough
    some c.requires.batch c.in-Ended.circuit c.in-Ended.machine left c.requires.cut.graph
    c.args.bounds.items c.run_rounds.result c.run_rounds.ensures
