-- A run of a text and one of its C come to the same, since the stream equations have one answer.
use Rattle.std.proofs.Common.{◌≡◌, subst, ℕ, ◌≤◌, ℤ, List, Option, length}
use Rattle.strc_work_meaning.specs.declared.fault.Cause.{Cause}
use Rattle.strc_work_meaning.specs.declared.word.Word.{Word}
use Rattle.strc_elab_dataflow.specs.Answer.{Outcome, IsAnswer}
use Rattle.strc_elab_dataflow.proofs.Theorem.{stream_answer_is_one}
use Rattle.strc_elab_graph.specs.Meaning.{node_meaning}
use Rattle.strc_elab_stream.specs.Flattening.{tree_of}
use Rattle.strc_elab_stream.specs.Instances.{Stream}
use Rattle.strc_sched_orders.specs.Order.{firing_count}
use Rattle.strc_sched_laws.specs.Laws.{round_order, startup_order}
use Rattle.strc_sched_laws.proofs.Keeping.{nodes_keep_rates}
use Rattle.strc_sched_laws.proofs.Rounds.{orders_find}
use Rattle.strc_stage.specs.Answers.{IsOutcomeOf}
use Rattle.strc_stage_plan.specs.Plans.{PlanParts, IsPlan, graph_of}
use Rattle.strc_stage_steps.specs.Plans.{IsPlanAnswer, need_of}
use Rattle.strc_run.specs.Laws.{OneStream}
use Rattle.strc_run.specs.Plans.{IsPlanOf}
use Rattle.strc_emit_runs.specs.Orders.{TellsEnd}
use Rattle.strc_emit.specs.Emitting.{IsProgramOf}
use Rattle.strc_emit_resolved.proofs.Programs.{known}
use Rattle.strc_emit_texts.specs.Orders.{unchanged}
use Rattle.strc_emit_texts.specs.Runs.{EmittedTextsRunAlike}
use Rattle.strc_emit_texts.specs.Texts.{run_done}
use Rattle.strc_emit_texts.proofs.Orders.{order_kept}
use Rattle.strc_emit_texts.proofs.Texts.{resolved}

module _ (text : List ℕ) (main : Option (List ℕ)) (plan : PlanParts) (c : List ℕ)
    (is : IsPlan plan) (planned : IsPlanOf text (unchanged main) plan)
    (written : IsProgramOf plan c) (input : List ℤ) (rounds : ℕ)
    (enough : need_of plan rounds ≤ length input) where
  abbrev IsIn : (order : List ℕ) → Outcome Cause Word → Type 0
  IsIn order answer = IsAnswer node_meaning (tree_of planned.accepted.stream) input
      (firing_count (startup_order plan.schedule)) (firing_count (round_order plan.schedule))
      (startup_order plan.schedule) order rounds answer

  one_answer : (one other : Outcome Cause Word)
      → IsPlanAnswer (tree_of planned.accepted.stream) plan input rounds one
      → IsPlanAnswer (tree_of planned.accepted.stream) plan input rounds other → one ≡ other
  one_answer one other first second =
      let kept = order_kept plan is planned.accepted.transformed in
      stream_answer_is_one node_meaning (tree_of planned.accepted.stream) input
      (firing_count (startup_order plan.schedule)) (firing_count (round_order plan.schedule))
      (startup_order plan.schedule) (round_order plan.schedule) rounds
      (nodes_keep_rates (tree_of planned.accepted.stream) (graph_of plan) plan.schedule
      planned.whole.flat is.planned
      (known plan c written (resolved text main plan c is planned written)))
      (orders_find (graph_of plan) plan.schedule is.planned (tree_of planned.accepted.stream) input
      rounds planned.whole enough) one other
      (subst (λ (order : List ℕ). IsIn order one) kept first)
      (subst (λ (order : List ℕ). IsIn order other) kept second)

pub run_alike : OneStream → EmittedTextsRunAlike
run_alike law text main plan c setting rounds workers outcome is answers few (are, runs) =
    let program = (answers.means setting).program in
    let streams : runs.accepted.stream ≡ answers.planned.accepted.stream =
    law text (unchanged main) plan plan runs.accepted answers.planned.accepted in
    let enough : need_of plan rounds ≤ length setting.input =
    subst (λ (n : ℕ). need_of plan n ≤ length setting.input) runs.count runs.enough in
    let ran : IsOutcomeOf (tree_of answers.planned.accepted.stream) plan setting.input rounds
    outcome =
    subst (λ (n : ℕ). IsOutcomeOf (tree_of answers.planned.accepted.stream) plan setting.input n
    outcome) runs.count
    (subst (λ (stream : Stream). IsOutcomeOf (tree_of stream) plan setting.input runs.rounds
    outcome) streams runs.answer) in
    let emitted = (answers.means setting).ends rounds few enough in
    let same : emitted.0 ≡ ran.answer =
    one_answer text main plan c is answers.planned answers.written setting.input rounds enough
    emitted.0 ran.answer
    (subst (λ (numbers : List ℤ). IsPlanAnswer (tree_of answers.planned.accepted.stream) plan
    numbers rounds emitted.0) (answers.means setting).spelled.input emitted.1) ran.is_answer in
    record {
      0 = ran.answer;
      1 = ran.told;
      2 = subst (λ (answer : Outcome Cause Word). TellsEnd answer (run_done plan program rounds))
          same emitted.2;
    }
