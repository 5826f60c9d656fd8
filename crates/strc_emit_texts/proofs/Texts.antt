-- The C of a text's plan means what the text's main stream means.
use Rattle.std.proofs.Common.{◌≡◌, sym, ap, subst, ℕ, ◌<◌, ◌≤◌, ◌^◌, ℤ, List, Option, length}
use Rattle.strc_elab_dataflow.specs.Answer.{IsAnswer}
use Rattle.strc_elab_graph.specs.Meaning.{node_meaning}
use Rattle.strc_elab.specs.Sound.{IsElaborated}
use Rattle.strc_elab.proofs.Soundness.{elaborated_is_sound}
use Rattle.strc_elab_stream.specs.Flattening.{tree_of}
use Rattle.strc_sched_orders.specs.Order.{firing_count}
use Rattle.strc_sched_laws.specs.Laws.{round_order, startup_order, counts_at}
use Rattle.strc_sched_laws.specs.Planned.{items_read}
use Rattle.strc_stage_plan.specs.Plans.{PlanParts, IsPlan, IsWhole, graph_of}
use Rattle.strc_stage_steps.specs.Names.{plan_order}
use Rattle.strc_stage_steps.specs.Plans.{need_of}
use Rattle.strc_run.specs.Plans.{IsPlanOf}
use Rattle.strc_emit_moves.specs.declared.places.Phase.TheVariants as phase
use Rattle.strc_emit_runs.specs.Running.{Program}
use Rattle.strc_emit.specs.Emitting.{IsProgramOf}
use Rattle.strc_emit_plans.specs.Answers.{HasInput, IsAnswerOf}
use Rattle.strc_emit_plans.specs.Firsts.{first_running}
use Rattle.strc_emit_plans.proofs.Declared.{declared_is_first}
use Rattle.strc_emit_answers.proofs.Answers.{plans_spell}
use Rattle.strc_emit_answers.proofs.Orders.{orders_spell}
use Rattle.strc_emit_resolved.specs.Programs.{AreResolved, RunSetting}
use Rattle.strc_emit_resolved.proofs.Elaborated.{instances_are_resolved}
use Rattle.strc_emit_resolved.proofs.Programs.{known, resolved_plans_answer}
use Rattle.strc_emit_texts.specs.Orders.{unchanged}
use Rattle.strc_emit_texts.specs.Texts.{EmittedTextsAnswer, EndsWithAnswer, MeansTree, run_done}
use Rattle.strc_emit_texts.proofs.Orders.{order_kept}

module _ (text : List ℕ) (main : Option (List ℕ)) (plan : PlanParts) (c : List ℕ)
    (is : IsPlan plan) (planned : IsPlanOf text (unchanged main) plan)
    (written : IsProgramOf plan c) where
  sound : IsElaborated planned.accepted.stream
  sound = elaborated_is_sound planned.accepted.program main planned.accepted.stream
      planned.accepted.elaborates

  -- the plan's graph is that of the text's main stream
  whole : IsWhole (graph_of plan)
  whole = record {
    stream = planned.accepted.stream;
    closed = sound.closed;
    program = planned.whole;
    connected = is.whole.connected;
    loops = planned.accepted.loops;
  }

  plan_is : IsPlan plan
  plan_is = record is { whole = whole }

  pub resolved : AreResolved (graph_of plan)
  unfolding whole
  resolved = instances_are_resolved (graph_of plan) whole sound.instances

  ends : (program : Program) (rounds : ℕ)
      → IsAnswerOf (tree_of planned.accepted.stream) plan.schedule program rounds
      (run_done plan program rounds)
      → EndsWithAnswer (tree_of planned.accepted.stream) plan program rounds
  ends program rounds answered = record {
    0 = answered.0;
    1 = subst (λ (order : List ℕ). IsAnswer node_meaning (tree_of planned.accepted.stream)
        program.input (firing_count (startup_order plan.schedule))
        (firing_count (round_order plan.schedule)) (startup_order plan.schedule) order rounds
        answered.0) (sym (order_kept plan is planned.accepted.transformed)) answered.1;
    2 = answered.2;
  }

  means : (setting : RunSetting) → MeansTree (tree_of planned.accepted.stream) plan c setting
  unfolding plan_is whole
  means setting =
      let made = resolved_plans_answer plan c setting plan_is written resolved in
      record {
        program = made.0;
        spelled = made.1;
        fires = λ when number code.
            plans_spell plan c made.1.written made.0 when number code plan_is
            (known plan c written resolved) made.1.is;
        startup = orders_spell made.0 phase.Startup plan.schedule.startup;
        round = orders_spell made.0 phase.Round plan.schedule.round;
        ends = λ rounds few enough.
            let input : HasInput plan.graph plan.schedule made.0 rounds =
            subst (λ (numbers : List ℤ). need_of plan rounds ≤ length numbers)
            (sym made.1.input) enough in
            ends made.0 rounds
            (made.2 rounds (first_running made.0) few input (declared_is_first made.0));
      }

pub emitted_texts_answer : EmittedTextsAnswer
emitted_texts_answer text main plan c is planned written = record {
  planned = planned;
  written = written;
  means = means text main plan c is planned written;
}
