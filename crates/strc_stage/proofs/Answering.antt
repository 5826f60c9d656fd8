-- What a launch comes to is the answer of the stream equations.
use Rattle.std.proofs.Common.{subst, ℕ, ◌<◌, ◌≤◌, ◌^◌, ℤ, List, length}
use Rattle.std.proofs.Common.{Result, Ok, Err, IfOk}
use Rattle.strc_elab_dataflow.specs.Answer.{Outcome.StartupFault}
use Rattle.strc_elab_dataflow.specs.Streams as trees
use Rattle.strc_work_meaning.specs.declared.fault.Cause.{Cause}
use Rattle.strc_elab_graph.specs.Graphs.{NodeCode}
use Rattle.strc_sched_laws.specs.Laws.{round_order}
use Rattle.strc_sched_laws.specs.Machine.{CircuitView, MachineView, rounds_run}
use Rattle.strc_sched_outcome.specs.declared.outcome.Outcome.{Outcome}
use Rattle.strc_sched_outcome.specs.declared.run_refusal.RunRefusal.{RunRefusal}
use Rattle.strc_sched.specs.Plain.{IsEnding}
use Rattle.strc_stage_plan.specs.Plans.{PlanParts, IsPlan, graph_of, transformed_of}
use Rattle.strc_stage_steps.specs.Plans.{ComesToAnswer, Suffices, need_of}
use Rattle.strc_stage_steps.proofs.PlanRuns.{plan_faults_answer, plan_rings_answer}
use Rattle.strc_stage_steps.proofs.PlanRuns.{plan_rounds_answer}
use Rattle.strc_stage_cut.specs.Launches.{Ring}
use Rattle.strc_stage_cut.specs.Launches.{HasBegun, IsLaunch, bounds_of, start_of}
use Rattle.strc_stage_cut.specs.Startups.{HasEnded as HasLeft, HasFaulted}
use Rattle.strc_stage_cut.specs.Bounds.{bound_in, last_of}
use Rattle.strc_stage_cut.specs.declared.stage_ring.Launch.{Launch}
use Rattle.strc_stage_cut.specs.declared.stage_ring.Launch.TheVariants as launched
use Rattle.strc_stage.specs.Alone.{HasRun}
use Rattle.strc_stage.specs.Answers.{Answer, AnswersPlan, IsOutcomeOf, IsTold, stop_at}
use Rattle.strc_stage.specs.Naming.{IsRenamed}
use Rattle.strc_stage.specs.Running.{HasEnded, IsBegun, IsEndOf}
use Rattle.strc_stage.proofs.Renamed.{told_by, told_so}

module _ (plan : PlanParts) (input : List ℤ) (rounds : ℕ) (few : rounds < 2 ^ 32)
    (supplied : need_of plan rounds ≤ length input) where
  enough : Suffices plan input rounds
  enough = record { few = few; supplied = supplied }

  answered : (tree : trees.Stream NodeCode) → IsPlan plan → (other : Answer) (own outcome : Outcome)
      → ComesToAnswer tree plan input rounds other
      → IsTold (transformed_of plan).nodes other own → IsRenamed plan own outcome
      → IsOutcomeOf tree plan input rounds outcome
  answered tree is other own outcome comes told renamed = record {
    answer = comes.answer;
    is_answer = comes.is_answer;
    told = told_so plan is comes.answer other own outcome comes.named told renamed;
  }

  pub ring_answers : (outcome : Outcome) (workers : ℕ) (ring : Ring)
      → HasBegun plan input rounds workers ring → HasEnded plan (start_of ring) outcome
      → AnswersPlan plan input rounds outcome
  ring_answers outcome workers ring begun (core, state, over, ends) = λ tree program.
      let left = begun.startup in
      let bounds = bounds_of plan workers in
      let ended = plan_rings_answer tree plan input rounds left.old begun.circuit begun.started
      (bound_in bounds) (last_of bounds) (start_of ring) core program left.ready enough
      left.startup begun.ring_is.cut begun.ring_is.beginning state over in
      answered tree left.ready.is ended.outcome ends.own outcome ended.comes
      (ends.tells ended.outcome ended.tells) ends.renamed

  pub fault_answers : (outcome : Outcome) (node firing : ℕ) (cause : Cause)
      → HasFaulted plan input node firing cause
      → IsTold (graph_of plan).nodes (StartupFault (stop_at node firing cause)) outcome
      → AnswersPlan plan input rounds outcome
  fault_answers outcome node firing cause faulted told = λ tree program.
      record {
        answer = StartupFault (stop_at node firing cause);
        is_answer = plan_faults_answer tree plan input rounds faulted.old faulted.first node
            firing cause program faulted.ready enough faulted.is_first faulted.stopped;
        told = told;
      }

  pub run_answers : (circuit : CircuitView) (machine : MachineView)
      → HasLeft plan input circuit machine → (outcome : Outcome)
      → HasRun plan circuit machine rounds outcome → AnswersPlan plan input rounds outcome
  run_answers circuit machine left outcome ran = λ tree program.
      let ended = plan_rounds_answer tree plan input rounds left.old circuit machine program
      left.ready enough left.startup in
      let ending = subst (λ (codes : List NodeCode). IsEnding codes ran.own
      (rounds_run circuit (round_order plan.split.schedule) rounds 0 machine))
      left.startup.circuit_is.codes ran.ending in
      answered tree left.ready.is ended.outcome ran.own outcome ended.comes
      (told_by (transformed_of plan).nodes ended.outcome
      (rounds_run circuit (round_order plan.split.schedule) rounds 0 machine) ran.own ended.tells
      ending) ran.renamed

  -- So of whatever start-up came to.
  pub launch_answers : (outcome : Outcome) (workers : ℕ) (launch : Launch)
      → IsLaunch plan input rounds workers launch → IsEndOf plan launch outcome
      → AnswersPlan plan input rounds outcome
  launch_answers outcome workers (launched.Going ring) begun ended =
      ring_answers outcome workers ring begun ended
  launch_answers outcome workers (launched.Faulted node firing cause) faulted told =
      fault_answers outcome node firing cause faulted told

  -- What is told of a launch is so told of the run.
  pub answers_told : (workers : ℕ) (launch : Launch) → IsLaunch plan input rounds workers launch
      → (result : Result Outcome RunRefusal) → IfOk result (IsEndOf plan launch)
      → IfOk result (AnswersPlan plan input rounds)
  answers_told workers launch launched (Ok outcome) ended =
      launch_answers outcome workers launch launched ended
  answers_told workers launch launched (Err refusal) ended = tt

  -- And what one thread's rounds come to.
  pub runs_told : (circuit : CircuitView) (machine : MachineView)
      → HasLeft plan input circuit machine → (result : Result Outcome RunRefusal)
      → IfOk result (HasRun plan circuit machine rounds)
      → IfOk result (AnswersPlan plan input rounds)
  runs_told circuit machine left (Ok outcome) ran = run_answers circuit machine left outcome ran
  runs_told circuit machine left (Err refusal) ran = tt

  pub faults_told : (node firing : ℕ) (cause : Cause) → HasFaulted plan input node firing cause
      → (result : Result Outcome RunRefusal)
      → IfOk result (IsTold (graph_of plan).nodes (StartupFault (stop_at node firing cause)))
      → IfOk result (AnswersPlan plan input rounds)
  faults_told node firing cause faulted (Ok outcome) told =
      fault_answers outcome node firing cause faulted told
  faults_told node firing cause faulted (Err refusal) told = tt

-- A launch gives a start.
pub launch_begins : (plan : PlanParts) (input : List ℤ) (rounds workers : ℕ) (launch : Launch)
    → IsLaunch plan input rounds workers launch → IsBegun launch
launch_begins plan input rounds workers (launched.Going ring) begun =
    begun.ring_is.beginning.is_start
launch_begins plan input rounds workers (launched.Faulted node firing cause) faulted = tt
