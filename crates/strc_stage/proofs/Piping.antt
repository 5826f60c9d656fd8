-- What a plan's stages on one thread come to is the answer of the stream equations.
use Rattle.std.proofs.Common.{◌≡◌, ◌∙◌, refl, ap, sym, subst, ℕ, ◌<◌, ◌≤◌, ◌^◌, ℤ, List, [], ◌∷◌}
use Rattle.std.proofs.Common.{◌++◌, map, length, Bool, true, false, ◌&&◌}
use Rattle.std.proofs.Common.{Option, None, slice_get, arith}
use Rattle.std.proofs.Common.{Result, Ok, Err, IfOk}
use Rattle.strc_stage_core.specs.Actors.{Stage}
use Rattle.strc_stage_core.specs.Events.{is_free, is_over}
use Rattle.strc_stage_core.specs.States.{IsStart, first_core}
use Rattle.strc_sched_outcome.specs.declared.outcome.Outcome.{Outcome}
use Rattle.strc_sched_outcome.specs.declared.run_refusal.RunRefusal.{RunRefusal}
use Rattle.strc_sched_laws.specs.Machine.{CircuitView, MachineView}
use Rattle.strc_sched_orders.specs.declared.unit as units
use Rattle.strc_stage_plan.specs.Plans.{PlanParts}
use Rattle.strc_stage_steps.specs.Plans.{need_of}
use Rattle.strc_stage_core.specs.Seeing.{Ring}
use Rattle.strc_stage_steps.specs.Collectors.{sees}
use Rattle.strc_stage_steps.specs.declared.collector.CollectorParts.{CollectorParts}
use Rattle.strc_stage_steps.specs.declared.stage.StageParts.{StageParts}
use Rattle.strc_stage_core.proofs.Starting.{first_state}
use Rattle.strc_stage_core.specs.Parcels.{ParcelView}
use Rattle.strc_sched_outcome.specs.declared.stop.Stop.{Stop}
use Rattle.strc_stage_steps.specs.Steps.{StageState, stage_work}
use Rattle.strc_stage_steps.specs.Pipes.{Beginning, IsStateOf}
use Rattle.strc_stage_cut.specs.Launches.{IsLaunch, IsRingOf, bounds_of, start_of}
use Rattle.strc_stage_cut.specs.Startups.{HasFaulted}
use Rattle.strc_stage_cut.specs.Launches as launching
use Rattle.strc_stage_cut.specs.declared.stage_ring.Launch.{Launch}
use Rattle.strc_stage_cut.specs.declared.stage_ring.Launch.TheVariants as launched
use Rattle.strc_stage.specs.Answers.{AnswersPlan}
use Rattle.strc_stage.specs.Piped.{HasEnded, HasGoneOn, IsFirstOf, IsPipe, StateOf, core_seen}
use Rattle.strc_stage.specs.Running.{EndsSo}
use Rattle.strc_stage.specs.declared.pipe.State.{State}
use Rattle.strc_stage.specs.declared.pipe.State.TheVariants as states
use Rattle.strc_stage.proofs.Answering.{ring_answers}

module _ (plan : PlanParts) (input : List ℤ) (rounds : ℕ) (few : rounds < 2 ^ 32)
    (supplied : need_of plan rounds ≤ length input) where
  pub over_answers : (ring : Ring StageParts CollectorParts) → HasGoneOn plan input rounds ring
      → is_over (core_seen ring) ≡ true → (collector : CollectorParts)
      → collector ≡ ring.collector → (result : Result Outcome RunRefusal)
      → IfOk result (EndsSo plan (sees collector).total (sees collector).stop)
      → IfOk result (AnswersPlan plan input rounds)
  over_answers ring gone over collector same (Ok outcome) ends =
      ring_answers plan input rounds few supplied outcome gone.workers gone.first gone.begun (
        core_seen ring,
        gone.state,
        over,
        subst (λ (c : CollectorParts). EndsSo plan (sees c).total (sees c).stop outcome) same ends,
      )
  over_answers ring gone over collector same (Err refusal) ends = tt

-- What a launch came to, before any event, is a pipe of its plan.
pub launched_pipe : (plan : PlanParts) (input : List ℤ) (rounds workers : ℕ) (launch : Launch)
    (state : State) → IsLaunch plan input rounds workers launch → StateOf launch state
    → IsPipe plan input rounds state
launched_pipe plan input rounds workers (launched.Going first) (states.Going ring) begun same =
    record {
      workers = workers;
      first = first;
      begun = begun;
      state = subst (IsStateOf (start_of first)) (sym same)
          (first_state stage_work (start_of first) begun.ring_is.beginning.is_start);
    }
launched_pipe plan input rounds workers (launched.Faulted node firing cause)
    (states.Faulted at number why) faulted (here, when, because) =
    subst (λ n. HasFaulted plan input n number why) (sym here)
    (subst (λ n. HasFaulted plan input node n why) (sym when)
    (subst (HasFaulted plan input node firing) (sym because) faulted))
launched_pipe plan input rounds workers (launched.Going first) (states.Faulted at number why) begun
    same = absurd same
launched_pipe plan input rounds workers (launched.Faulted node firing cause) (states.Going ring)
    faulted same = absurd same

-- The first core of a start whose collector has finished is over.
abbrev empty_hands : List (Stage StageState Stop) → List (Option ParcelView)
empty_hands stages = map (λ (stage : Stage StageState Stop). None) stages ++ (None ∷ [])

hand_free : (stages : List (Stage StageState Stop))
    → is_free (slice_get (empty_hands stages) (length stages)) ≡ true
hand_free [] = refl
hand_free (stage ∷ stages) = hand_free stages

first_over : (start : Beginning) → start.collector.finished ≡ true
    → is_over (first_core start) ≡ true
unfolding is_over first_core
first_over start finished =
    ap (λ (b : Bool). b && is_free (slice_get (first_core start).hands (length start.stages)))
    finished
    ∙ hand_free start.stages

-- Where there are no rounds nothing is left to happen.
ended_ring : (plan : PlanParts) (fired : List units.Unit.Unit) (bounds : List ℕ)
    (circuit : CircuitView) (started : MachineView) (rounds : ℕ) (first : launching.Ring)
    (ring : Ring StageParts CollectorParts) → rounds ≡ 0
    → IsRingOf plan fired bounds circuit started rounds first → IsFirstOf first ring
    → is_over (core_seen ring) ≡ true
ended_ring plan fired bounds circuit started rounds first ring none is same =
    let beginning = is.beginning in
    ap is_over same
    ∙ first_over (start_of first) (by_done (start_of first).done refl beginning.is_start
    (beginning.rounds_are ∙ none))
  where
    by_done : (done : Bool) → (start_of first).done ≡ done → IsStart (start_of first)
        → (start_of first).collector.rounds ≡ 0 → (start_of first).collector.finished ≡ true
    by_done true done start no_rounds = start.finished_is ∙ done
    by_done false done start no_rounds = absurd (omega (arith, start.goes done, no_rounds))

pub ended_at_once : (plan : PlanParts) (input : List ℤ) (rounds workers : ℕ) (launch : Launch)
    (state : State) → rounds ≡ 0 → IsLaunch plan input rounds workers launch
    → StateOf launch state → HasEnded state
ended_at_once plan input rounds workers (launched.Going first) (states.Going ring) none begun same =
    ended_ring plan plan.split.schedule.round (bounds_of plan workers) begun.circuit begun.started
    rounds first ring none begun.ring_is same
ended_at_once plan input rounds workers (launched.Faulted node firing cause)
    (states.Faulted at number why) none faulted same = tt
ended_at_once plan input rounds workers (launched.Going first) (states.Faulted at number why) none
    begun same = absurd same
ended_at_once plan input rounds workers (launched.Faulted node firing cause) (states.Going ring)
    none faulted same = absurd same
