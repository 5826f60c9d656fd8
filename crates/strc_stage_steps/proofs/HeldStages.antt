-- A stage that has not stopped holds what the generic stage has after as many rounds.
use Rattle.std.proofs.Common.{◌≡◌, refl, sym, ap, ◌∙◌, subst, ℕ, zero, suc, ◌+◌, ◌<◌, ◌≤◌, ℤ}
use Rattle.std.proofs.Common.{List, [], ◌∷◌, length, Option, Some, None, is_some, arith, true≢false}
use mathlib.Core.Logic.{inl, inr}
use Rattle.strc_work_meaning.specs.declared.fault.Cause.{Cause}
use Rattle.strc_work_meaning.specs.declared.word.Word.{Word}
use Rattle.strc_elab_dataflow.specs.Node.{ByPort}
use Rattle.strc_elab_dataflow.specs.Queues.{FifoProgress, FifoProgress.FifoWent, fifo_go}
use Rattle.strc_elab_dataflow.specs.Queues.{FifoProgress.FifoStopped}
use Rattle.strc_elab_dataflow.specs.Parcels.{HasMoved, IsWorking}
use Rattle.strc_elab_dataflow.specs.Stages.{Parcel.Moves, Parcel.Halts, entered}
use Rattle.strc_elab_dataflow.specs.Workers.{AreParcels}
use Rattle.strc_elab_dataflow.proofs.Sent.{StepComes, step_works}
use Rattle.strc_stage_core.specs.Actors.{Step, made, next, or_else, stop_of}
use Rattle.strc_stage_core.specs.States.{Runs}
use Rattle.strc_sched_outcome.specs.declared.stop.Stop.{Stop}
use Rattle.strc_stage_core.specs.Parcels.{ParcelView}
use Rattle.strc_sched_laws.specs.Fits.{Queues}
use Rattle.strc_sched_laws.specs.Machine as machines
use Rattle.strc_sched_laws.specs.Machine.{MachineView}
use Rattle.strc_stage_steps.specs.Holding.{StepsAlike}
use Rattle.strc_stage_steps.specs.Steps.{StageState, due_stop_of, machine_after, stage_run}
use Rattle.strc_stage_steps.specs.Steps.{stage_work, state_of_step, stop_of_run, with_machine}
use Rattle.strc_stage_steps.proofs.Follows.{Generic, IsDone, Related, Relates, Worker, step_does}
use Rattle.strc_stage_steps.proofs.Held.{IsHeld, IsLoaded}
use Rattle.strc_stage_steps.proofs.OneStep.{step_alike}
use Rattle.strc_stage_steps.proofs.Setting.{Setting, staging, is_staging}

-- ---- stops

none_of_all : (a b c : Option Stop) → or_else a (or_else b c) ≡ None
    → (a ≡ None) × (b ≡ None) × (c ≡ None)
none_of_all None None None e = (refl, refl, refl)
none_of_all None None (Some z) e = absurd (true≢false (ap is_some e))
none_of_all None (Some y) c e = absurd (true≢false (ap is_some e))
none_of_all (Some x) b c e = absurd (true≢false (ap is_some e))

-- a step that leaves no stop found none, and came to none
pub record IsUnstopped (worker : Worker) (taken result : ParcelView) : Type 0 where
  pub parcel : taken.stop ≡ None
  pub before : worker.stop ≡ None
  pub due : due_stop_of worker.inner taken.load worker.inner.machine ≡ None
  pub made : result.stop ≡ None

pub none_of_step : (worker later : Worker) (taken result : ParcelView)
    → Step stage_work worker taken later result → later.stop ≡ None
    → IsUnstopped worker taken result
unfolding Step stop_of made next
none_of_step worker later taken result (stop, goes, may, later_is, result_is) none =
    let here : stop ≡ None = sym (ap (λ (w : Worker). w.stop) later_is) ∙ none in
    elim may [
      | inl e ↦ (
          let all = none_of_all taken.stop worker.stop
          (due_stop_of worker.inner taken.load worker.inner.machine) (sym e ∙ here) in
          record {
            parcel = all.0;
            before = all.1;
            due = all.2;
            made = ap (λ (p : ParcelView). p.stop) result_is ∙ here;
          })
      | inr refused ↦ absurd (true≢false (ap is_some (sym refused.1 ∙ here)))
    ]

-- nor did steps before it
pub none_of_runs : (worker last : Worker) (taken result : List ParcelView)
    → Runs (Step stage_work) worker taken result last → last.stop ≡ None → worker.stop ≡ None
none_of_runs worker last [] [] runs none = ap (λ (w : Worker). w.stop) runs ∙ none
none_of_runs worker last (q ∷ taken) (p ∷ result) (later, does, runs) none =
    (none_of_step worker later q p does (none_of_runs later last taken result runs none)).before
none_of_runs worker last (q ∷ taken) [] runs none = absurd runs
none_of_runs worker last [] (p ∷ result) runs none = absurd runs

module _ (s : Setting) (collection : List Generic) (a : ℕ) (is_stage : a < suc s.last) where
  -- what a stage holds before a round
  pub record HoldsAt (t : ℕ) (state : StageState) : Type 0 where
    pub now : Queues
    pub held : IsHeld s a state now
    pub working : IsWorking (staging s) a t now

  -- ---- one step

  module _ (t : ℕ) (worker later : Worker) (q p : ParcelView) (now : Queues)
      (is_round : t < s.rounds) (held : IsHeld s a worker.inner now)
      (working : IsWorking (staging s) a t now) (does : Step stage_work worker q later p)
      (none : later.stop ≡ None) where
    nones : IsUnstopped worker q p
    nones = none_of_step worker later q p does none

    inner_is : later.inner ≡ state_of_step worker.inner q.load worker.inner.machine None
    inner_is = elim (step_does worker later q p does nones.before nones.parcel) [
      | inl refused ↦ absurd (true≢false (ap is_some (sym refused ∙ nones.made)))
      | inr done ↦ done.inner
          ∙ ap (state_of_step worker.inner q.load worker.inner.machine) nones.due
    ]

    module _ (blocks : ℕ → ByPort) (words : ℕ → List Word)
        (moved : HasMoved (staging s) a t blocks words) (loaded : IsLoaded s q.load blocks words)
      where
        abbrev progress : FifoProgress (List ℤ) Cause Word
        progress = fifo_go (staging s).meaning (staging s).graph ((staging s).segment a)
            (entered (staging s) a now blocks)

        went_on : (fifo : FifoProgress (List ℤ) Cause Word) (run : machines.Progress)
            → stage_run worker.inner q.load held.machine ≡ run
            → StepsAlike s.running s.from s.bound s.last s.circuit (staging s) a worker.inner
            q.load blocks words fifo run
            → StepComes (staging s) a t blocks words fifo → HoldsAt (suc t) later.inner
        went_on (FifoWent next) (machines.Went m) ran (next_held, next_loaded) comes =
            record {
              now = next;
              held = subst (λ (state : StageState). IsHeld s a state next)
                  (sym (inner_is
                  ∙ ap (λ (o : Option MachineView). state_of_step worker.inner q.load o None)
                  held.machine_is
                  ∙ ap (λ (r : machines.Progress). with_machine worker.inner
                  (machine_after worker.inner r)) ran)) next_held;
              working = comes.0;
            }
        went_on (FifoStopped why) (machines.Stopped node firing cause) ran same comes =
            absurd (true≢false (ap is_some
            (sym (ap (due_stop_of worker.inner q.load) held.machine_is ∙ ap stop_of_run ran)
            ∙ nones.due)))
        went_on (FifoWent next) (machines.Stopped node firing cause) ran same comes = absurd same
        went_on (FifoStopped why) (machines.Went m) ran same comes = absurd same

        moves : HoldsAt (suc t) later.inner
        moves = went_on progress (stage_run worker.inner q.load held.machine) refl
            (step_alike s a t is_stage is_round now blocks words working moved worker.inner held
            q.load loaded)
            (step_works (staging s) (is_staging s) a t is_stage is_round now blocks words working
            moved)

    holds_on : (parcel : Generic) (others : List Generic) (why : Option Stop) → why ≡ None
        → Relates s why q.load parcel → AreParcels (staging s) collection a t (parcel ∷ others)
        → HoldsAt (suc t) later.inner × AreParcels (staging s) collection a (suc t) others
    holds_on (Moves blocks words) others None e loaded are =
        (moves blocks words are.0 loaded, are.1)
    holds_on (Halts why) others None e loaded are = absurd loaded
    holds_on parcel others (Some why) e relates are = absurd (true≢false (ap is_some e))

  -- ---- all steps

  pub held_on : (n t : ℕ) (worker last : Worker) (taken result : List ParcelView) (now : Queues)
      (others : List Generic) → t + length taken ≤ s.rounds → length taken ≤ n
      → IsHeld s a worker.inner now → IsWorking (staging s) a t now
      → AreParcels (staging s) collection a t others → Related s n taken others
      → Runs (Step stage_work) worker taken result last → last.stop ≡ None
      → HoldsAt (t + length taken) last.inner
  held_on n t worker last [] [] now others few far held working are related runs none =
      subst (λ (m : ℕ). HoldsAt m last.inner) (let e : t ≡ t + 0 = omega arith in e)
      (record {
        now = now;
        held = subst (λ (w : Worker). IsHeld s a w.inner now) runs held;
        working = working;
      })
  held_on zero t worker last (q ∷ taken) (p ∷ result) now others few far held working are related
      runs none = absurd (omega (arith, far))
  held_on (suc n) t worker last (q ∷ taken) (p ∷ result) now (parcel ∷ others) few far held
      working are related (later, does, runs) none =
      let later_none = none_of_runs later last taken result runs none in
      let unstopped = (none_of_step worker later q p does later_none).parcel in
      let (holds, rest) = holds_on t worker later q p now (omega (arith, few)) held working does
      later_none parcel others q.stop unstopped related.0 are in
      subst (λ (m : ℕ). HoldsAt m last.inner)
      (let e : suc t + length taken ≡ t + suc (length taken) = omega arith in e)
      (held_on n (suc t) later last taken result holds.now others (omega (arith, few))
      (omega (arith, far)) holds.held holds.working rest (related.1 unstopped) runs none)
  held_on (suc n) t worker last (q ∷ taken) (p ∷ result) now [] few far held working are related
      runs none = absurd related
  held_on n t worker last (q ∷ taken) [] now others few far held working are related runs none =
      absurd runs
  held_on n t worker last [] (p ∷ result) now others few far held working are related runs none =
      absurd runs
