-- The parcels that a stage makes are those of the generic stage, up to the first stop.
use Rattle.std.proofs.Common.{◌≡◌, refl, sym, ap, ◌∙◌, subst, ℕ, zero, suc, ◌+◌, ◌<◌, ◌≤◌, ℤ, Bool}
use Rattle.std.proofs.Common.{false, cond, List, [], ◌∷◌, length, Option, Some, None, arith}
use Rattle.std.proofs.Common.{is_some, true≢false, ◌||◌}
use mathlib.Core.Logic.{inl, inr, ◌⊎◌}
use Rattle.strc_work_meaning.specs.declared.fault.Cause.{Cause}
use Rattle.strc_work_meaning.specs.declared.word.Word.{Word}
use Rattle.strc_elab_dataflow.specs.Machine as generic
use Rattle.strc_elab_dataflow.specs.Node.{ByPort}
use Rattle.strc_elab_dataflow.specs.Queues.{FifoProgress, FifoProgress.FifoWent, fifo_go}
use Rattle.strc_elab_dataflow.specs.Queues.{FifoProgress.FifoStopped}
use Rattle.strc_stage_core.specs.Actors as actors
use Rattle.strc_stage_core.specs.Actors.{is_passing, stop_of, next, made, MayStop, Step, or_else}
use Rattle.strc_stage_core.specs.States.{Runs}
use Rattle.strc_sched_outcome.specs.declared.stop.Stop.{Stop}
use Rattle.strc_sched_outcome.specs.declared.stop.Stop.TheVariants as stop
use Rattle.strc_stage_core.specs.Parcels.{Load, ParcelView}
use Rattle.strc_sched_laws.specs.Fits.{Queues}
use Rattle.strc_sched_laws.specs.Machine as machines
use Rattle.strc_sched_laws.specs.Machine.{MachineView}
use Rattle.strc_elab_dataflow.specs.Restart.{numbered_on}
use Rattle.strc_elab_dataflow.specs.Parcels.{HasMoved, IsWorking}
use Rattle.strc_elab_dataflow.specs.Stages.{Parcel, Parcel.Moves, Parcel.Halts, Stage, Stage.Works}
use Rattle.strc_elab_dataflow.specs.Stages.{Stage.Halted, Stepped, entered, sent, step}
use Rattle.strc_elab_dataflow.specs.Workers.{MayStep, AreSteps, AreParcels}
use Rattle.strc_elab_dataflow.proofs.Sent.{StepComes, step_works}
use Rattle.strc_stage_steps.specs.Steps.{StageState, stage_work, stage_run, due_stop_of}
use Rattle.strc_stage_steps.specs.Steps.{stop_of_run}
use Rattle.strc_stage_steps.specs.Steps.{state_of_step, load_of_step, with_machine, machine_after}
use Rattle.strc_stage_steps.specs.Steps.{load_after}
use Rattle.strc_stage_steps.specs.Holding.{StepsAlike}
use Rattle.strc_stage_steps.proofs.Held.{IsHeld, IsLoaded}
use Rattle.strc_stage_steps.proofs.OneStep.{step_alike}
use Rattle.strc_stage_steps.proofs.Setting.{Setting, staging, is_staging}

abbrev pub Worker : Type 0
Worker = actors.Stage StageState Stop

abbrev pub Generic : Type 0
Generic = Parcel Cause Word

abbrev pub GenericStage : Type 0
GenericStage = Stage (List ℤ) Cause Word

-- ---- what is known of a step

-- a stopped parcel goes on with its stop
pub step_passes : (worker later : Worker) (taken result : ParcelView) (why : Stop)
    → Step stage_work worker taken later result → taken.stop ≡ Some why
    → result.stop ≡ Some why
unfolding Step is_passing stop_of made next
step_passes worker later taken result why (stop, goes, may, later_is, result_is) is =
    ap (λ (p : ParcelView). p.stop) result_is ∙ elim may [
      | inl e ↦ e ∙ ap (λ (o : Option Stop). or_else o (or_else worker.stop
          (stage_work.due_stop worker.inner taken.load))) is
      | inr refused ↦ absurd (true≢false (sym (ap (λ (o : Option Stop).
          is_some o || is_some worker.stop) is) ∙ refused.0))
    ]

-- what a step of a stage without a stop makes of a parcel without one
pub record IsDone (worker later : Worker) (taken result : ParcelView) (due : Option Stop)
    : Type 0 where
  pub stop : result.stop ≡ due
  pub load : result.load ≡ load_of_step worker.inner taken.load worker.inner.machine due
  pub later_stop : later.stop ≡ due
  pub inner : later.inner ≡ state_of_step worker.inner taken.load worker.inner.machine due

pub step_does : (worker later : Worker) (taken result : ParcelView)
    → Step stage_work worker taken later result → worker.stop ≡ None → taken.stop ≡ None
    → (result.stop ≡ Some stop.NoMemory)
    ⊎ IsDone worker later taken result
    (due_stop_of worker.inner taken.load worker.inner.machine)
unfolding Step is_passing stop_of made next
step_does worker later taken result (stop, goes, may, later_is, result_is) none unstopped =
    elim may [
      | inl e ↦ inr (
          let passing : (is_some taken.stop || is_some worker.stop) ≡ false =
          ap (λ (o : Option Stop). is_some o || is_some worker.stop) unstopped
          ∙ ap is_some none in
          let due : stop ≡ due_stop_of worker.inner taken.load worker.inner.machine =
          e ∙ ap (λ (o : Option Stop). or_else o (or_else worker.stop
          (due_stop_of worker.inner taken.load worker.inner.machine))) unstopped
          ∙ ap (λ (o : Option Stop). or_else o
          (due_stop_of worker.inner taken.load worker.inner.machine)) none in
          record {
            stop = ap (λ (p : ParcelView). p.stop) result_is ∙ due;
            load = ap (λ (p : ParcelView). p.load) result_is
                ∙ ap (λ (b : Bool). cond b taken.load
                (load_of_step worker.inner taken.load worker.inner.machine stop)) passing
                ∙ ap (load_of_step worker.inner taken.load worker.inner.machine) due;
            later_stop = ap (λ (w : Worker). w.stop) later_is ∙ due;
            inner = ap (λ (w : Worker). w.inner) later_is
                ∙ ap (λ (b : Bool). cond b worker.inner
                (state_of_step worker.inner taken.load worker.inner.machine stop)) passing
                ∙ ap (state_of_step worker.inner taken.load worker.inner.machine) due;
          })
      | inr refused ↦ inl (ap (λ (p : ParcelView). p.stop) result_is ∙ refused.1)
    ]

-- ---- the generic stage, with the same refusals

module _ (s : Setting) where
  -- a step; memory may be refused
  abbrev pub one_made : (a : ℕ) → GenericStage → Generic → Option Stop
      → Stepped (List ℤ) Cause Word
  one_made a stage (Halts why) refusal = step (staging s) a stage (Halts why)
  one_made a stage (Moves blocks words) None = step (staging s) a stage (Moves blocks words)
  one_made a stage (Moves blocks words) (Some (stop.Fault node firing cause)) =
      step (staging s) a stage (Moves blocks words)
  one_made a stage (Moves blocks words) (Some stop.NoMemory) =
      record { stage = Halted; parcel = Halts None }

  -- the parcels that the generic stage makes of these, where memory is refused as it was
  abbrev pub all_made : (a : ℕ) → GenericStage → (taken : List Generic)
      → (result : List ParcelView) → List Generic
  all_made a stage (parcel ∷ taken) (p ∷ result) =
      (one_made a stage parcel p.stop).parcel
      ∷ all_made a (one_made a stage parcel p.stop).stage taken result
  all_made a stage _ _ = []

  one_steps : (a : ℕ) (stage : GenericStage) (parcel : Generic) (refusal : Option Stop)
      → MayStep (staging s) a stage parcel (one_made a stage parcel refusal).stage
      (one_made a stage parcel refusal).parcel
  one_steps a stage (Halts why) refusal = inl (refl, refl)
  one_steps a stage (Moves blocks words) None = inl (refl, refl)
  one_steps a stage (Moves blocks words) (Some (stop.Fault node firing cause)) =
      inl (refl, refl)
  one_steps a stage (Moves blocks words) (Some stop.NoMemory) = inr (tt, refl, refl)

  -- these are steps of it
  pub made_steps : (a : ℕ) (stage : GenericStage) (taken : List Generic)
      (result : List ParcelView) → length taken ≡ length result
      → (end : GenericStage)
      × AreSteps (staging s) a stage taken (all_made a stage taken result) end
  made_steps a stage [] [] e = (stage, refl)
  made_steps a stage (parcel ∷ taken) (p ∷ result) e =
      let (end, rest) = made_steps a (one_made a stage parcel p.stop).stage taken result
      (omega (arith, e)) in (
        end,
        ((one_made a stage parcel p.stop).stage, (one_steps a stage parcel p.stop, rest)),
      )
  made_steps a stage [] (p ∷ result) e = absurd (omega (arith, e))
  made_steps a stage (parcel ∷ taken) [] e = absurd (omega (arith, e))

  pub made_length : (a : ℕ) (stage : GenericStage) (taken : List Generic)
      (result : List ParcelView) → length taken ≡ length result
      → length (all_made a stage taken result) ≡ length result
  made_length a stage [] [] e = refl
  made_length a stage (parcel ∷ taken) (p ∷ result) e =
      ap suc (made_length a (one_made a stage parcel p.stop).stage taken result
      (omega (arith, e)))
  made_length a stage [] (p ∷ result) e = absurd (omega (arith, e))
  made_length a stage (parcel ∷ taken) [] e = absurd (omega (arith, e))

  -- ---- parcels of both

  -- a parcel that goes on has the same blocks and words; one that is stopped by a fault names it,
  -- by the firing of the node's whole life
  abbrev pub Relates : Option Stop → Load → Generic → Type 0
  Relates None load (Moves blocks words) = IsLoaded s load blocks words
  Relates None load (Halts why) = ⊥
  Relates (Some (stop.Fault node firing cause)) load parcel =
      (why : generic.Stop Cause) × (parcel ≡ Halts (Some why))
      × (numbered_on s.from why ≡ record { node = node; firing = firing; cause = cause })
  Relates (Some stop.NoMemory) load parcel = Unit {0}

  -- the first so many, up to the first stop
  abbrev pub Related : ℕ → List ParcelView → List Generic → Type 0
  Related zero parcels others = Unit {0}
  Related (suc n) [] [] = Unit {0}
  Related (suc n) (p ∷ parcels) (parcel ∷ others) =
      Relates p.stop p.load parcel × (p.stop ≡ None → Related n parcels others)
  Related (suc n) _ _ = ⊥

  module _ (collection : List Generic) (a : ℕ) (is_stage : a < suc s.last) where
    abbrev Follows : ℕ → ℕ → Queues → (taken made : List ParcelView) → List Generic → Type 0
    Follows n t now taken result others = Related n result (all_made a (Works now) others result)

    module _ (n t : ℕ) (worker later : Worker) (q p : ParcelView)
        (taken result : List ParcelView) (now : Queues) (others : List Generic)
        (is_round : t < s.rounds) (none : worker.stop ≡ None) (held : IsHeld s a worker.inner now)
        (working : IsWorking (staging s) a t now) (does : Step stage_work worker q later p)
        (ih : (next : Queues) → later.stop ≡ None → IsHeld s a later.inner next
        → IsWorking (staging s) a (suc t) next
        → AreParcels (staging s) collection a (suc t) others → q.stop ≡ None
        → Related n result (all_made a (Works next) others result)) where
      -- what is to hold, where the parcel's stop and what the generic stage makes are known
      abbrev Goal : Option Stop → Stepped (List ℤ) Cause Word → Type 0
      Goal why stepped = Relates why p.load stepped.parcel
          × (why ≡ None → Related n result (all_made a stepped.stage others result))

      known : (parcel : Generic) (why : Option Stop) (stepped : Stepped (List ℤ) Cause Word)
          → p.stop ≡ why → one_made a (Works now) parcel why ≡ stepped → Goal why stepped
          → Goal p.stop (one_made a (Works now) parcel p.stop)
      known parcel why stepped e f goal =
          subst (λ (o : Option Stop). Goal o (one_made a (Works now) parcel o)) (sym e)
          (subst (Goal why) (sym f) goal)

      memory : (parcel : Generic) → p.stop ≡ Some stop.NoMemory
          → Goal p.stop (one_made a (Works now) parcel p.stop)
      memory parcel e =
          known parcel (Some stop.NoMemory)
          (one_made a (Works now) parcel (Some stop.NoMemory)) e refl
          (tt, λ f. absurd (true≢false (ap is_some f)))

      passes : (parcel : Generic) (node firing : ℕ) (cause : Cause)
          → q.stop ≡ Some (stop.Fault node firing cause)
          → (why : generic.Stop Cause) → parcel ≡ Halts (Some why)
          → numbered_on s.from why ≡ record { node = node; firing = firing; cause = cause }
          → Goal p.stop (one_made a (Works now) parcel p.stop)
      unfolding step
      passes parcel node firing cause e why f same =
          known parcel (Some (stop.Fault node firing cause)) (record {
            stage = Halted;
            parcel = Halts (Some why);
          })
          (step_passes worker later q p (stop.Fault node firing cause) does e)
          (ap (λ (g : Generic). one_made a (Works now) g (Some (stop.Fault node firing cause))) f)
          ((why, refl, same), λ g. absurd (true≢false (ap is_some g)))

      module _ (blocks : ℕ → ByPort) (words : ℕ → List Word)
          (moved : HasMoved (staging s) a t blocks words) (loaded : IsLoaded s q.load blocks words)
          (unstopped : q.stop ≡ None)
          (are : AreParcels (staging s) collection a (suc t) others) where
        abbrev machine : MachineView
        machine = held.machine

        abbrev progress : FifoProgress (List ℤ) Cause Word
        progress = fifo_go (staging s).meaning (staging s).graph ((staging s).segment a)
            (entered (staging s) a now blocks)

        went_on : (fifo : FifoProgress (List ℤ) Cause Word) (run : machines.Progress)
            → progress ≡ fifo → stage_run worker.inner q.load machine ≡ run
            → StepsAlike s.running s.from s.bound s.last s.circuit (staging s) a worker.inner
            q.load blocks words fifo run
            → StepComes (staging s) a t blocks words fifo
            → IsDone worker later q p (due_stop_of worker.inner q.load worker.inner.machine)
            → Goal p.stop (one_made a (Works now) (Moves blocks words) p.stop)
        unfolding step sent
        went_on (FifoWent next) (machines.Went m) went ran (next_held, next_loaded) comes done =
            let due : due_stop_of worker.inner q.load worker.inner.machine ≡ None =
            ap (due_stop_of worker.inner q.load) held.machine_is ∙ ap stop_of_run ran in
            let load : p.load ≡ load_after worker.inner q.load (machines.Went m) =
            done.load ∙ ap (load_of_step worker.inner q.load worker.inner.machine) due
            ∙ ap (λ (o : Option MachineView). load_of_step worker.inner q.load o None)
            held.machine_is ∙ ap (load_after worker.inner q.load) ran in
            let inner : later.inner ≡ with_machine worker.inner
            (machine_after worker.inner (machines.Went m)) =
            done.inner ∙ ap (state_of_step worker.inner q.load worker.inner.machine) due
            ∙ ap (λ (o : Option MachineView). state_of_step worker.inner q.load o None)
            held.machine_is
            ∙ ap (λ (r : machines.Progress). with_machine worker.inner
            (machine_after worker.inner r)) ran in
            known (Moves blocks words) None (sent (staging s) a blocks words (FifoWent next))
            (done.stop ∙ due) (ap (sent (staging s) a blocks words) went) (
              subst (λ (l : Load). Relates None l
                  (sent (staging s) a blocks words (FifoWent next)).parcel) (sym load) next_loaded,
              λ e. ih next (done.later_stop ∙ due)
                  (subst (λ (state : StageState). IsHeld s a state next) (sym inner) next_held)
                  comes.0 are unstopped,
            )
        went_on (FifoStopped why) (machines.Stopped node firing cause) went ran same comes done =
            let due : due_stop_of worker.inner q.load worker.inner.machine
            ≡ Some (stop.Fault node firing cause) =
            ap (due_stop_of worker.inner q.load) held.machine_is ∙ ap stop_of_run ran in
            known (Moves blocks words) (Some (stop.Fault node firing cause))
            (sent (staging s) a blocks words (FifoStopped why))
            (done.stop ∙ due) (ap (sent (staging s) a blocks words) went) (
              (why, refl, same),
              λ g. absurd (true≢false (ap is_some g)),
            )
        went_on (FifoWent next) (machines.Stopped node firing cause) went ran same comes done =
            absurd same
        went_on (FifoStopped why) (machines.Went m) went ran same comes done = absurd same

        moves : Goal p.stop (one_made a (Works now) (Moves blocks words) p.stop)
        moves = elim (step_does worker later q p does none unstopped) [
          | inl refused ↦ memory (Moves blocks words) refused
          | inr done ↦ went_on progress (stage_run worker.inner q.load machine) refl refl
              (step_alike s a t is_stage is_round now blocks words working moved worker.inner held
              q.load loaded)
              (step_works (staging s) (is_staging s) a t is_stage is_round now blocks words
              working moved) done
        ]

      one_follows : (parcel : Generic) (why : Option Stop) → q.stop ≡ why
          → Relates why q.load parcel
          → AreParcels (staging s) collection a t (parcel ∷ others)
          → Goal p.stop (one_made a (Works now) parcel p.stop)
      one_follows (Moves blocks words) None e loaded are =
          moves blocks words are.0 loaded e are.1
      one_follows (Halts why) None e loaded are = absurd loaded
      one_follows parcel (Some (stop.Fault node firing cause)) e (why, is, same) are =
          passes parcel node firing cause e why is same
      one_follows parcel (Some stop.NoMemory) e same are =
          memory parcel (step_passes worker later q p stop.NoMemory does e)

    -- the parcels that a stage makes are those of the generic stage
    pub follows : (n t : ℕ) (worker last : Worker) (taken result : List ParcelView) (now : Queues)
        (others : List Generic) → t + length taken ≤ s.rounds → worker.stop ≡ None
        → IsHeld s a worker.inner now → IsWorking (staging s) a t now
        → AreParcels (staging s) collection a t others → Related n taken others
        → Runs (Step stage_work) worker taken result last
        → Related n result (all_made a (Works now) others result)
    follows zero t worker last taken result now others few none held working are related runs = tt
    follows (suc n) t worker last [] [] now [] few none held working are related runs = tt
    follows (suc n) t worker last [] [] now (parcel ∷ others) few none held working are related
        runs = absurd related
    follows (suc n) t worker last (q ∷ taken) (p ∷ result) now (parcel ∷ others) few none held
        working are (here, rest) (later, does, runs) =
        one_follows n t worker later q p taken result now others (omega (arith, few)) none held
        working does
        (λ next later_none later_held later_working later_are unstopped.
        follows n (suc t) later last taken result next others (omega (arith, few)) later_none
        later_held later_working later_are (rest unstopped) runs)
        parcel q.stop refl here are
    follows (suc n) t worker last (q ∷ taken) (p ∷ result) now [] few none held working are related
        runs = absurd related
    follows (suc n) t worker last (q ∷ taken) [] now others few none held working are related runs
        = absurd runs
    follows (suc n) t worker last [] (p ∷ result) now others few none held working are related runs
        = absurd runs
