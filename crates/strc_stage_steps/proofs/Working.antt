-- What the firings of a round leave.
use Rattle.std.proofs.Common.{◌≡◌, ◌⊎◌, refl, sym, ap, ◌∙◌, subst, ℕ, Bool, false, List, Option}
use Rattle.std.proofs.Common.{Some}
use Rattle.std.proofs.Common.{None, Result, Ok, Err, inl, inr, if◌then◌else◌}
use Rattle.strc_work_meaning.specs.declared.word.Word.{Word}
use Rattle.strc_sched_laws.specs.Machine.{MachineView, Progress, Went, order_run}
use Rattle.strc_sched_outcome.specs.declared.stop.Stop.{Stop}
use Rattle.strc_sched_outcome.specs.declared.stop.Stop.TheVariants as stops
use Rattle.strc_stage_core.specs.Parcels.{Load}
use Rattle.strc_sched_machine.specs.Running.{HasGone}
use Rattle.strc_stage_steps.specs.Steps.{StageState, stage_run, machine_entered, machine_left}
use Rattle.strc_stage_steps.specs.Steps.{due_stop_of, state_of_step, load_of_step, with_machine}
use Rattle.strc_stage_steps.specs.Steps.{stop_of_run, machine_after, load_after, load_entered}
use Rattle.strc_stage_steps.specs.Steps.{load_left}
use Rattle.strc_stage_steps.specs.Steps.{load_worded}

module _ (state : StageState) (load : Load) (machine : MachineView)
    (is : state.machine ≡ Some machine) where
  abbrev pub goes : Progress
  goes = order_run state.circuit state.order (machine_entered state.entering load machine)

  run_is : stage_run state load machine ≡ goes
  unfolding stage_run
  run_is = refl

  pub due_is : due_stop_of state load state.machine ≡ stop_of_run goes
  due_is = ap (due_stop_of state load) is ∙ ap stop_of_run run_is

  module _ (next : MachineView) (went : goes ≡ Went next) where
    pub none_due : due_stop_of state load state.machine ≡ None
    none_due = due_is ∙ ap stop_of_run went

    pub state_is : state_of_step state load state.machine None
        ≡ with_machine state (Some (machine_left state.leaving state.tapes next))
    state_is = ap (λ m. state_of_step state load m None) is
        ∙ ap (λ p. with_machine state (machine_after state p)) (run_is ∙ went)

    pub load_is : load_of_step state load state.machine None
        ≡ load_worded state.tapes next.words
        (load_left state.leaving next.rings (load_entered state.entering load))
    load_is = ap (λ m. load_of_step state load m None) is
        ∙ ap (load_after state load) (run_is ∙ went)

-- A run that was stopped.
pub stops_so : (progress : Progress) (stop : Stop) (before : List (List Word))
    (after : MachineView) → HasGone progress (Err stop) before after
    → (stop_of_run progress ≡ Some stop) ⊎ (stop ≡ stops.NoMemory)
stops_so progress (stops.Fault node firing cause) before after gone = inl (ap stop_of_run gone.0)
stops_so progress stops.NoMemory before after gone = inr refl

-- So it is due, or memory ran out.
pub due_or : (state : StageState) (load : Load) (machine : MachineView)
    → (is : state.machine ≡ Some machine) → (stop : Stop) (before : List (List Word))
    (after : MachineView) → HasGone (goes state load machine is) (Err stop) before after
    → (due_stop_of state load state.machine ≡ Some stop) ⊎ (stop ≡ stops.NoMemory)
due_or state load machine is stop before after gone =
    go (stops_so (goes state load machine is) stop before after gone)
  where
    go : (stop_of_run (goes state load machine is) ≡ Some stop) ⊎ (stop ≡ stops.NoMemory)
        → (due_stop_of state load state.machine ≡ Some stop) ⊎ (stop ≡ stops.NoMemory)
    go (inl due) = inl (due_is state load machine is ∙ due)
    go (inr none) = inr none

-- A stage's state with another machine, where it isn't broken.
pub with_new : (state : StageState) (broken : Bool) → broken ≡ false → {machine next : MachineView}
    → machine ≡ next
    → ◌≡◌ {A = StageState}
    (with_machine state (if broken then None else Some machine)) (with_machine state (Some next))
with_new state broken whole {machine} same =
    ap (λ b. with_machine state (if b then None else Some machine)) whole
    ∙ ap (λ m. with_machine state (Some m)) same
