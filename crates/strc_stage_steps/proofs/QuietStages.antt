-- A stage that gives no words never stops out of memory.
use Rattle.std.proofs.Common.{◌≡◌, ◌≢◌, ◌∙◌, refl, sym, ap, subst, Bool, true, false, true≢false}
use Rattle.std.proofs.Common.{cond, ◌||◌, Option, Some, None, is_some, Err, inl, inr}
use Rattle.strc_sched_laws.specs.Machine.{MachineView}
use Rattle.strc_sched_machine.specs.Memory.{AreQuiet}
use Rattle.strc_sched_machine.proofs.Wanting.{quiet_order}
use Rattle.strc_stage_core.specs.Actors.{MayStop, or_else, is_passing, stop_of, next, made, Step}
use Rattle.strc_stage_core.specs.Parcels.{Load, ParcelView}
use Rattle.strc_sched_outcome.specs.declared.stop.Stop.{Stop}
use Rattle.strc_sched_outcome.specs.declared.stop.Stop.TheVariants as stops
use Rattle.strc_stage_steps.specs.Steps.{StageState, stage_work, machine_entered, state_of_step}
use Rattle.strc_stage_steps.specs.Memory.{IsQuiet, QuietStagesWantNoMemory, StageComesToWord}

abbrev HasQuietNodes : StageState → Type 0
HasQuietNodes state = AreQuiet state.circuit state.order

-- A step keeps the circuit and the order.
step_quiet : (state : StageState) (load : Load) (machine : Option MachineView)
    (stop : Option Stop) → HasQuietNodes state
    → HasQuietNodes (state_of_step state load machine stop)
step_quiet state load None None quiet = quiet
step_quiet state load None (Some stop) quiet = quiet
step_quiet state load (Some machine) None quiet = quiet
step_quiet state load (Some machine) (Some stop) quiet = quiet

either_quiet : (passing : Bool) (state other : StageState) → HasQuietNodes state
    → HasQuietNodes other → HasQuietNodes (cond passing state other)
either_quiet true state other first second = first
either_quiet false state other first second = second

-- Where no node gives words, no order comes to one.
never_comes : (state : StageState) (load : Load) → HasQuietNodes state
    → StageComesToWord state load → ⊥
never_comes state load quiet (machine, is, comes) =
    quiet_order state.circuit state.order (machine_entered state.entering load machine)
    (Err stops.NoMemory) quiet comes refl

-- The stop is the parcel's or the stage's, if one has a stop.
no_memory : (own before due stop : Option Stop)
    → MayStop stage_work (is_some own || is_some before) (or_else own (or_else before due)) stop
    → own ≢ Some stops.NoMemory → before ≢ Some stops.NoMemory
    → (own ≡ None → before ≡ None → stop ≢ Some stops.NoMemory) → stop ≢ Some stops.NoMemory
no_memory None None due stop may own_goes before_goes neither = neither refl refl
no_memory (Some own) before due stop (inl is) own_goes before_goes neither =
    λ e. own_goes (sym is ∙ e)
no_memory (Some own) before due stop (inr (passing, is)) own_goes before_goes neither =
    absurd (true≢false passing)
no_memory None (Some before) due stop (inl is) own_goes before_goes neither =
    λ e. before_goes (sym is ∙ e)
no_memory None (Some before) due stop (inr (passing, is)) own_goes before_goes neither =
    absurd (true≢false passing)

pub quiet_stages : QuietStagesWantNoMemory
unfolding Step next made stop_of is_passing
quiet_stages stage later own result quiet own_goes (stop, goes, may, later_is, result_is) only =
    let result_stop : result.stop ≡ stop = ap (λ (p : ParcelView). p.stop) result_is in
    let going : stop ≢ Some stops.NoMemory =
    no_memory own.stop stage.stop (stage_work.due_stop stage.inner own.load) stop may own_goes
    quiet.stop
    (λ own_none stage_none e. never_comes stage.inner own.load quiet.nodes
    (only own_none stage_none (result_stop ∙ e))) in (
      subst IsQuiet (sym later_is) (record {
        nodes = either_quiet (is_passing stage own) stage.inner _ quiet.nodes
            (step_quiet stage.inner own.load stage.inner.machine stop quiet.nodes);
        stop = going;
      }),
      λ e. going (sym result_stop ∙ e),
    )
