use Rattle.std.proofs.Common.{◌≡◌, ◌∙◌, refl, sym, ap, subst, Bool, Option, Some, None, Ok, Err}
use Rattle.std.proofs.Common.{inl, inr}
use Rattle.std.proofs.Common.{if◌then◌else◌, map}
use Rattle.strc_sched_laws.specs.Machine.{MachineView, order_run}
use Rattle.strc_stage_core.specs.Parcels.{ParcelView, parcel, emptied}
use Rattle.strc_sched_rings.specs.Circuits.{circuit_view}
use Rattle.strc_sched_orders.specs.Greedy.{firings_of}
use Rattle.strc_sched_machine.specs.Memory.{WantsWordOfOrder}
use Rattle.strc_sched_machine.specs.Running.{HasGone, machine_view, with_rings, with_words}
use Rattle.strc_stage_steps.specs.Steps.{StageState, machine_left, rings_left, words_left}
use Rattle.strc_stage_steps.specs.Steps.{load_left}
use Rattle.strc_stage_steps.specs.Steps.{load_worded, load_entered, machine_entered}
use Rattle.strc_stage_steps.specs.Stages.{state_of}
use Rattle.strc_stage_steps.specs.Stepping.{with_stop}
use Rattle.strc_stage_steps.proofs.Filling.{emptied_entered}
use Rattle.strc_stage_steps.proofs.Wanting.{none_wants, stop_wants}
use Rattle.strc_stage_steps.proofs.Working.{due_or, none_due, state_is, load_is, with_new}
use Rattle.strc_stage_steps.proofs.stage_step.work.Goals as goal

pub fire_order-requires-clause-machine : goal.fire_order-requires-clause-machine
fire_order-requires-clause-machine c = c.enter.ensures.machine _ c.requires.is.machine

pub returns-in-Ok-clause-is : goal.returns-in-Ok-clause-is
returns-in-Ok-clause-is c = record {
  machine = c.hand_words.ensures.machine _ (c.leave.ensures.machine _ c.fire_order.ensures.machine);
  order = c.requires.is.order;
  tapes = c.requires.is.tapes;
  stopped = c.requires.is.stopped;
}

pub returns-in-Ok-clause-worked : goal.returns-in-Ok-clause-worked
returns-in-Ok-clause-worked c =
    let stage = c.args.stage.now in
    let own = c.args.parcel.now in
    let state = state_of stage in
    let machine = machine_view stage.machine in
    let is : state.machine ≡ Some machine =
    ap (λ b. if b then None else Some machine) c.requires.whole in
    let entered = c.enter.ensures.entered
    ∙ ap (λ l. machine_entered l own.load machine) c.deref.ensures.value in
    let next = machine_view c.fire_order.new.self in
    let went = ap (order_run state.circuit state.order) (sym entered) ∙ c.in-Ok.ensures.gone.0 in
    let left = c.leave.ensures.left
    ∙ ap (λ l. with_rings (rings_left l next.rings) next) c.deref-in-Ok.ensures.value in
    let after : machine_view c.hand_words.new.machine
    ≡ machine_left stage.leaving.items stage.tapes.items next =
    c.hand_words.ensures.left
    ∙ (λ i. with_words (words_left (c.deref-in-Ok-2.ensures.value i) (left i).words) (left i)) in
    let parcel_in = c.enter.ensures.left
    ∙ ap (λ l. parcel (load_entered l own.load) own.stop own.last) c.deref.ensures.value in
    let parcel_out = c.leave.ensures.sent
    ∙ (λ i. parcel (load_left (c.deref-in-Ok.ensures.value i) next.rings (parcel_in i).load)
    (parcel_in i).stop (parcel_in i).last) in (
      none_due state own.load machine is next went,
      (λ i. record {
        inner = (with_new state stage.broken c.requires.whole after
            ∙ sym (state_is state own.load machine is next went)) i;
        first = stage.first;
        rounds = stage.rounds;
        taken = stage.taken;
        stop = stage.stop;
        finished = stage.finished;
      }),
      c.hand_words.ensures.sent
          ∙ (λ i. parcel (load_worded (c.deref-in-Ok-2.ensures.value i) (left i).words
          (parcel_out i).load) (parcel_out i).stop (parcel_out i).last)
          ∙ ap (λ l. parcel l own.stop own.last)
          (sym (load_is state own.load machine is next went)),
    )

pub returns-in-Err-clause-worked : goal.returns-in-Err-clause-worked
returns-in-Err-clause-worked c =
    let stage = c.args.stage.now in
    let own = c.args.parcel.now in
    let state = state_of stage in
    let machine = machine_view stage.machine in
    let is : state.machine ≡ Some machine =
    ap (λ b. if b then None else Some machine) c.requires.whole in
    let entered = c.enter.ensures.entered
    ∙ ap (λ l. machine_entered l own.load machine) c.deref.ensures.value in
    let parcel_in = c.enter.ensures.left
    ∙ ap (λ l. parcel (load_entered l own.load) own.stop own.last) c.deref.ensures.value in
    let gone = subst (λ (m : MachineView). HasGone (order_run state.circuit state.order m)
    (Err c.in-Err.stop) (machine_view c.enter.new.machine).words
    (machine_view c.fire_order.new.self)) entered c.in-Err.ensures.gone in (
      due_or state own.load machine is c.in-Err.stop _ _ gone,
      refl,
      refl,
      ap (λ (p : ParcelView). emptied p.load) parcel_in
          ∙ emptied_entered stage.entering.items own.load,
      ap (λ (p : ParcelView). p.stop) parcel_in,
      ap (λ (p : ParcelView). p.last) parcel_in,
    )

pub returns-in-Ok-clause-memory : goal.returns-in-Ok-clause-memory
returns-in-Ok-clause-memory c = none_wants None refl

pub returns-in-Err-clause-memory : goal.returns-in-Err-clause-memory
returns-in-Err-clause-memory c =
    let stage = c.args.stage.now in
    let own = c.args.parcel.now in
    let state = state_of stage in
    let machine = machine_view stage.machine in
    let is : state.machine ≡ Some machine =
    ap (λ b. if b then None else Some machine) c.requires.whole in
    let entered = c.enter.ensures.entered
    ∙ ap (λ l. machine_entered l own.load machine) c.deref.ensures.value in
    let wants = subst (λ (m : MachineView). WantsWordOfOrder state.circuit state.order m
    (Err c.in-Err.stop)) entered c.in-Err.ensures.memory in (
    λ e. (
      machine,
      is,
      stop_wants state.circuit state.order _ c.in-Err.stop wants e,
    )
    )
