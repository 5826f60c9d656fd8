use Rattle.std.proofs.Common.{◌≡◌, ◌∙◌, refl, sym, ap, subst, Option, Some, None, is_some}
use Rattle.strc_stage_core.specs.Actors.{or_else}
use Rattle.strc_sched_outcome.specs.declared.stop.Stop.{Stop}
use Rattle.strc_stage_core.specs.Parcels.{ParcelView, parcel, emptied}
use Rattle.strc_stage_steps.specs.Steps.{with_machine}
use Rattle.strc_stage_steps.specs.Stages.{see, state_of}
use Rattle.strc_stage_steps.specs.Stepping.{RunsTo, with_stop}
use Rattle.strc_stage_steps.proofs.Steps.{stopped_runs, halted_runs, working_runs, stopping_runs}
use Rattle.strc_stage_steps.proofs.Wanting.{none_wants, stopped_wants, set_wants}
use Rattle.strc_stage_steps.proofs.stage_step.run.Goals as goal

pub returns-then-stopped-clause-run : goal.returns-then-stopped-clause-run
returns-then-stopped-clause-run c =
    let stage = c.args.stage.now in
    let own = c.args.parcel.now in (
      own.stop,
      subst (λ (s : Option Stop). RunsTo (see stage) own own.stop
          (with_stop (see stage) (state_of stage) s) own) (sym c.stop-stage.ensures)
          (stopped_runs (see stage) own.load own.stop own.last
          (sym c.stopped.ensures ∙ c.if-stopped.true)),
    )

pub returns-in-Some-clause-run : goal.returns-in-Some-clause-run
returns-in-Some-clause-run c =
    let stage = c.args.stage.now in
    let own = c.args.parcel.now in (
      Some c.in-Some.stop,
      halted_runs (state_of stage) stage.first stage.rounds stage.taken stage.stop stage.finished
          c.in-Some.stop c.in-Some.is own.load own.stop own.last
          (sym c.stopped.ensures ∙ c.if-stopped.false) c.set_stop.new.self
          (c.set_stop.ensures
          ∙ ap (λ (s : Stop). parcel own.load (or_else own.stop (Some s)) own.last)
          c.copy.ensures),
    )

pub returns-in-Some-work-clause-run : goal.returns-in-Some-work-clause-run
returns-in-Some-work-clause-run c =
    let stage = c.args.stage.now in
    let own = c.args.parcel.now in
    let stop = c.in-Some-work.stop in
    let worked = c.in-Some-work.ensures.worked in
    let going = sym c.stopped.ensures ∙ c.if-stopped.false in
    let empty = c.empty.ensures
    ∙ (λ i. parcel (worked.3 i) (worked.4 i) (worked.5 i)) in (
      Some stop,
      stopping_runs (state_of stage) stage.first stage.rounds stage.taken stage.stop stage.finished
          c.in_default.is own.load own.stop own.last stop going worked.0 _
          c.set_stop-in-Some-work.new.self
          (λ i. record {
            inner = worked.1 i;
            first = (worked.2 i).first;
            rounds = (worked.2 i).rounds;
            taken = (worked.2 i).taken;
            stop = Some stop;
            finished = (worked.2 i).finished;
          })
          (c.set_stop-in-Some-work.ensures
          ∙ ap (λ (s : Stop). parcel c.empty.new.self.load
          (or_else c.empty.new.self.stop (Some s)) c.empty.new.self.last)
          c.copy-in-Some-work.ensures
          ∙ ap (λ (p : ParcelView). parcel p.load (or_else p.stop (Some stop)) p.last) empty),
    )

pub returns-in_default-work-clause-run : goal.returns-in_default-work-clause-run
returns-in_default-work-clause-run c =
    let stage = c.args.stage.now in
    let own = c.args.parcel.now in
    let worked = c.in_default-work.ensures.worked in
    let going = sym c.stopped.ensures ∙ c.if-stopped.false in (
      None,
      working_runs (state_of stage) stage.first stage.rounds stage.taken stage.stop stage.finished
          c.in_default.is own.load own.stop own.last going worked.0 _ c.work.new.parcel worked.1
          worked.2,
    )

pub returns-then-stopped-clause-memory : goal.returns-then-stopped-clause-memory
returns-then-stopped-clause-memory c = λ none.
    stopped_wants c.args.parcel.now.stop (sym c.stopped.ensures ∙ c.if-stopped.true) none

pub returns-in-Some-clause-memory : goal.returns-in-Some-clause-memory
returns-in-Some-clause-memory c = λ none going.
    stopped_wants c.args.stage.now.stop (ap is_some c.in-Some.is) going

pub returns-in-Some-work-clause-memory : goal.returns-in-Some-work-clause-memory
returns-in-Some-work-clause-memory c = λ none going e.
    let worked = c.in-Some-work.ensures.worked in
    c.in-Some-work.ensures.memory
    (set_wants _ _ _ c.in-Some-work.stop (ap (λ (p : ParcelView). p.stop)
    c.set_stop-in-Some-work.ensures
    ∙ ap (λ (s : Stop). or_else c.empty.new.self.stop (Some s)) c.copy-in-Some-work.ensures)
    (ap (λ (p : ParcelView). p.stop) c.empty.ensures ∙ worked.4) none e)

pub returns-in_default-work-clause-memory : goal.returns-in_default-work-clause-memory
returns-in_default-work-clause-memory c = λ none going.
    none_wants _ (ap (λ (p : ParcelView). p.stop) c.in_default-work.ensures.worked.2 ∙ none)
