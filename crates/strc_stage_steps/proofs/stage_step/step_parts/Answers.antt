use Rattle.std.proofs.Common.{◌≡◌, ◌∙◌, refl, sym, ap, subst, arith, suc, ◌+◌}
use Rattle.strc_stage_core.specs.Actors as actors
use Rattle.strc_stage_core.specs.Parcels.{ParcelView, parcel}
use Rattle.strc_stage_steps.specs.Steps.{StageState}
use Rattle.strc_sched_outcome.specs.declared.stop.Stop.{Stop}
use Rattle.strc_stage_steps.specs.Stages.{see}
use Rattle.strc_stage_steps.specs.Memory.{WantsWordOfStage}
use Rattle.strc_stage_steps.proofs.Steps.{step_is}
use Rattle.strc_stage_steps.proofs.stage_step.step_parts.Goals as goal

pub returns-clause-step : goal.returns-clause-step
returns-clause-step c =
    let (stop, runs) = c.run.ensures.run in
    let is = runs.stage_is in
    let taken = ap (λ (s : actors.Stage StageState Stop). s.taken) is in
    step_is (see c.args.stage.now) (see c.run.new.stage) _ c.args.parcel _ stop c.requires.open
    runs.may (ap (λ (s : actors.Stage StageState Stop). s.inner) is) refl
    (ap (λ (s : actors.Stage StageState Stop). s.first) is)
    (ap (λ (s : actors.Stage StageState Stop). s.rounds) is)
    (omega (arith, taken))
    (ap (λ (s : actors.Stage StageState Stop). s.stop) is)
    c.marks-marked.ensures
    (c.mark_last.ensures
    ∙ (λ i. parcel (runs.parcel_is i).load (runs.parcel_is i).stop (c.marks-marked.ensures i)))

pub returns-clause-memory : goal.returns-clause-memory
returns-clause-memory c = λ none going.
    subst (WantsWordOfStage (see c.args.stage.now).inner c.args.parcel.load)
    (sym (ap (λ (p : ParcelView). p.stop) c.mark_last.ensures))
    (c.run.ensures.memory none going)
