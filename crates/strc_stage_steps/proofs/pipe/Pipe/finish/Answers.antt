use Rattle.std.proofs.Common.{refl, ap}
use Rattle.strc_stage_core.specs.Seeing.{core_of, core_of_parts}
use Rattle.strc_stage_steps.specs.Steps.{stage_work}
use Rattle.strc_stage_steps.proofs.Happening.{goes_on}
use Rattle.strc_stage_steps.proofs.pipe.Pipe.finish.Goals as goal

pub returns-then-not-has_ended-clause-goes : goal.returns-then-not-has_ended-clause-goes
returns-then-not-has_ended-clause-goes g c =
    let (going, some) = goes_on stage_work
    (core_of_parts g.S.StageActor.see g.C.CollectorActor.sees c.self.inside.parts)
    (core_of g.S.StageActor.see g.C.CollectorActor.sees c.args.self) c.has_ended.result
    (ap (core_of g.S.StageActor.see g.C.CollectorActor.sees) c.self.view_is)
    c.self.invariant.1 c.has_ended.ensures
    c.if-not-has_ended.true in
    (refl, going, some)
