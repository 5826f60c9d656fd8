use Rattle.std.proofs.Common.{ap, arith, length}
use Rattle.strc_stage_core.specs.Seeing.{core_of}
use Rattle.strc_stage_steps.proofs.Advancing.{none_at_all}
use Rattle.strc_stage_steps.proofs.pipe.Pipe.advance.Goals as goal

pub returns-clause-none : goal.returns-clause-none
returns-clause-none g c = λ _. none_at_all
    (core_of g.S.StageActor.see g.C.CollectorActor.sees c.args.self.now) c.loop-actor.actor
    c.loop-actor.invariant.none (omega (
      arith,
      c.loop-actor-test.false,
      c.len-actor-end.ensures,
      c.self.inside.parts.held.ok.0,
      ap (λ ring. length ring.hands) c.self.view_is,
    ))
