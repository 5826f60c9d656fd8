use Rattle.std.proofs.Common.{◌≡◌}
use Rattle.strc_stage_core.specs.Seeing.{core_of}
use Rattle.strc_stage_steps.proofs.Advancing.{NoneBefore}
use Rattle.strc_stage_steps.proofs.pipe.Pipe.advance.Given as goal

abbrev pub invariant-loop-actor : goal.invariant-loop-actor
invariant-loop-actor g l = record {
  same : l.self ≡ l.fn.self;
  none : NoneBefore (core_of g.S.StageActor.see g.C.CollectorActor.sees l.fn.self) l.actor;
}
