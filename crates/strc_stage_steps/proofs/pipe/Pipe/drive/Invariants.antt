use Rattle.std.proofs.Common.{◌+◌, ◌-◌}
use Rattle.strc_stage_core.specs.Events.{acts, most_acts}
use Rattle.strc_stage_steps.specs.Pipes.{KeepsStates}
use Rattle.strc_stage_core.specs.Seeing.{core_of}
use Rattle.strc_stage_steps.proofs.pipe.Pipe.drive.Given as goal

abbrev pub invariant-loop-alloc : goal.invariant-loop-alloc
invariant-loop-alloc g l = KeepsStates
    (core_of g.S.StageActor.see g.C.CollectorActor.sees l.fn.self)
    (core_of g.S.StageActor.see g.C.CollectorActor.sees l.pipe)

abbrev pub decreases-loop-alloc : goal.decreases-loop-alloc
decreases-loop-alloc g l =
    let core = core_of g.S.StageActor.see g.C.CollectorActor.sees l.pipe in
    most_acts core + 1 - acts core
