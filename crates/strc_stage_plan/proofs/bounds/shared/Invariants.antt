use Rattle.std.proofs.Common.{◌≡◌, map}
use Rattle.std.specs.List.{range_with_len}
use Rattle.strc_stage_plan.specs.Bounds.{bound_at}
use Rattle.strc_stage_plan.proofs.bounds.shared.Given as goal

abbrev pub invariant-loop-stage : goal.invariant-loop-stage
invariant-loop-stage l =
    l.bounds.items ≡ map (bound_at l.nodes l.starts l.stages) (range_with_len 0 l.stage)
