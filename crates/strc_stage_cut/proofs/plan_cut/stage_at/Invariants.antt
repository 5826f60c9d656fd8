use Rattle.std.proofs.Common.{◌≡◌}
use Rattle.strc_elab_dataflow.specs.Ranges.{stage_within}
use Rattle.strc_stage_cut.specs.Bounds.{bound_in}
use Rattle.strc_stage_cut.proofs.plan_cut.stage_at.Given as goal

abbrev pub invariant-loop-stage : goal.invariant-loop-stage
invariant-loop-stage l = l.found ≡ stage_within (bound_in l.bounds) l.stage l.node
