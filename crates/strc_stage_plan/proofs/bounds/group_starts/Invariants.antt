use Rattle.std.proofs.Common.{◌≡◌, filter}
use Rattle.std.specs.List.{range_with_len}
use Rattle.strc_fuse.specs.Units.{round_units}
use Rattle.strc_stage_plan.specs.Bounds.{begins_at}
use Rattle.strc_stage_plan.proofs.bounds.group_starts.Given as goal

abbrev pub invariant-loop-node : goal.invariant-loop-node
invariant-loop-node l =
    l.starts.items
    ≡ filter (begins_at l.fn.graph.outer_loops (round_units l.fn.round)) (range_with_len 0 l.node)
