use Rattle.std.proofs.Common.{drop}
use Rattle.strc_elab_graph.specs.NodeView.{graph_view}
use Rattle.strc_fuse.specs.Steps.{IsMarked}
use Rattle.strc_fuse.specs.Units.{is_free, round_unit, round_units}
use Rattle.strc_fuse.proofs.Steps.{Continues}
use Rattle.strc_fuse.proofs.units.fused_from.Given as goal

abbrev pub invariant-loop-next : goal.invariant-loop-next
invariant-loop-next l =
    IsMarked (is_free (graph_view l.graph)) l.last
    × Continues (is_free (graph_view l.graph)) l.threshold (round_unit l.first)
    (round_units l.later) (round_units l.fused.items) (round_unit l.last.unit)
    (drop l.next-index (round_units l.later))
