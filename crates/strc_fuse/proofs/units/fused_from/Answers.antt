use Rattle.std.proofs.Common.{drop, subst, ◌+◌}
use Rattle.strc_elab_graph.specs.NodeView.{graph_view}
use Rattle.strc_fuse.specs.Units.{is_free, round_unit, round_units}
use Rattle.strc_fuse.proofs.Marks.{next_more}
use Rattle.strc_fuse.proofs.Steps.{Continues, continues_then}
use Rattle.strc_fuse.proofs.units.fused_from.Goals as goal

pub loop-next-preserved : goal.loop-next-preserved
loop-next-preserved c =
    let free = is_free (graph_view c.args.graph.now) in
    let limit = c.args.threshold in
    let later = round_units c.args.later.now in
    let place = c.loop-next.next-index in
    let next = c.next-item.result in
    let before = round_units c.loop-next.fused.items in
    let left = next_more c.args.later.now place next c.loop-next-test.true c.next-item.is in (
      c.in_ok-take_unit.ensures.free,
      continues_then free limit (round_unit c.args.first.now) later before
          (round_units c.take_unit.new.fused.items) (drop (place + 1) later)
          (round_unit c.loop-next.last.unit) (round_unit next)
          (round_unit c.take_unit.new.last.unit)
          (subst (Continues free limit (round_unit c.args.first.now) later before
          (round_unit c.loop-next.last.unit)) left c.loop-next.invariant.1)
          c.in_ok-take_unit.ensures.goes_on,
    )
