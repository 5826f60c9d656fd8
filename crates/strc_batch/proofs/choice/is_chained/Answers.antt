use Rattle.std.proofs.Common.{ap, ◌∙◌, map, Bool, cond, arith}
use Rattle.strc_elab_graph.specs.NodeView.{node_view}
use Rattle.strc_batch.specs.Choice.{handing_at}
use Rattle.strc_fuse.specs.Units.{round_units}
use Rattle.strc_batch.proofs.Choices.{handed_more, mark_is}
use Rattle.strc_batch.proofs.choice.is_chained.Goals as goal
use Rattle.strc_batch.proofs.choice.is_chained.Goals.{then-hands_on, else-hands_on}

pub loop-place-preserved : goal.loop-place-preserved
loop-place-preserved c =
    let codes = map node_view c.args.nodes.now in
    let units = c.args.units.now in
    let place = c.loop-place.place in
    let mark = mark_is codes units place c.index-units-place.result
    c.index-units-place-in-loop-place.result c.hands_on.result c.loop-place.auto.place
    c.loop-place-test.true c.index-units-place.is c.index-units-place-in-loop-place.is
    c.hands_on.ensures in
    let more = handed_more (handing_at codes (round_units units)) place c.loop-place.auto.place in
    elim c.if-hands_on.branch [
      | then-hands_on w ↦
          let one = mark ∙ ap (λ (t : Bool). cond t 1 0) w.if-hands_on.true in record {
            handed = omega (arith, w.handed-is, one, more, c.loop-place.invariant.handed);
            few = omega (arith, w.handed-is, c.loop-place.invariant.few);
          }
      | else-hands_on w ↦
          let none = mark ∙ ap (λ (t : Bool). cond t 1 0) w.if-hands_on.false in record {
            handed = omega (arith, w.handed-is, none, more, c.loop-place.invariant.handed);
            few = omega (arith, w.handed-is, c.loop-place.invariant.few);
          }
    ]
