use Rattle.std.proofs.Common.{◌≡◌, ◌∙◌, ap, arith, get_or, Bool, List, None, false}
use Rattle.std.specs.Prelude.{◌&&◌, not}
use Rattle.std.proofs.lemmas.List.{append-nil}
use Rattle.strc_fuse.specs.Units.{round_units}
use Rattle.strc_stage_plan.specs.Bounds.{begins, begins_at}
use Rattle.strc_stage_plan.proofs.Shares.{kept_more}
use Rattle.strc_stage_plan.proofs.bounds.group_starts.Goals as goal

pub loop-node-preserved : goal.loop-node-preserved
loop-node-preserved c =
    let loops = c.args.graph.now.outer_loops in
    let node = c.loop-node.node in
    let test : c.begins_group.result ≡ begins_at loops (round_units c.args.round.now) node =
    c.begins_group.ensures
    ∙ ap (λ (l : List Bool). begins (get_or loops node None) node && not (get_or l node false))
    c.deref.ensures.value
    ∙ ap (λ (mark : Bool). begins (get_or loops node None) node && not mark)
    (c.in_ok-parted.ensures.marks node (omega (arith, c.loop-node-test.true))) in
    grind (
      arith,
      test,
      kept_more (begins_at loops (round_units c.args.round.now)) node,
      append-nil,
    )
