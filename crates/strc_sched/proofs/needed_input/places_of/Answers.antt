use Rattle.std.proofs.Common.{◌∙◌, ap, ◌+◌, arith}
use Rattle.strc_sched.proofs.Counting.{place_here, place_not}
use Rattle.strc_sched.proofs.needed_input.places_of.Goals as goal
use Rattle.strc_sched.proofs.needed_input.places_of.Goals.{then-other-node, else-other-node}

pub loop-other-preserved : goal.loop-other-preserved
loop-other-preserved c =
    let nodes = c.args.nodes.now in
    let place = c.loop-other.other-index in
    let before = c.loop-other.invariant in
    elim c.if-other-node.branch [
      | then-other-node w ↦ record {
        places = w.places-is ∙ ap (λ n. n + 1) before.places
            ∙ place_here nodes place c.loop-other-test.true c.args.node _ w.if-other-node.true;
        few = let e = w.places-is in let f = before.few in omega arith;
      }
      | else-other-node w ↦ record {
        places = w.places-is ∙ before.places
            ∙ place_not nodes place c.loop-other-test.true c.args.node _ w.if-other-node.false;
        few = let e = w.places-is in let f = before.few in omega arith;
      }
    ]
