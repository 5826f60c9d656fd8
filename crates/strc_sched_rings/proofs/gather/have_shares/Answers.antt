use Rattle.std.proofs.Common.{◌≤◌, ◌∙◌, ap, length, arith, le-leb}
use Rattle.strc_sched_laws.specs.Rings.{at_port, items_at}
use Rattle.strc_sched_rings.proofs.Gathering.{found_next}
use Rattle.strc_sched_rings.proofs.gather.have_shares.Goals as goal

pub loop-port-preserved : goal.loop-port-preserved
loop-port-preserved c =
    let rings = c.args.rings.now in
    let inputs = c.args.inputs.now in
    let port = c.loop-port.port in
    let enough : c.args.share ≤ length (items_at rings (at_port inputs port)) =
    let test = c.if-count_at-share.false in
    let held = c.count_at.ensures ∙ ap (λ own. length (items_at rings own)) c.ring_of.ensures in
    omega arith in
    found_next c.args.ways c.args.share inputs port rings c.loop-port-test.true
    (le-leb c.args.share _ enough) ∙ c.loop-port.invariant
