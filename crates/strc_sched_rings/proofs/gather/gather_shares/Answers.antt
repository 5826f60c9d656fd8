use Rattle.std.proofs.Common.{◌∙◌, ap, length}
use Rattle.strc_sched_laws.specs.Rings.{at_port, moved}
use Rattle.strc_sched_rings.proofs.Gathering.{joined_next}
use Rattle.strc_sched_rings.proofs.Ports.{length-moved}
use Rattle.strc_sched_rings.proofs.gather.gather_shares.Goals as goal

pub loop-port-preserved : goal.loop-port-preserved
loop-port-preserved c =
    let now = c.loop-port.rings in
    let port = c.loop-port.port in
    let moves = c.move_items.ensures
    ∙ ap (λ own. moved own c.args.output c.args.share now) c.ring_of.ensures in
    record {
      rest = joined_next c.args.ways c.args.share c.args.inputs.now c.args.output port now
          c.move_items.new.rings c.loop-port-test.true moves ∙ c.loop-port.invariant.rest;
      each = ap length moves
          ∙ length-moved (at_port c.args.inputs.now port) c.args.output c.args.share now
          ∙ c.loop-port.invariant.each;
    }
