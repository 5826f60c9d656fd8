use Rattle.std.proofs.Common.{◌+◌, arith}
use Rattle.strc_tests_rings.proofs.Collecting.{counter_collects}
use Rattle.strc_tests_rings.proofs.collectors.CounterActor.step.Goals as goal

pub returns : goal.returns
returns c =
    let own = c.args.self.now in
    counter_collects own.finished c.last-self.result own.rounds own.taken own.gathered
    (own.taken + 1) c.count-count.result own.stop c.stop_on-stop.result c.args.parcel
    c.returned.result c.requires.open (omega arith) c.count-count.ensures c.stop_on-stop.ensures
    c.last-self.ensures c.returned.ensures
