use Rattle.std.proofs.Common.{◌+◌, arith}
use Rattle.strc_tests_rings.proofs.Stepping.{idle_step}
use Rattle.strc_tests_rings.proofs.idle_stages.IdleActor.step.Goals as goal

pub returns : goal.returns
returns c =
    let own = c.args.self.now in
    idle_step own.first own.finished own.rounds own.taken own.refused own.stop c.args.parcel
    c.handed_on-handed.result (own.taken + 1) c.stop_on-stop.result c.marks-last.result
    c.passes-passes.result c.requires.open (omega arith) c.stop_on-stop.ensures
    c.marks-last.ensures c.passes-passes.ensures c.handed_on-handed.ensures
