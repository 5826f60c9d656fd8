use Rattle.std.proofs.Common.{◌≡◌}
use Rattle.strc_sched_rings.proofs.Gathering.{found_from}
use Rattle.strc_sched_rings.proofs.gather.have_shares.Given as goal

abbrev pub invariant-loop-port : goal.invariant-loop-port
invariant-loop-port l = found_from l.ways l.share l.inputs l.port l.rings
    ≡ found_from l.ways l.share l.inputs 0 l.rings
