use Rattle.std.proofs.Common.{◌≡◌, length}
use Rattle.strc_sched_rings.proofs.Gathering.{joined_from}
use Rattle.strc_sched_rings.proofs.gather.gather_shares.Given as goal

abbrev pub invariant-loop-port : goal.invariant-loop-port
invariant-loop-port l = record {
  rest : joined_from l.ways l.share l.inputs l.output l.port l.rings
      ≡ joined_from l.ways l.share l.inputs l.output 0 l.fn.rings;
  each : length l.rings ≡ length l.fn.rings;
}
