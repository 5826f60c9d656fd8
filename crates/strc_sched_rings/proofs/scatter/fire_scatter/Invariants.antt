use Rattle.std.proofs.Common.{◌≡◌, length}
use Rattle.strc_sched_laws.specs.Rings.{scattered_out}
use Rattle.strc_sched_rings.proofs.scatter.fire_scatter.Given as goal

-- so many ports have their parts
abbrev pub invariant-loop-port : goal.invariant-loop-port
invariant-loop-port l = record {
  given : l.rings ≡ scattered_out l.fission l.input l.outputs l.port l.fn.rings;
  each : length l.rings ≡ length l.fn.rings;
}
