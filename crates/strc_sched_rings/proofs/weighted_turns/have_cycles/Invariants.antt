use Rattle.std.proofs.Common.{ℕ, ◌<◌, ◌≤◌, ◌*◌, length}
use Rattle.std.specs.Prelude.{slice_index}
use Rattle.strc_sched_laws.specs.Rings.{at_port, items_at}
use Rattle.strc_sched_rings.proofs.weighted_turns.have_cycles.Given as goal

abbrev pub invariant-loop-port : goal.invariant-loop-port
invariant-loop-port l = (port : ℕ) → port < l.port
    → l.count * slice_index l.weights port ≤ length (items_at l.rings (at_port l.inputs port))
