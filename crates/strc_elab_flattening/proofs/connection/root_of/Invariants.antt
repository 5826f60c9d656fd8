use Rattle.std.proofs.Common.{◌<◌, length}
use Rattle.strc_elab_flattening.specs.Connecting.{Climbs}
use Rattle.strc_elab_flattening.proofs.connection.root_of.Given as goal

-- climbing from the number on
abbrev pub invariant-loop-root : goal.invariant-loop-root
invariant-loop-root l = (l.root < length l.parents) × Climbs l.parents l.node l.root

abbrev pub decreases-loop-root : goal.decreases-loop-root
decreases-loop-root l = l.root
