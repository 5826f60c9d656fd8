use Rattle.std.proofs.Common.{◌≡◌, ◌++◌, drop, map}
use Rattle.strc_fiss.specs.Splitting as spec
use Rattle.strc_fiss.specs.WireView.{wire_view}
use Rattle.strc_fiss.proofs.channels.lasts_of.Given as goal

abbrev pub invariant-loop-wire : goal.invariant-loop-wire
invariant-loop-wire l =
    l.counts.items ++ map (λ (wire : spec.Wire). wire.last)
    (map wire_view (drop l.wire-index l.wires))
    ≡ map (λ (wire : spec.Wire). wire.last) (map wire_view l.wires)
