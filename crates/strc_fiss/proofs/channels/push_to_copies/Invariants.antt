use Rattle.std.proofs.Common.{◌≡◌, ◌++◌, map}
use Rattle.strc_fiss.specs.Numbers.{up_to}
use Rattle.strc_fiss.specs.Splitting.{to_copy}
use Rattle.strc_fiss.specs.WireView.{wire_view}
use Rattle.strc_fiss.proofs.channels.push_to_copies.Given as goal

abbrev pub invariant-loop-copy : goal.invariant-loop-copy
invariant-loop-copy l =
    map wire_view l.wires.items ≡ map wire_view l.fn.wires.items ++ up_to (to_copy l.number) l.copy
