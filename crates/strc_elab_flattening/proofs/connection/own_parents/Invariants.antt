use Rattle.std.proofs.Common.{◌≡◌, length, EachIndex}
use Rattle.strc_elab_flattening.specs.Connecting.{IsRoot}
use Rattle.strc_elab_flattening.proofs.connection.own_parents.Given as goal

-- the numbers so far are roots
abbrev pub invariant-loop-number : goal.invariant-loop-number
invariant-loop-number l =
    (length l.parents.items ≡ l.number) × EachIndex l.parents.items (IsRoot l.parents.items)
