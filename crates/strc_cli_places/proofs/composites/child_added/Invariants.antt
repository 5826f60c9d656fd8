use Rattle.std.proofs.Common.{◌≡◌, drop}
use Rattle.strc_cli_places.specs.Streams.{child_added}
use Rattle.strc_cli_places.proofs.composites.child_added.Given as goal

abbrev pub invariant-loop-declaration : goal.invariant-loop-declaration
invariant-loop-declaration l = child_added l.at (drop l.declaration-index l.declarations)
    ≡ child_added l.at l.declarations
