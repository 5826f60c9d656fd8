use Rattle.std.proofs.Common.{◌≡◌, ◌++◌, drop}
use Rattle.strc_cli_statements.specs.Statements.{places_where}
use Rattle.strc_cli_statements.proofs.bodies.add_where.Given as goal

abbrev pub invariant-loop-number : goal.invariant-loop-number
invariant-loop-number l = l.found.items
    ++ places_where l.known (drop l.number l.sights) (drop l.number l.places)
    ≡ l.initial.found.items ++ places_where l.known l.sights l.places
