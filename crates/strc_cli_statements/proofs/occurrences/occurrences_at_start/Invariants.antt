use Rattle.std.proofs.Common.{◌≡◌, ◌++◌, drop}
use Rattle.strc_cli_statements.specs.OccurrencePlaces.{start_places}
use Rattle.strc_cli_statements.proofs.occurrences.occurrences_at_start.Given as goal

abbrev pub invariant-loop-member : goal.invariant-loop-member
invariant-loop-member l = record {
  marks : l.walk.found.items ++ start_places l.fn.sought (drop l.member-index l.members)
      ≡ start_places l.fn.sought l.members;
  sought : l.walk.sought ≡ l.fn.sought;
}
