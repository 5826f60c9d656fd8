use Rattle.std.proofs.Common.{◌≡◌, ◌++◌, drop, None}
use Rattle.strc_cli_statements.specs.OccurrencePlaces.{block_places, helpers_places}
use Rattle.strc_cli_statements.proofs.occurrences.occurrences_in_firing.Given as goal

abbrev pub invariant-loop-member : goal.invariant-loop-member
invariant-loop-member l = record {
  marks : l.walk.found.items ++ helpers_places l.fn.sought (drop l.member-index l.members)
      ≡ block_places l.fn.sought None l.fn.block ++ helpers_places l.fn.sought l.members;
  sought : l.walk.sought ≡ l.fn.sought;
}
