use Rattle.std.proofs.Common.{◌≡◌, ◌++◌, drop}
use Rattle.strc_cli_statements.specs.OccurrencePlaces.{block_places}
use Rattle.strc_cli_statements.proofs.occurrences.+statement.Given as goal

abbrev pub invariant-walk_block-loop-statement : goal.invariant-walk_block-loop-statement
invariant-walk_block-loop-statement l = record {
  marks : l.walk.found.items
      ++ block_places l.initial.walk.sought l.here (drop l.statement-index l.block)
      ≡ l.initial.walk.found.items ++ block_places l.initial.walk.sought l.here l.block;
  sought : l.walk.sought ≡ l.initial.walk.sought;
}
