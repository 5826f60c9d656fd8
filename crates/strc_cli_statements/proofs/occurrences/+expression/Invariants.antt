use Rattle.std.proofs.Common.{◌≡◌, ◌++◌, drop, replicate}
use Rattle.strc_parse_tree.specs.View.{listed_view}
use Rattle.strc_cli_statements.specs.Occurrences.{arguments_count}
use Rattle.strc_cli_statements.proofs.occurrences.+expression.Given as goal

abbrev pub invariant-walk_arguments-loop-argument : goal.invariant-walk_arguments-loop-argument
invariant-walk_arguments-loop-argument l = record {
  marks : l.walk.found.items ++ replicate (arguments_count l.initial.walk.sought
      (listed_view (drop l.argument-index l.arguments))) l.here
      ≡ l.initial.walk.found.items
      ++ replicate (arguments_count l.initial.walk.sought (listed_view l.arguments)) l.here;
  sought : l.walk.sought ≡ l.initial.walk.sought;
}
