use Rattle.std.proofs.Common.{◌≡◌, Some, map}
use Rattle.std.specs.Option.{option_map}
use Rattle.strc_cli_places.specs.Additions.{addition_view}
use Rattle.strc_cli_places.specs.Streams.{declared_as, additions_in_stream}
use Rattle.strc_cli_places.proofs.recursion.recursive_statement.Given as goal

abbrev pub invariant-loop-addition : goal.invariant-loop-addition
invariant-loop-addition l = record {
  declared : declared_as l.around.name (option_map (λ p. p.now) l.known.program) ≡ Some l.around;
  listed : map addition_view l.addition-items ≡ additions_in_stream l.around.stream;
}
