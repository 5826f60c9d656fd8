use Rattle.std.proofs.Common.{◌≡◌, List, ℕ, All, Some, map}
use Rattle.std.specs.Option.{option_map}
use Rattle.strc_cli_places.specs.Additions.{addition_view}
use Rattle.strc_cli_places.specs.Streams.{LeadsTo, declared_as, additions_in_stream}
use Rattle.strc_cli_places.proofs.recursion.reach.Given as goal

abbrev pub invariant-loop-addition : goal.invariant-loop-addition
invariant-loop-addition l = let program = option_map (λ p. p.now) l.known.program in record {
  listed : map addition_view l.addition-items ≡ additions_in_stream l.declaration.stream;
  leads : (name : List ℕ) → declared_as l.declaration.name program ≡ Some l.declaration
      → LeadsTo program name l.declaration.name
      → All (λ next. LeadsTo program name next.now) l.initial.reached.items
      → All (λ next. LeadsTo program name next.now) l.reached.items;
}
