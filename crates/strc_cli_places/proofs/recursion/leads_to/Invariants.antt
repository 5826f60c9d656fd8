use Rattle.std.proofs.Common.{All}
use Rattle.std.specs.Option.{option_map}
use Rattle.strc_cli_places.specs.Streams.{LeadsTo}
use Rattle.strc_cli_places.proofs.recursion.leads_to.Given as goal

abbrev pub invariant-loop-number : goal.invariant-loop-number
invariant-loop-number l =
    All (λ next. LeadsTo (option_map (λ p. p.now) l.known.program) l.name next.now) l.reached.items
