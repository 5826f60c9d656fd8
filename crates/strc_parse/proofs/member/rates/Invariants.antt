use Rattle.std.proofs.Common.{length, map}
use Rattle.strc_parse_tree.specs.View.{rate_view}
use Rattle.strc_parse_grammar.specs.Grammar.{kinds}
use Rattle.strc_parse_grammar.specs.Streams.{rates, no_rate, rate_turn}
use Rattle.strc_parse_grammar.proofs.Loops.{Going}
use Rattle.strc_parse.specs.Placed.{AreRatesPlaced}
use Rattle.strc_parse.proofs.member.rates.Given as goal

abbrev pub invariant-loop-kind : goal.invariant-loop-kind
invariant-loop-kind l =
    (Going no_rate (rate_turn l.limit) (rates l.limit (kinds l.fn.tokens))
    (map rate_view l.found.items, l.highest) (kinds l.rest))
    × AreRatesPlaced l.all l.found.items (kinds l.rest)

abbrev pub decreases-loop-kind : goal.decreases-loop-kind
decreases-loop-kind l = length (kinds l.rest)
