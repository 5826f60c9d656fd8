use Rattle.std.proofs.Common.{length}
use Rattle.strc_parse_grammar.specs.Grammar.{kinds}
use Rattle.strc_parse_grammar.specs.Reading.{no_comma, one_more, next_parameter, more_parameters}
use Rattle.strc_parse_grammar.proofs.Loops.{Going}
use Rattle.strc_parse_grammar.proofs.parameter.more_parameters.Given as goal

abbrev pub invariant-loop-rest : goal.invariant-loop-rest
invariant-loop-rest l =
    Going no_comma (one_more next_parameter)
    (more_parameters l.fn.first.items (kinds l.fn.tokens)) l.found.items (kinds l.rest)

abbrev pub decreases-loop-rest : goal.decreases-loop-rest
decreases-loop-rest l = length (kinds l.rest)
