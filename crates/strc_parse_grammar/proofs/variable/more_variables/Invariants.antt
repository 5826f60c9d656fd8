use Rattle.std.proofs.Common.{length, map}
use Rattle.strc_parse_tree.specs.View.{variable_view}
use Rattle.strc_parse_grammar.specs.Grammar.{kinds}
use Rattle.strc_parse_grammar.specs.Reading.{no_comma, one_taller, next_variable, more_variables}
use Rattle.strc_parse_grammar.proofs.Loops.{Going}
use Rattle.strc_parse_grammar.proofs.variable.more_variables.Given as goal

abbrev pub invariant-loop-alloc : goal.invariant-loop-alloc
invariant-loop-alloc l =
    Going no_comma (one_taller (next_variable l.depth))
    (more_variables l.depth (map variable_view l.fn.first.items, l.fn.height) (kinds l.fn.tokens))
    (map variable_view l.found.items, l.highest) (kinds l.rest)

abbrev pub decreases-loop-alloc : goal.decreases-loop-alloc
decreases-loop-alloc l = length (kinds l.rest)
