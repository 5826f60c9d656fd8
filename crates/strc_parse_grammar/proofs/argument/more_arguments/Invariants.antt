use Rattle.std.proofs.Common.{length, map}
use Rattle.strc_parse_tree.specs.View.{expr_view}
use Rattle.strc_parse_grammar.specs.Grammar.{kinds}
use Rattle.strc_parse_grammar.specs.Reading.{no_comma, one_taller, next_argument, more_arguments}
use Rattle.strc_parse_grammar.specs.Reading.{expression}
use Rattle.strc_parse_grammar.proofs.Loops.{Going}
use Rattle.strc_parse_grammar.proofs.argument.more_arguments.Given as goal

abbrev pub invariant-loop-alloc : goal.invariant-loop-alloc
invariant-loop-alloc g l =
    Going no_comma (one_taller (next_argument (expression l.depth)))
    (more_arguments (expression l.depth) (map expr_view l.fn.first.items, l.fn.height)
    (kinds l.fn.tokens))
    (map expr_view l.found.items, l.highest) (kinds l.rest)

abbrev pub decreases-loop-alloc : goal.decreases-loop-alloc
decreases-loop-alloc g l = length (kinds l.rest)
