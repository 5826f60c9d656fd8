use Rattle.std.proofs.Common.{length, map}
use Rattle.strc_parse_tree.specs.View.{declaration_view}
use Rattle.strc_parse_grammar.specs.Grammar.{kinds, height_limit}
use Rattle.strc_parse_grammar.specs.Reading.{one_more}
use Rattle.strc_parse_grammar.specs.Streams.{declarations, at_end, declaration}
use Rattle.strc_parse_grammar.proofs.Loops.{Going}
use Rattle.strc_parse.specs.Placed.{AreStreamsPlaced}
use Rattle.strc_parse.proofs.declaration.declarations.Given as goal

abbrev pub invariant-loop-rest : goal.invariant-loop-rest
invariant-loop-rest l =
    (Going at_end (one_more (declaration height_limit))
    (declarations height_limit (kinds l.fn.tokens))
    (map declaration_view l.found.items) (kinds l.rest))
    × AreStreamsPlaced l.fn.tokens l.found.items (kinds l.rest)

abbrev pub decreases-loop-rest : goal.decreases-loop-rest
decreases-loop-rest l = length (kinds l.rest)
