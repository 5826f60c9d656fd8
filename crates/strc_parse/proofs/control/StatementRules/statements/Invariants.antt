use Rattle.std.proofs.Common.{◌≡◌, ◌-◌, map}
use Rattle.strc_parse_tree.specs.View.{stmt_view}
use Rattle.strc_parse_grammar.specs.Grammar.{kinds}
use Rattle.strc_parse_grammar.specs.Reading.{repeated, brace, one_taller}
use Rattle.strc_parse_grammar.specs.Streams.{statements, statement}
use Rattle.strc_parse.specs.Placed.{IsBlockPlaced}
use Rattle.strc_parse.proofs.control.StatementRules.statements.Given as goal

abbrev pub invariant-loop-turn : goal.invariant-loop-turn
invariant-loop-turn g l =
    (statements (statement (l.self.depth - 1)) (kinds l.fn.tokens)
    ≡ repeated brace (one_taller (statement (l.self.depth - 1))) (l._turn-end - l._turn)
    (map stmt_view l.read.value.items, l.read.height) (kinds l.read.rest.now))
    × IsBlockPlaced l.self.all.now l.read.value.items (kinds l.read.rest.now)
