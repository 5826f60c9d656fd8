use Rattle.std.proofs.Common.{◌-◌, length, map}
use Rattle.strc_parse_tree.specs.View.{member_view}
use Rattle.strc_parse_grammar.specs.Grammar.{kinds}
use Rattle.strc_parse_grammar.specs.Reading.{brace, one_taller}
use Rattle.strc_parse_grammar.specs.Streams.{members, member, statement}
use Rattle.strc_parse_grammar.proofs.Loops.{Going}
use Rattle.strc_parse.specs.Placed.{ArePartsPlaced}
use Rattle.strc_parse.proofs.control.StatementRules.members.Given as goal

abbrev pub invariant-loop-next : goal.invariant-loop-next
invariant-loop-next g l =
    (Going brace (one_taller (member (l.self.depth - 1) (statement (l.self.depth - 1))))
    (members (l.self.depth - 1) (statement (l.self.depth - 1)) (kinds l.fn.tokens))
    (map member_view l.read.value.items, l.read.height) (kinds l.read.rest.now))
    × ArePartsPlaced l.self.all.now l.read.value.items (kinds l.read.rest.now)

abbrev pub decreases-loop-next : goal.decreases-loop-next
decreases-loop-next g l = length (kinds l.read.rest.now)
