use Rattle.strc_parse.proofs.Placed.{plain_within}
use Rattle.strc_parse.proofs.control.StatementRules.keyword_statement.Goals as goal

pub returns-in_default-clause-placed : goal.returns-in_default-clause-placed
returns-in_default-clause-placed g c =
    plain_within c.args.self.now.all.now c.ended.result c.ended.ensures.plain
