use Rattle.strc_parse_grammar.proofs.expression.ExpressionRules.+climb.Given as goal

abbrev pub decreases-climb : goal.decreases-climb
decreases-climb g l = l.rank
