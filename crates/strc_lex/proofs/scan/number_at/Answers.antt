use Rattle.std.proofs.Common.{ap, ◌∙◌}
use Rattle.std.specs.List.{list_all}
use Rattle.strc_lex.specs.Characters.{is_digit}
use Rattle.strc_lex.proofs.Runs.{list_all-take_while}
use Rattle.strc_lex.proofs.scan.number_at.Goals as goal

pub number_of-requires : goal.number_of-requires
number_of-requires c = ap (list_all is_digit) c.digits_at-digits.ensures
    ∙ list_all-take_while is_digit c.args.text.now
