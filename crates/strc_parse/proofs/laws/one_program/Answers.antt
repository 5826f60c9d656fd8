use Rattle.strc_parse.proofs.Spelling.{one_program}
use Rattle.strc_parse.proofs.laws.one_program.Goals as goal

pub returns : goal.returns
returns c = one_program
