use Rattle.strc_parse.proofs.Spelling.{readable}
use Rattle.strc_parse.proofs.laws.spelled_texts_are_readable.Goals as goal

pub returns : goal.returns
returns c = readable
