use Rattle.strc_cli_syntax.proofs.Words.{hinted}
use Rattle.strc_cli_syntax.proofs.hint_words.push_words.Goals as goal

pub returns : goal.returns
returns c = hinted _ _ _ _ c.in_ok-hint.ensures c.in_ok-add.ensures
