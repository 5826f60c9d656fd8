use Rattle.strc_cli_syntax.proofs.Words.{hinted_in_three}
use Rattle.strc_cli_syntax.proofs.number_hints.push_written.Goals as goal

pub returns : goal.returns
returns c =
    hinted_in_three _ _ _ _ _ _ _ _ c.in_ok-hint.ensures c.in_ok-add.ensures
    c.in_ok-number.ensures c.in_ok-add-2.ensures
