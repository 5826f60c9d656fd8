use Rattle.strc_cli_syntax.proofs.Words.{hinted_at}
use Rattle.strc_cli_syntax.proofs.open_braces.push_open_brace.Goals as goal

pub returns-in_ok-add-in-Some : goal.returns-in_ok-add-in-Some
returns-in_ok-add-in-Some c =
    hinted_at c.args.source.text.now c.in-Some.place _ _ _ _ _ _ c.in_ok-hint-in-Some.ensures
    c.in_ok-add-in-Some.ensures c.push_place.ensures
