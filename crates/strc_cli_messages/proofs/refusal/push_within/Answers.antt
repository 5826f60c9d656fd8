use Rattle.strc_cli_messages.proofs.Wording.{within_said}
use Rattle.strc_cli_messages.proofs.refusal.push_within.Goals as goal

pub returns-in_ok-quoted-in-Some : goal.returns-in_ok-quoted-in-Some
returns-in_ok-quoted-in-Some c =
    within_said c.args.depends _ _ _ _ c.if-depends.true c.in_ok-add-in-Some.ensures
    c.in_ok-quoted-in-Some.ensures
