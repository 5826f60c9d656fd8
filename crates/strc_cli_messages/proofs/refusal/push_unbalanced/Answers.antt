use Rattle.std.proofs.Common.{[], refl}
use Rattle.strc_cli_source.specs.NodeWords.{BeginsWith}
use Rattle.strc_cli_messages.proofs.Wording.{adds_no_words, on_ok, unbalanced_said}
use Rattle.strc_cli_messages.proofs.refusal.push_unbalanced.Goals as goal

pub returns-in-Some : goal.returns-in-Some
returns-in-Some c =
    on_ok _
    (unbalanced_said c.args.channel _ _ _ _ c.in_ok-push_channel.ensures c.in_ok-add.ensures)
    c.push_items.ensures

pub returns-in-None : goal.returns-in-None
returns-in-None c =
    unbalanced_said c.args.channel _ _ _ _ c.in_ok-push_channel.ensures c.in_ok-add.ensures
    (adds_no_words (BeginsWith []) _ ([], refl))
