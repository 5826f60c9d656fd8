use Rattle.strc_cli_syntax.proofs.Words.{goes_further, goes_nowhere}
use Rattle.strc_cli_messages.proofs.hints.push_declared.Goals as goal

pub loop-number-init : goal.loop-number-init
loop-number-init c =
    goes_further _ _ _ _
    (goes_further _ _ _ _
    (goes_further _ _ _ _
    (goes_further _ _ _ _ (goes_nowhere c.args.message.now) c.in_ok-quoted.ensures)
    c.in_ok-add.ensures) c.in_ok-number.ensures) c.in_ok-add-2.ensures

pub loop-number-preserved : goal.loop-number-preserved
loop-number-preserved c =
    goes_further _ _ _ _ (goes_further _ _ _ _ c.loop-number.invariant c.in_ok-add-3.ensures)
    c.in_ok-quoted-2.ensures
