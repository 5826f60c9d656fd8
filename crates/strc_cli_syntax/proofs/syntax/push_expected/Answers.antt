use Rattle.std.proofs.Common.{◌≡◌}
use Rattle.strc_cli_syntax.proofs.Words.{goes_further, goes_same}
use Rattle.strc_cli_syntax.proofs.syntax.push_expected.Goals as goal
use Rattle.strc_cli_syntax.proofs.syntax.push_expected.Goals.{else-is}
use Rattle.strc_cli_syntax.proofs.syntax.push_expected.Goals.{then-is+in_ok-add+in_ok-add-2}

pub loop-is-preserved : goal.loop-is-preserved
loop-is-preserved c =
    elim c.if-is.branch [
      | then-is+in_ok-add+in_ok-add-2 w ↦ goes_same _ _ _
          (goes_further _ _ _ _
          (goes_further _ _ _ _ c.loop-is.invariant w.in_ok-add.ensures)
          w.in_ok-add-2.ensures) w.message-is
      | else-is w ↦ goes_same _ _ _ c.loop-is.invariant w.message-is
    ]

pub loop-token-preserved : goal.loop-token-preserved
loop-token-preserved c =
    goes_further _ _ _ _
    (goes_further _ _ _ _ c.loop-token.invariant c.in_ok-add-3.ensures) c.in_ok-quoted.ensures
