use Rattle.strc_cli_syntax.specs.Words.{GoesOn}
use Rattle.strc_cli_syntax.proofs.syntax.push_expected.Given as goal

-- the message has gone on
abbrev pub invariant-loop-is : goal.invariant-loop-is
invariant-loop-is l = GoesOn l.fn.message l.message

abbrev pub invariant-loop-token : goal.invariant-loop-token
invariant-loop-token l = GoesOn l.fn.message l.message
