use Rattle.strc_cli_syntax.specs.Words.{GoesOn}
use Rattle.strc_cli_messages.proofs.hints.push_declared.Given as goal

-- the message has gone on
abbrev pub invariant-loop-number : goal.invariant-loop-number
invariant-loop-number l = GoesOn l.fn.message l.message
