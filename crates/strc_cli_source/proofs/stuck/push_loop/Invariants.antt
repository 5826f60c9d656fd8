use Rattle.std.proofs.Common.{[]}
use Rattle.strc_cli_source.specs.NodeWords.{Adds, BeginsWith}
use Rattle.strc_cli_source.proofs.stuck.push_loop.Given as goal

-- the message has gone on
abbrev pub invariant-loop-node : goal.invariant-loop-node
invariant-loop-node l = Adds (BeginsWith []) l.fn.message l.message
