use Rattle.std.proofs.Common.{◌≡◌, ◌≤◌, ◌*◌, ◌++◌, take, sum}
use Rattle.strc_emit_text.specs.Texts.{texts_below}
use Rattle.strc_emit_moves.specs.Moves.{joined_text}
use Rattle.strc_emit_moves.proofs.moves.push_joiner.Given as goal

-- the text so far, and the items of the ports so far
abbrev pub invariant-loop-port : goal.invariant-loop-port
invariant-loop-port l = record {
  text : l.text.items
      ≡ l.fn.text.items ++ texts_below (joined_text l.network l.phase l.node l.weights) l.port;
  start : l.start ≡ sum (take l.port l.weights);
  bound : l.start ≤ 4294967295 * l.port;
}
