use Rattle.std.proofs.Common.{◌≡◌, ◌++◌}
use Rattle.strc_emit_c.specs.Spelling.{more_arguments}
use Rattle.strc_emit_c.proofs.calls.push_more.Given as goal

-- the text so far and the arguments left are the whole
abbrev pub invariant-loop-left : goal.invariant-loop-left
invariant-loop-left l = l.text.items ++ more_arguments l.function l.last l.left
    ≡ l.fn.text.items ++ more_arguments l.function l.fn.slot l.fn.count

abbrev pub decreases-loop-left : goal.decreases-loop-left
decreases-loop-left l = l.left
