use Rattle.std.proofs.Common.{◌≡◌, ◌++◌}
use Rattle.strc_emit_text.specs.Texts.{texts_below}
use Rattle.strc_emit_filter.specs.Variables.{local_text}
use Rattle.strc_emit_filter.proofs.locals.push_locals.Given as goal

-- the text so far
abbrev pub invariant-loop-place : goal.invariant-loop-place
invariant-loop-place l = l.text.items ≡ l.fn.text.items ++ texts_below (local_text l.function) l.place
