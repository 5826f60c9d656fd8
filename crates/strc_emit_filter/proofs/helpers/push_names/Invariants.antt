use Rattle.std.proofs.Common.{◌≡◌, ◌++◌}
use Rattle.strc_emit_text.specs.Texts.{texts_below}
use Rattle.strc_emit_filter.specs.Helpers.{parameter_text}
use Rattle.strc_emit_filter.proofs.helpers.push_names.Given as goal

-- the text so far
abbrev pub invariant-loop-at : goal.invariant-loop-at
invariant-loop-at l = l.text.items ≡ l.fn.text.items ++ texts_below (parameter_text) l.at
