use Rattle.std.proofs.Common.{◌≡◌, ◌++◌, drop}
use Rattle.strc_emit_filter.specs.Helpers.{declarations_from}
use Rattle.strc_emit_filter.proofs.helpers.push_declarations.Given as goal

-- the text so far and that of the helper functions left are the whole
abbrev pub invariant-loop-helper : goal.invariant-loop-helper
invariant-loop-helper l =
    l.text.items ++ declarations_from l.function l.number (drop l.helper-index l.helpers)
    ≡ l.fn.text.items ++ declarations_from l.function 0 l.helpers
