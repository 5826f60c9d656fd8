use Rattle.std.proofs.Common.{◌≡◌, ◌<◌, true, false, get_or, ℕ}
use Rattle.strc_emit_filter.proofs.filters.all_closed.Given as goal

-- those that were looked at are closed
abbrev pub invariant-loop-is_closed : goal.invariant-loop-is_closed
invariant-loop-is_closed l =
    (place : ℕ) → place < l.is_closed-index → get_or l.closed place false ≡ true
