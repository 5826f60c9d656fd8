use Rattle.std.proofs.Common.{◌≡◌, vec_len}
use Rattle.strc_emit_filter.proofs.arrays.end_declared.Given as goal

abbrev pub invariant-loop-variable : goal.invariant-loop-variable
invariant-loop-variable l = vec_len l.ends ≡ vec_len l.fn.ends
