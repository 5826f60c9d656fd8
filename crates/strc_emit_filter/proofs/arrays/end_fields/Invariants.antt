use Rattle.std.proofs.Common.{◌≡◌, vec_len}
use Rattle.strc_emit_filter.proofs.arrays.end_fields.Given as goal

abbrev pub invariant-loop-member : goal.invariant-loop-member
invariant-loop-member l = vec_len l.ends ≡ vec_len l.fn.ends
