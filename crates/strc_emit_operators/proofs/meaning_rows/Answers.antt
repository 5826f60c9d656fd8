use Rattle.std.proofs.Common.{refl}
use Rattle.std.specs.Int.{int_wrap}
use Rattle.strc_emit_operators.proofs.meaning_rows.Goals as goal

pub returns : goal.returns
unfolding int_wrap
returns c = record {
  least_is = refl;
  overflows = refl;
  wraps = refl;
  wraps_product = refl;
  too_large = refl;
  divides = refl;
  leaves = refl;
  by_zero = refl;
  past_most = refl;
  rest_past_most = refl;
  unsigned_divides = refl;
  shifts = refl;
  by_too_much = refl;
  by_too_little = refl;
  past_sign = refl;
  negative = refl;
  keeps_sign = refl;
  compares = refl;
  compares_unsigned = refl;
  inverts = refl;
  inverts_unsigned = refl;
  casts = refl;
  chooses = refl;
  chooses_type = refl;
  drops = refl;
  drops_nothing = refl;
  no_parameter = refl;
  no_function = refl;
}
