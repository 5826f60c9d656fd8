-- The worked rows, computed.
use Rattle.std.proofs.Common.{refl}
use Rattle.std.specs.Int.{int_wrap}
use Rattle.strc_emit_meaning.specs.Rows.{SumWraps, DivisionByZero, CounterOverflows}

pub sum_wraps_row : SumWraps
unfolding int_wrap
sum_wraps_row = refl

pub division_row : DivisionByZero
unfolding int_wrap
division_row = (refl, refl, refl)

pub counter_row : CounterOverflows
unfolding int_wrap
counter_row = refl
