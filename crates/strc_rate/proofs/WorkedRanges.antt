-- The worked rows of ranges compute.
use Rattle.std.proofs.Common.{refl}
use Rattle.strc_work_meaning.specs.Firing.{turn_limit, call_limit}
use Rattle.strc_rate.specs.RangeRows.{RangeRows}

pub rows_compute : RangeRows
unfolding turn_limit call_limit
rows_compute = record { divides = refl; divided = refl; pops = refl; popped = refl }
