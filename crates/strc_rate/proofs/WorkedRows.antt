-- The worked rows compute.
use Rattle.std.proofs.Common.{refl}
use Rattle.strc_rate.specs.Rows.{StatelessRows}

pub rows_compute : StatelessRows
rows_compute = record {
  reads = refl;
  writes = refl;
  shadowed = refl;
  own_initial = refl;
  after_block = refl;
  heading = refl;
  element = refl;
  in_index = refl;
  prints = refl;
  prework = refl;
  writes_in_call = refl;
  shadowed_by_parameter = refl;
}
