-- What comes to each port of a small graph before and after fission.
use Rattle.std.proofs.Common.{refl}
use Rattle.strc_stage_plan.specs.SplitRows.{SplitRow}

pub split_row : SplitRow
split_row = record {
  reader = refl;
  filter = refl;
  writer = refl;
  new_reader = refl;
  scatter = refl;
  first_copy = refl;
  second_copy = refl;
  gather_first = refl;
  gather_second = refl;
  new_writer = refl;
  first_owner = refl;
  copy_owner = refl;
  last_owner = refl;
}
