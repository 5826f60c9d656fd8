-- The worked row of dealing out.
use Rattle.std.proofs.Common.{refl}
use Rattle.strc_stage_steps.specs.DealtRows.{DealtRow}

pub dealt_row : DealtRow
dealt_row after is = record {
  reader = is.whole 0 _ refl refl;
  scatter = is.parts 1 _ refl refl;
  first_copy = is.parts 2 _ refl refl;
  second_copy = is.parts 3 _ refl refl;
  gather = is.parts 4 _ refl refl;
  writer = is.whole 5 _ refl refl;
  at_scatter = is.waiting 0 _ _ refl refl refl;
  at_copy = is.inside 1 _ _ refl refl refl;
  at_gather = is.inside 3 _ _ refl refl refl;
  at_writer = is.waiting 5 _ _ refl refl refl;
}
