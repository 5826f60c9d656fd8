-- The worked rows compute.
use Rattle.std.proofs.Common.{refl}
use Rattle.strc_stage_weights.specs.Rows.{FiringRow, WeighedRow}

pub firing_row : FiringRow
firing_row = record {
  filter = refl;
  copy = refl;
  identity = refl;
  identity_copy = refl;
  duplicate = refl;
  wider = refl;
  roundrobin = refl;
  joiner = refl;
  scatter = refl;
  gather = refl;
}

pub weighed_row : WeighedRow
weighed_row = record {
  weighs = refl;
  bounds = refl;
  evenly = refl;
  one_group_each = refl;
  for_steps = refl;
  for_no_more = refl;
  for_heavy = refl;
  twice = refl;
  saturated = refl;
}
