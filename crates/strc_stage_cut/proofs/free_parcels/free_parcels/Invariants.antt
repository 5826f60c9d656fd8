use Rattle.std.proofs.Common.{◌≡◌, ◌*◌, length}
use Rattle.std.specs.Prelude.{All}
use Rattle.strc_stage_steps.specs.Blocks.{IsFreeFor}
use Rattle.strc_stage_cut.proofs.free_parcels.free_parcels.Given as goal

abbrev pub invariant-loop-stage : goal.invariant-loop-stage
invariant-loop-stage l = record {
  each : length l.free.items ≡ 2 * l._stage;
  free : All (IsFreeFor l.first) l.free.items;
}
