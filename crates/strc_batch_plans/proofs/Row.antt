-- The row, computed from the definitions.
use Rattle.std.proofs.Common.{refl}
use Rattle.strc_elab_dataflow.specs.Staging.{joined, repeated}
use Rattle.strc_batch_plans.specs.Rows.{BatchMachineRow}

pub batch_machine_row : BatchMachineRow
unfolding joined repeated
batch_machine_row = record {
  size = refl;
  order = refl;
  rounds = refl;
  batches = record { later = _; went = refl; words = _; ends = refl };
  words = refl;
}
