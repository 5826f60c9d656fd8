use Rattle.std.proofs.Common.{arith}
use Rattle.strc_fuse.specs.Units.{round_units}
use Rattle.strc_batch.proofs.Choices.{least_few}
use Rattle.strc_batch.proofs.choice.least_turns.Goals as goal

pub loop-unit-init : goal.loop-unit-init
loop-unit-init c = record {
  least = omega (arith, least_few (round_units c.args.units.now));
  few = omega arith;
}
