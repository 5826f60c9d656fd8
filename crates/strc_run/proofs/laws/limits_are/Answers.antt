use Rattle.std.proofs.Common.{refl}
use Rattle.strc_run.proofs.laws.limits_are.Goals as goal

pub returns : goal.returns
returns c = record {
  text = refl;
  height = refl;
  nodes = refl;
  turns = refl;
  calls = refl;
  rate = refl;
  weight = refl;
  array = refl;
  count = refl;
  size = refl;
}
