use Rattle.strc_stage_plan.proofs.Divisors.{is_greatest}
use Rattle.strc_stage_plan.proofs.split_laws.greatest_divisor_divides.Goals as goal

pub returns : goal.returns
returns c = is_greatest
