use Rattle.strc_stage_steps.proofs.Staged.{split_rounds_are_ranged}
use Rattle.strc_stage_steps.proofs.split_cut_laws.split_rounds_are_ranged.Goals as goal

pub returns : goal.returns
returns c = split_rounds_are_ranged
