use Rattle.strc_stage_plan.proofs.Fused.{round_is_restarted_order}
use Rattle.strc_stage_plan.proofs.split_stages_laws.split_round_is_restarted_order.Goals as goal

pub returns : goal.returns
returns c = round_is_restarted_order
