use Rattle.std.proofs.Common.{subst, IfOk}
use Rattle.strc_stage_steps.specs.Collectors.{total_of}
use Rattle.strc_stage.specs.Running.{EndsSo}
use Rattle.strc_run_workers.proofs.Rings.{told_ends}
use Rattle.strc_run_workers.proofs.stage_rounds.run_rounds.Goals as goal

pub returns-in-Ok-clause-ended : goal.returns-in-Ok-clause-ended
returns-in-Ok-clause-ended g c =
    told_ends c.args.plan.now c.args.ring c.in-Ok.collector c.in-Ok.ensures c.outcome_of.result
    (subst (λ parts. IfOk c.outcome_of.result (EndsSo c.args.plan.now (total_of parts) parts.stop))
    c.into_parts.ensures c.outcome_of.ensures.ending)
