use Rattle.std.proofs.Common.{subst}
use Rattle.std.specs.Prelude.{IfOk}
use Rattle.strc_sched_orders.specs.Schedules.{ScheduleParts}
use Rattle.strc_emit_program.specs.Programs.{IsProgramText}
use Rattle.strc_emit.proofs.emit.text_of.Goals as goal

pub returns : goal.returns
returns c =
    subst (λ (schedule : ScheduleParts). IfOk c.program_text.result
    (λ text. IsProgramText c.args.network.now schedule text.items)) c.schedule.ensures.schedule
    c.program_text.ensures
