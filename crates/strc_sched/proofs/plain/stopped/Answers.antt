use Rattle.std.proofs.Common.{refl, sym, subst}
use Rattle.strc_sched_outcome.specs.declared.outcome.Outcome.TheVariants as outcome
use Rattle.strc_sched.specs.Marks.{kept_tapes}
use Rattle.strc_sched.specs.Plain.{IsStopped}
use Rattle.strc_sched_machine.specs.Running.{words_of}
use Rattle.strc_sched.proofs.plain.stopped.Goals as goal

pub returns-in-Fault-clause-outcome : goal.returns-in-Fault-clause-outcome
returns-in-Fault-clause-outcome c =
    let f = c.in-Fault in
    subst (λ stop. IsStopped stop c.args.round
    (kept_tapes c.args.marks.now (words_of c.args.words.items))
    (outcome.Fault f.node f.firing c.args.round f.cause c.in-Ok.tapes)) (sym f.is)
    (c.in-Ok.tapes, refl, c.in-Ok.ensures)
