use Rattle.std.proofs.Common.{◌∙◌, sym}
use Rattle.strc_run_batches.proofs.Ringing.{no_tapes_so, tells_so}
use Rattle.strc_run_batches.proofs.by_stages.tapes_of.Goals as goal

pub returns-in-Ok : goal.returns-in-Ok
returns-in-Ok c =
    tells_so c.args.plan.now c.args.ended (sym c.stop_of.ensures ∙ c.in-None.is) c.in-Ok.outcome
    c.in-Ok.ensures.ending c.done_tapes.result c.done_tapes.ensures.done
    c.done_tapes.ensures.other

pub returns-in-Some : goal.returns-in-Some
returns-in-Some c =
    no_tapes_so c.args.plan.now c.args.ended c.in-Some.stop (sym c.stop_of.ensures ∙ c.in-Some.is) c.no_tapes.result
    c.no_tapes.ensures
