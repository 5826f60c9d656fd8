use Rattle.strc_live.proofs.execute_live.unfit.Goals as goal

pub returns-in-Some-clause-unfit : goal.returns-in-Some-clause-unfit
returns-in-Some-clause-unfit c = c.in-Some.ensures.barred c.args.plan.now
