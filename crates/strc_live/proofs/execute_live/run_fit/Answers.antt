use Rattle.std.proofs.Common.{inl, inr, refl}
use Rattle.strc_live.proofs.execute_live.run_fit.Goals as goal

pub returns-in-Some-clause-answers : goal.returns-in-Some-clause-answers
returns-in-Some-clause-answers g c tree program =
    inl (c.in-Some.ensures.unfit, c.requires.fresh, refl)

pub run_live-requires-clause-reads : goal.run_live-requires-clause-reads
run_live-requires-clause-reads g c = (c.in-None.ensures.fit refl).reads

pub returns-in-None-clause-answers : goal.returns-in-None-clause-answers
returns-in-None-clause-answers g c tree program =
    let fit = c.in-None.ensures.fit refl in
    inr (fit, c.run_live.ensures.goes tree (record { program = program; few = fit.few }))
