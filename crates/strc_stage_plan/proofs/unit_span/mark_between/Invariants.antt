use Rattle.strc_stage_plan.proofs.Between.{AreMarked}
use Rattle.strc_stage_plan.proofs.unit_span.mark_between.Given as goal

abbrev pub invariant-loop-number : goal.invariant-loop-number
invariant-loop-number l = AreMarked l.initial.marks l.marks l.least l.number
