use Rattle.std.proofs.Common.{[]}
use Rattle.strc_run_links.specs.Working.{Work}
use Rattle.strc_run_links.proofs.body.work.Given as goal

abbrev pub invariant-loop : goal.invariant-loop
invariant-loop g l = Work g.A.Actor.does l.fn.actor l.fn.rx l.fn.tx l.actor l.rx l.tx [] []
