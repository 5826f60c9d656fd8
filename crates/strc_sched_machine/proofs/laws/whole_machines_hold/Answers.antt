use Rattle.std.proofs.Common.{◌∙◌, ap, subst, length}
use Rattle.strc_sched_machine.specs.Actors.{AreActors}
use Rattle.strc_sched_machine.proofs.laws.whole_machines_hold.Goals as goal

pub returns : goal.returns
returns c = λ graph circuit machine is runs rings.
    let own = subst (λ codes. AreActors codes machine.actors.items) is.codes runs.actors in
    record {
      actors = own.each;
      kept = λ node code one from there got. own.kept node code one there got;
      fired = runs.fired ∙ ap length is.codes;
      rings = rings;
    }
