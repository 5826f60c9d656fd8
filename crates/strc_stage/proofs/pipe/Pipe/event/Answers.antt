use Rattle.std.proofs.Common.{subst}
use Rattle.strc_stage_cut.specs.Launches.{start_of}
use Rattle.strc_stage.specs.Piped.{HasGoneOn, IsPipe}
use Rattle.strc_stage.proofs.pipe.Pipe.event.Goals as goal

pub returns-in-Going-clause-state : goal.returns-in-Going-clause-state
returns-in-Going-clause-state c = λ input rounds is.
    let plan = c.args.self.now.plan in
    let before : HasGoneOn plan input rounds c.in-Going.ring =
    subst (IsPipe plan input rounds) c.in-Going.is is in
    record {
      workers = before.workers;
      first = before.first;
      begun = before.begun;
      state = c.event.ensures.state (start_of before.first) before.state;
    }
