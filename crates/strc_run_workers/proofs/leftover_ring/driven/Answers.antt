use Rattle.std.proofs.Common.{sym, ap, subst}
use Rattle.strc_stage_steps.specs.Pipes.{IsStateOf}
use Rattle.strc_stage_core.specs.Seeing.{core_of}
use Rattle.strc_stage_steps.specs.Collectors.{sees}
use Rattle.strc_stage_steps.specs.Stages.{see}
use Rattle.strc_run_workers.proofs.leftover_ring.driven.Goals as goal

pub returns : goal.returns
returns c = λ start state.
    c.drive.ensures start (subst (IsStateOf start) (sym (ap (core_of see sees)
    c.in_ok-pipe.ensures)) state)
