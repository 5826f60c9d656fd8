use Rattle.std.proofs.Common.{◌≡◌, true}
use Rattle.strc_stage_core.proofs.Handing.{handed_by_steps}
use Rattle.strc_stage_core.proofs.steps_hand_on.Goals as goal

pub returns : goal.returns
returns g c = λ work start passes stays steps.
    handed_by_steps work start passes (λ actor stage. stays actor stage ≡ true) steps.free
    steps.first steps.by_step steps.by_collector
