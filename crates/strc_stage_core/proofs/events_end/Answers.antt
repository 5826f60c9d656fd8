use Rattle.strc_stage_core.proofs.Acts.{happen_acts, happen_within}
use Rattle.strc_stage_core.proofs.events_end.Goals as goal

pub returns : goal.returns
returns g c = λ work start old new events state happen.
    let (end, count) = happen_acts work start events old new state happen in
    (end, count, happen_within work start events old new state happen)
