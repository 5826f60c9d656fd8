use Rattle.strc_stage_core.proofs.Counts.{weight-state}
use Rattle.strc_stage_core.proofs.Acts.{link_has_room, room_is_left}
use Rattle.strc_stage_core.proofs.parcels_are_kept.Goals as goal

pub returns : goal.returns
returns g c = λ work start core state. (
  weight-state work start core state,
  link_has_room work start core state,
  room_is_left work start core state,
)
