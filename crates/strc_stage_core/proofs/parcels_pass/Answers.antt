use Rattle.strc_stage_core.proofs.Fitting.{all_links_pass, all_hands_pass}
use Rattle.strc_stage_core.proofs.parcels_pass.Goals as goal

pub returns : goal.returns
returns g c = λ work start core state passes handed. (
  all_links_pass work start core state passes handed,
  all_hands_pass work start core state passes handed,
)
