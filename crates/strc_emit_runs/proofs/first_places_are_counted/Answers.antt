use Rattle.strc_emit_runs.proofs.Places.{first_places_are_counted}
use Rattle.strc_emit_runs.proofs.first_places_are_counted.Goals as goal

pub returns : goal.returns
returns c = first_places_are_counted
