use Rattle.strc_emit_runs.proofs.Places.{places_are_counted}
use Rattle.strc_emit_runs.proofs.places_are_counted.Goals as goal

pub returns : goal.returns
returns c = places_are_counted
