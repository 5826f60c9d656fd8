-- Each parcel that a stage of a plan's pipe can take fits it.
use Rattle.std.proofs.Common.{◌≡◌, ◌∙◌, sym, ap, List, ◌∷◌, length, map, Some, slice_get}
use Rattle.std.proofs.lemmas.List.{length-map}
use Rattle.std.proofs.lemmas.Option.{slice_get-map}
use Rattle.std.specs.Option.{option_map}
use Rattle.strc_stage_core.specs.Actors.{Stage}
use Rattle.strc_stage_core.specs.Events.{before}
use Rattle.strc_sched_outcome.specs.declared.stop.Stop.{Stop}
use Rattle.strc_stage_cut.specs.Bounds.{bound_in, last_of}
use Rattle.strc_stage_cut.specs.Launches.{bounds_of, start_of}
use Rattle.strc_stage_steps.proofs.StagesFit.{plan_parcels_fit_stages}
use Rattle.strc_stage_steps.specs.Stages.{see}
use Rattle.strc_stage_steps.specs.Steps.{StageState}
use Rattle.strc_stage.specs.Laws.{ParcelsFitStages}
use Rattle.strc_stage.specs.Piped.{core_seen}

pub parcels_fit_stages : ParcelsFitStages
parcels_fit_stages tree plan input rounds ring program enough gone number stage parcel rest there
    going link =
    let left = gone.begun.startup in
    let bounds = bounds_of plan gone.workers in
    plan_parcels_fit_stages tree plan input rounds left.old gone.begun.circuit gone.begun.started
    (bound_in bounds) (last_of bounds) (start_of gone.first) (core_seen ring) program left.ready
    enough left.startup gone.begun.ring_is.cut gone.begun.ring_is.beginning gone.state number
    (see stage) parcel rest
    (slice_get-map see ring.stages number ∙ ap (option_map see) there) going
    (ap (λ n. slice_get ring.links (before n number)) (length-map ring.stages see) ∙ link)
