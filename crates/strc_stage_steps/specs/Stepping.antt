-- What the parts of a stage's step do.
use Rattle.std.specs.Prelude.{◌≡◌, ◌⊎◌, Option, Some, None}
use Rattle.strc_stage_core.specs.Actors as actors
use Rattle.strc_stage_core.specs.Actors.{MayStop, is_passing, stop_of, next, made}
use Rattle.strc_sched_outcome.specs.declared.stop.Stop.{Stop}
use Rattle.strc_sched_outcome.specs.declared.stop.Stop.TheVariants as stops
use Rattle.strc_stage_core.specs.Parcels as parcels
use Rattle.strc_stage_core.specs.Parcels.{ParcelView, parcel}
use Rattle.strc_stage_steps.specs.Steps.{StageState, stage_work, due_stop_of, state_of_step}
use Rattle.strc_stage_steps.specs.Steps.{load_of_step, with_machine}
use Rattle.strc_stage_steps.specs.declared.stage.StageParts.{StageParts}
use Rattle.strc_stage_steps.specs.Stages.{see, state_of}

-- A stage with other work done and another stop, of as many parcels.
abbrev pub with_stop : actors.Stage StageState Stop → StageState → Option Stop
    → actors.Stage StageState Stop
with_stop stage inner stop = record {
  inner = inner;
  first = stage.first;
  rounds = stage.rounds;
  taken = stage.taken;
  stop = stop;
  finished = stage.finished;
}

-- A step but for the count and the marks, with this stop.
pub record RunsTo (before : actors.Stage StageState Stop) (own : ParcelView) (stop : Option Stop)
    (after : actors.Stage StageState Stop) (result : ParcelView) : Type 0 where
  pub may : MayStop stage_work (is_passing before own) (stop_of stage_work before own) stop
  pub stage_is : after ≡ with_stop before (next stage_work before own stop).inner stop
  pub parcel_is : result ≡ parcel (made stage_work before own stop).load stop own.last

abbrev pub HasRun : StageParts → ParcelView → StageParts → ParcelView → Type 0
HasRun before own after result =
    (stop : Option Stop) × RunsTo (see before) own stop (see after) result

-- The firings of a round were done, and the parcel carries what is sent on; or they are stopped.
abbrev pub HasWorked : StageParts → ParcelView → Option Stop → StageParts → ParcelView → Type 0
HasWorked before own None after result =
    (due_stop_of (state_of before) own.load (state_of before).machine ≡ None)
    × (see after ≡ with_stop (see before)
    (state_of_step (state_of before) own.load (state_of before).machine None) before.stop)
    × (result ≡ parcel
    (load_of_step (state_of before) own.load (state_of before).machine None) own.stop own.last)
HasWorked before own (Some stop) after result =
    ((due_stop_of (state_of before) own.load (state_of before).machine ≡ Some stop)
    ⊎ (stop ≡ stops.NoMemory))
    × (with_machine (state_of after) None ≡ with_machine (state_of before) None)
    × (see after ≡ with_stop (see before) (state_of after) before.stop)
    × (parcels.emptied result.load ≡ parcels.emptied own.load)
    × (result.stop ≡ own.stop) × (result.last ≡ own.last)
