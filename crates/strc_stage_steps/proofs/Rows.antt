-- The row, computed from the definitions.
use Rattle.std.proofs.Common.{refl, sym, ℕ, ◌<◌, Bool, true, false, true≢false, arith, List, []}
use Rattle.std.proofs.Common.{◌∷◌}
use Rattle.strc_stage_core.specs.Actors.{is_passing, stop_of, is_marked, next, made, collected}
use Rattle.strc_stage_core.specs.Actors.{returned}
use Rattle.strc_stage_core.specs.States.{IsStart, IsFresh, first_core}
use Rattle.strc_stage_core.specs.Events.{before, may, is_over}
use Rattle.strc_stage_core.specs.declared.event.Event.{Event}
use Rattle.strc_stage_core.specs.declared.event.Event.TheVariants.{Take, Give}
use Rattle.strc_stage_core.specs.Driving.{past, step_at, take_from, give_from, core_after}
use Rattle.strc_stage_core.specs.Driving.{first_allowed}
use Rattle.strc_stage_core.specs.Driving.{after_first, drive_by, drive}
use Rattle.strc_stage_core.proofs.Driving.{driven_happen}
use Rattle.strc_stage_core.proofs.Starting.{first_state}
use Rattle.strc_elab_dataflow.specs.Ranges.{stage_within}
use Rattle.strc_stage_steps.specs.Rows.{two_stages, stage_of, TwoStagesRow}
use Rattle.strc_stage_steps.specs.Steps.{stage_work, stage_run}

abbrev choices : List Event
choices = Give 0 ∷ Take 0 ∷ Give 1 ∷ Take 1 ∷ Give 2 ∷ Take 2 ∷ []

fresh_at : (rounds stage : ℕ) (first : Bool)
    → IsFresh first rounds false (stage_of rounds stage first)
fresh_at rounds stage first = record {
  first_is = refl;
  rounds_are = refl;
  none_taken = refl;
  finished_is = refl;
  no_stop = λ going. refl;
}

begins : (rounds : ℕ) → 0 < rounds → IsStart (two_stages rounds)
begins rounds some = record {
  some_stage = omega arith;
  free_parcels = refl;
  fresh = (fresh_at rounds 0 true, (fresh_at rounds 1 false, tt));
  none_taken = refl;
  finished_is = refl;
  goes = λ going. some;
  no_stop = λ going. refl;
  why_done = λ done. absurd (true≢false (sym done));
}

pub two_stages_row : TwoStagesRow
unfolding is_passing stop_of is_marked next made collected returned first_core before may is_over
    past step_at take_from give_from core_after first_allowed after_first drive_by drive
    stage_within stage_run
two_stages_row = (
  record {
    begun = begins 1 (omega arith);
    core = (drive stage_work choices 12 (first_core (two_stages 1))).core;
    state = (driven_happen stage_work (two_stages 1) choices 12 (first_core (two_stages 1))
        (first_state stage_work (two_stages 1) (begins 1 (omega arith)))).1;
    over = refl;
    total_is = refl;
    stop_is = refl;
    ending_is = refl;
    told = refl;
  },
  record {
    begun = begins 3 (omega arith);
    core = (drive stage_work choices 60 (first_core (two_stages 3))).core;
    state = (driven_happen stage_work (two_stages 3) choices 60 (first_core (two_stages 3))
        (first_state stage_work (two_stages 3) (begins 3 (omega arith)))).1;
    over = refl;
    total_is = refl;
    stop_is = refl;
    ending_is = refl;
    told = (refl, refl, refl, refl, refl);
  },
)
