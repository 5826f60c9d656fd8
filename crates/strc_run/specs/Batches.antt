-- By which batches the rounds of a run go.
use Rattle.std.specs.Prelude.{◌≡◌, ℕ, ◌/◌, ◌%◌, ℤ, List, length, Option, Result, Ok, Err}
use Rattle.std.specs.Prelude.{if◌then◌else◌, Bool, false, ◌&&◌, nat_le, nat_lt, ◌-◌, ◌^◌, min, sum}
use Rattle.strc_stage_plan.specs.Plans.{PlanParts}
use Rattle.strc_stage_steps.specs.Plans.{need_of}
use Rattle.strc_sched_outcome.specs.declared.outcome.Outcome.{Outcome}
use Rattle.strc_sched_outcome.specs.declared.run_refusal.RunRefusal.{RunRefusal}
use Rattle.strc_batch.specs.Choice.{chosen_batch}
use Rattle.strc_stage_weights.specs.RoundWork.{node_works}
use Rattle.strc_stage_weights.specs.StepRounds.{rounds_for_step}
use Rattle.strc_run.specs.Rounds.{IsCount}
use Rattle.strc_run.specs.declared.sharing.Batches.{Batches}
use Rattle.strc_run.specs.declared.sharing.Batching.{Batching}
use Rattle.strc_run.specs.declared.sharing.Batching.TheVariants as batching
use Rattle.strc_run.specs.declared.sharing.SharedRun.{SharedRun}
use Rattle.strc_run.specs.declared.sharing.Sharing.{Sharing}

-- how many rounds a step of one of so many workers is to have, so that its work is worth handing
-- its parcel on
abbrev pub step_rounds : PlanParts → (workers : ℕ) → ℕ
step_rounds plan workers = rounds_for_step (min (sum (node_works plan)) (2 ^ 64 - 1)) workers

-- so many at the least; one where one worker does all
abbrev pub least_rounds : PlanParts → (workers : ℕ) → ℕ
least_rounds plan workers = if nat_lt 1 workers then step_rounds plan workers else 1

-- how many rounds a batch is to have where each worker has so many: so many as are given, else as
-- many as suit the plan
abbrev pub wanted_batch : PlanParts → Batching → (rounds least : ℕ) → ℕ
wanted_batch plan batching.One rounds least = 1
wanted_batch plan batching.Chosen rounds least = chosen_batch plan rounds least
wanted_batch plan (batching.Of count) rounds least = count

-- where so many rounds are shared
abbrev pub shared_batch : PlanParts → Sharing → (rounds : ℕ) → ℕ
shared_batch plan sharing rounds =
    wanted_batch plan sharing.batching (rounds / sharing.workers)
    (least_rounds plan sharing.workers)

-- whether so many rounds have a batch of so many
abbrev pub has_batch : (wanted rounds : ℕ) → Bool
has_batch wanted rounds = nat_le 1 wanted && nat_le wanted rounds

-- rounds go by batches of so many, and before them go those that are no whole batch; else one by
-- one, and not again
pub record IsBatched (wanted count : ℕ) (batches : Batches) : Type 0 where
  pub rounds : batches.rounds ≡ count
  pub each : batches.each ≡ (if has_batch wanted count then wanted else 1)
  pub before : batches.before ≡ count % batches.each
  pub alone : has_batch wanted count ≡ false → batches.fell_back ≡ false

-- so many rounds of a plan do, however they are shared
abbrev pub AreBatches : PlanParts → Sharing → (rounds : ℕ) → Batches → Type 0
AreBatches plan sharing rounds batches =
    IsBatched (shared_batch plan sharing rounds) rounds batches

-- so do as many as are asked for
abbrev pub AreBatchesOf : PlanParts → List ℤ → (asked : Option ℕ) → Sharing → Batches → Type 0
AreBatchesOf plan input asked sharing batches =
    (rounds : ℕ) × IsCount (need_of plan) (length input) asked rounds
    × AreBatches plan sharing rounds batches

-- how a run ended
abbrev pub outcome_of : Result SharedRun RunRefusal → Result Outcome RunRefusal
outcome_of (Ok run) = Ok run.outcome
outcome_of (Err refusal) = Err refusal
