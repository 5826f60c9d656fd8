-- How many rounds a step of a stage is to have, so that its work is worth handing its parcel on.
use Rattle.std.specs.Prelude.{ℕ, ◌*◌, ◌/◌, min, max}
use Rattle.strc_stage_weights.specs.declared.step_rounds.TheConstants.{MOST_ROUNDS, STEP_WORK}

-- for a round with so much work, which so many workers share
abbrev pub rounds_for_step : (work workers : ℕ) → ℕ
rounds_for_step work workers = max (min (STEP_WORK * workers / max work 1) MOST_ROUNDS) 1
