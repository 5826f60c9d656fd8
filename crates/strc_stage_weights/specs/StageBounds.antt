-- Bounds of stages of even work.
use Rattle.std.specs.Prelude.{◌≡◌, ℕ, suc, ◌-◌, ◌≤◌, List, length, map, slice_index}
use Rattle.std.specs.List.{range_with_len}
use Rattle.strc_batch_cut.specs.Picks.{AreAmong, picked}
use Rattle.strc_batch_cut.specs.Plans.{group_bound, plan_groups}
use Rattle.strc_batch_cut.specs.Weighed.{weighed_group}
use Rattle.strc_batch_cut.specs.Work.{work_bound}
use Rattle.strc_stage_plan.specs.Plans.{PlanParts}
use Rattle.strc_stage_steps.specs.Plans.{IsCut, plan_stages}
use Rattle.strc_stage_weights.specs.RoundWork.{work_of}

-- the bounds of so many stages, and the last one's end, by the weights of groups that begin so
abbrev pub bounds_by_weight : (starts weights : List ℕ) → (stages : ℕ) → List ℕ
bounds_by_weight starts weights stages =
    map (picked (slice_index starts) (weighed_group weights (length weights) stages))
    (range_with_len 0 (suc stages))

-- those of a plan's stages for so many workers, by the work of its nodes in a round
abbrev pub weighed_bounds : PlanParts → (workers : ℕ) → List ℕ
weighed_bounds plan workers =
    map (work_bound plan (work_of plan) workers)
    (range_with_len 0 (suc (plan_stages plan workers)))

-- bounds cut a plan into so many stages, each of whole groups
pub record AreStageBounds (plan : PlanParts) (stages : ℕ) (bounds : List ℕ) : Type 0 where
  pub many : length bounds ≡ suc stages
  pub some : 2 ≤ length bounds
  pub cut : IsCut plan (slice_index bounds) (suc (length bounds - 2))
  pub whole : AreAmong (slice_index bounds) (suc (length bounds - 2)) (group_bound plan)
      (plan_groups plan)
