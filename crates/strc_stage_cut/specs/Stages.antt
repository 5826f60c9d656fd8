-- A plan, cut into the stages that so many workers share.
use Rattle.std.specs.Prelude.{◌≡◌, ℕ, ◌<◌, length}
use Rattle.strc_stage_plan.specs.Plans.{PlanParts, graph_of}
use Rattle.strc_stage_cut.specs.Cuts.{IsCutting}
use Rattle.strc_stage_cut.specs.Launches.{bounds_of}
use Rattle.strc_stage_cut.specs.declared.plan_cut.Cut.{Cut}

-- the plan, and the number of workers
pub record StagesView : Type 0 where
  pub plan : PlanParts
  pub workers : ℕ

abbrev pub stages_view : PlanParts → (workers : ℕ) → StagesView
stages_view plan workers = record { plan = plan; workers = workers }

-- a plan with some node is cut so for some workers, whose stages fire a round's units in a step
pub record AreStages (plan : PlanParts) (workers : ℕ) (cut : Cut) : Type 0 where
  pub some_worker : 0 < workers
  pub some_node : 0 < length (graph_of plan).nodes
  pub cutting : IsCutting plan plan.split.schedule.round cut
  pub bounds : cut.bounds.items ≡ bounds_of plan workers
