-- A plan that is cut into stages, with its channels by the stages that they join.
use Rattle.std.specs.Prelude.{◌≡◌, ℕ, suc, ◌≤◌, List, length, map}
use Rattle.strc_elab_graph.specs.Graphs.{IsGraph}
use Rattle.strc_elab_graph.specs.Tapes.{tape_nodes}
use Rattle.strc_sched_orders.specs.declared.unit as units
use Rattle.strc_stage_plan.specs.Plans.{IsPlan, PlanParts, transformed_of}
use Rattle.strc_stage_steps.specs.Plans.{IsCut}
use Rattle.strc_stage_cut.specs.Bounds.{bound_in, last_of}
use Rattle.strc_stage_cut.specs.Fired.{CanBeShared, running_by}
use Rattle.strc_stage_cut.specs.Links.{carried_between, links_of}
use Rattle.strc_stage_cut.specs.declared.plan_cut.Cut.{Cut}

-- A plan whose stages have these bounds.
pub record IsCutAt (plan : PlanParts) (bounds : List ℕ) : Type 0 where
  pub is : IsPlan plan
  pub graph : IsGraph (transformed_of plan)
  pub some : 2 ≤ length bounds
  pub cut : IsCut plan (bound_in bounds) (suc (last_of bounds))

-- A cut of a plan whose stages fire these units in a step.
pub record IsCutting (plan : PlanParts) (fired : List units.Unit.Unit) (cut : Cut) : Type 0 where
  pub at : IsCutAt plan cut.bounds.items
  pub shared : CanBeShared plan fired cut.bounds.items
  pub links : cut.links.items ≡ links_of (transformed_of plan) (running_by plan fired).counts
      cut.bounds.items
  pub rooms : cut.rooms.items
      ≡ map (carried_between (transformed_of plan) (running_by plan fired).counts cut.bounds.items)
      (transformed_of plan).channels
  pub tapes : cut.tapes.items ≡ tape_nodes (transformed_of plan).nodes
