-- What the stages of a plan fire in a step: the units of its round, or those of a batch of rounds.
use Rattle.std.specs.Prelude.{◌≡◌, ℕ, suc, ◌<◌, ◌≤◌, ◌^◌, List, All, length}
use Rattle.strc_elab_dataflow.specs.Order as orders
use Rattle.strc_elab_graph.specs.Graphs.{Channel}
use Rattle.strc_sched_orders.specs.Greedy.{firings_of}
use Rattle.strc_sched_orders.specs.Order.{firing_count}
use Rattle.strc_sched_orders.specs.Peaks.{HasNodes}
use Rattle.strc_sched_orders.specs.declared.unit as units
use Rattle.strc_fuse.specs.Units.{round_units}
use Rattle.strc_stage_plan.specs.Cuts.{IsBetweenUnits}
use Rattle.strc_stage_plan.specs.Plans.{PlanParts, transformed_of}
use Rattle.strc_stage_steps.specs.Runnings.{Running}
use Rattle.strc_stage_cut.specs.Bounds.{bound_in, last_of}
use Rattle.strc_stage_cut.specs.Links.{carried_between}

-- The graph of a plan, where these units are fired at a time: each node fires as often as it is in
-- them. Those of the plan's round make it what runs in rounds.
abbrev pub running_by : PlanParts → List units.Unit.Unit → Running
running_by plan fired = record {
  graph = transformed_of plan;
  counts = orders.firing_count (firings_of fired);
  order = firings_of fired;
  sizes = plan.split.schedule.sizes;
}

-- Such units can be shared among stages with these bounds: they are of nodes that are there, each
-- is of nodes of one stage, and how often a node fires, and what a channel carries from stage to
-- stage, fits 32 bits.
pub record CanBeShared (plan : PlanParts) (fired : List units.Unit.Unit) (bounds : List ℕ) : Type 0
  where
    pub nodes : All (HasNodes (length plan.split.graph.nodes)) fired
    pub between : (stage : ℕ) → stage ≤ suc (last_of bounds)
        → IsBetweenUnits (round_units fired) (bound_in bounds stage)
    pub counts_few : (node : ℕ) → firing_count (firings_of fired) node < 2 ^ 32
    pub items_few : All (λ (channel : Channel). carried_between (transformed_of plan)
        (running_by plan fired).counts bounds channel < 2 ^ 32) (transformed_of plan).channels
