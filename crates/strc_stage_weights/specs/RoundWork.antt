-- The work of a node in a round: that of a firing as often as it fires.
use Rattle.std.specs.Prelude.{ℕ, ◌*◌, min, List, length, map, slice_index}
use Rattle.std.specs.List.{range_with_len}
use Rattle.strc_sched_orders.specs.Greedy.{firings_of}
use Rattle.strc_sched_orders.specs.Order.{firing_count}
use Rattle.strc_stage_plan.specs.Plans.{PlanParts, transformed_of}
use Rattle.strc_stage_weights.specs.FiringWork.{firing_works}
use Rattle.strc_stage_weights.specs.declared.unit_work.TheConstants.{ROUND_WORK_LIMIT}

-- of so many firings that have so much each, saturated
abbrev pub work_in_round : (count firing : ℕ) → ℕ
work_in_round count firing = min (count * firing) ROUND_WORK_LIMIT

-- of each node, where a firing of each has so much, and an order is the round's
abbrev pub round_works : (firings order : List ℕ) → List ℕ
round_works firings order =
    map (λ node. work_in_round (firing_count order node) (slice_index firings node))
    (range_with_len 0 (length firings))

-- of each node of the graph that is run
abbrev pub node_works : PlanParts → List ℕ
node_works plan =
    round_works (firing_works (transformed_of plan).nodes)
    (firings_of plan.split.schedule.round)

abbrev pub work_of : PlanParts → (node : ℕ) → ℕ
work_of plan node = slice_index (node_works plan) node
