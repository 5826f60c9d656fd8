-- How much work the stages of a plan have, by an estimate of each node's work in a round: how often
-- it fires times what a firing costs.
use Rattle.std.specs.Prelude.{ℕ, suc, ◌+◌, ◌-◌, ◌*◌, ◌<◌, ◌≤◌, List, length, map, sum}
use Rattle.std.specs.List.{range_with_len}
use Rattle.strc_stage_plan.specs.Plans.{PlanParts, IsPlan, graph_of, transformed_of}
use Rattle.strc_stage_steps.specs.Plans.{plan_stages}
use Rattle.strc_batch_cut.specs.Plans.{plan_groups, group_bound, weighed_bound}

-- The work of the nodes from one number on and before another.
abbrev pub work_between : (work : (node : ℕ) → ℕ) → (first next : ℕ) → ℕ
work_between work first next = sum (map work (range_with_len first (next - first)))

-- The weights of groups: the work of their nodes.
abbrev pub group_weights : (work : (node : ℕ) → ℕ) → (bound : (group : ℕ) → ℕ) → (groups : ℕ)
    → List ℕ
group_weights work bound groups =
    map (λ group. work_between work (bound group) (bound (suc group))) (range_with_len 0 groups)

-- Those of a plan.
abbrev pub plan_weights : PlanParts → (work : (node : ℕ) → ℕ) → List ℕ
plan_weights plan work = group_weights work (group_bound plan) (plan_groups plan)

-- The bounds of stages by them.
abbrev pub work_bound : PlanParts → (work : (node : ℕ) → ℕ) → (workers stage : ℕ) → ℕ
work_bound plan work = weighed_bound plan (plan_weights plan work)

-- Whatever the estimate: no stage has more work than its even share of all nodes' and that of the
-- group that has the most.
abbrev pub StagesHaveEvenWork : Type 0
StagesHaveEvenWork =
    (plan : PlanParts) (work : (node : ℕ) → ℕ) (workers most stage : ℕ) → IsPlan plan
    → 0 < workers → 0 < length (graph_of plan).nodes
    → ((group : ℕ) → group < plan_groups plan
    → work_between work (group_bound plan group) (group_bound plan (suc group)) ≤ most)
    → stage < plan_stages plan workers
    → plan_stages plan workers
    * work_between work (work_bound plan work workers stage)
    (work_bound plan work workers (suc stage))
    ≤ work_between work 0 (length (transformed_of plan).nodes) + plan_stages plan workers * most
