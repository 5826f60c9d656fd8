-- Stages of even work, where each group has a weight: an estimate of what its firings of a round
-- cost (Gordon, Thies and Amarasinghe 2006: load balancing of software pipelines).
use Rattle.std.specs.Prelude.{◌≡◌, ℕ, zero, suc, ◌+◌, ◌-◌, ◌*◌, ◌<◌, ◌≤◌, min, max, All}
use Rattle.std.specs.Prelude.{if◌then◌else◌, length, take, drop}
use Rattle.std.specs.Prelude.{nat_le, nat_lt, List, [], ◌∷◌, sum}
use Rattle.strc_batch_cut.specs.Picks.{IsPick}

-- How many of the groups, from the first one on, have their middle no later than a share of all the
-- weight: stage of stages, where groups before them have some weight. With the middle at half of
-- the group's own weight, both sides are taken 2 * stages times.
abbrev pub groups_before : (weights : List ℕ) → (passed twice_share stages : ℕ) → ℕ
groups_before [] passed twice_share stages = 0
groups_before (weight ∷ weights) passed twice_share stages =
    if nat_le (stages * (2 * passed + weight)) twice_share
    then suc (groups_before weights (passed + weight) twice_share stages) else 0

-- The group that a stage begins with by weight: the first whose middle is past the stages before
-- it, each of an even share; but none that an earlier stage has to have.
abbrev pub least_group : (weights : List ℕ) → (stages stage : ℕ) → ℕ
least_group weights stages zero = 0
least_group weights stages (suc stage) =
    max (groups_before weights 0 (2 * (suc stage * sum weights)) stages)
    (suc (least_group weights stages stage))

-- And none that a later stage has to have: past the last stage are all groups.
abbrev pub weighed_group : (weights : List ℕ) → (groups stages stage : ℕ) → ℕ
weighed_group weights groups stages stage =
    if nat_lt stage stages then min (least_group weights stages stage) (groups - (stages - stage))
    else groups

-- Whatever the weights, each stage has some group, and all have all groups.
abbrev pub WeighedGroupsArePicks : Type 0
WeighedGroupsArePicks =
    (weights : List ℕ) (groups stages : ℕ) → 0 < stages → stages ≤ groups
    → IsPick (weighed_group weights groups stages) stages groups

-- The weight of the groups from one on and before another.
abbrev pub weight_between : (weights : List ℕ) → (first next : ℕ) → ℕ
weight_between weights first next = sum (take (next - first) (drop first weights))

-- And no stage weighs more than its even share of all the weight and the heaviest group.
abbrev pub WeighedStagesAreEven : Type 0
WeighedStagesAreEven =
    (weights : List ℕ) (groups stages heaviest stage : ℕ) → length weights ≡ groups
    → stages ≤ groups → All (λ weight. weight ≤ heaviest) weights → stage < stages
    → stages * weight_between weights (weighed_group weights groups stages stage)
    (weighed_group weights groups stages (suc stage))
    ≤ sum weights + stages * heaviest
