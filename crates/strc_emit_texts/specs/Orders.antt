-- The order of a plan's round where nothing is split or fused.
use Rattle.std.specs.Prelude.{◌≡◌, ℕ, List, Option}
use Rattle.strc_sched_laws.specs.Laws.{round_order}
use Rattle.strc_stage_plan.specs.Plans.{PlanParts, IsPlan}
use Rattle.strc_stage_steps.specs.Names.{plan_order}
use Rattle.strc_run.specs.Choices.{Choice}
use Rattle.strc_run.specs.Plans.{IsPlanOf}

-- a text is compiled so that nothing is split or fused
abbrev pub unchanged : (main : Option (List ℕ)) → Choice
unchanged main = record { main = main; ways = 1; fuse = 0 }

-- so the firings of its round are those of its schedule's, in the same order
abbrev pub UnchangedPlansKeepOrder : Type 0
UnchangedPlansKeepOrder =
    (text : List ℕ) (main : Option (List ℕ)) (plan : PlanParts)
    → IsPlan plan → IsPlanOf text (unchanged main) plan
    → plan_order plan ≡ round_order plan.schedule
