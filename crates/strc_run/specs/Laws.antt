-- What holds of all texts.
use Rattle.std.specs.Prelude.{◌≡◌, ℕ, ℤ, List, Option, Result}
use Rattle.strc_sched_outcome.specs.declared.outcome.Outcome.{Outcome}
use Rattle.strc_sched_outcome.specs.declared.run_refusal.RunRefusal.{RunRefusal}
use Rattle.strc_stage_plan.specs.Plans.{PlanParts}
use Rattle.strc_run_refusal.specs.declared.refusal.Refusal.{Refusal}
use Rattle.strc_run.specs.Accepts.{Accepts}
use Rattle.strc_run.specs.Choices.{Choice}
use Rattle.strc_run.specs.Plans.{IsPlanOf}
use Rattle.strc_run.specs.Refuses.{Refuses}
use Rattle.strc_run.specs.Rounds.{IsRunOf}
use Rattle.strc_run.specs.TextRuns.{IsTextRun}

-- no text is both accepted and refused
abbrev pub AcceptedOrRefused : Type 0
AcceptedOrRefused = (text : List ℕ) (choice : Choice) (plan : PlanParts) (refused : Refusal)
    → Accepts text choice plan → Refuses text choice refused → ⊥

-- a text is accepted with one stream
abbrev pub OneStream : Type 0
OneStream = (text : List ℕ) (choice : Choice) (plan other : PlanParts)
    → (accepted : Accepts text choice plan) → (again : Accepts text choice other)
    → accepted.stream ≡ again.stream

-- what the rounds of a text's plan come to is what those of the text come to
abbrev pub PlansAnswerTexts : Type 0
PlansAnswerTexts = (text : List ℕ) (choice : Choice) (plan : PlanParts) (input : List ℤ)
    (asked : Option ℕ) (workers : ℕ) (result : Result Outcome RunRefusal)
    → IsPlanOf text choice plan → IsRunOf plan input asked workers result
    → IsTextRun text choice plan input asked workers result
