-- The C of a plan, for whatever text it is the plan of.
use Rattle.std.specs.Prelude.{◌≡◌, ℕ, List, Option, String}
use Rattle.std.specs.declared.alloc.Global.{Global}
use Rattle.strc_stage_plan.specs.Plans.{PlanParts}
use Rattle.strc_run_refusal.specs.Placing.{unplaced}
use Rattle.strc_run_refusal.specs.declared.refusal.Refusal.TheVariants.{NoMemory}
use Rattle.strc_run.specs.Plans.{IsPlanOf}
use Rattle.strc_emit.specs.Emitting.{PassesItemLimit}
use Rattle.strc_emit_texts.specs.Texts.{AnswersText}
use Rattle.strc_cli.specs.Answering.{plain}
use Rattle.strc_cli.specs.declared.answer.Answer.{Answer}
use Rattle.strc_cli.specs.declared.answer.Answer.TheVariants as answer
use Rattle.strc_cli_output.specs.declared.stop.Stop.TheVariants as stop

-- it is given, and means what each text means that the plan is of; or it would have too many items,
-- or memory runs out
abbrev pub IsProgramGiven : PlanParts → Answer → Type 0
IsProgramGiven plan (answer.Emitted program) =
    (text : List ℕ) (main : Option (String Global)) → IsPlanOf text (plain main) plan
    → AnswersText text (plain main) plan program.items
IsProgramGiven plan (answer.Stopped (stop.Refused placed)) = placed ≡ unplaced NoMemory
IsProgramGiven plan (answer.Stopped (stop.ArrayLimit items)) = PassesItemLimit plan items
IsProgramGiven plan _ = ⊥
