-- What the C of a plan says of the text that it is the plan of.
use Rattle.std.proofs.Common.{ℕ, List, Option, Ok, String, Global, refl, subst, sym}
use Rattle.strc_stage_plan.specs.Plans.{PlanParts}
use Rattle.strc_run_refusal.specs.declared.placed_refusal.PlacedRefusal.{PlacedRefusal}
use Rattle.strc_run.specs.Located.{IsLocated}
use Rattle.strc_run.specs.Plans.{IsPlanOf}
use Rattle.strc_run.specs.Refuses.{IsTrueOf}
use Rattle.strc_cli.specs.declared.answer.Answer.{Answer}
use Rattle.strc_cli.specs.declared.answer.Answer.TheVariants as answer
use Rattle.strc_cli_output.specs.declared.stop.Stop.TheVariants as stop
use Rattle.strc_cli_words.specs.declared.line.Command.{Command}
use Rattle.strc_cli_words.specs.declared.line.Command.TheVariants as command
use Rattle.strc_cli.specs.Answering.{choice_of, plain, IsAnswered}
use Rattle.strc_cli.specs.Explaining.{IsRefusedAt}
use Rattle.strc_cli.specs.Programs.{IsProgramGiven}

-- it answers the text
pub program_answers : (text : List ℕ) (main : Option (String Global)) (bytes : Option (List ℕ))
    (plan : PlanParts) (result : Answer) → IsPlanOf text (plain main) plan
    → IsProgramGiven plan result → IsAnswered text (command.Emit main) bytes (Ok result)
program_answers text main bytes plan (answer.Emitted program) is given = record {
  plan = plan;
  answers = given text main is;
}
program_answers text main bytes plan (answer.Ran other outcome batches) is given = absurd given
program_answers text main bytes plan (answer.Checked nodes channels) is given = absurd given
program_answers text main bytes plan (answer.Planned other) is given = absurd given
program_answers text main bytes plan (answer.Weighed other) is given = absurd given
program_answers text main bytes plan (answer.Drawn picture) is given = absurd given
program_answers text main bytes plan (answer.Stopped (stop.Refused placed)) is given =
    subst (λ (other : PlacedRefusal). IsTrueOf text (plain main) other.refusal) (sym given) tt
program_answers text main bytes plan (answer.Stopped (stop.BadInput word)) is given = absurd given
program_answers text main bytes plan (answer.Stopped (stop.NotRun why)) is given = absurd given
program_answers text main bytes plan (answer.Stopped (stop.ArrayLimit items)) is given = record {
  plan = plan;
  planned = is;
  passes = given;
}

-- and refuses no statement of it
pub program_located : (text : List ℕ) (command : Command) (plan : PlanParts)
    (result : Answer) → IsProgramGiven plan result
    → IsRefusedAt text command (Ok result)
program_located text command plan (answer.Ran other outcome batches) given = tt
program_located text command plan (answer.Checked nodes channels) given = tt
program_located text command plan (answer.Planned other) given = tt
program_located text command plan (answer.Weighed other) given = tt
program_located text command plan (answer.Drawn picture) given = tt
program_located text command plan (answer.Emitted program) given = tt
program_located text command plan (answer.Stopped (stop.Refused placed)) given =
    subst (λ (other : PlacedRefusal). IsLocated text (choice_of command) other) (sym given)
    (IsLocated.Unread tt refl)
program_located text command plan (answer.Stopped (stop.BadInput word)) given = tt
program_located text command plan (answer.Stopped (stop.NotRun why)) given = tt
program_located text command plan (answer.Stopped (stop.ArrayLimit items)) given = tt
