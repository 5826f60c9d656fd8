-- What the picture of a plan says of the text that it is the plan of.
use Rattle.std.proofs.Common.{ℕ, List, Option, None, Ok, String, Global, Vec, subst, sym}
use Rattle.strc_elab_stream.specs.View.{stream_view}
use Rattle.strc_elab_stream.specs.declared.stream.Stream.{Stream}
use Rattle.strc_stage_plan.specs.Plans.{PlanParts}
use Rattle.strc_run_refusal.specs.declared.placed_refusal.PlacedRefusal.{PlacedRefusal}
use Rattle.strc_run.specs.Plans.{IsPlanOf}
use Rattle.strc_run.specs.Refuses.{IsTrueOf}
use Rattle.strc_run.specs.Streams.{IsStreamOf}
use Rattle.strc_cli.specs.declared.answer.Answer.{Answer}
use Rattle.strc_cli.specs.declared.answer.Answer.TheVariants as answer
use Rattle.strc_cli_output.specs.declared.stop.Stop.TheVariants as stop
use Rattle.strc_cli_words.specs.declared.line.Command.TheVariants as command
use Rattle.strc_cli.specs.Answering.{drawn_so, IsAnswered}
use Rattle.strc_cli.specs.Drawing.{IsGraphDrawn}

module _ (text : List ℕ) (depth : Option ℕ) (times : Vec ℕ Global) (main : Option (String Global))
    (bytes : Option (List ℕ)) (plan : PlanParts) (stream : Stream)
    (planned : IsPlanOf text (drawn_so None None main) plan)
    (means : IsStreamOf text (drawn_so None None main).main (stream_view stream)) where
  -- it answers the text
  pub picture_answers : (result : Answer) → IsGraphDrawn stream depth plan result
      → IsAnswered text (command.Graph None None None depth times main) bytes (Ok result)
  picture_answers (answer.Drawn picture) drawn = drawn text (drawn_so None None main) planned means
  picture_answers (answer.Ran other outcome batches) drawn = absurd drawn
  picture_answers (answer.Checked nodes channels) drawn = absurd drawn
  picture_answers (answer.Planned other) drawn = absurd drawn
  picture_answers (answer.Weighed other) drawn = absurd drawn
  picture_answers (answer.Emitted program) drawn = absurd drawn
  picture_answers (answer.Stopped (stop.Refused placed)) drawn =
      subst (λ (other : PlacedRefusal). IsTrueOf text (drawn_so None None main) other.refusal)
      (sym drawn) tt
  picture_answers (answer.Stopped (stop.BadInput word)) drawn = absurd drawn
  picture_answers (answer.Stopped (stop.NotRun why)) drawn = absurd drawn
  picture_answers (answer.Stopped (stop.ArrayLimit items)) drawn = absurd drawn
