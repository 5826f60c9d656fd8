-- The lines of a stream's plan with what is told of each node, for whatever text they are of.
use Rattle.std.specs.Prelude.{◌≡◌, ℕ, List, Option}
use Rattle.strc_elab_stream.specs.View.{stream_view}
use Rattle.strc_elab_stream.specs.declared.stream.Stream.{Stream}
use Rattle.strc_stage_plan.specs.Plans.{PlanParts}
use Rattle.strc_run_refusal.specs.Placing.{unplaced}
use Rattle.strc_run_refusal.specs.declared.refusal.Refusal.TheVariants.{NoMemory}
use Rattle.strc_run.specs.Choices.{Choice}
use Rattle.strc_run.specs.Plans.{IsPlanOf}
use Rattle.strc_run.specs.Streams.{IsStreamOf}
use Rattle.strc_cli_output.specs.declared.stop.Stop.TheVariants as stop
use Rattle.strc_cli.specs.declared.answer.Answer.{Answer}
use Rattle.strc_cli.specs.declared.answer.Answer.TheVariants as answer
use Rattle.strc_cli.specs.LongPlans.{HasLongPlan}
use Rattle.strc_cli_words.specs.declared.line.SortKey.{SortKey}
pub use Rattle.strc_cli.specs.LongPlans.{order_of}

-- the lines of a stream's plan, or memory is refused
abbrev pub IsWeighed : Stream → PlanParts → Option SortKey → Answer → Type 0
IsWeighed stream plan sort (answer.Weighed lines) = (text : List ℕ) (choice : Choice)
    → IsPlanOf text choice plan → IsStreamOf text choice.main (stream_view stream)
    → HasLongPlan text choice sort lines.items
IsWeighed stream plan sort (answer.Stopped (stop.Refused placed)) = placed ≡ unplaced NoMemory
IsWeighed stream plan sort _ = ⊥
