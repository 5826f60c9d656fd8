-- Where a command's text is refused: what is drawn or told of its plan refuses no statement of it.
use Rattle.std.proofs.Common.{◌≡◌, ℕ, List, Ok, Option, refl, subst, sym}
use Rattle.strc_elab_stream.specs.declared.stream.Stream.{Stream}
use Rattle.strc_run_refusal.specs.Placing.{unplaced}
use Rattle.strc_run_refusal.specs.declared.placed_refusal.PlacedRefusal.{PlacedRefusal}
use Rattle.strc_run_refusal.specs.declared.refusal.Refusal.TheVariants.{NoMemory}
use Rattle.strc_stage_plan.specs.Plans.{PlanParts}
use Rattle.strc_run.specs.Located.{IsLocated}
use Rattle.strc_cli_output.specs.declared.stop.Stop.TheVariants as stop
use Rattle.strc_cli.specs.declared.answer.Answer.{Answer}
use Rattle.strc_cli.specs.declared.answer.Answer.TheVariants as answer
use Rattle.strc_cli_words.specs.declared.line.Command.{Command}
use Rattle.strc_cli.specs.Answering.{choice_of}
use Rattle.strc_cli.specs.Drawing.{AreStagesDrawn, IsDrawn, IsGraphDrawn}
use Rattle.strc_cli.specs.Weighing.{IsWeighed}
use Rattle.strc_cli_words.specs.declared.line.SortKey.{SortKey}
use Rattle.strc_cli.specs.Explaining.{IsRefusedAt}

-- a picture with some shares is one of the graph
pub graph_so : (stream : Stream) (depth : Option ℕ) (shares : List (Option ℕ)) (plan : PlanParts)
    (result : Answer) → IsDrawn stream depth shares plan result
    → IsGraphDrawn stream depth plan result
graph_so stream depth shares plan (answer.Ran other outcome batches) drawn = drawn
graph_so stream depth shares plan (answer.Checked nodes channels) drawn = drawn
graph_so stream depth shares plan (answer.Planned other) drawn = drawn
graph_so stream depth shares plan (answer.Weighed other) drawn = drawn
graph_so stream depth shares plan (answer.Drawn picture) drawn =
    λ text choice planned means. (shares, drawn text choice planned means)
graph_so stream depth shares plan (answer.Emitted program) drawn = drawn
graph_so stream depth shares plan (answer.Stopped (stop.Refused placed)) drawn = drawn
graph_so stream depth shares plan (answer.Stopped (stop.BadInput word)) drawn = drawn
graph_so stream depth shares plan (answer.Stopped (stop.NotRun why)) drawn = drawn
graph_so stream depth shares plan (answer.Stopped (stop.ArrayLimit items)) drawn = drawn

module _ (text : List ℕ) (command : Command) where
  -- memory is refused by no statement
  pub memory_so : (placed : PlacedRefusal) → placed ≡ unplaced NoMemory
      → IsLocated text (choice_of command) placed
  memory_so placed same =
      subst (λ (other : PlacedRefusal). IsLocated text (choice_of command) other) (sym same)
      (IsLocated.Unread tt refl)

  module _ (stream : Stream) (plan : PlanParts) where
    -- the picture of a plan
    pub drawn_so : (depth : Option ℕ) (result : Answer) → IsGraphDrawn stream depth plan result
        → IsRefusedAt text command (Ok result)
    drawn_so depth (answer.Ran other outcome batches) given = tt
    drawn_so depth (answer.Checked nodes channels) given = tt
    drawn_so depth (answer.Planned other) given = tt
    drawn_so depth (answer.Weighed other) given = tt
    drawn_so depth (answer.Drawn picture) given = tt
    drawn_so depth (answer.Emitted program) given = tt
    drawn_so depth (answer.Stopped (stop.Refused placed)) given = memory_so placed given
    drawn_so depth (answer.Stopped (stop.BadInput word)) given = tt
    drawn_so depth (answer.Stopped (stop.NotRun why)) given = tt
    drawn_so depth (answer.Stopped (stop.ArrayLimit items)) given = tt

    -- that of its stages
    pub stages_so : (workers : ℕ) (result : Answer) → AreStagesDrawn stream plan workers result
        → IsRefusedAt text command (Ok result)
    stages_so workers (answer.Ran other outcome batches) given = tt
    stages_so workers (answer.Checked nodes channels) given = tt
    stages_so workers (answer.Planned other) given = tt
    stages_so workers (answer.Weighed other) given = tt
    stages_so workers (answer.Drawn picture) given = tt
    stages_so workers (answer.Emitted program) given = tt
    stages_so workers (answer.Stopped (stop.Refused placed)) given = memory_so placed given
    stages_so workers (answer.Stopped (stop.BadInput word)) given = tt
    stages_so workers (answer.Stopped (stop.NotRun why)) given = tt
    stages_so workers (answer.Stopped (stop.ArrayLimit items)) given = tt

    -- its lines
    pub weighed_so : (sort : Option SortKey) (result : Answer) → IsWeighed stream plan sort result
        → IsRefusedAt text command (Ok result)
    weighed_so sort (answer.Ran other outcome batches) given = tt
    weighed_so sort (answer.Checked nodes channels) given = tt
    weighed_so sort (answer.Planned other) given = tt
    weighed_so sort (answer.Weighed other) given = tt
    weighed_so sort (answer.Drawn picture) given = tt
    weighed_so sort (answer.Emitted program) given = tt
    weighed_so sort (answer.Stopped (stop.Refused placed)) given = memory_so placed given
    weighed_so sort (answer.Stopped (stop.BadInput word)) given = tt
    weighed_so sort (answer.Stopped (stop.NotRun why)) given = tt
    weighed_so sort (answer.Stopped (stop.ArrayLimit items)) given = tt
