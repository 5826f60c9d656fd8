-- The pictures of a stream's plan, for whatever text they are of.
use Rattle.std.specs.Prelude.{ℕ, List, Option, ◌≡◌}
use Rattle.strc_elab_stream.specs.View.{stream_view}
use Rattle.strc_elab_stream.specs.declared.stream.Stream.{Stream}
use Rattle.strc_stage_plan.specs.Plans.{PlanParts}
use Rattle.strc_run_refusal.specs.Placing.{unplaced}
use Rattle.strc_run_refusal.specs.declared.refusal.Refusal.TheVariants.{NoMemory}
use Rattle.strc_sched_outcome.specs.declared.run_refusal.RunRefusal.TheVariants.{BadWorkers}
use Rattle.strc_run.specs.Choices.{Choice}
use Rattle.strc_run.specs.Plans.{IsPlanOf}
use Rattle.strc_run.specs.Rounds.{AreWorkers}
use Rattle.strc_run.specs.Streams.{IsStreamOf}
use Rattle.strc_cli.specs.declared.answer.Answer.{Answer}
use Rattle.strc_cli.specs.declared.answer.Answer.TheVariants as answer
use Rattle.strc_cli_output.specs.declared.stop.Stop.TheVariants as stop
use Rattle.strc_cli.specs.Answering.{HasPicture, HasStagesPicture}

-- the flat graph of a stream's plan is drawn, or memory is refused
abbrev pub IsDrawn : Stream → (depth : Option ℕ) → (shares : List (Option ℕ)) → PlanParts
    → Answer → Type 0
IsDrawn stream depth shares plan (answer.Drawn picture) = (text : List ℕ) (choice : Choice)
    → IsPlanOf text choice plan → IsStreamOf text choice.main (stream_view stream)
    → HasPicture text choice depth shares picture.items
IsDrawn stream depth shares plan (answer.Stopped (stop.Refused placed)) =
    placed ≡ unplaced NoMemory
IsDrawn stream depth shares plan _ = ⊥

-- it is drawn with some shares of the time
abbrev pub IsGraphDrawn : Stream → (depth : Option ℕ) → PlanParts → Answer → Type 0
IsGraphDrawn stream depth plan (answer.Drawn picture) = (text : List ℕ) (choice : Choice)
    → IsPlanOf text choice plan → IsStreamOf text choice.main (stream_view stream)
    → (shares : List (Option ℕ)) × HasPicture text choice depth shares picture.items
IsGraphDrawn stream depth plan (answer.Stopped (stop.Refused placed)) = placed ≡ unplaced NoMemory
IsGraphDrawn stream depth plan _ = ⊥

-- what so many workers run of a stream's plan is drawn; or they can't run it, or memory is refused
abbrev pub AreStagesDrawn : Stream → PlanParts → (workers : ℕ) → Answer → Type 0
AreStagesDrawn stream plan workers (answer.Drawn picture) = (text : List ℕ) (choice : Choice)
    → IsPlanOf text choice plan → IsStreamOf text choice.main (stream_view stream)
    → HasStagesPicture text choice workers picture.items
AreStagesDrawn stream plan workers (answer.Stopped (stop.Refused placed)) =
    placed ≡ unplaced NoMemory
AreStagesDrawn stream plan workers (answer.Stopped (stop.NotRun BadWorkers)) =
    ¬ AreWorkers workers
AreStagesDrawn stream plan workers _ = ⊥
