-- What comes of the input of a plan, and of its rounds over it.
use Rattle.std.specs.Prelude.{◌≡◌, ◌<◌, length, ⊤, ℕ, ℤ, Bool, true, false, List, [], Option, Some, None, Result}
use Rattle.std.specs.Prelude.{Err, Ok, Vec}
use Rattle.std.specs.declared.alloc.Global.{Global}
use Rattle.strc_cli_input.specs.declared.input.ReadStop.{ReadStop}
use Rattle.strc_cli_input.specs.declared.input.ReadStop.TheVariants as stop
use Rattle.strc_cli_input.specs.ReadInput.{ReadsNumbers}
use Rattle.strc_stage_plan.specs.Plans.{PlanParts}
use Rattle.strc_run.specs.Rounds.{IsRunOf}
use Rattle.strc_run.specs.declared.sharing.Batching.{Batching}
use Rattle.strc_run.specs.declared.sharing.Batching.TheVariants as batching
use Rattle.strc_run.specs.declared.sharing.Sharing.{Sharing}
use Rattle.strc_run.specs.Batches.{AreBatchesOf}
use Rattle.strc_cli.specs.declared.execute.CliError.{CliError}
use Rattle.strc_cli.specs.declared.execute.CliError.TheVariants as failure
use Rattle.strc_cli.specs.declared.answer.Answer.{Answer}
use Rattle.strc_cli.specs.declared.answer.Answer.TheVariants as answer
use Rattle.strc_cli_output.specs.declared.stop.Stop.TheVariants as no_answer

-- the input of a graph with a reader, or of one without
abbrev pub IsInputOf : (reads : Bool) → (bytes : Option (List ℕ))
    → Result (Vec ℤ Global) ReadStop → Type 0
IsInputOf true bytes result = ReadsNumbers bytes result
IsInputOf false bytes (Ok numbers) = numbers.items ≡ []
IsInputOf false bytes (Err why) = ⊥

-- how many rounds are run at a time: so many where a number is given, else as many as suit them
abbrev pub batching_of : Option ℕ → Batching
batching_of (Some rounds) = batching.Of rounds
batching_of None = batching.Chosen

-- how the rounds of a plan are answered by so many workers
abbrev pub IsRunAnswer : PlanParts → List ℤ → (rounds : Option ℕ) → (workers : ℕ)
    → Answer → Type 0
IsRunAnswer plan input rounds workers (answer.Ran own outcome batches) =
    (own ≡ plan) × IsRunOf plan input rounds workers (Ok outcome)
IsRunAnswer plan input rounds workers (answer.Stopped (no_answer.NotRun refused)) =
    IsRunOf plan input rounds workers (Err refused)
IsRunAnswer plan input rounds workers _ = ⊥

-- what comes of an input that gives no numbers
abbrev pub unread : ReadStop → Result Answer CliError
unread (stop.BadInput word) = Ok (answer.Stopped (no_answer.BadInput word))
unread stop.Failed = Err failure.Read
unread stop.NoMemory = Err failure.Memory

-- what was run is this plan
abbrev pub RunsOwn : PlanParts → Result Answer CliError → Type 0
RunsOwn plan (Ok (answer.Ran own outcome batches)) = own ≡ plan
RunsOwn plan _ = ⊤

-- a run goes by the batches of its plan
abbrev pub AreAnswerBatches : PlanParts → List ℤ → (rounds : Option ℕ) → Sharing → Answer → Type 0
AreAnswerBatches plan input rounds sharing (answer.Ran own outcome batches) =
    0 < length plan.graph.nodes → AreBatchesOf plan input rounds sharing batches
AreAnswerBatches plan input rounds sharing _ = ⊤
