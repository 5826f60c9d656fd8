-- What is answered for a text, a command and an input, before anything is written.
use Rattle.std.specs.Prelude.{◌≡◌, ℕ, ℤ, Bool, true, false, List, [], length, Option, Result, Ok}
use Rattle.std.specs.Prelude.{Err, String, string_bytes, None, Some, unwrap_or, nat_lt}
use Rattle.std.specs.Prelude.{if◌then◌else◌, ◌-◌, ◌/◌, ◌^◌}
use Rattle.std.specs.declared.alloc.Global.{Global}
use Rattle.std.specs.Option.{option_map}
use Rattle.strc_cli_input.specs.ReadInput.{WritesNumbers}
use Rattle.strc_sched_outcome.specs.declared.outcome.Outcome.{Outcome}
use Rattle.strc_sched_outcome.specs.declared.run_refusal.RunRefusal.{RunRefusal}
use Rattle.strc_sched_outcome.specs.declared.run_refusal.RunRefusal.TheVariants.{BadWorkers}
use Rattle.strc_elab_stream.specs.View.{stream_view}
use Rattle.strc_elab_stream.specs.declared.stream.Stream.{Stream}
use Rattle.strc_elab_paths.specs.Outlines.{outline}
use Rattle.strc_elab_paths.specs.Paths.{labels_of}
use Rattle.strc_fuse.specs.Units.{round_units}
use Rattle.strc_cli_pictures.specs.Boxes.{picture_text}
use Rattle.strc_cli_pictures.specs.Parts.{labels_after, round_shares, startup_shares}
use Rattle.strc_cli_pictures.specs.Stages.{plan_picture_text}
use Rattle.strc_stage_plan.specs.Plans.{PlanParts, graph_of}
use Rattle.strc_stage_plan.specs.Bounds.{stage_bounds}
use Rattle.strc_stage_weights.specs.StageBounds.{weighed_bounds}
use Rattle.strc_batch.specs.Choice.{chosen_batch}
use Rattle.strc_run.specs.Batches.{least_rounds}
use Rattle.strc_emit.specs.Emitting.{PassesItemLimit}
use Rattle.strc_emit_texts.specs.Texts.{AnswersText}
use Rattle.strc_run.specs.Accepts.{Accepts}
use Rattle.strc_run.specs.Choices.{Choice}
use Rattle.strc_run.specs.Plans.{IsPlanOf}
use Rattle.strc_run.specs.Rounds.{AreWorkers}
use Rattle.strc_run.specs.Streams.{IsStreamOf}
use Rattle.strc_run.specs.Refuses.{IsTrueOf}
use Rattle.strc_run.specs.TextRuns.{IsTextRun, has_reader}
use Rattle.strc_cli.specs.LongPlans.{HasLongPlan}
use Rattle.strc_cli.specs.declared.execute.CliError.{CliError}
use Rattle.strc_cli.specs.declared.execute.CliError.TheVariants as error
use Rattle.strc_cli.specs.declared.answer.Answer.{Answer}
use Rattle.strc_cli.specs.declared.answer.Answer.TheVariants as answer
use Rattle.strc_cli_output.specs.declared.stop.Stop.{Stop}
use Rattle.strc_cli_output.specs.declared.stop.Stop.TheVariants as stop
use Rattle.strc_cli_words.specs.declared.line.Command.{Command}
use Rattle.strc_cli_words.specs.declared.line.Command.TheVariants as command

-- a text is compiled for the main stream of this name, where there is one, with so many copies of a
-- node, and so many entries in the list of a fused unit
abbrev pub chosen : (main : Option (String Global)) → (ways fuse : ℕ) → Choice
chosen main ways fuse = record { main = option_map string_bytes main; ways = ways; fuse = fuse }

-- nothing is split or fused
abbrev pub plain : (main : Option (String Global)) → Choice
plain main = chosen main 1 0

-- to draw what is run, with these numbers where they are given
abbrev pub drawn_so : (ways fuse : Option ℕ) → (main : Option (String Global)) → Choice
drawn_so ways fuse main = chosen main (unwrap_or ways 1) (unwrap_or fuse 0)

-- how a command's text is compiled: nodes are split and units fused to run it, and to draw what is
-- run
abbrev pub choice_of : Command → Choice
choice_of (command.Run rounds workers ways fuse batch stats main) = chosen main ways fuse
choice_of (command.Check main) = plain main
choice_of (command.Plan long sort main) = plain main
choice_of (command.Emit main) = plain main
choice_of (command.Graph workers ways fuse depth times main) = drawn_so ways fuse main

-- the input of a program that reads one is what the bytes write; that of another one is empty
abbrev pub IsInput : (reads : Bool) → (bytes : Option (List ℕ)) → List ℤ → Type 0
IsInput true bytes input = WritesNumbers bytes (Ok input)
IsInput false bytes input = input ≡ []

-- the text is accepted, and its rounds by so many workers over the input that the bytes write end
-- so: with the answer of the stream equations of its main stream, which is the same for each number
-- of workers, or with why they aren't run
pub record RunsText (text : List ℕ) (choice : Choice) (rounds : Option ℕ) (workers : ℕ)
    (bytes : Option (List ℕ)) (result : Result Outcome RunRefusal) : Type 0 where
  pub plan : PlanParts
  pub accepted : Accepts text choice plan
  pub input : List ℤ
  pub given : IsInput (has_reader accepted.stream) bytes input
  pub ends : IsTextRun text choice plan input rounds workers result

-- the text is accepted, and its main stream has a reader of the input
pub record ReadsText (text : List ℕ) (choice : Choice) : Type 0 where
  pub plan : PlanParts
  pub accepted : Accepts text choice plan
  pub reads : has_reader accepted.stream ≡ true

-- the text is accepted, and its flat graph has so many nodes and channels
pub record HasSize (text : List ℕ) (choice : Choice)
    (node_count channel_count : ℕ) : Type 0 where
  pub plan : PlanParts
  pub accepted : Accepts text choice plan
  pub nodes : node_count ≡ length (graph_of plan).nodes
  pub channels : channel_count ≡ length (graph_of plan).channels

-- the text is accepted, and this is the picture of its flat graph, with the counts and the sizes of
-- its plan, in boxes as its main stream has composite streams, to this depth and with these shares
pub record HasPicture (text : List ℕ) (choice : Choice) (depth : Option ℕ)
    (shares : List (Option ℕ)) (picture : List ℕ) : Type 0 where
  pub plan : PlanParts
  pub planned : IsPlanOf text choice plan
  pub stream : Stream
  pub means : IsStreamOf text choice.main (stream_view stream)
  pub drawn : picture ≡ picture_text stream plan.graph plan.startup_counts plan.round_counts
      plan.schedule.sizes depth shares

-- the text is accepted, and this is the C of its plan, which means what its main stream means
pub record HasProgram (text : List ℕ) (choice : Choice) (program : List ℕ) : Type 0 where
  pub plan : PlanParts
  pub answers : AnswersText text choice plan program

-- the text is accepted, and its plan's C would have so many items, more than there may be
pub record HasTooManyItems (text : List ℕ) (choice : Choice) (items : ℕ) : Type 0 where
  pub plan : PlanParts
  pub planned : IsPlanOf text choice plan
  pub passes : PassesItemLimit plan items

-- the bounds of the stages that so many workers run: those of even work, where there are nodes
abbrev pub run_bounds : PlanParts → (workers : ℕ) → List ℕ
run_bounds plan workers =
    if nat_lt 0 (length plan.graph.nodes) then weighed_bounds plan workers
    else stage_bounds plan.split.graph.outer_loops (round_units plan.split.schedule.round) workers

-- how many rounds so many workers run at a time, where there are as many as can be
abbrev pub run_batch : PlanParts → (workers : ℕ) → ℕ
run_batch plan workers =
    chosen_batch plan ((2 ^ 32 - 1) / workers) (least_rounds plan workers)

-- the picture of what so many workers run: of a plan's graph after fission, in boxes of stages and
-- of fused units, with these labels of its nodes before
abbrev pub labelled_text : (labels : List (List ℕ)) → PlanParts → (workers : ℕ) → List ℕ
labelled_text labels plan workers =
    let split = plan.split in
    plan_picture_text split.graph (labels_after split.graph.nodes split.origins labels)
    (startup_shares split.graph.nodes split.origins plan.startup_counts)
    (round_shares split.graph.nodes split.origins plan.round_counts)
    split.schedule.sizes split.schedule.round (run_bounds plan workers) (run_batch plan workers)

-- with those that they have in this stream
abbrev pub stages_text : Stream → PlanParts → (workers : ℕ) → List ℕ
stages_text stream plan workers = labelled_text (labels_of (outline [] stream)) plan workers

-- the text is accepted, and this is the picture of what so many workers run, which can run it
pub record HasStagesPicture (text : List ℕ) (choice : Choice) (workers : ℕ) (picture : List ℕ)
    : Type 0 where
  pub plan : PlanParts
  pub planned : IsPlanOf text choice plan
  pub are : AreWorkers workers
  pub stream : Stream
  pub means : IsStreamOf text choice.main (stream_view stream)
  pub drawn : picture ≡ stages_text stream plan workers

-- the picture of a text's flat graph with shares of the time, or of what is run where one of three
-- numbers is given
abbrev pub IsPictureOf : List ℕ → (workers ways fuse depth : Option ℕ)
    → (main : Option (String Global)) → (picture : List ℕ) → Type 0
IsPictureOf text None None None depth main picture = (shares : List (Option ℕ))
    × HasPicture text (drawn_so None None main) depth shares picture
IsPictureOf text workers ways fuse depth main picture =
    HasStagesPicture text (drawn_so ways fuse main) (unwrap_or workers 1) picture

-- an answer is what a command asks of the text: the outcome of its rounds, with its plan, the size
-- of its graph, its plan, or the lines of it with what is told of its nodes, its C, or a picture
abbrev pub IsAsked : List ℕ → Command → (bytes : Option (List ℕ)) → Answer → Type 0
IsAsked text (command.Run rounds workers ways fuse batch stats main) bytes
    (answer.Ran plan outcome batches) =
    IsPlanOf text (chosen main ways fuse) plan
    × RunsText text (chosen main ways fuse) rounds workers bytes (Ok outcome)
IsAsked text (command.Check main) bytes (answer.Checked nodes channels) =
    HasSize text (plain main) nodes channels
IsAsked text (command.Plan false None main) bytes (answer.Planned plan) =
    IsPlanOf text (plain main) plan
IsAsked text (command.Plan true sort main) bytes (answer.Weighed lines) =
    HasLongPlan text (plain main) sort lines.items
IsAsked text (command.Plan false (Some key) main) bytes (answer.Weighed lines) =
    HasLongPlan text (plain main) (Some key) lines.items
IsAsked text (command.Emit main) bytes (answer.Emitted program) =
    HasProgram text (plain main) program.items
IsAsked text (command.Graph workers ways fuse depth times main) bytes (answer.Drawn picture) =
    IsPictureOf text workers ways fuse depth main picture.items
IsAsked text _ bytes _ = ⊥

-- a command asks for a run, which reads the input
abbrev pub ReadsInput : List ℕ → Command → Type 0
ReadsInput text (command.Run rounds workers ways fuse batch stats main) =
    ReadsText text (chosen main ways fuse)
ReadsInput text _ = ⊥

-- the text is accepted, and so many workers can't run it
pub record HasBadWorkers (text : List ℕ) (choice : Choice) (workers : ℕ) : Type 0 where
  pub plan : PlanParts
  pub accepted : Accepts text choice plan
  pub bad : ¬ AreWorkers workers

-- a command has no answer, for this reason: the text is refused; a word of its input writes no
-- number; its rounds aren't run, or what would run them isn't drawn; or its C would need too many
-- items
abbrev pub IsStopped : List ℕ → Command → (bytes : Option (List ℕ)) → Stop → Type 0
IsStopped text command bytes (stop.Refused placed) =
    IsTrueOf text (choice_of command) placed.refusal
IsStopped text command bytes (stop.BadInput word) =
    ReadsInput text command × WritesNumbers bytes (Err word)
IsStopped text (command.Run rounds workers ways fuse batch stats main) bytes
    (stop.NotRun refused) =
    RunsText text (chosen main ways fuse) rounds workers bytes (Err refused)
IsStopped text (command.Graph workers ways fuse depth times main) bytes (stop.NotRun BadWorkers) =
    HasBadWorkers text (drawn_so ways fuse main) (unwrap_or workers 1)
IsStopped text (command.Emit main) bytes (stop.ArrayLimit items) =
    HasTooManyItems text (plain main) items
IsStopped text _ bytes (stop.NotRun refused) = ⊥
IsStopped text _ bytes (stop.ArrayLimit items) = ⊥

-- a command is answered, or has no answer; or the input fails, or memory runs out while it is read
abbrev pub IsAnswered : List ℕ → Command → (bytes : Option (List ℕ))
    → Result Answer CliError → Type 0
IsAnswered text command bytes (Ok (answer.Stopped stop)) = IsStopped text command bytes stop
IsAnswered text command bytes (Ok answer) = IsAsked text command bytes answer
IsAnswered text command bytes (Err error.Read) = ReadsInput text command
IsAnswered text command bytes (Err error.Memory) = ReadsInput text command
IsAnswered text command bytes (Err error.Write) = ⊥

-- a plan and the stream that it is the plan of are answered, whatever text they are of
abbrev pub AnswersCompiled : PlanParts → Stream → Command → (bytes : Option (List ℕ))
    → Result Answer CliError → Type 0
AnswersCompiled plan stream command bytes result = (text : List ℕ)
    → IsPlanOf text (choice_of command) plan
    → IsStreamOf text (choice_of command).main (stream_view stream)
    → IsAnswered text command bytes result

-- a run of a plan is answered, whatever text it is the plan of
abbrev pub AnswersPlan : PlanParts → (rounds : Option ℕ) → (workers : ℕ)
    → (bytes : Option (List ℕ)) → Result Answer CliError → Type 0
AnswersPlan plan rounds workers bytes result =
    (text : List ℕ) (main : Option (String Global)) (ways fuse : ℕ) (batch : Option ℕ)
    (stats : Bool) → IsPlanOf text (chosen main ways fuse) plan
    → IsAnswered text (command.Run rounds workers ways fuse batch stats main) bytes result
