-- What is written for a text that is run live, and how the call went.
use Rattle.std.specs.Prelude.{◌≡◌, ◌≢◌, ◌⊎◌, ℕ, ◌<◌, ◌≤◌, Bool, true, false, List, [], length}
use Rattle.std.specs.Prelude.{Option, Result, Ok, Err}
use Rattle.strc_elab_dataflow.specs.Streams as trees
use Rattle.strc_work_meaning.specs.declared.word.Word.{Word}
use Rattle.strc_elab_graph.specs.Graphs.{NodeCode}
use Rattle.strc_elab_graph.specs.Tapes.{tape_nodes}
use Rattle.strc_elab_stream.specs.Flattening.{tree_of}
use Rattle.strc_sched_outcome.specs.declared.run_refusal.RunRefusal.TheVariants as unrun
use Rattle.strc_run_refusal.specs.declared.placed_refusal.PlacedRefusal.{PlacedRefusal}
use Rattle.strc_run.specs.Accepts.{Accepts}
use Rattle.strc_run.specs.Refuses.{IsTrueOf}
use Rattle.strc_run.specs.Rounds.{is_given, plan_reads}
use Rattle.strc_stage_plan.specs.Plans.{PlanParts, graph_of}
use Rattle.strc_cli_output.specs.Output.{words_text}
use Rattle.strc_cli_output.specs.declared.stop.Stop.TheVariants as stop
use Rattle.strc_cli_words.specs.declared.line.Command.{Command}
use Rattle.strc_cli_words.specs.declared.line.Command.TheVariants as command
use Rattle.strc_cli.specs.Answering.{choice_of}
use Rattle.strc_cli.specs.Executes.{Device, FailedIn, Wrote, WroteNothing}
use Rattle.strc_cli.specs.declared.execute.CliError.{CliError}
use Rattle.strc_cli.specs.declared.execute.CliError.TheVariants as error
use Rattle.strc_cli.specs.declared.execute.Status.{Status}
use Rattle.strc_live_answers.specs.Written.{HasWritten}
use Rattle.strc_live.specs.Ends.{end_status, end_text}
use Rattle.strc_live.specs.Rounds.{GoesLive, IsCutOff, IsEnd}
use Rattle.strc_live.specs.declared.ends.LiveEnd.{LiveEnd}
use Rattle.strc_live.specs.declared.ends.ToldEnd.{ToldEnd}
use Rattle.strc_live.specs.declared.execute_live.LiveReport.{LiveReport}
use Rattle.strc_live.specs.declared.ends.LiveEnd.TheVariants as end

-- a command asks for a run by one worker, and leaves it to the input how many rounds there are and
-- when each is run
abbrev pub LeavesRounds : Command → Type 0
LeavesRounds (command.Run rounds workers ways fuse batch stats main) =
    (workers ≡ 1) × (is_given rounds ≡ false) × (is_given batch ≡ false)
LeavesRounds _ = Unit {0}

-- its plan can be run live: its graph reads the input, and has one tape or none
pub record IsFit (command : Command) (plan : PlanParts) : Type 0 where
  pub leaves : LeavesRounds command
  pub reads : plan_reads plan ≡ true
  pub few : length (tape_nodes (graph_of plan).nodes) ≤ 1

-- why it can't: other than one worker is asked for; else a number of rounds is given; else one of
-- rounds at a time; else the graph doesn't read the input; else it has several tapes; memory may
-- run out in place of each
abbrev pub AsksForWorkers : Command → Type 0
AsksForWorkers (command.Run rounds workers ways fuse batch stats main) = workers ≢ 1
AsksForWorkers _ = ⊥

abbrev pub GivesRounds : Command → Type 0
GivesRounds (command.Run rounds workers ways fuse batch stats main) =
    (workers ≡ 1) × (is_given rounds ≡ true)
GivesRounds _ = ⊥

abbrev pub GivesBatch : Command → Type 0
GivesBatch (command.Run rounds workers ways fuse batch stats main) =
    (workers ≡ 1) × (is_given rounds ≡ false) × (is_given batch ≡ true)
GivesBatch _ = ⊥

abbrev pub IsUnfit : Command → PlanParts → LiveEnd → Type 0
IsUnfit command plan (end.Stopped (stop.NotRun unrun.BadWorkers)) = AsksForWorkers command
IsUnfit command plan end.RoundsGiven = GivesRounds command
IsUnfit command plan end.BatchGiven = GivesBatch command
IsUnfit command plan (end.Stopped (stop.NotRun unrun.RoundsNeeded)) =
    LeavesRounds command × (plan_reads plan ≡ false)
IsUnfit command plan end.SeveralTapes =
    LeavesRounds command × (plan_reads plan ≡ true)
    × (1 < length (tape_nodes (graph_of plan).nodes))
IsUnfit command plan (end.Stopped (stop.NotRun unrun.NoMemory)) = Unit {0}
IsUnfit command plan _ = ⊥

-- a plan that can't be run live is not, and nothing is written
abbrev pub IsLeftOut : Command → PlanParts → Result LiveEnd CliError → (opens : Bool) → Device
    → Device → Type 0
IsLeftOut command plan (Ok why) opens before after =
    IsUnfit command plan why × (opens ≡ false) × (after ≡ before)
IsLeftOut command plan (Err failure) opens before after = ⊥

-- another one is run
abbrev pub AnswersPlan : trees.Stream NodeCode → PlanParts → Command
    → (first left : Option (List ℕ)) → Result LiveEnd CliError → (opens : Bool) → Device → Device
    → Type 0
AnswersPlan tree plan command first left result opens before after =
    IsLeftOut command plan result opens before after
    ⊎ (IsFit command plan × GoesLive tree plan first left result opens before after)

-- ---- texts

-- the text is accepted, and can't be run live for this reason
pub record HasUnfitPlan (text : List ℕ) (command : Command) (why : LiveEnd) : Type 0 where
  pub plan : PlanParts
  pub accepted : Accepts text (choice_of command) plan
  pub unfit : IsUnfit command plan why

-- the text is accepted, and a live run of it ends so, after these words
pub record RunsTextLive (text : List ℕ) (command : Command) (first : Option (List ℕ))
    (words : List Word) (how : LiveEnd) : Type 0 where
  pub plan : PlanParts
  pub accepted : Accepts text (choice_of command) plan
  pub fit : IsFit command plan
  pub ends : IsEnd (tree_of accepted.stream) plan first words how

-- or a read failed after these
pub record IsTextCutOff (text : List ℕ) (command : Command) (first left : Option (List ℕ))
    (words : List Word) : Type 0 where
  pub plan : PlanParts
  pub accepted : Accepts text (choice_of command) plan
  pub fit : IsFit command plan
  pub cut_off : IsCutOff (tree_of accepted.stream) plan first left words

-- or it has come to the words of some rounds
pub record HasTextWritten (text : List ℕ) (command : Command) (first : Option (List ℕ))
    (words : List Word) : Type 0 where
  pub plan : PlanParts
  pub accepted : Accepts text (choice_of command) plan
  pub fit : IsFit command plan
  pub written : HasWritten (tree_of accepted.stream) plan first words

-- how a live run of a text ends, after these words: the text is refused, can't be run live, or is
-- run
abbrev pub IsTextEnd : List ℕ → Command → (first : Option (List ℕ)) → (words : List Word)
    → LiveEnd → Type 0
IsTextEnd text command first words (end.Stopped (stop.Refused placed)) =
    (words ≡ []) × IsTrueOf text (choice_of command) placed.refusal
IsTextEnd text command first words how =
    ((words ≡ []) × HasUnfitPlan text command how)
    ⊎ RunsTextLive text command first words how

-- the device failed in all that is written of an end, or in the words of some rounds
abbrev pub IsTextBroken : List ℕ → Command → (first : Option (List ℕ)) → Device → Device → Type 0
IsTextBroken text command first before after =
    ((words : List Word) × (how : LiveEnd) × IsTextEnd text command first words how
    × FailedIn (end_text words how) before after)
    ⊎ ((words : List Word) × HasTextWritten text command first words
    × FailedIn (words_text words) before after)

-- how a call went: what is written is the end of a live run of this text, of the input that the
-- bytes are where they are known; or the device failed in a beginning of it; or the input failed,
-- and its words so far are written; or there was no memory to tell of a refusal
abbrev pub ExecutesLive : List ℕ → Command → (first left : Option (List ℕ))
    → Result Status CliError → (how : LiveEnd) → Device → Device → Type 0
ExecutesLive text command first left (Ok status) how before after =
    (words : List Word) × IsTextEnd text command first words how
    × (status ≡ end_status how) × Wrote (end_text words how) before after
ExecutesLive text command first left (Err error.Write) how before after =
    IsTextBroken text command first before after
ExecutesLive text command first left (Err error.Read) how before after =
    (words : List Word) × IsTextCutOff text command first left words
    × Wrote (words_text words) before after
ExecutesLive text command first left (Err error.Memory) how before after =
    (placed : PlacedRefusal) × IsTrueOf text (choice_of command) placed.refusal
    × WroteNothing before after

-- what is reported of an end that was told, or of a failure
abbrev pub IsReportOf : Result ToldEnd CliError → LiveReport → Type 0
IsReportOf (Ok told) report = (report.result ≡ Ok told.status) × (report.end ≡ told.end)
IsReportOf (Err failure) report = report.result ≡ Err failure
