-- What is written for a run of which tapes go to files, and what is given for the files.
use Rattle.std.specs.Prelude.{◌≡◌, ⊤, ℕ, List, [], ◌++◌, Option, None, IfSome}
use Rattle.std.specs.Prelude.{Result, Ok, Err, codes, map}
use Rattle.strc_elab_graph.specs.NodeView.{node_names}
use Rattle.strc_sched_outcome.specs.declared.outcome.Outcome.{Outcome}
use Rattle.strc_sched_outcome.specs.declared.outcome.Outcome.TheVariants as outcome
use Rattle.strc_stage_plan.specs.Plans.{PlanParts}
use Rattle.strc_cli_output.specs.Output.{line_end}
use Rattle.strc_cli_diagnostics.specs.Messages.{MessageView}
use Rattle.strc_cli_words.specs.declared.line.Command.{Command}
use Rattle.strc_cli.specs.Answering.{choice_of}
use Rattle.strc_cli.specs.Executes.{Device, FailedIn, TellsAnswer, Wrote, WroteNothing}
use Rattle.strc_cli.specs.Explaining.{TellsOf}
use Rattle.strc_cli.specs.declared.answer.Answer.TheVariants as answer
use Rattle.strc_cli.specs.declared.execute.CliError.{CliError}
use Rattle.strc_cli.specs.declared.execute.CliError.TheVariants as error
use Rattle.strc_cli.specs.declared.execute.Status.{Status}
use Rattle.strc_cli.specs.declared.execute.Status.TheVariants as status
use Rattle.strc_out_files.specs.Outs.{IsOutAnswer, IsOutRefusedAt}
use Rattle.strc_out_files.specs.Texts.{file_texts, parted_text, tapes_of}
use Rattle.strc_out_files.specs.declared.answer.OutAnswer.{OutAnswer}
use Rattle.strc_out_files.specs.declared.answer.OutAnswer.TheVariants as out
use Rattle.strc_out_files.specs.declared.execute_out.OutReport.{OutReport}
use Rattle.strc_out_files.specs.declared.execute_out.ToldOut.{ToldOut}

-- `refused S11 NoTape name Ouput`
abbrev pub no_tape_line : (name : List ℕ) → List ℕ
no_tape_line name = codes "refused S11 NoTape name " ++ name ++ line_end

abbrev pub outcome_status : Outcome → Status
outcome_status (outcome.Done tapes) = status.Done
outcome_status (outcome.Fault node firing round cause tapes) = status.Fault

-- how telling bytes of a status went: written whole; in part, for a failure of the device; or not
-- at all
abbrev pub TellsBytes : (bytes : List ℕ) → Status → Result Status CliError → Device → Device
    → Type 0
TellsBytes bytes status (Ok told) before after = (told ≡ status) × Wrote bytes before after
TellsBytes bytes status (Err error.Write) before after = FailedIn bytes before after
TellsBytes bytes status (Err error.Read) before after = ⊥
TellsBytes bytes status (Err error.Memory) before after = WroteNothing before after

-- a name that no tape has is told
abbrev pub TellsNoTape : (name : List ℕ) → Result Status CliError → Device → Device → Type 0
TellsNoTape name = TellsBytes (no_tape_line name) status.Refused

-- texts are those of the tapes that go to files, unless memory ran out
abbrev pub AreTexts : Result Status CliError → (expected texts : List (List ℕ)) → Type 0
AreTexts (Err error.Memory) expected texts = texts ≡ []
AreTexts result expected texts = texts ≡ expected

abbrev pub texts_in : ToldOut → List (List ℕ)
texts_in told = map (λ text. text.items) told.texts.items

-- the tapes that stay are told, and the texts of those that go to files are given
abbrev pub TellsParted : PlanParts → Outcome → (given : List ℕ) → ToldOut → Device → Device → Type 0
TellsParted plan outcome given told before after =
    TellsBytes (parted_text (node_names plan.graph) given outcome) (outcome_status outcome)
    told.result before after
    × AreTexts told.result (file_texts given (tapes_of outcome)) (texts_in told)

-- an answer is told; nothing is given for files where there is no outcome
abbrev pub TellsOut : OutAnswer → ToldOut → Device → Device → Type 0
TellsOut (out.Answered (answer.Ran plan outcome batches) given) told before after =
    TellsParted plan outcome given.items told before after
TellsOut (out.Answered answer given) told before after =
    TellsAnswer answer told.result before after × (texts_in told ≡ [])
TellsOut (out.NoTape no_tape) told before after =
    TellsNoTape no_tape.name.items told.result before after × (texts_in told ≡ [])

-- a message about the answer; of a name that no tape has it isn't said here
abbrev pub TellsOfOut : (text : List ℕ) → (asked : Option (List ℕ)) → OutAnswer → MessageView
    → Type 0
TellsOfOut text asked (out.Answered answer given) message = TellsOf text asked answer message
TellsOfOut text asked _ message = ⊤

-- what is told of an answer
abbrev pub reported_out : OutReport → ToldOut
reported_out report = record { result = report.explained.result; texts = report.texts }

-- an answer is reported and explained, or nothing is written or given where there is none
abbrev pub IsOutReport : (text : List ℕ) → Command → Result OutAnswer CliError → OutReport
    → Device → Device → Type 0
IsOutReport text command (Ok answer) report before after =
    TellsOut answer (reported_out report) before after × IfSome report.explained.message
    (TellsOfOut text (choice_of command).main answer)
IsOutReport text command (Err failure) report before after =
    (report.explained.result ≡ Err failure) × WroteNothing before after
    × (texts_in (reported_out report) ≡ []) × (report.explained.message ≡ None)

-- what is reported is the answer for this text, command and input, of which the tapes of these
-- names go to files
abbrev pub ExecutesOut : (text : List ℕ) → Command → (outs : List (List ℕ × List ℕ))
    → (bytes : Option (List ℕ)) → OutReport → Device → Device → Type 0
ExecutesOut text command outs bytes report before after =
    (answer : Result OutAnswer CliError) × IsOutAnswer text command outs bytes answer
    × IsOutRefusedAt text command answer × IsOutReport text command answer report before after
