-- What is written for a text, a command and an input, and how a call of `execute` went.
use Rattle.std.specs.Prelude.{◌≡◌, ℕ, List, ◌++◌, Option, Result, Ok, Err, Bool, true}
use Rattle.std.specs.Io.KnownBytes.{Appends, Keeps}
use Rattle.strc_cli.specs.declared.execute.CliError.{CliError}
use Rattle.strc_cli.specs.declared.execute.CliError.TheVariants as error
use Rattle.strc_cli.specs.declared.execute.Status.{Status}
use Rattle.strc_cli.specs.declared.execute.Status.TheVariants as status
use Rattle.strc_cli.specs.declared.answer.Answer.{Answer}
use Rattle.strc_cli.specs.declared.answer.Answer.TheVariants as answer
use Rattle.strc_cli_output.specs.declared.stop.Stop.TheVariants as stop
use Rattle.strc_cli_words.specs.declared.line.Command.{Command}
use Rattle.strc_sched_outcome.specs.declared.outcome.Outcome.TheVariants as outcome
use Rattle.strc_sched_outcome.specs.declared.run_refusal.RunRefusal.{RunRefusal}
use Rattle.strc_sched_outcome.specs.declared.run_refusal.RunRefusal.TheVariants as unrun
use Rattle.strc_run_refusal.specs.declared.refusal.Refusal.{Refusal}
use Rattle.strc_run_refusal.specs.declared.refusal.Refusal.TheVariants as refusal
use Rattle.strc_cli.specs.Answering.{IsAnswered}
use Rattle.strc_elab_graph.specs.NodeView.{node_names}
use Rattle.strc_cli_output.specs.Output.{check_line, outcome_text, plan_text, stop_line}

-- all that is written: what the run printed, the lines of a plan, a picture, C, or one line
abbrev pub answer_text : Answer → List ℕ
answer_text (answer.Ran plan outcome batches) = outcome_text (node_names plan.graph) outcome
answer_text (answer.Checked nodes channels) = check_line nodes channels
answer_text (answer.Planned plan) = plan_text plan
answer_text (answer.Weighed lines) = lines.items
answer_text (answer.Drawn picture) = picture.items
answer_text (answer.Emitted program) = program.items
answer_text (answer.Stopped stop) = stop_line stop

-- the status of a text that is refused
abbrev pub refusal_status : Refusal → Status
refusal_status refusal.NoMemory = status.NoMemory
refusal_status refused = status.Refused

-- the status of a run that is refused
abbrev pub run_refusal_status : RunRefusal → Status
run_refusal_status unrun.NoMemory = status.NoMemory
run_refusal_status unrun.NoWorker = status.NoMemory
run_refusal_status refused = status.Refused

-- the status that belongs to what is written
abbrev pub answer_status : Answer → Status
answer_status (answer.Ran plan (outcome.Done tapes) batches) = status.Done
answer_status (answer.Ran plan (outcome.Fault node firing round cause tapes) batches) = status.Fault
answer_status (answer.Checked nodes channels) = status.Done
answer_status (answer.Planned plan) = status.Done
answer_status (answer.Weighed lines) = status.Done
answer_status (answer.Drawn picture) = status.Done
answer_status (answer.Emitted program) = status.Done
answer_status (answer.Stopped (stop.Refused placed)) = refusal_status placed.refusal
answer_status (answer.Stopped (stop.BadInput word)) = status.Refused
answer_status (answer.Stopped (stop.NotRun refused)) = run_refusal_status refused
answer_status (answer.Stopped (stop.ArrayLimit items)) = status.Refused

-- the output at one moment: the bytes that it has taken, where they are known, and whether it has
-- failed
pub record Device : Type 0 where
  pub taken : Option (List ℕ)
  pub has_failed : Bool

-- a device that has taken these bytes, and has failed or not
abbrev pub device_of : Option (List ℕ) → Bool → Device
device_of taken has_failed = record { taken = taken; has_failed = has_failed }

-- these bytes were written whole
pub record Wrote (bytes : List ℕ) (before after : Device) : Type 0 where
  pub taken : Appends before.taken after.taken bytes
  pub steady : after.has_failed ≡ before.has_failed

-- the device failed after a beginning of these bytes
pub record FailedIn (bytes : List ℕ) (before after : Device) : Type 0 where
  pub beginning : List ℕ
  pub rest : List ℕ
  pub is : bytes ≡ beginning ++ rest
  pub taken : Appends before.taken after.taken beginning
  pub failed : after.has_failed ≡ true

-- nothing was written
pub record WroteNothing (before after : Device) : Type 0 where
  pub taken : Keeps before.taken after.taken
  pub steady : after.has_failed ≡ before.has_failed

-- how writing these bytes went
abbrev pub Writes : List ℕ → Result (Unit {0}) CliError → Device → Device → Type 0
Writes bytes (Ok done) before after = Wrote bytes before after
Writes bytes (Err error.Write) before after = FailedIn bytes before after
Writes bytes (Err error.Read) before after = ⊥
Writes bytes (Err error.Memory) before after = ⊥

-- how telling an answer went: written whole, with its status; or in part, for a failure of the
-- device; or not at all
abbrev pub TellsAnswer : Answer → Result Status CliError → Device → Device → Type 0
TellsAnswer answer (Ok status) before after =
    (status ≡ answer_status answer) × Wrote (answer_text answer) before after
TellsAnswer answer (Err error.Write) before after = FailedIn (answer_text answer) before after
TellsAnswer answer (Err error.Read) before after = ⊥
TellsAnswer answer (Err error.Memory) before after = WroteNothing before after

-- an answer is reported, or nothing is written where there is none
abbrev pub IsReported : Result Answer CliError → Result Status CliError → Device
    → Device
    → Type 0
IsReported (Ok answer) result before after = TellsAnswer answer result before after
IsReported (Err failure) result before after = (result ≡ Err failure) × WroteNothing before after

-- what is reported is the answer for this text, command and input, of which the bytes are given
-- where they are known; a run that ends writes the same by each number of workers, since no
-- equation speaks of them
abbrev pub Executes : List ℕ → Command → (bytes : Option (List ℕ)) → Result Status CliError
    → Device → Device → Type 0
Executes text command bytes result before after =
    (answer : Result Answer CliError) × IsAnswered text command bytes answer
    × IsReported answer result before after
