-- How live runs end, by what is written then.
use Rattle.std.specs.Prelude.{◌≡◌, ◌⊎◌, ⊤, ℕ, Bool, List, [], ◌++◌, Result, Ok, Err, codes}
use Rattle.std.specs.Prelude.{if◌then◌else◌}
use Rattle.strc_work_meaning.specs.declared.word.Word.{Word}
use Rattle.strc_sched_outcome.specs.declared.run_refusal.RunRefusal.TheVariants as unrun
use Rattle.strc_cli_messages.specs.declared.fault.FaultSite.{FaultSite}
use Rattle.strc_cli_output.specs.Output.{closed_text, fault_line, line_end, stop_line, words_text}
use Rattle.strc_cli_output.specs.declared.stop.Stop.TheVariants as stop
use Rattle.strc_cli.specs.Executes.{Device, FailedIn, Wrote, answer_status}
use Rattle.strc_cli.specs.declared.answer.Answer.{Answer}
use Rattle.strc_cli.specs.declared.answer.Answer.TheVariants as answer
use Rattle.strc_cli.specs.declared.execute.CliError.{CliError}
use Rattle.strc_cli.specs.declared.execute.CliError.TheVariants as error
use Rattle.strc_cli.specs.declared.execute.Status.{Status}
use Rattle.strc_cli.specs.declared.execute.Status.TheVariants as status
use Rattle.strc_live.specs.declared.ends.LiveEnd.{LiveEnd}
use Rattle.strc_live.specs.declared.ends.LiveEnd.TheVariants as end
use Rattle.strc_live.specs.declared.ends.ToldEnd.{ToldEnd}

abbrev pub fault_of : FaultSite → List ℕ
fault_of site = fault_line site.node site.firing site.round site.cause

abbrev pub several_tapes : List ℕ
several_tapes = codes "refused S8 SeveralTapes" ++ line_end

abbrev pub rounds_given : List ℕ
rounds_given = codes "refused S9 RoundsGiven" ++ line_end

abbrev pub batch_given : List ℕ
batch_given = codes "refused S10 BatchGiven" ++ line_end

-- all that is written: the words, and then, where not just all rounds are done, one line
abbrev pub end_text : List Word → LiveEnd → List ℕ
end_text words end.Done = words_text words
end_text words (end.Faulted site) = closed_text words ++ fault_of site
end_text words (end.Stopped why) = closed_text words ++ stop_line why
end_text words end.SeveralTapes = closed_text words ++ several_tapes
end_text words end.RoundsGiven = closed_text words ++ rounds_given
end_text words end.BatchGiven = closed_text words ++ batch_given

-- the status that belongs to it
abbrev pub end_status : LiveEnd → Status
end_status end.Done = status.Done
end_status (end.Faulted site) = status.Fault
end_status (end.Stopped why) = answer_status (answer.Stopped why)
end_status end.SeveralTapes = status.Refused
end_status end.RoundsGiven = status.Refused
end_status end.BatchGiven = status.Refused

-- memory ran out
abbrev pub no_memory : LiveEnd
no_memory = end.Stopped (stop.NotRun unrun.NoMemory)

-- ---- after the words

-- a line, before it a line feed where the words leave theirs open
abbrev pub line_after : (opens : Bool) → (line : List ℕ) → List ℕ
line_after opens line = (if opens then line_end else []) ++ line

-- what is written then
abbrev pub last_text : (opens : Bool) → LiveEnd → List ℕ
last_text opens end.Done = []
last_text opens (end.Faulted site) = line_after opens (fault_of site)
last_text opens (end.Stopped why) = line_after opens (stop_line why)
last_text opens end.SeveralTapes = line_after opens several_tapes
last_text opens end.RoundsGiven = line_after opens rounds_given
last_text opens end.BatchGiven = line_after opens batch_given

-- an end is told, or that there is no memory to tell it
abbrev pub IsToldAs : (end told : LiveEnd) → Type 0
IsToldAs end told = (told ≡ end) ⊎ (told ≡ no_memory)

-- how that went: it is written whole, with its status; or in part, where the device failed
abbrev pub TellsEnd : (opens : Bool) → LiveEnd → Result ToldEnd CliError → Device → Device → Type 0
TellsEnd opens end (Ok told) before after =
    IsToldAs end told.end × (told.status ≡ end_status told.end)
    × Wrote (last_text opens told.end) before after
TellsEnd opens end (Err error.Write) before after =
    (told : LiveEnd) × IsToldAs end told × FailedIn (last_text opens told) before after
TellsEnd opens end (Err error.Read) before after = ⊥
TellsEnd opens end (Err error.Memory) before after = ⊥

-- an answer that refuses is an end
abbrev pub IsEndOf : Answer → LiveEnd → Type 0
IsEndOf (answer.Stopped why) how = how ≡ end.Stopped why
IsEndOf _ how = ⊤
