-- What a person reads of an answer, and where a text is refused.
use Rattle.std.specs.Prelude.{◌≡◌, ⊤, ℕ, Bool, ◌==◌, not, List, codes, drop, length, take_while}
use Rattle.std.specs.Prelude.{Option, None, IfSome, Result, Ok, Err}
use Rattle.strc_run.specs.Located.{IsLocated}
use Rattle.strc_sched_outcome.specs.declared.outcome.Outcome.TheVariants as outcome
use Rattle.strc_cli_messages.specs.Told.{TellsFaultOfText, TellsOfText}
use Rattle.strc_cli_diagnostics.specs.Messages.{MessageView}
use Rattle.strc_cli_output.specs.Output.{stop_line}
use Rattle.strc_cli_output.specs.declared.stop.Stop.TheVariants as stop
use Rattle.strc_cli.specs.declared.answer.Answer.{Answer}
use Rattle.strc_cli.specs.declared.answer.Answer.TheVariants as answer
use Rattle.strc_cli.specs.declared.execute.CliError.{CliError}
use Rattle.strc_cli.specs.declared.explanation.Explained.{Explained}
use Rattle.strc_cli_words.specs.declared.line.Command.{Command}
use Rattle.strc_cli.specs.Answering.{IsAnswered, choice_of}
use Rattle.strc_cli.specs.Executes.{Device, IsReported}

-- of a text that is refused the statement that breaks its rule is known, its stream and its graph
abbrev pub IsRefusedAt : List ℕ → Command → Result Answer CliError → Type 0
IsRefusedAt text command (Ok (answer.Stopped (stop.Refused placed))) =
    IsLocated text (choice_of command) placed
IsRefusedAt text command _ = ⊤

-- a text isn't refused
abbrev pub IsUnrefused : Result Answer CliError → Type 0
IsUnrefused (Ok (answer.Stopped (stop.Refused placed))) = ⊥
IsUnrefused _ = ⊤

-- a message about a refusal of the text, or a fault of its run; of other ends it isn't said here
abbrev pub TellsOf : (text : List ℕ) → (asked : Option (List ℕ)) → Answer → MessageView → Type 0
TellsOf text asked (answer.Stopped (stop.Refused placed)) message =
    TellsOfText text asked placed message
TellsOf text asked (answer.Ran plan (outcome.Fault node firing round cause tapes) batches) message =
    TellsFaultOfText text plan.graph.nodes node firing round cause message
TellsOf text asked _ message = ⊤

-- what follows the first word of a refusal's line, `refused`
abbrev pub after_first : (line : List ℕ) → List ℕ
after_first line = drop (length (codes "refused ")) line

abbrev pub is_space : ℕ → Bool
is_space byte = byte == 32

-- the bytes of a text up to its first space
abbrev pub first_word : (text : List ℕ) → List ℕ
first_word text = take_while (λ byte. not (is_space byte)) text

-- the code of why there is no answer: the second word of its line
abbrev pub IsCodeOf : Answer → (code : List ℕ) → Type 0
IsCodeOf (answer.Stopped stop) code = code ≡ first_word (after_first (stop_line stop))
IsCodeOf _ code = ⊥

-- an answer is explained, unless there is no message: there is nothing to say, or no memory
abbrev pub Explains : (text : List ℕ) → Command → Result Answer CliError → Explained → Type 0
Explains text command (Ok answer) explained = IsRefusedAt text command (Ok answer)
    × IfSome explained.message (TellsOf text (choice_of command).main answer)
    × IfSome explained.code (λ code. IsCodeOf answer code.items)
Explains text command (Err failure) explained =
    (explained.message ≡ None) × (explained.code ≡ None)

-- what is reported is the answer for this text, command and input, and it is explained
abbrev pub ExecutesExplained : (text : List ℕ) → Command → (bytes : Option (List ℕ)) → Explained
    → Device → Device → Type 0
ExecutesExplained text command bytes explained before after =
    (answer : Result Answer CliError) × IsAnswered text command bytes answer
    × IsReported answer explained.result before after × Explains text command answer explained
