-- What the words of a command line ask for. After the program's name they are
-- `run FILE [--rounds N] [--workers N] [--ways N] [--fuse N] [--batch N] [--stats] [--live]
-- [--out NAME=FILE].. [--main NAME]`, `check FILE [--lint] [--format FORMAT] [--main NAME]`, `plan
-- FILE [--long] [--sort KEY] [--main NAME]`, `emit FILE [--main NAME]` or `graph FILE [--workers N]
-- [--ways N] [--fuse N] [--depth N] [--times FILE] [--main NAME]`, and are read as the crate `clap`
-- reads the words of a command: `strc_app` describes ours.
use Rattle.std.specs.Prelude.{◌≡◌, ◌≢◌, ◌⊎◌, ⊤, ◌↔◌, ℕ, ◌<◌, ◌≤◌, ◌^◌, pos, Bool, true, false, List, []}
use Rattle.std.specs.Prelude.{Option, Some, None, IfSome, IsSome, option_map, string_bytes, codes}
use Rattle.std.specs.Str.Parse.{IsNumeral, digits_value, without_leading_plus}
use Rattle.clap.specs.Walk.{Row, Rule, Text, all_of, first_of, one_of}
use Rattle.clap.specs.Simple.{App, new_app, new_rule, on_top, subcommand_of, with_rule}
use Rattle.clap.specs.Simple.{with_subcommand}
use Rattle.clap.specs.Faults.{fault_of}
use Rattle.clap.specs.Kinds.{Kinds}
use Rattle.clap.specs.declared.builder.action.ArgAction.TheVariants.{Append, SetTrue}
use Rattle.clap.specs.declared.builder.value_parser.ValueParser.TheVariants.{Signed}
use Rattle.clap.specs.declared.error.kind.ErrorKind.{ErrorKind}
use Rattle.clap.specs.declared.error.kind.ErrorKind.TheVariants.{OutOfMemory}
use Rattle.strc_cli_words.specs.declared.line.Format.{Format}
use Rattle.strc_cli_words.specs.declared.line.Format.TheVariants as format
use Rattle.strc_cli_words.specs.declared.line.Line.{Line}
use Rattle.strc_cli_words.specs.declared.line.LineFault.{LineFault}
use Rattle.strc_cli_words.specs.declared.line.LineFault.TheVariants as fault
use Rattle.strc_cli_words.specs.declared.line.Command.{Command}
use Rattle.strc_cli_words.specs.declared.line.Command.TheVariants as command
use Rattle.strc_cli_words.specs.declared.line.SortKey.{SortKey}
use Rattle.strc_cli_words.specs.declared.line.SortKey.TheVariants as sort
use Rattle.strc_cli_words.specs.Outs.{AreBadOuts, AreOutsFor}

-- the name of the main stream that a command gives
abbrev pub main_of : Command → Option (List ℕ)
main_of (command.Run rounds workers ways fuse batch stats main) = option_map string_bytes main
main_of (command.Check main) = option_map string_bytes main
main_of (command.Plan long sort main) = option_map string_bytes main
main_of (command.Emit main) = option_map string_bytes main
main_of (command.Graph workers ways fuse depth times main) = option_map string_bytes main

-- without words the text comes from standard input, and five rounds are run by one worker, whose
-- nodes aren't split and whose units aren't fused, as many at a time as suit them
pub record IsDefault (line : Line) : Type 0 where
  pub file : line.file ≡ None
  pub command : line.command ≡ command.Run (Some 5) 1 1 0 None false None
  pub live : line.live ≡ false
  pub lint : line.lint ≡ false
  pub format : line.format ≡ format.Text
  pub outs : line.outs.items ≡ []
  pub times : line.times ≡ None

-- FILE, which has to be given
abbrev pub file_rule : Rule
file_rule = record (new_rule (codes "FILE")) { required = true }

-- `--NAME N`, a number of 32 bits
abbrev pub number_rule : Text → Rule
number_rule name = record (new_rule name) {
  long = Some name;
  value_names = 1;
  parser = Some (Signed (pos 0) (pos 4294967295));
}

-- `--rounds N`
abbrev pub rounds_rule : Rule
rounds_rule = number_rule (codes "rounds")

-- `--workers N`
abbrev pub workers_rule : Rule
workers_rule = number_rule (codes "workers")

-- the greatest number of copies that can be asked for
abbrev pub most_ways : ℕ
most_ways = 64

-- `--ways N`
abbrev pub ways_rule : Rule
ways_rule = record (number_rule (codes "ways")) { parser = Some (Signed (pos 1) (pos most_ways)) }

-- the greatest length of a fused unit's list that can be asked for
abbrev pub most_fused : ℕ
most_fused = 65536

-- `--fuse N`
abbrev pub fuse_rule : Rule
fuse_rule = record (number_rule (codes "fuse")) { parser = Some (Signed (pos 0) (pos most_fused)) }

-- the greatest number of rounds at a time that can be asked for
abbrev pub most_batched : ℕ
most_batched = 4096

-- `--batch N`
abbrev pub batch_rule : Rule
batch_rule =
    record (number_rule (codes "batch")) { parser = Some (Signed (pos 1) (pos most_batched)) }

-- `--stats`
abbrev pub stats_rule : Rule
stats_rule =
    record (new_rule (codes "stats")) { long = Some (codes "stats"); action = Some SetTrue }

-- `--live`
abbrev pub live_rule : Rule
live_rule = record (new_rule (codes "live")) { long = Some (codes "live"); action = Some SetTrue }

-- `--sort KEY`
abbrev pub sort_rule : Rule
sort_rule = record (new_rule (codes "sort")) { long = Some (codes "sort"); value_names = 1 }

-- `--depth N`
abbrev pub depth_rule : Rule
depth_rule = number_rule (codes "depth")

-- `--times FILE`
abbrev pub times_rule : Rule
times_rule = record (new_rule (codes "times")) { long = Some (codes "times"); value_names = 1 }

-- `--out NAME=FILE`, which may be given more than once
abbrev pub out_rule : Rule
out_rule = record (new_rule (codes "out")) {
  long = Some (codes "out");
  value_names = 1;
  action = Some Append;
}

-- `--lint`
abbrev pub lint_rule : Rule
lint_rule = record (new_rule (codes "lint")) { long = Some (codes "lint"); action = Some SetTrue }

-- `--format FORMAT`
abbrev pub format_rule : Rule
format_rule = record (new_rule (codes "format")) { long = Some (codes "format"); value_names = 1 }

-- `--long`
abbrev pub long_rule : Rule
long_rule = record (new_rule (codes "long")) { long = Some (codes "long"); action = Some SetTrue }

-- `--main NAME`
abbrev pub main_rule : Rule
main_rule = record (new_rule (codes "main")) { long = Some (codes "main"); value_names = 1 }

-- how a round is shared among workers
abbrev pub with_sharing : App → App
with_sharing app = with_rule (with_rule (with_rule app workers_rule) ways_rule) fuse_rule

-- the words of `run` that give its file and its rounds
abbrev pub rounds_app : App
rounds_app = with_rule (with_rule (new_app (codes "run")) file_rule) rounds_rule

-- those that say how its rounds are run too
abbrev pub batch_app : App
batch_app = with_rule (with_sharing rounds_app) batch_rule

-- the words of `run`
abbrev pub run_app : App
run_app =
    with_rule (with_rule (with_rule (with_rule batch_app stats_rule) live_rule) out_rule) main_rule

-- the words of `check`
abbrev pub check_app : App
check_app = with_rule (with_rule (with_rule (with_rule (new_app (codes "check")) file_rule)
    lint_rule) format_rule) main_rule

-- the words of `plan`
abbrev pub plan_app : App
plan_app = with_rule (with_rule (with_rule (with_rule (new_app (codes "plan")) file_rule)
    long_rule) sort_rule) main_rule

-- the words of `emit`
abbrev pub emit_app : App
emit_app = with_rule (with_rule (new_app (codes "emit")) file_rule) main_rule

-- the words of `graph`
abbrev pub graph_app : App
graph_app = with_rule (with_rule (with_rule (with_sharing (with_rule (new_app (codes "graph"))
    file_rule)) depth_rule) times_rule) main_rule

-- the words of the program, which wants a subcommand
abbrev pub strc_app : App
strc_app =
    let strc = on_top (λ shape. record shape { subcommand_required = true })
    (new_app (codes "strc")) in
    with_subcommand (with_subcommand (with_subcommand (with_subcommand (with_subcommand strc
    run_app.top) check_app.top) plan_app.top) emit_app.top) graph_app.top

-- decimal digits, with a plus sign before them or none, that write this number of 32 bits
abbrev pub Writes32 : Text → ℕ → Type 0
Writes32 text number =
    let digits = without_leading_plus text in
    IsNumeral 10 digits × (digits_value 10 digits ≡ number) × (number < 2 ^ 32)

-- a number is there where a text is, and is what the text writes
abbrev pub IsNumberOf : Option Text → Option ℕ → Type 0
IsNumberOf None None = Unit {0}
IsNumberOf (Some text) (Some number) = Writes32 text number
IsNumberOf text number = ⊥

-- a text is none, or writes a number
abbrev pub IsNumber : Option Text → Type 0
IsNumber text = (number : Option ℕ) × IsNumberOf text number

-- the number that a text writes, or this one where no text is there
abbrev pub IsNumberOr : (absent : ℕ) → Option Text → ℕ → Type 0
IsNumberOr absent None number = number ≡ absent
IsNumberOr absent (Some text) number = Writes32 text number

-- a number is between these
abbrev pub IsBetween : (least most number : ℕ) → Type 0
IsBetween least most number = (least ≤ number) × (number ≤ most)

-- whatever number a text writes is between these
abbrev pub WritesBetween : (least most : ℕ) → Option Text → Type 0
WritesBetween least most text =
    (number : ℕ) → IsNumberOf text (Some number) → IsBetween least most number

-- a flag is set just where the text is `true`
abbrev pub IsFlagOf : Option Text → Bool → Type 0
IsFlagOf text flag = (flag ≡ true) ↔ (text ≡ Some (codes "true"))

-- what to sort by is there where a word is, and is what the word says
abbrev pub IsSortOf : Option Text → Option SortKey → Type 0
IsSortOf None None = Unit {0}
IsSortOf (Some word) (Some sort.Work) = word ≡ codes "work"
IsSortOf (Some word) (Some sort.Size) = word ≡ codes "size"
IsSortOf word key = ⊥

-- a word is none, or says what to sort by
abbrev pub IsSort : Option Text → Type 0
IsSort word = (key : Option SortKey) × IsSortOf word key

-- what is to be sorted by is what can be
abbrev pub HasSort : List Row → Type 0
HasSort rows = IsSort (first_of (codes "sort") rows)

-- a word names this form of messages; where there is none it is the one for a person
abbrev pub IsFormatOf : Option Text → Format → Type 0
IsFormatOf None format.Text = Unit {0}
IsFormatOf (Some word) format.Text = word ≡ codes "text"
IsFormatOf (Some word) format.Json = word ≡ codes "json"
IsFormatOf word form = ⊥

-- a word is none, or names a form of messages
abbrev pub IsFormat : Option Text → Type 0
IsFormat word = (form : Format) × IsFormatOf word form

-- this command is that of the name and of what was found for its options, whatever its main stream;
-- `run` has a number of rounds, one of workers and one of copies, which are 1 where none is given,
-- one of entries, which is 0 there, one of rounds at a time, where it is given, and a flag; `graph`
-- has those of workers, copies, entries and depth, where they are given, and `plan` a flag and what
-- to sort by, where it is given
abbrev pub IsCommandOf : Text → List Row → Command → Type 0
IsCommandOf name rows (command.Run rounds workers ways fuse batch stats main) =
    (name ≡ codes "run") × IsNumberOf (one_of (codes "rounds") rows) rounds
    × IsNumberOr 1 (one_of (codes "workers") rows) workers
    × IsNumberOr 1 (one_of (codes "ways") rows) ways
    × IsNumberOr 0 (one_of (codes "fuse") rows) fuse
    × IsNumberOf (one_of (codes "batch") rows) batch × IsFlagOf (one_of (codes "stats") rows) stats
IsCommandOf name rows (command.Check main) = name ≡ codes "check"
IsCommandOf name rows (command.Plan long sort main) =
    (name ≡ codes "plan") × IsFlagOf (one_of (codes "long") rows) long
    × IsSortOf (first_of (codes "sort") rows) sort
IsCommandOf name rows (command.Emit main) = name ≡ codes "emit"
IsCommandOf name rows (command.Graph workers ways fuse depth times main) =
    (name ≡ codes "graph") × IsNumberOf (one_of (codes "workers") rows) workers
    × IsNumberOf (one_of (codes "ways") rows) ways × IsNumberOf (one_of (codes "fuse") rows) fuse
    × IsNumberOf (one_of (codes "depth") rows) depth × (times.items ≡ [])

-- the line has what was found for a subcommand's FILE and options
pub record IsLineOf (name : Text) (rows : List Row) (line : Line) : Type 0 where
  pub given : IsSome line.file
  pub file : option_map string_bytes line.file ≡ first_of (codes "FILE") rows
  pub command : IsCommandOf name rows line.command
  pub main : main_of line.command ≡ first_of (codes "main") rows
  pub live : IsFlagOf (one_of (codes "live") rows) line.live
  pub lint : IsFlagOf (one_of (codes "lint") rows) line.lint
  pub format : IsFormatOf (first_of (codes "format") rows) line.format
  pub outs : AreOutsFor line.live (all_of (codes "out") rows) line.outs.items
  pub times : option_map string_bytes line.times ≡ first_of (codes "times") rows

-- a subcommand was met, and the line has what was found for its arguments
abbrev pub IsLineIn : Option (Text × List Row) → Line → Type 0
IsLineIn met line =
    (name : Text) × (rows : List Row) × (met ≡ Some (name, rows)) × IsLineOf name rows line

-- the options that say how a round is shared are given numbers within their bounds, or not given
pub record HasSharing (rows : List Row) : Type 0 where
  pub workers : IsNumber (one_of (codes "workers") rows)
  pub ways : IsNumber (one_of (codes "ways") rows)
  pub few : WritesBetween 1 most_ways (one_of (codes "ways") rows)
  pub fuse : IsNumber (one_of (codes "fuse") rows)
  pub short : WritesBetween 0 most_fused (one_of (codes "fuse") rows)

-- so are the options of `graph` that take numbers
pub record HasDrawing (rows : List Row) : Type 0 where
  pub sharing : HasSharing rows
  pub depth : IsNumber (one_of (codes "depth") rows)

-- and those of `run`
pub record HasNumbers (rows : List Row) : Type 0 where
  pub rounds : IsNumber (one_of (codes "rounds") rows)
  pub sharing : HasSharing rows
  pub batch : IsNumber (one_of (codes "batch") rows)
  pub batched : WritesBetween 1 most_batched (one_of (codes "batch") rows)

-- the numbers of copies, of entries and of rounds at a time are within their bounds
abbrev pub AreWithin : Command → Type 0
AreWithin (command.Run rounds workers ways fuse batch stats main) =
    IsBetween 1 most_ways ways × (fuse ≤ most_fused) × IfSome batch (IsBetween 1 most_batched)
AreWithin (command.Graph workers ways fuse depth times main) =
    IfSome ways (IsBetween 1 most_ways) × IfSome fuse (λ entries. entries ≤ most_fused)
AreWithin command = Unit {0}

-- the name is that of a subcommand: `run` or `graph`, with their numbers, `check`, `plan` or `emit`
abbrev pub IsKnown : Text → List Row → Type 0
IsKnown name rows =
    ((name ≡ codes "run") × HasNumbers rows)
    ⊎ ((name ≡ codes "check") ⊎ ((name ≡ codes "plan") ⊎ ((name ≡ codes "emit")
    ⊎ ((name ≡ codes "graph") × HasDrawing rows))))

-- one of the subcommands was met, with a FILE
pub record IsCommand (met : Option (Text × List Row)) : Type 0 where
  pub name : Text
  pub rows : List Row
  pub is : met ≡ Some (name, rows)
  pub known : IsKnown name rows
  pub file : IsSome (first_of (codes "FILE") rows)

-- a subcommand was met whose words after `--out` are wrong for this reason
pub record HasBadOuts (fault : LineFault) (met : Option (Text × List Row)) : Type 0 where
  pub name : Text
  pub rows : List Row
  pub is : met ≡ Some (name, rows)
  pub live : Bool
  pub flag : IsFlagOf (one_of (codes "live") rows) live
  pub bad : AreBadOuts fault live (all_of (codes "out") rows)

-- one whose word after `--sort` is nothing to sort by
pub record HasBadSort (met : Option (Text × List Row)) : Type 0 where
  pub name : Text
  pub rows : List Row
  pub is : met ≡ Some (name, rows)
  pub bad : HasSort rows → ⊥

-- one whose word after `--format` is no form of messages
pub record HasBadFormat (met : Option (Text × List Row)) : Type 0 where
  pub name : Text
  pub rows : List Row
  pub is : met ≡ Some (name, rows)
  pub bad : IsFormat (first_of (codes "format") rows) → ⊥

-- a subcommand's name and what was found for its arguments are no command for this reason
abbrev pub IsBadCommand : LineFault → (name : Text) → List Row → Type 0
IsBadCommand fault.Words name rows = IsKnown name rows → ⊥
IsBadCommand fault.BadSort name rows = HasSort rows → ⊥
IsBadCommand fault name rows = ⊥

-- what was met is no line for this reason
abbrev pub IsBadLine : LineFault → Option (Text × List Row) → Type 0
IsBadLine fault.Words met = IsCommand met → ⊥
IsBadLine fault.Memory met = ⊤
IsBadLine fault.BadSort met = HasBadSort met
IsBadLine fault.BadFormat met = HasBadFormat met
IsBadLine fault met = HasBadOuts fault met

-- the kinds of error that the words may come to, other than out of memory; none where the words are
-- taken
abbrev pub faults : List Text → Kinds
faults words = fault_of strc_app words

-- the words are taken, and ask for this line
pub record AsksFor (words : List Text) (line : Line) : Type 0 where
  pub faultless : faults words ≡ []
  pub asked : IsLineIn (subcommand_of strc_app words) line
  pub within : AreWithin line.command

-- the words are refused for this reason: they have a fault, or their words after `--sort`,
-- `--format` or `--out` are wrong
abbrev pub IsRefusedFor : LineFault → List Text → Type 0
IsRefusedFor fault.Words words = faults words ≢ []
IsRefusedFor fault.Memory words = ⊤
IsRefusedFor fault.BadSort words =
    (faults words ≡ []) × HasBadSort (subcommand_of strc_app words)
IsRefusedFor fault.BadFormat words =
    (faults words ≡ []) × HasBadFormat (subcommand_of strc_app words)
IsRefusedFor fault words =
    (faults words ≡ []) × HasBadOuts fault (subcommand_of strc_app words)

-- how a kind of error is reported
abbrev pub fault_by : ErrorKind → LineFault
fault_by OutOfMemory = fault.Memory
fault_by kind = fault.Words
