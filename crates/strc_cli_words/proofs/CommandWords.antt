-- What the words of a command line are taken for, by what clap says of them.
use Rattle.std.proofs.Common.{◌≡◌, ◌∙◌, ◌⊎◌, ℕ, ◌≤◌, List, [], Option, Some, None, Result, Ok, Err}
use Rattle.std.proofs.Common.{IfOk, subst, sym, ap, arith, codes, inl, inr}
use Rattle.std.specs.Prelude.{IfErr, IfSome}
use Rattle.clap.specs.Walk.{Row, Text, one_of}
use Rattle.clap.specs.Kinds.{IsAmong, Kinds}
use Rattle.clap.specs.Simple.{subcommand_of}
use Rattle.clap.specs.declared.error.kind.ErrorKind.{ErrorKind}
use Rattle.clap.specs.declared.error.kind.ErrorKind.TheVariants.{OutOfMemory}
use Rattle.strc_cli_words.specs.declared.line.Line.{Line}
use Rattle.strc_cli_words.specs.declared.line.LineFault.{LineFault}
use Rattle.strc_cli_words.specs.declared.line.LineFault.TheVariants as fault
use Rattle.strc_cli_words.specs.declared.line.Command.{Command}
use Rattle.strc_cli_words.specs.declared.line.Command.TheVariants as command
use Rattle.strc_cli_words.specs.Lines.{AreWithin, AsksFor, IsBetween, IsCommand, IsCommandOf}
use Rattle.strc_cli_words.specs.Lines.{HasBadFormat, HasBadOuts, HasBadSort, IsBadLine, IsKnown}
use Rattle.strc_cli_words.specs.Lines.{IsRefusedFor}
use Rattle.strc_cli_words.specs.Lines.{IsLineIn, IsNumberOf, IsNumberOr, WritesBetween, fault_by}
use Rattle.strc_cli_words.specs.Lines.{faults, most_batched, most_fused, most_ways, strc_app}
use Rattle.strc_cli_words.proofs.FaultlessWords.{faultless_command}
use Rattle.strc_cli_words.proofs.LineWords.{not_check, same_met}

-- a number in place of none is between bounds, where the one in its place is
between : (absent least most : ℕ) → IsBetween least most absent → (text : Option Text)
    → WritesBetween least most text → (number : ℕ) → IsNumberOr absent text number
    → IsBetween least most number
between absent least most bare None writes number is = subst (IsBetween least most) (sym is) bare
between absent least most bare (Some text) writes number is = writes number is

-- so is a number that is given
given : (least most : ℕ) (text : Option Text) → WritesBetween least most text
    → (number : Option ℕ) → IsNumberOf text number → IfSome number (IsBetween least most)
given least most text writes None is = tt
given least most text writes (Some number) is = writes number is

short : (number : Option ℕ) → IfSome number (IsBetween 0 most_fused)
    → IfSome number (λ entries. entries ≤ most_fused)
short None is = tt
short (Some number) is = is.1

-- the command of what was met has numbers within bounds where what was found for it has
within_known : (name : Text) (rows : List Row) (command : Command) → IsKnown name rows
    → IsCommandOf name rows command → AreWithin command
within_known name rows (command.Run rounds workers ways fuse batch stats main)
    (inl (run, numbers)) is = (
      between 1 1 most_ways (omega arith, omega arith) (one_of (codes "ways") rows)
          numbers.sharing.few ways is.3,
      (between 0 0 most_fused (omega arith, omega arith) (one_of (codes "fuse") rows)
          numbers.sharing.short fuse is.4).1,
      given 1 most_batched (one_of (codes "batch") rows) numbers.batched batch is.5,
    )
within_known name rows (command.Run rounds workers ways fuse batch stats main)
    (inr (inl other)) is = cc
within_known name rows (command.Run rounds workers ways fuse batch stats main)
    (inr (inr (inl other))) is = cc
within_known name rows (command.Run rounds workers ways fuse batch stats main)
    (inr (inr (inr (inl other)))) is = cc
within_known name rows (command.Run rounds workers ways fuse batch stats main)
    (inr (inr (inr (inr (other, sharing))))) is = cc
within_known name rows (command.Graph workers ways fuse depth times main)
    (inr (inr (inr (inr (graph, drawing))))) is = (
      given 1 most_ways (one_of (codes "ways") rows) drawing.sharing.few ways is.2,
      short fuse
          (given 0 most_fused (one_of (codes "fuse") rows) drawing.sharing.short fuse is.3),
    )
within_known name rows (command.Graph workers ways fuse depth times main) (inl (other, numbers)) is = cc
within_known name rows (command.Graph workers ways fuse depth times main) (inr (inl other)) is =
    absurd (not_check name is.0 other)
within_known name rows (command.Graph workers ways fuse depth times main) (inr (inr (inl other))) is = cc
within_known name rows (command.Graph workers ways fuse depth times main) (inr (inr (inr (inl other)))) is = cc
within_known name rows (command.Check main) known is = tt
within_known name rows (command.Plan long sort main) known is = tt
within_known name rows (command.Emit main) known is = tt

within : (met : Option (Text × List Row)) (line : Line) → IsCommand met → IsLineIn met line
    → AreWithin line.command
within met line known (name, rows, is, of) =
    within_known name rows line.command
    (subst (λ (p : Text × List Row). IsKnown p.0 p.1) (same_met met name rows is known)
    known.known) of.command

-- a line of what was met, where the words have no fault, is what they ask for
pub asks_for : (words : List Text) (met : Option (Text × List Row)) (result : Result Line LineFault)
    → faults words ≡ [] → met ≡ subcommand_of strc_app words → IfOk result (IsLineIn met)
    → IfOk result (AsksFor words)
asks_for words met (Ok line) none same is =
    let asked = subst (λ (m : Option (Text × List Row)). IsLineIn m line) same is in
    record {
      faultless = none;
      asked = asked;
      within = within (subcommand_of strc_app words) line (faultless_command words none) asked;
    }
asks_for words met (Err fault) none same is = tt

-- what is no line of what was met is refused, where the words have no fault
pub refused_for : (words : List Text) (met : Option (Text × List Row)) (fault : LineFault)
    → faults words ≡ [] → met ≡ subcommand_of strc_app words → IsBadLine fault met
    → IsRefusedFor fault words
refused_for words met fault.Words none same bad =
    λ e. bad (subst IsCommand (sym same) (faultless_command words none))
refused_for words met fault.Memory none same bad = tt
refused_for words met fault.BadSort none same bad = (none, subst HasBadSort same bad)
refused_for words met fault.BadFormat none same bad = (none, subst HasBadFormat same bad)
refused_for words met fault.BadOut none same bad =
    (none, subst (HasBadOuts fault.BadOut) same bad)
refused_for words met fault.TapeTwice none same bad =
    (none, subst (HasBadOuts fault.TapeTwice) same bad)
refused_for words met fault.LiveOut none same bad =
    (none, subst (HasBadOuts fault.LiveOut) same bad)

pub line_refused : (words : List Text) (met : Option (Text × List Row))
    (result : Result Line LineFault) → faults words ≡ [] → met ≡ subcommand_of strc_app words
    → IfErr result (λ fault. IsBadLine fault met)
    → IfErr result (λ fault. IsRefusedFor fault words)
line_refused words met (Ok line) none same bad = tt
line_refused words met (Err fault) none same bad = refused_for words met fault none same bad

-- an error that isn't out of memory is a fault of the words
pub has_fault : (words : List Text) (kind : ErrorKind) (reported : LineFault)
    → (kind ≡ OutOfMemory) ⊎ IsAmong kind (faults words) → reported ≡ fault_by kind
    → (reported ≡ fault.Words) ⊎ (reported ≡ fault.Memory) → IsRefusedFor reported words
has_fault words kind reported among same (inr memory) =
    subst (λ (f : LineFault). IsRefusedFor f words) (sym memory) tt
has_fault words kind reported (inl out) same (inl is) =
    let memory : reported ≡ fault.Memory = same ∙ ap fault_by out in
    absurd (cc)
has_fault words kind reported (inr among) same (inl is) =
    subst (λ (f : LineFault). IsRefusedFor f words) (sym is)
    (λ none. subst (IsAmong kind) none among)
