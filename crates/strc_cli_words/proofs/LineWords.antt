-- What the reading of a line's matches has found.
use Rattle.std.proofs.Common.{◌≡◌, ◌∙◌, ◌^◌, ◌<◌, ℕ, Bool, true, false, refl, sym, ap, subst}
use Rattle.std.proofs.Common.{◌≢◌, ◌==◌, [], ◌∷◌, length, arith, List, Option, Some, None, Result, Ok, Err, is_some, codes, inl, inr}
use Rattle.std.specs.Prelude.{is_none, option_map, unwrap_or}
use Rattle.std.specs.Str.Parse.{ExplainsUnsignedError, HasUnsignedDigitsIfOk, ParsesBool}
use Rattle.std.specs.Str.Parse.{ParsesUnsigned}
use Rattle.std.specs.declared.num.ParseIntError.{ParseIntError}
use Rattle.std.specs.declared.str.ParseBoolError.{ParseBoolError}
use Rattle.std.specs.Box.{box_value}
use Rattle.std.specs.Str.{bytes_eq}
use Rattle.std.proofs.lemmas.Bool.{ne_eqb, true≢false}
use Rattle.clap.specs.Matches.{ReadsOne, TriesOne, found_of, subcommand_name_of}
use Rattle.clap.specs.Simple.{subcommand_rows_of}
use Rattle.clap.specs.declared.parser.matches.ArgMatches.{ArgMatches}
use Rattle.clap.specs.declared.parser.matches.ArgMatches.TheViews.{out-ArgMatches, out-SubCommand}
use Rattle.clap.specs.Walk.{Row, Text, all_of, first_of, one_of, rows_of}
use Rattle.strc_cli_words.specs.declared.line.LineFault.{LineFault}
use Rattle.strc_cli_words.specs.declared.line.LineFault.TheVariants as fault
use Rattle.std.specs.List.{list_any}
use Rattle.strc_cli_words.specs.Outs.{AreBadOuts, IsNoOut, out_of}
use Rattle.strc_cli_words.specs.Lines.{IsBadCommand, IsBadLine}
use Rattle.strc_cli_words.specs.Lines.{HasDrawing, HasNumbers, HasSort, IsCommand, IsFlagOf}
use Rattle.strc_cli_words.specs.Lines.{IsFormat, IsKnown}
use Rattle.strc_cli_words.specs.Lines.{IsNumberOf, IsNumberOr}

some_same : {A : Type 0} (one other : A) → Some one ≡ Some other → one ≡ other
some_same one other is = cc

-- the name and the rows of what was met
met_both : {B : Type 0} (met : Option B) (name : B → Text) (rows : B → List Row) (text : Text)
    (all : List Row) → option_map name met ≡ Some text
    → option_map (λ (p : Text × List Row). p.1)
    (option_map {U = Text × List Row} (λ b. (name b, rows b)) met) ≡ Some all
    → option_map {U = Text × List Row} (λ b. (name b, rows b)) met ≡ Some (text, all)
met_both None name rows text all named found = cc
met_both (Some b) name rows text all named found =
    rw (some_same _ _ named, some_same _ _ found) refl

pub subcommand_met : (matches : ArgMatches) (name : Text) (rows : List Row)
    → subcommand_name_of matches ≡ Some name
    → option_map (λ (p : Text × List Row). p.1) (subcommand_rows_of matches) ≡ Some rows
    → subcommand_rows_of matches ≡ Some (name, rows)
subcommand_met matches name rows =
    met_both (out-ArgMatches matches).subcommand (λ b. (out-SubCommand (box_value b)).name.now)
    (λ b. rows_of (found_of (out-SubCommand (box_value b)).matches)) name rows

-- a command that was met is one that has this name and these rows
pub same_met : (met : Option (Text × List Row)) (name : Text) (found : List Row)
    → met ≡ Some (name, found)
    → (command : IsCommand met)
    → ◌≡◌ {A = Text × List Row} (command.name, command.rows) (name, found)
same_met met name found is command = some_same _ _ (sym command.is ∙ is)

pub no_file : (met : Option (Text × List Row)) (name : Text) (found : List Row)
    → met ≡ Some (name, found)
    → first_of (codes "FILE") found ≡ None → IsCommand met → ⊥
no_file met name found is none command =
    let given : is_some (first_of (codes "FILE") found) ≡ true =
    subst (λ (p : Text × List Row). is_some (first_of (codes "FILE") p.1) ≡ true)
    (same_met met name found is command) command.file in
    cc

pub not_known : (met : Option (Text × List Row)) (name : Text) (found : List Row)
    → met ≡ Some (name, found)
    → (IsKnown name found → ⊥) → IsCommand met → ⊥
not_known met name found is none command =
    none
    (subst (λ (p : Text × List Row). IsKnown p.0 p.1) (same_met met name found is command)
    command.known)

-- `run` with a text that is no number is no subcommand that is known
pub no_numbers : (name : Text) (rows : List Row) → name ≡ codes "run" → (HasNumbers rows → ⊥)
    → IsKnown name rows → ⊥
no_numbers name rows run none (inl (is, numbers)) = none numbers
no_numbers name rows run none (inr (inl is)) = cc
no_numbers name rows run none (inr (inr (inl is))) = cc
no_numbers name rows run none (inr (inr (inr (inl is)))) = cc
no_numbers name rows run none (inr (inr (inr (inr (is, sharing))))) = cc

-- nor is `graph`, which is not `check`
pub not_check : (name : Text) → name ≡ codes "graph" → name ≡ codes "check" → ⊥
not_check name graph check = true≢false
    (sym (ap (λ (text : Text). bytes_eq text (codes "check")) (sym graph ∙ check)))

pub no_drawing : (name : Text) (rows : List Row) → name ≡ codes "graph" → (HasDrawing rows → ⊥)
    → IsKnown name rows → ⊥
no_drawing name rows graph none (inl (is, numbers)) = cc
no_drawing name rows graph none (inr (inl is)) = not_check name graph is
no_drawing name rows graph none (inr (inr (inl is))) = cc
no_drawing name rows graph none (inr (inr (inr (inl is)))) = cc
no_drawing name rows graph none (inr (inr (inr (inr (is, drawing))))) = none drawing

-- a number that is given, or the one in its place
pub number_or : (absent : ℕ) (text : Option Text) (given : Option ℕ) → IsNumberOf text given
    → IsNumberOr absent text (unwrap_or given absent)
number_or absent None None is = refl
number_or absent (Some text) (Some number) is = is
number_or absent None (Some number) is = absurd is
number_or absent (Some text) None is = absurd is

-- how a text is read as a number of 32 bits
abbrev pub Gives : Text → Result ℕ ParseIntError → Type 0
Gives text result = ParsesUnsigned 32 10 text result × ExplainsUnsignedError 10 text result
    × HasUnsignedDigitsIfOk text result

-- what is read of a text that may be given
pub reads : (given : Option Text) (number : Option ℕ)
    → (given ≡ None → ◌≡◌ {A = Result (Option ℕ) ParseIntError} (Ok number) (Ok None))
    → ((text : Text) → given ≡ Some text → TriesOne Gives text (Ok number))
    → IsNumberOf given number
reads None None none some = tt
reads None (Some number) none some = let bad = none refl in cc
reads (Some text) (Some number) none some =
    let parsed = some text refl in
    (parsed.0.0.0, sym parsed.0.1, subst (λ (n : ℕ). n < 2 ^ 32) (sym parsed.0.1) parsed.0.0.1)
reads (Some text) None none some = some text refl

pub reads_none : (given : Option Text) (error : ParseIntError)
    → (given ≡ None → ◌≡◌ {A = Result (Option ℕ) ParseIntError} (Err error) (Ok None))
    → ((text : Text) → given ≡ Some text → TriesOne Gives text (Err error)) → (number : Option ℕ)
    → IsNumberOf given number → ⊥
reads_none None error none some number is = let bad = none refl in cc
reads_none (Some text) error none some (Some number) is =
    (some text refl).0 (is.0, subst (λ (n : ℕ). n < 2 ^ 32) (sym is.1) is.2)
reads_none (Some text) error none some None is = is

-- how a text is read as a flag
abbrev pub GivesFlag : Text → Result Bool ParseBoolError → Type 0
GivesFlag text result = ParsesBool text result

two_texts : (text : Text) → text ≡ codes "true" → text ≡ codes "false" → ⊥
two_texts text is_true is_false = cc

-- a flag that isn't given is not set
pub flag_set : (text : Option Text) (flag : Option Bool) → (text ≡ None → flag ≡ None)
    → ((given : Text) → text ≡ Some given → ReadsOne GivesFlag given flag)
    → IsFlagOf text (unwrap_or flag false)
flag_set None None none some = ((λ is. cc), λ is. cc)
flag_set None (Some flag) none some = let bad = none refl in cc
flag_set (Some text) (Some true) none some = ((λ is. ap Some (some text refl)), λ is. refl)
flag_set (Some text) (Some false) none some = (
  (λ is. cc),
  λ is. absurd (two_texts text (some_same _ _ is) (some text refl)),
)
flag_set (Some text) None none some =
    ((λ is. cc), λ is. absurd ((some text refl).1.0 (some_same _ _ is)))

-- what is no command makes no line
pub bad_command : (fault : LineFault) (met : Option (Text × List Row)) (name : Text)
    (rows : List Row) → met ≡ Some (name, rows) → IsBadCommand fault name rows
    → IsBadLine fault met
bad_command fault.Words met name rows is bad = not_known met name rows is bad
bad_command fault.Memory met name rows is bad = absurd bad
bad_command fault.BadSort met name rows is bad =
    record { name = name; rows = rows; is = is; bad = bad }
bad_command fault.BadFormat met name rows is bad = absurd bad
bad_command fault.BadOut met name rows is bad = absurd bad
bad_command fault.TapeTwice met name rows is bad = absurd bad
bad_command fault.LiveOut met name rows is bad = absurd bad

-- a fault of the numbers or of the sorting of what has a name is one of its command
pub bad_words : (reported : LineFault) (name : Text) (rows : List Row) → reported ≡ fault.Words
    → (IsKnown name rows → ⊥) → IsBadCommand reported name rows
bad_words reported name rows is none =
    subst (λ (f : LineFault). IsBadCommand f name rows) (sym is) none

pub bad_sort : (reported : LineFault) (name : Text) (rows : List Row) → reported ≡ fault.BadSort
    → (HasSort rows → ⊥) → IsBadCommand reported name rows
bad_sort reported name rows is none =
    subst (λ (f : LineFault). IsBadCommand f name rows) (sym is) none

-- a word after `--format` that is no form of messages makes no line
pub bad_format : (reported : LineFault) (met : Option (Text × List Row)) (name : Text)
    (rows : List Row) → met ≡ Some (name, rows) → reported ≡ fault.BadFormat
    → (IsFormat (first_of (codes "format") rows) → ⊥) → IsBadLine reported met
bad_format reported met name rows is format none =
    subst (λ (f : LineFault). IsBadLine f met) (sym format)
    (record { name = name; rows = rows; is = is; bad = none })

-- words after `--out` that are wrong make no line
pub bad_line : (fault : LineFault) (met : Option (Text × List Row)) (name : Text)
    (rows : List Row) (live : Bool) → met ≡ Some (name, rows)
    → IsFlagOf (one_of (codes "live") rows) live
    → AreBadOuts fault live (all_of (codes "out") rows) → IsBadLine fault met
bad_line fault.Words met name rows live is flag bad = absurd bad
bad_line fault.Memory met name rows live is flag bad = tt
bad_line fault.BadSort met name rows live is flag bad = absurd bad
bad_line fault.BadFormat met name rows live is flag bad = absurd bad
bad_line fault.BadOut met name rows live is flag bad =
    record { name = name; rows = rows; is = is; live = live; flag = flag; bad = bad }
bad_line fault.TapeTwice met name rows live is flag bad =
    record { name = name; rows = rows; is = is; live = live; flag = flag; bad = bad }
bad_line fault.LiveOut met name rows live is flag bad =
    record { name = name; rows = rows; is = is; live = live; flag = flag; bad = bad }

-- a word that isn't NAME=FILE makes them wrong
pub bad_word : (fault : LineFault) (live : Bool) (words : List Text) (word : Text)
    → IsNoOut fault word
    → (out_of word ≡ None → list_any (λ it. is_none (out_of it)) words ≡ true)
    → AreBadOuts fault live (Some words)
bad_word fault.BadOut live words word none any = any none
bad_word fault.Memory live words word none any = tt
bad_word fault.Words live words word none any = absurd none
bad_word fault.BadSort live words word none any = absurd none
bad_word fault.BadFormat live words word none any = absurd none
bad_word fault.TapeTwice live words word none any = absurd none
bad_word fault.LiveOut live words word none any = absurd none

-- whether a list of this length is empty
pub not_empty : {X : Type 0} (xs : List X) (count : ℕ) (none : Bool) → count ≡ length xs
    → none ≡ (count == 0) → none ≡ false → xs ≢ []
not_empty [] count none long is not_so =
    λ e. true≢false (sym (is ∙ ap (λ (n : ℕ). n == 0) long) ∙ not_so)
not_empty (x ∷ xs) count none long is not_so = λ e. cc

pub are_empty : {X : Type 0} (xs : List X) (count : ℕ) (none : Bool) → count ≡ length xs
    → none ≡ (count == 0) → none ≡ true → xs ≡ []
are_empty [] count none long is so = refl
are_empty (x ∷ xs) count none long is so =
    absurd (true≢false (sym so ∙ (is ∙ (ap (λ (n : ℕ). n == 0) long ∙ ne_eqb _ _ (λ e. omega arith)))))
