-- Which tapes go to which files, by the words that follow `--out`.
use Rattle.std.specs.Prelude.{◌≡◌, ◌≢◌, ◌⊎◌, ⊤, ℕ, Bool, true, false, List, [], ◌∷◌, Option, Some}
use Rattle.std.specs.Prelude.{None, map, is_none, ◌||◌, string_bytes}
use Rattle.std.specs.List.{list_any}
use Rattle.std.specs.Str.{bytes_eq}
use Rattle.clap.specs.Lexer.{name_and_value}
use Rattle.clap.specs.Walk.{Text}
use Rattle.strc_cli_words.specs.declared.line.Out.{Out}
use Rattle.strc_cli_words.specs.declared.line.LineFault.{LineFault}
use Rattle.strc_cli_words.specs.declared.line.LineFault.TheVariants as fault

-- the names of a tape and of a file
abbrev pub names_of : Out → Text × Text
names_of out = (string_bytes out.tape, string_bytes out.file)

-- both names, where neither is empty
abbrev pub out_of_parts : Text → Option Text → Option (Text × Text)
out_of_parts (first ∷ tape) (Some (next ∷ file)) = Some (first ∷ tape, next ∷ file)
out_of_parts tape file = None

-- the two names of a word NAME=FILE: those before and after its first `=`
abbrev pub out_of : Text → Option (Text × Text)
out_of word = out_of_parts (name_and_value word).0 (name_and_value word).1

-- the words give these tapes and files, in order
abbrev pub AreOuts : List Text → List Out → Type 0
AreOuts words outs = map out_of words ≡ map (λ out. Some (names_of out)) outs

-- whether two names of a tape and a file are of one tape, or of one file
abbrev pub shares_name : (other names : Text × Text) → Bool
shares_name other names = bytes_eq other.0 names.0 || bytes_eq other.1 names.1

-- whether a tape or a file is named twice
abbrev pub has_twice : List (Text × Text) → Bool
has_twice [] = false
has_twice (names ∷ rest) = list_any (λ other. shares_name other names) rest || has_twice rest

-- a word isn't NAME=FILE, or memory runs out
abbrev pub IsNoOut : LineFault → (word : Text) → Type 0
IsNoOut fault.BadOut word = out_of word ≡ None
IsNoOut fault.Memory word = ⊤
IsNoOut fault word = ⊥

-- the words that were found, where some were, give these tapes and files for a run that is live or
-- not: no tape and no file twice, and none where it is live
abbrev pub AreOutsFor : (live : Bool) → Option (List Text) → List Out → Type 0
AreOutsFor live None outs = outs ≡ []
AreOutsFor live (Some words) outs =
    AreOuts words outs × (has_twice (map names_of outs) ≡ false)
    × (live ≡ true → outs ≡ [])

-- the words that were found give none for this reason: one isn't NAME=FILE, a tape or a file is
-- named twice, or the run is live
abbrev pub AreBadOuts : LineFault → (live : Bool) → Option (List Text) → Type 0
AreBadOuts fault.BadOut live (Some words) = list_any (λ word. is_none (out_of word)) words ≡ true
AreBadOuts fault.TapeTwice live (Some words) =
    (outs : List Out) × AreOuts words outs × (has_twice (map names_of outs) ≡ true)
AreBadOuts fault.LiveOut live (Some words) =
    (outs : List Out) × AreOuts words outs × (outs ≢ []) × (live ≡ true)
AreBadOuts fault.Memory live words = ⊤
AreBadOuts fault live words = ⊥
