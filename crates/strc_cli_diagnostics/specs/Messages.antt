-- What a person reads of a refusal, a fault or a doubt: a message, and its text.
use Rattle.std.specs.Prelude.{◌≡◌, ℕ, List, [], ◌++◌, codes, decimal, take}
use Rattle.std.specs.Prelude.{Option, Some, None}
use Rattle.std.specs.Option.{option_map}
use Rattle.strc_lex_names.specs.declared.place.Span.{Span}
use Rattle.strc_cli_diagnostics.specs.Excerpts.{excerpt_at}
use Rattle.strc_cli_diagnostics.specs.Places.{IsPlace}
use Rattle.strc_cli_diagnostics.specs.declared.message.MessageKind.{MessageKind}
use Rattle.strc_cli_diagnostics.specs.declared.message.MessageKind.TheVariants as kind
use Rattle.strc_cli_diagnostics.specs.declared.place.Place.{Place}

-- a message: the part of the text that it is about, where it is about one, its sentence, and how
-- what is wrong can be mended, where that is told
pub record MessageView : Type 0 where
  pub kind : MessageKind
  pub place : Option Span
  pub sentence : List ℕ
  pub hint : Option (List ℕ)

-- nothing is said yet, of a program
abbrev pub new_message : MessageView
new_message = record { kind = kind.Plain; place = None; sentence = []; hint = None }

-- a message of this kind, about a part of the text where there is one
abbrev pub about : MessageKind → Option Span → MessageView → MessageView
about kind place message = record {
  kind = kind;
  place = place;
  sentence = message.sentence;
  hint = message.hint;
}

-- what is added is the sentence's, unless there is a hint
abbrev pub sentence_with : (sentence : List ℕ) → (hint : Option (List ℕ)) → (more : List ℕ) → List ℕ
sentence_with sentence None more = sentence ++ more
sentence_with sentence (Some hint) more = sentence

-- a message with more of its sentence, or of its hint where there is one
abbrev pub with_more : MessageView → (more : List ℕ) → MessageView
with_more message more = record {
  kind = message.kind;
  place = message.place;
  sentence = sentence_with message.sentence message.hint more;
  hint = option_map (λ hint. hint ++ more) message.hint;
}

-- where a hint begins: after another one, on a line of its own
abbrev pub next_hint : Option (List ℕ) → List ℕ
next_hint None = []
next_hint (Some hint) = hint ++ codes "\nhint: "

-- a message whose hint begins
abbrev pub hinting : MessageView → MessageView
hinting message = record {
  kind = message.kind;
  place = message.place;
  sentence = message.sentence;
  hint = Some (next_hint message.hint);
}

-- what a message is about: the program in a file, the numbers of its input, or the command line
abbrev pub subject : (file : List ℕ) → MessageKind → List ℕ
subject file kind.Input = codes "standard input"
subject file kind.Usage = codes "error"
subject file kind = file

-- what is said before its sentence
abbrev pub label : MessageKind → List ℕ
label kind.Warning = codes "warning: "
label kind.Note = codes "note: "
label kind = []

-- a place as it is written: its line and its column
abbrev pub place_text : Place → List ℕ
place_text place = codes ":" ++ decimal place.line ++ codes ":" ++ decimal place.column

-- how a text begins that is about a byte of a program's text: the line and the column
pub record IsHeadAt (subject text : List ℕ) (at : ℕ) (head : List ℕ) : Type 0 where
  pub place : Place
  pub is_place : IsPlace (take at text) place
  pub written : head ≡ subject ++ place_text place ++ codes ": "

-- how a text begins: with a place, where it is about one
abbrev pub IsHead : (subject text : List ℕ) → Option ℕ → (head : List ℕ) → Type 0
IsHead subject text None head = head ≡ subject ++ codes ": "
IsHead subject text (Some at) head = IsHeadAt subject text at head

-- a hint on a line of its own, or nothing
abbrev pub hint_text : Option (List ℕ) → List ℕ
hint_text None = []
hint_text (Some words) = codes "\nhint: " ++ words

-- the whole text of a message: where it is, what it says, the source line with a mark, how it can
-- be mended, and the end of its last line
pub record IsMessageText (file text : List ℕ) (message : MessageView) (written : List ℕ) : Type 0
  where
    pub head : List ℕ
    pub is_head : IsHead (subject file message.kind) text
        (option_map (λ part. part.start) message.place) head
    pub whole : written ≡ head ++ label message.kind ++ message.sentence
        ++ excerpt_at text message.place ++ hint_text message.hint ++ codes "\n"
