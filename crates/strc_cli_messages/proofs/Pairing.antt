-- Sentences about two parts of a program, piece by piece.
use Rattle.std.proofs.Common.{◌≡◌, ◌∙◌, ap, subst, sym, ℕ, List, ◌++◌, Option, Some}
use Rattle.std.specs.Prelude.{codes}
use Rattle.strc_lex_names.specs.declared.place.Span.{Span}
use Rattle.strc_lex.specs.declared.token.Token.{Token}
use Rattle.strc_parse_tree.specs.declared.tree.Decl.{Decl}
use Rattle.strc_parse_tree.specs.declared.tree.Program.{Program}
use Rattle.strc_work_rules.specs.declared.site.Mismatch.TheVariants as mismatch
use Rattle.strc_work_rules.specs.declared.site.Site.{Site}
use Rattle.strc_run_refusal.specs.declared.refusal.Refusal.{Refusal}
use Rattle.strc_cli_diagnostics.specs.Messages.{MessageView, about, hinting, new_message, with_more}
use Rattle.strc_cli_diagnostics.specs.declared.message.MessageKind.{MessageKind}
use Rattle.strc_cli_diagnostics.specs.declared.message.MessageKind.TheVariants as kind
use Rattle.strc_cli_source.specs.Headings.{heading}
use Rattle.strc_cli_source.specs.NodeWords.{quoted, seen_words}
use Rattle.strc_cli_source.specs.Spelling.{Marks, between}
use Rattle.strc_cli_source.specs.declared.preorder.Preorder.{Preorder}
use Rattle.strc_cli_syntax.specs.Words.{GoesOnAt}
use Rattle.strc_cli_places.specs.Nodes.{heading_of, node_statement}
use Rattle.strc_cli_messages.proofs.Saying.{in_three, in_two}
use Rattle.strc_cli_messages.proofs.Wording.{adds_in_two, adds_place, adds_these, said}
use Rattle.strc_cli_messages.specs.RefusalWords.{AreInTwo, AreMainPairWords, AreNodePairWords}
use Rattle.strc_cli_messages.specs.RefusalWords.{ArePlaceWords, AreThese, joining_words}
use Rattle.strc_cli_messages.specs.Told.{IsPair, KeepsSentence, TellsAgain, TellsMains, TellsNodes}

-- a message keeps its sentence that is about a part, and one that ends with a hint
about_keeps : (kind : MessageKind) (place : Option Span) (old new : MessageView)
    → new ≡ about kind place old → KeepsSentence old new
about_keeps kind place old new is = ap (λ (m : MessageView). m.sentence) is

hint_about_keeps : (kind : MessageKind) (place : Option Span) (words : List ℕ)
    (old one two new : MessageView) → one ≡ hinting old → two ≡ with_more one words
    → new ≡ about kind place two → KeepsSentence old new
hint_about_keeps kind place words old one two new first second third =
    ap (λ (m : MessageView). m.sentence)
    (third ∙ ap (about kind place) (second ∙ ap (λ (m : MessageView). with_more m words) first))

-- some words, and where another part is
said_at : (words text : List ℕ) (part : Option Span) (old one two new : MessageView)
    → old ≡ new_message → one ≡ with_more old words → GoesOnAt text part one two
    → KeepsSentence two new → AreInTwo (AreThese words) ArePlaceWords new.sentence
said_at words text part old one two new empty first second keeps =
    said (AreInTwo (AreThese words) ArePlaceWords) old two new empty
    (adds_in_two (AreThese words) ArePlaceWords old one two (adds_these words old one first)
    (adds_place text part one two second)) keeps

-- a stream that is declared again
pub again_told : (text : List ℕ) (tokens : List Token) (site : Site) (first : Option Span)
    (second : Span) (name : List ℕ) (old one two three new : MessageView)
    → site.mismatch ≡ Some (mismatch.StreamTwice first) → site.place ≡ Some second
    → name ≡ between text second → old ≡ new_message → one ≡ with_more old (quoted name)
    → two ≡ with_more one (codes " is declared twice: here, and before it")
    → GoesOnAt text first two three
    → new ≡ about kind.Plain (Some (heading second tokens)) three
    → TellsAgain text tokens site new
again_told text tokens site first second name old one two three new twice again same empty start
    middle at end = record {
      first = first;
      second = second;
      twice = twice;
      again = again;
      place = ap (λ (m : MessageView). m.place) end;
      says = said_at (quoted (between text second)
          ++ codes " is declared twice: here, and before it") text first old two three new empty
          (in_two old one two (quoted (between text second))
          (codes " is declared twice: here, and before it")
          (start ∙ ap (λ (n : List ℕ). with_more old (quoted n)) same) middle) at
          (about_keeps kind.Plain (Some (heading second tokens)) three new end);
      plain = ap (λ (m : MessageView). m.kind) end;
    }

-- two streams that could be the main one
pub mains_said : (text : List ℕ) (second : Decl) (name first hint : List ℕ)
    (place marked : Option Span) (old one two three four five six new : MessageView)
    → name ≡ second.name → old ≡ new_message → one ≡ with_more old (quoted name)
    → two ≡ with_more one (codes " could be the main stream, and so could ")
    → three ≡ with_more two (quoted first) → GoesOnAt text place three four
    → five ≡ hinting four → six ≡ with_more five hint → new ≡ about kind.Plain marked six
    → AreMainPairWords second new.sentence
mains_said text second name first hint place marked old one two three four five six new same empty
    start middle end at hinted more end_of = (
      first,
      said_at (quoted second.name ++ codes " could be the main stream, and so could "
          ++ quoted first) text place old three four new empty
          (in_three old one two three (quoted second.name)
          (codes " could be the main stream, and so could ") (quoted first)
          (start ∙ ap (λ (n : List ℕ). with_more old (quoted n)) same) middle end) at
          (hint_about_keeps kind.Plain marked hint four five six new hinted more end_of),
    )

-- two nodes
pub nodes_said : (text : List ℕ) (order : Preorder) (refused : Refusal) (pair : ℕ × ℕ)
    (second first : Option (List ℕ)) (joining hint : List ℕ) (place marked : Option Span)
    (old one two three four five six new : MessageView) → joining ≡ joining_words refused
    → old ≡ new_message → one ≡ with_more old (seen_words order second pair.1)
    → two ≡ with_more one joining → three ≡ with_more two (seen_words order first pair.0)
    → GoesOnAt text place three four → five ≡ hinting four → six ≡ with_more five hint
    → new ≡ about kind.Plain marked six → AreNodePairWords order refused pair new.sentence
nodes_said text order refused pair second first joining hint place marked old one two three four
    five six new same empty start middle end at hinted more end_of = (
      first,
      second,
      said_at (seen_words order second pair.1 ++ joining_words refused
          ++ seen_words order first pair.0) text place old three four new empty
          (in_three old one two three (seen_words order second pair.1) (joining_words refused)
          (seen_words order first pair.0) start (middle ∙ ap (with_more one) same) end) at
          (hint_about_keeps kind.Plain marked hint four five six new hinted more end_of),
    )

-- a message about the second of two that are known
pub mains_tell : (text : List ℕ) (tokens : List Token) (found : Option Decl) (second : Decl)
    (marked : Option Span) (last new : MessageView) → Some second ≡ found
    → Marks text tokens second.name marked → AreMainPairWords second new.sentence
    → new ≡ about kind.Plain marked last → TellsMains text tokens found (Some new)
mains_tell text tokens found second marked last new is marks says end =
    subst (λ (f : Option Decl). TellsMains text tokens f (Some new)) is (
      subst (λ (p : Option Span). Marks text tokens second.name p)
          (sym (ap (λ (m : MessageView). m.place) end)) marks,
      says,
      ap (λ (m : MessageView). m.kind) end,
    )

pub nodes_tell : (tokens : List Token) (asked : Option (List ℕ)) (program : Option Program)
    (known : Option Preorder) (order : Preorder) (refused : Refusal) (pair : ℕ × ℕ)
    (marked : Option Span) (last new : MessageView) → known ≡ Some order
    → IsPair refused order (Some pair)
    → marked ≡ heading_of tokens (node_statement asked program known pair.1)
    → AreNodePairWords order refused pair new.sentence → new ≡ about kind.Plain marked last
    → TellsNodes tokens asked program known refused (Some new)
nodes_tell tokens asked program known order refused pair marked last new is is_pair marks says end =
    subst (λ (k : Option Preorder). TellsNodes tokens asked program k refused (Some new)) (sym is)
    (record {
      pair = pair;
      is_pair = is_pair;
      place = ap (λ (m : MessageView). m.place) end ∙ marks
          ∙ ap (λ (k : Option Preorder).
          heading_of tokens (node_statement asked program k pair.1)) is;
      says = says;
      plain = ap (λ (m : MessageView). m.kind) end;
    })
