-- Messages that go on, piece by piece.
use Rattle.std.proofs.Common.{◌≡◌, ◌∙◌, ap, ℕ, List, [], ◌++◌, Option, Some, None}
use Rattle.std.proofs.Common.{append-nil, append_assoc}
use Rattle.strc_lex_names.specs.declared.place.Span.{Span}
use Rattle.strc_cli_diagnostics.specs.Messages.{MessageView, with_more}
use Rattle.strc_cli_diagnostics.specs.declared.message.MessageKind.{MessageKind}

more_after : (kind : MessageKind) (place : Option Span) (sentence : List ℕ)
    (hint : Option (List ℕ)) (more rest : List ℕ)
    → let message : MessageView = record {
      kind = kind;
      place = place;
      sentence = sentence;
      hint = hint;
    } in
    with_more (with_more message more) rest ≡ with_more message (more ++ rest)
more_after kind place sentence None more rest =
    ap (λ (s : List ℕ). record { kind = kind; place = place; sentence = s; hint = None })
    (append_assoc sentence more rest)
more_after kind place sentence (Some hint) more rest =
    ap (λ (h : List ℕ). record { kind = kind; place = place; sentence = sentence; hint = Some h })
    (append_assoc hint more rest)

-- two pieces are one
pub more_twice : (message : MessageView) (more rest : List ℕ)
    → with_more (with_more message more) rest ≡ with_more message (more ++ rest)
more_twice message more rest =
    more_after message.kind message.place message.sentence message.hint more rest

pub more_in_two : (old between new : MessageView) (more rest : List ℕ)
    → between ≡ with_more old more → new ≡ with_more between rest
    → new ≡ with_more old (more ++ rest)
more_in_two old between new more rest first second =
    second ∙ ap (λ (m : MessageView). with_more m rest) first ∙ more_twice old more rest

-- three are one
pub more_in_three : (old between later new : MessageView) (more further rest : List ℕ)
    → between ≡ with_more old more → later ≡ with_more between further
    → new ≡ with_more later rest → new ≡ with_more old (more ++ further ++ rest)
more_in_three old between later new more further rest first second third =
    more_in_two old later new (more ++ further) rest
    (more_in_two old between later more further first second) third

nothing_after : (kind : MessageKind) (place : Option Span) (sentence : List ℕ)
    (hint : Option (List ℕ))
    → let message : MessageView = record {
      kind = kind;
      place = place;
      sentence = sentence;
      hint = hint;
    } in
    with_more message [] ≡ message
nothing_after kind place sentence None =
    ap (λ (s : List ℕ). record { kind = kind; place = place; sentence = s; hint = None })
    (append-nil sentence)
nothing_after kind place sentence (Some hint) =
    ap (λ (h : List ℕ). record { kind = kind; place = place; sentence = sentence; hint = Some h })
    (append-nil hint)

-- no bytes change nothing
pub no_more : (message : MessageView) → with_more message [] ≡ message
no_more message = nothing_after message.kind message.place message.sentence message.hint
