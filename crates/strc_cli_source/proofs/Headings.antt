-- A heading, token by token.
use Rattle.std.proofs.Common.{◌≡◌, ℕ, ◌+◌, ◌<◌, ◌≤◌, Bool, true, false, List, ◌∷◌, drop, length}
use Rattle.std.proofs.Common.{[], cond, filter, take_while, nat_le, get_or, refl, ap, ◌∙◌, sym}
use Rattle.std.proofs.Common.{arith, inl, inr}
use Rattle.std.proofs.lemmas.Bool.{cases_Bool, lt-leb, le-leb}
use Rattle.std.proofs.lemmas.List.{drop_more}
use Rattle.std.proofs.lemmas.List.Sums.{take_while-cons}
use Rattle.strc_lex_names.specs.declared.place.Span.{Span}
use Rattle.strc_lex.specs.declared.token.Punctuation.TheVariants as mark
use Rattle.strc_lex.specs.declared.token.Token.{Token}
use Rattle.strc_lex.specs.declared.token.TokenKind.{TokenKind}
use Rattle.strc_cli_source.specs.Headings.{end_from, begins_block, ends_statement, open_after}
use Rattle.strc_cli_source.specs.Tokens.{is_mark, tokens_in}

-- what is left from a token on
left_from : (tokens : List Token) (i : ℕ) (token : Token) → i < length tokens
    → token ≡ get_or tokens i token → drop i tokens ≡ token ∷ drop (i + 1) tokens
left_from tokens i token within is =
    drop_more tokens i token within ∙ ap (λ t. t ∷ drop (i + 1) tokens) (sym is)

module _ (place : Span) (tokens : List Token) (i : ℕ) (token : Token) (within : i < length tokens)
    (is : token ≡ get_or tokens i token) where
  -- it begins before the place
  pub tokens_before : token.span.start < place.start
      → tokens_in place (drop i tokens) ≡ tokens_in place (drop (i + 1) tokens)
  tokens_before before =
      rw (left_from tokens i token within is, lt-leb place.start token.span.start before) refl

  module _ (from : place.start ≤ token.span.start) where
    -- it ends after the place
    pub end_beyond : (is_first : Bool) (end brackets : ℕ) → place.end < token.span.end
        → end_from is_first end brackets (tokens_in place (drop i tokens)) ≡ end
    end_beyond is_first end brackets beyond =
        rw (
          left_from tokens i token within is,
          le-leb place.start token.span.start from,
          lt-leb token.span.end place.end beyond,
        ) refl

    module _ (up_to : token.span.end ≤ place.end) where
      -- it is in the place
      tokens_from : tokens_in place (drop i tokens)
          ≡ token ∷ tokens_in place (drop (i + 1) tokens)
      tokens_from =
          let ends : Token → Bool = λ t. nat_le t.span.end place.end in
          let later : List Token = filter (λ t. nat_le place.start t.span.start)
          (drop (i + 1) tokens) in
          rw (left_from tokens i token within is, le-leb place.start token.span.start from)
          (take_while-cons ends token later
          ∙ ap (λ b. cond b (token ∷ take_while ends later) [])
          (le-leb token.span.end place.end up_to))

      pub end_before_block : (is_first : Bool) (end brackets : ℕ)
          → begins_block is_first token.kind ≡ true
          → end_from is_first end brackets (tokens_in place (drop i tokens)) ≡ end
      end_before_block is_first end brackets opens = rw (tokens_from, opens) refl

      pub end_with_statement : (is_first : Bool) (end brackets : ℕ)
          → begins_block is_first token.kind ≡ false → ends_statement brackets token.kind ≡ true
          → end_from is_first end brackets (tokens_in place (drop i tokens)) ≡ token.span.end
      end_with_statement is_first end brackets stays ends = rw (tokens_from, stays, ends) refl

      pub end_goes_on : (is_first : Bool) (end brackets : ℕ)
          → begins_block is_first token.kind ≡ false → ends_statement brackets token.kind ≡ false
          → end_from is_first end brackets (tokens_in place (drop i tokens))
          ≡ end_from false token.span.end (open_after brackets token.kind)
          (tokens_in place (drop (i + 1) tokens))
      end_goes_on is_first end brackets stays goes = rw (tokens_from, stays, goes) refl

-- a token opens one bracket at most
pub open_more : (brackets : ℕ) (token : TokenKind) → open_after brackets token ≤ brackets + 1
open_more brackets token =
    elim (cases_Bool (is_mark mark.OpenParen token)) [
      | inl opens ↦ rw opens (omega arith)
      | inr other ↦ elim (cases_Bool (is_mark mark.CloseParen token)) [
        | inl closes ↦ rw (other, closes) (omega arith)
        | inr neither ↦ rw (other, neither) (omega arith)
      ]
    ]
