-- A loop of turns, beside the code's loop that counts up.
use Rattle.std.proofs.Common.{◌≡◌, ℕ, eqb, suc, ◌+◌, ◌-◌, ◌<◌, ◌≤◌, max, true, false, List, [], ◌∷◌}
use Rattle.std.proofs.Common.{◌++◌, length, Option, Some, None, Result, Ok, Err, refl, ◌∙◌, arith}
use Rattle.strc_lex.specs.declared.token.TokenKind.{TokenKind}
use Rattle.strc_lex.specs.declared.token.Punctuation.TheVariants as punctuation
use Rattle.std.proofs.lemmas.Bool.{eqb-true}
use Rattle.strc_lex.specs.declared.token.Token.{Token}
use Rattle.strc_parse_tree.specs.declared.tree.RateKind.{RateKind}
use Rattle.strc_parse_grammar.specs.declared.error.Fault.{Fault}
use Rattle.strc_parse_grammar.specs.declared.error.ReadError.{ReadError}
use Rattle.strc_parse_grammar.specs.declared.error.ReadError.TheVariants as errors
use Rattle.strc_parse_grammar.specs.Reading.{◌>>=◌, Fails, Read, unexpected, tail, is_punctuation}
use Rattle.strc_parse_grammar.specs.Reading.{brace}
use Rattle.strc_parse_grammar.specs.Reading.{repeated, no_comma}
use Rattle.strc_parse_grammar.specs.Streams.{rate_kind, no_rate, rate_of, rate_turn, at_end}
use Rattle.strc_parse_tree.specs.Tree as tree
use Rattle.strc_parse_grammar.specs.Grammar.{kinds}

pub Fails-then : {A B : Type 0} (e : ReadError) (r : Result A Fault) (f : A → Result B Fault)
    → Fails e r → Fails e (r >>= f)
Fails-then errors.Memory r f fails = tt
Fails-then (errors.Fault fault) r f fails = rw fails refl

pub brace_closes : (tokens : List TokenKind) → is_punctuation punctuation.CloseBrace tokens ≡ true
    → brace tokens ≡ Some (tail tokens)
unfolding brace
brace_closes tokens is = rw is refl

pub brace_stays : (tokens : List TokenKind) → is_punctuation punctuation.CloseBrace tokens ≡ false
    → brace tokens ≡ None
unfolding brace
brace_stays tokens is = rw is refl

module _ {S : Type 0} (stop : List TokenKind → Option (List TokenKind))
    (turn : S → List TokenKind → Read S) (n at : ℕ) (so_far : S) (tokens : List TokenKind)
    (total : Read S)
    (kept : total ≡ repeated stop turn (n - at) so_far tokens) where
  pub repeated_on : (next : S) (after : List TokenKind) → at < n → stop tokens ≡ None
      → turn so_far tokens ≡ Ok (next, after)
      → total ≡ repeated stop turn (n - (at + 1)) next after
  unfolding repeated
  repeated_on next after lt goes_on is_next =
      let left : n - at ≡ suc (n - (at + 1)) = omega arith in
      let one : repeated stop turn (n - at) so_far tokens
      ≡ repeated stop turn (n - (at + 1)) next after = rw (left, goes_on, is_next) refl in
      kept ∙ one

  pub repeated_ends : (after : List TokenKind) → at < n → stop tokens ≡ Some after
      → total ≡ Ok (so_far, after)
  unfolding repeated
  repeated_ends after lt stops =
      let left : n - at ≡ suc (n - (at + 1)) = omega arith in
      let one : repeated stop turn (n - at) so_far tokens ≡ Ok (so_far, after) =
      rw (left, stops) refl in kept ∙ one

  pub repeated_fails : (e : ReadError) → at < n → stop tokens ≡ None → Fails e (turn so_far tokens)
      → Fails e total
  unfolding repeated
  repeated_fails errors.Memory lt goes_on fails = tt
  repeated_fails (errors.Fault f) lt goes_on fails =
      let left : n - at ≡ suc (n - (at + 1)) = omega arith in
      let one : repeated stop turn (n - at) so_far tokens ≡ Err f =
      rw (left, goes_on, fails) refl in kept ∙ one

  pub repeated_over : n ≤ at → total ≡ unexpected tokens
  unfolding repeated
  repeated_over le =
      let left : n - at ≡ 0 = omega arith in
      let one : repeated stop turn (n - at) so_far tokens ≡ unexpected tokens = rw left refl in
      kept ∙ one

pub no_rate_ends : (tokens : List TokenKind) → rate_kind tokens ≡ None
    → no_rate tokens ≡ Some tokens
unfolding no_rate
no_rate_ends tokens is = rw is refl

pub no_rate_stays : (tokens : List TokenKind) (kind : RateKind) → rate_kind tokens ≡ Some kind
    → no_rate tokens ≡ None
unfolding no_rate
no_rate_stays tokens kind is = rw is refl

pub rate_turn_at : (limit : ℕ) (front : List tree.Rate) (high : ℕ) (tokens : List TokenKind)
    (kind : RateKind) (value : tree.Expr) (height : ℕ) (after : List TokenKind)
    → rate_kind tokens ≡ Some kind
    → rate_of limit kind front tokens ≡ Ok (value, height, after)
    → rate_turn limit (front, high) tokens
    ≡ Ok ((front ++ record { kind = kind; rate = value } ∷ [], max high height), after)
unfolding rate_turn
rate_turn_at limit front high tokens kind value height after starts is_read =
    rw (starts, is_read) refl

pub rate_turn_fails : (limit : ℕ) (e : ReadError) (front : List tree.Rate) (high : ℕ)
    (tokens : List TokenKind) (kind : RateKind) → rate_kind tokens ≡ Some kind
    → Fails e (rate_of limit kind front tokens)
    → Fails e (rate_turn limit (front, high) tokens)
unfolding rate_turn
rate_turn_fails limit errors.Memory front high tokens kind starts fails = tt
rate_turn_fails limit (errors.Fault f) front high tokens kind starts fails = rw (starts, fails) refl

pub no_comma_ends : (tokens : List TokenKind) → is_punctuation punctuation.Comma tokens ≡ false
    → no_comma tokens ≡ Some tokens
unfolding no_comma
no_comma_ends tokens is = rw is refl

pub no_comma_stays : (tokens : List TokenKind) → is_punctuation punctuation.Comma tokens ≡ true
    → no_comma tokens ≡ None
unfolding no_comma
no_comma_stays tokens is = rw is refl

pub end_reached : (tokens : List Token) → eqb (length tokens) 0 ≡ true
    → at_end (kinds tokens) ≡ Some []
unfolding at_end
end_reached [] is = refl
end_reached (t ∷ rest) is = absurd (omega (arith, eqb-true (length (t ∷ rest)) 0 is))

pub end_ahead : (tokens : List Token) → eqb (length tokens) 0 ≡ false → at_end (kinds tokens) ≡ None
unfolding at_end
end_ahead [] is = absurd cc
end_ahead (t ∷ rest) is = refl
