-- A list of arguments is read again, where each of them is.
use Rattle.std.proofs.Common.{◌≡◌, ℕ, ◌+◌, ◌<◌, ◌≤◌, max, false, List, [], ◌∷◌, length, Some, refl}
use Rattle.std.proofs.Common.{arith}
use Rattle.std.specs.List.{AllByRecursion}
use Rattle.strc_lex.specs.declared.token.TokenKind.{TokenKind}
use Rattle.strc_lex.specs.declared.token.TokenKind.TheVariants as token
use Rattle.strc_lex.specs.declared.token.Punctuation.TheVariants as punctuation
use Rattle.strc_parse_tree.specs.Tree as tree
use Rattle.strc_parse_grammar.specs.Grammar.{expr_spelled, each_spelled, next_argument_spelled}
use Rattle.strc_parse_grammar.specs.Grammar.{listed_spelled, lowest_precedence, rank, expr_height}
use Rattle.strc_parse_grammar.specs.Grammar.{highest}
use Rattle.strc_parse_grammar.specs.Reading.{is_punctuation, no_comma, next_argument, expression}
use Rattle.strc_parse_grammar.specs.Reading.{more_arguments, listed_arguments, closed_arguments}
use Rattle.strc_parse_grammar.proofs.Completeness.{Complete, Complete-then, Complete-max}
use Rattle.strc_parse_grammar.proofs.Completeness.{Complete-done}
use Rattle.strc_parse_grammar.proofs.Completeness.{expect_punctuation}
use Rattle.strc_parse_grammar.proofs.Stops.{Stops, Stops-comma, Stops-bracket, expr_length}
use Rattle.strc_parse_grammar.proofs.Opens.{opens}
use Rattle.strc_parse_grammar.proofs.Lists.{TallCompleteness, each_taller_completeness}

abbrev Triple : Type 0
Triple = tree.Expr × ℕ × List TokenKind

abbrev pub found : tree.Expr → List TokenKind → Triple
found e rest = (e, expr_height e, rest)

-- read at a depth, by the climb to a rank and as a whole
pub record IsReadCompleteness (e : tree.Expr) : Type 0 where
  pub climbs : (depth r : ℕ) (rest : List TokenKind) → rank e ≤ r → r < lowest_precedence → Stops r
      rest → Complete depth (expr_height e) (found e rest)
      (expression depth r (expr_spelled e rest))
  pub whole : (depth : ℕ) (rest : List TokenKind) → Stops lowest_precedence rest → Complete depth
      (expr_height e) (found e rest) (expression depth lowest_precedence (expr_spelled e rest))

pub no_comma_bracket : (rest : List TokenKind)
    → no_comma (token.Punctuation punctuation.CloseParen ∷ rest)
    ≡ Some (token.Punctuation punctuation.CloseParen ∷ rest)
unfolding no_comma is_punctuation
no_comma_bracket rest = refl

module _ (d : ℕ) where
  abbrev IsNextCompleteness : tree.Expr → Type 0
  IsNextCompleteness e = TallCompleteness next_argument_spelled expr_height
      (next_argument (expression d)) no_comma (Stops lowest_precedence) d e

  next_completeness : (e : tree.Expr) → IsReadCompleteness e → IsNextCompleteness e
  unfolding next_argument no_comma is_punctuation
  next_completeness e complete = record {
    reads = λ rest stops. complete.whole d rest stops;
    stays = λ rest. refl;
    follows = λ rest. Stops-comma lowest_precedence (expr_spelled e rest);
    long = λ rest. omega (arith, expr_length e rest);
  }

  nexts_completeness : (others : List tree.Expr) → AllByRecursion IsReadCompleteness others
      → AllByRecursion IsNextCompleteness others
  nexts_completeness [] complete = tt
  nexts_completeness (e ∷ others) complete =
      (next_completeness e complete.0, nexts_completeness others complete.1)

  follow : (others : List tree.Expr) (rest : List TokenKind) → Stops lowest_precedence rest
      → Stops lowest_precedence (each_spelled next_argument_spelled others rest)
  follow [] rest stops = stops
  follow (e ∷ others) rest stops = Stops-comma lowest_precedence
      (expr_spelled e (each_spelled next_argument_spelled others rest))

  listed_completeness : (es : List tree.Expr) → AllByRecursion IsReadCompleteness es
      → (rest : List TokenKind) → Complete d (highest expr_height es)
      ((es, highest expr_height es), token.Punctuation punctuation.CloseParen ∷ rest)
      (listed_arguments (expression d)
      (listed_spelled es (token.Punctuation punctuation.CloseParen ∷ rest)))
  unfolding listed_arguments more_arguments is_punctuation
  listed_completeness [] complete rest = Complete-done d 0
      (([], 0), token.Punctuation punctuation.CloseParen ∷ rest) _ (omega arith) refl
  listed_completeness (e ∷ others) complete rest =
      let end : List TokenKind = token.Punctuation punctuation.CloseParen ∷ rest in
      let past = each_spelled next_argument_spelled others end in
      let high : ℕ = max (expr_height e) (highest expr_height others) in
      let ends : Stops lowest_precedence end = Stops-bracket lowest_precedence rest in
      let stays : is_punctuation punctuation.CloseParen (expr_spelled e past) ≡ false =
      (opens e past).no_bracket in
      rw stays (Complete-then d (expr_height e) high (found e past) ((e ∷ others, high), end) _ _
      (complete.0.whole d past (follow others end ends)) (omega arith)
      (λ low. Complete-max d (expr_height e) (highest expr_height others)
      ((e ∷ others, high), end) _ low
      (each_taller_completeness next_argument_spelled expr_height
      (next_argument (expression d)) no_comma (Stops lowest_precedence) d others
      (nexts_completeness others complete.1) (e ∷ []) (expr_height e)
      (length past + 1) end end (no_comma_bracket rest) ends (omega arith))))

  pub closed_arguments_completeness : (es : List tree.Expr) → AllByRecursion IsReadCompleteness es
      → (rest : List TokenKind)
      → Complete d (highest expr_height es) (es, highest expr_height es, rest)
      (closed_arguments (expression d)
      (listed_spelled es (token.Punctuation punctuation.CloseParen ∷ rest)))
  unfolding closed_arguments
  closed_arguments_completeness es complete rest =
      let high : ℕ = highest expr_height es in
      Complete-then d high high ((es, high), token.Punctuation punctuation.CloseParen ∷ rest)
      (es, high, rest) _ _ (listed_completeness es complete rest) (omega arith)
      (λ low. rw (expect_punctuation punctuation.CloseParen rest)
      (Complete-done d high (es, high, rest) _ low refl))
