-- The views of rates, and that a rate is read from more tokens than it leaves.
use Rattle.std.proofs.Common.{◌≡◌, ℕ, ◌<◌, ◌≤◌, Bool, List, [], ◌∷◌, length, Some, Ok, map, refl}
use Rattle.std.proofs.Common.{sym, ap, inl, inr, arith}
use Rattle.std.proofs.lemmas.Bool.{cases_Bool}
use Rattle.strc_lex.specs.declared.token.TokenKind.{TokenKind}
use Rattle.strc_parse_grammar.specs.Grammar.{lowest_precedence}
use Rattle.strc_parse_grammar.specs.Reading.{tail}
use Rattle.strc_parse_grammar.proofs.Loops.{expression_within}
use Rattle.std.specs.Prelude.{◌||◌}
use Rattle.std.specs.List.{list_any}
use denote.Enum.Bare.{sameb}
use Rattle.strc_parse_tree.specs.contracts.tree.RateKind.{the_type as rate_type}
use Rattle.strc_parse_tree.specs.declared.tree.RateKind.{RateKind}
use Rattle.strc_parse_tree.specs.declared.tree.RateTree.{RateTree}
use Rattle.strc_parse_tree.specs.Tree as tree
use Rattle.strc_parse.specs.Seen.{seen_rate}
use Rattle.strc_parse_tree.specs.View.{rate_view}
use Rattle.strc_parse_grammar.specs.Streams.{has_rate, rate_kind, rate_of}

any_view : (kind : RateKind) (rates : List RateTree)
    → list_any (λ (r : RateTree). sameb rate_type r.kind kind) rates
    ≡ list_any (λ (r : tree.Rate). sameb rate_type r.kind kind) (map rate_view rates)
any_view kind [] = refl
any_view kind (r ∷ others) = ap (λ (b : Bool). sameb rate_type r.kind kind || b)
    (any_view kind others)

pub has_rate_view : (kind : RateKind) (rates : List RateTree)
    → has_rate kind (map rate_view rates) ≡ seen_rate kind rates
unfolding has_rate
has_rate_view kind rates = sym (any_view kind rates)

rate_within : (limit : ℕ) (kind : RateKind) (so_far : List tree.Rate) (tokens : List TokenKind)
    (value : tree.Expr) (height : ℕ) (after : List TokenKind)
    → rate_of limit kind so_far tokens ≡ Ok (value, height, after)
    → length after ≤ length (tail tokens)
unfolding rate_of
rate_within limit kind so_far tokens value height after is =
    elim (cases_Bool (has_rate kind so_far)) [
      | inl has ↦ let refused = rw has at is in absurd cc
      | inr fresh ↦ expression_within limit lowest_precedence (tail tokens) value height after
          (rw fresh at is)
    ]

past_rate : (tokens : List TokenKind) (kind : RateKind) → rate_kind tokens ≡ Some kind
    → length (tail tokens) < length tokens
unfolding rate_kind
past_rate [] kind is = absurd cc
past_rate (t ∷ rest) kind is = omega arith

pub rate_shorter : (limit : ℕ) (kind : RateKind) (so_far : List tree.Rate) (tokens : List TokenKind)
    (value : tree.Expr) (height : ℕ) (after : List TokenKind)
    → rate_kind tokens ≡ Some kind → rate_of limit kind so_far tokens ≡ Ok (value, height, after)
    → length after < length tokens
rate_shorter limit kind so_far tokens value height after kind_is read =
    omega (
      arith,
      past_rate tokens kind kind_is,
      rate_within limit kind so_far tokens value height after read,
    )
