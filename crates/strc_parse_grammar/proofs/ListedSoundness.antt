-- What is read as a list of arguments is one, where each is an expression.
use Rattle.std.proofs.Common.{◌≡◌, ℕ, suc, ◌+◌, ◌≤◌, List, [], ◌∷◌, ◌++◌, length, None, refl, sym}
use Rattle.std.proofs.Common.{ap, subst, ◌∙◌, arith, inl, inr}
use Rattle.std.proofs.lemmas.Bool.{cases_Bool}
use Rattle.std.specs.List.{AllByRecursion}
use Rattle.strc_lex.specs.declared.token.TokenKind.{TokenKind}
use Rattle.strc_lex.specs.declared.token.TokenKind.TheVariants as token
use Rattle.strc_lex.specs.declared.token.Punctuation.TheVariants as punctuation
use Rattle.strc_parse_tree.specs.Tree as tree
use Rattle.strc_parse_grammar.specs.Grammar.{expr_spelled, next_argument_spelled, listed_spelled}
use Rattle.strc_parse_grammar.specs.Grammar.{lowest_precedence, IsExpr, expr_height, highest}
use Rattle.strc_parse_grammar.specs.Reading.{tail, is_punctuation, repeated, one_taller, no_comma}
use Rattle.strc_parse_grammar.specs.Reading.{next_argument, more_arguments, listed_arguments, Below}
use Rattle.strc_parse_grammar.specs.Reading.{closed_arguments}
use Rattle.strc_parse_grammar.proofs.Stops.{expr_length}
use Rattle.strc_parse_grammar.proofs.Given.{listed_length}
use Rattle.strc_parse_grammar.proofs.Soundness.{Sound, Sound-then, Sound-on, Sound-expect, Stopped}
use Rattle.strc_parse_grammar.proofs.Soundness.{repeated_soundness, each_spelled-push, highest-push}
use Rattle.strc_parse_grammar.proofs.Soundness.{All-push, comma_is, no_comma_is}
use Rattle.strc_parse_grammar.proofs.ExpressionRead.{ExprRead, IsReader}

abbrev count : List TokenKind → ℕ
count ts = length ts

-- a list with an item at least
abbrev pub IsSome : {A : Type 0} → List A → Type 0
IsSome [] = ⊥
IsSome (a ∷ others) = Unit {0}

pub IsSome-push : {A : Type 0} (front : List A) (a : A) → IsSome (front ++ a ∷ [])
IsSome-push [] a = tt
IsSome-push (x ∷ front) a = tt

listed_spelled-push : (front : List tree.Expr) (e : tree.Expr) (rest : List TokenKind)
    → IsSome front → listed_spelled (front ++ e ∷ []) rest
    ≡ listed_spelled front (next_argument_spelled e rest)
listed_spelled-push [] e rest some = absurd some
listed_spelled-push (x ∷ front) e rest some =
    ap (expr_spelled x) (each_spelled-push next_argument_spelled front e rest)

-- the arguments so far, the height of the highest, and what follows them
pub record ListedRead (depth : ℕ) (all : List TokenKind) (so_far : List tree.Expr × ℕ)
    (rest : List TokenKind) : Type 0 where
  spelled : all ≡ listed_spelled so_far.0 rest
  shape : AllByRecursion IsExpr so_far.0
  high : so_far.1 ≡ highest expr_height so_far.0
  low : so_far.1 ≤ depth

module _ (depth : ℕ) (below : Below) (sound : IsReader depth below) (all : List TokenKind) where
  abbrev Kept : List tree.Expr × ℕ → List TokenKind → Type 0
  Kept so_far rest = ListedRead depth all so_far rest × IsSome so_far.0

  next_soundness : (so_far : List tree.Expr × ℕ) (tokens : List TokenKind) → Kept so_far tokens
      → length tokens ≤ length all → no_comma tokens ≡ None
      → Sound (λ x. Kept x.0 x.1 × (length x.1 ≤ length all)) depth all
      (one_taller (next_argument below) so_far tokens)
  unfolding one_taller next_argument
  next_soundness so_far tokens kept le goes =
      let starts = comma_is tokens goes in
      let one : length tokens ≡ suc (length (tail tokens)) = ap count starts in
      Sound-then (ExprRead depth lowest_precedence (tail tokens))
      (λ x. Kept x.0 x.1 × (length x.1 ≤ length all)) depth all
      (below lowest_precedence (tail tokens)) _
      (Sound-on (ExprRead depth lowest_precedence (tail tokens))
      (ExprRead depth lowest_precedence (tail tokens)) depth depth (tail tokens) all
      (below lowest_precedence (tail tokens)) (omega arith) (omega arith)
      (sound lowest_precedence (tail tokens)) (λ x h. h)) (λ x read. (
        (
          record {
            spelled = kept.0.spelled ∙ ap (λ (ts : List TokenKind). listed_spelled so_far.0 ts)
                (starts ∙ ap (λ (ts : List TokenKind). token.Punctuation punctuation.Comma ∷ ts)
                read.spelled)
                ∙ sym (listed_spelled-push so_far.0 x.0 x.2 kept.1);
            shape = All-push IsExpr so_far.0 x.0 kept.0.shape read.shape;
            high = omega (arith, kept.0.high, read.high, highest-push expr_height so_far.0 x.0);
            low = omega (arith, kept.0.low, read.low);
          },
          IsSome-push so_far.0 x.0,
        ),
        omega (arith, ap count read.spelled, expr_length x.0 x.2),
      ))

  more_soundness : (so_far : List tree.Expr × ℕ) (tokens : List TokenKind) → Kept so_far tokens
      → length tokens ≤ length all
      → Sound (λ x. ListedRead depth all x.0 x.1) depth all (more_arguments below so_far tokens)
  unfolding more_arguments
  more_soundness so_far tokens kept le =
      Sound-on (Stopped no_comma (one_taller (next_argument below)) Kept depth all)
      (λ x. ListedRead depth all x.0 x.1) depth depth all all
      (repeated no_comma (one_taller (next_argument below)) (length tokens + 1) so_far tokens)
      (omega arith) (omega arith)
      (repeated_soundness no_comma (one_taller (next_argument below)) Kept depth all next_soundness
      (length tokens + 1) so_far tokens kept le)
      (λ x stopped. subst (λ (ts : List TokenKind). ListedRead depth all x.0 ts)
      (no_comma_is stopped.0 x.1 stopped.2) stopped.1.0)

listed_soundness : (depth : ℕ) (below : Below) → IsReader depth below → (tokens : List TokenKind)
    → Sound (λ x. ListedRead depth tokens x.0 x.1) depth tokens (listed_arguments below tokens)
unfolding listed_arguments
listed_soundness depth below sound tokens =
    let Q : (List tree.Expr × ℕ) × List TokenKind → Type 0 = λ x. ListedRead depth tokens x.0 x.1 in
    elim (cases_Bool (is_punctuation punctuation.CloseParen tokens)) [
      | inl is ↦
          let none : Q (([], 0), tokens) =
          record { spelled = refl; shape = tt; high = refl; low = omega arith } in
          rw is none
      | inr is ↦
          let read = Sound-then (ExprRead depth lowest_precedence tokens) Q depth tokens
          (below lowest_precedence tokens)
          (λ e. more_arguments below (e.0 ∷ [], e.1) e.2)
          (sound lowest_precedence tokens) (λ x e.
          more_soundness depth below sound tokens (x.0 ∷ [], x.1) x.2 (
            record {
              spelled = e.spelled;
              shape = (e.shape, tt);
              high =
                  omega (arith, e.high);
              low = e.low;
            },
            tt,
          )
          (omega (arith, ap count e.spelled, expr_length x.0 x.2))) in
          rw is read
    ]

-- the same with the bracket that closes them
pub record ClosedListRead (depth : ℕ) (tokens : List TokenKind)
    (x : List tree.Expr × ℕ × List TokenKind) : Type 0 where
  pub spelled : tokens ≡ listed_spelled x.0 (token.Punctuation punctuation.CloseParen ∷ x.2)
  pub shape : AllByRecursion IsExpr x.0
  pub high : x.1 ≡ highest expr_height x.0
  pub low : x.1 ≤ depth

pub closed_arguments_soundness : (depth : ℕ) (below : Below) → IsReader depth below
    → (tokens : List TokenKind)
    → Sound (ClosedListRead depth tokens) depth tokens (closed_arguments below tokens)
unfolding closed_arguments
closed_arguments_soundness depth below sound tokens =
    let Q : List tree.Expr × ℕ × List TokenKind → Type 0 = ClosedListRead depth tokens in
    Sound-then (λ x. ListedRead depth tokens x.0 x.1) Q depth tokens
    (listed_arguments below tokens) _ (listed_soundness depth below sound tokens) (λ x listed.
    Sound-expect Q depth tokens punctuation.CloseParen x.1 _
    (omega (arith, ap count listed.spelled, listed_length x.0.0 x.1)) (λ rest e. record {
      spelled = listed.spelled ∙ ap (λ (ts : List TokenKind). listed_spelled x.0.0 ts) e;
      shape = listed.shape;
      high = listed.high;
      low = listed.low;
    }))
