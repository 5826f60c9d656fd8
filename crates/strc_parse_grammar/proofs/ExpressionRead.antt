-- What it means that an expression was read from these tokens.
use Rattle.std.proofs.Common.{◌≡◌, ℕ, ◌+◌, ◌≤◌, List, ◌∷◌, length, ap, ◌∙◌, arith}
use Rattle.strc_lex.specs.declared.token.TokenKind.{TokenKind}
use Rattle.strc_lex.specs.declared.token.TokenKind.TheVariants as token
use Rattle.strc_lex.specs.declared.token.Punctuation.{Punctuation}
use Rattle.strc_parse_tree.specs.Tree as tree
use Rattle.strc_parse_grammar.specs.Grammar.{expr_spelled, lowest_precedence, rank, IsExpr}
use Rattle.strc_parse_grammar.specs.Grammar.{expr_height}
use Rattle.strc_parse_tree.specs.Tree.{read_of, step_of_place}
use Rattle.strc_parse_grammar.specs.Reading.{Below, closed}
use Rattle.strc_parse_grammar.proofs.Stops.{expr_length, height_some}
use Rattle.strc_parse_grammar.proofs.Soundness.{Sound, Sound-then, Sound-expect}

abbrev count : List TokenKind → ℕ
count ts = length ts

-- an expression, its height and what follows it, read from these tokens
pub record ExprRead (depth r : ℕ) (tokens : List TokenKind)
    (x : tree.Expr × ℕ × List TokenKind) : Type 0 where
  pub spelled : tokens ≡ expr_spelled x.0 x.2
  pub shape : IsExpr x.0
  pub ranked : rank x.0 ≤ r
  pub high : x.1 ≡ expr_height x.0
  pub low : x.1 ≤ depth

pub ExprRead-long : {depth r : ℕ} {tokens : List TokenKind} {x : tree.Expr × ℕ × List TokenKind}
    → ExprRead depth r tokens x → x.1 + length x.2 ≤ length tokens
ExprRead-long {depth} {r} {tokens} {x} read =
    omega (
      arith,
      expr_length x.0 x.2,
      read.high,
      ap (λ (ts : List TokenKind). length ts) read.spelled,
    )

pub ExprRead-some : {depth r : ℕ} {tokens : List TokenKind} {x : tree.Expr × ℕ × List TokenKind}
    → ExprRead depth r tokens x → 1 ≤ x.1
ExprRead-some {depth} {r} {tokens} {x} read = omega (arith, height_some x.0, read.high)

-- an expression and the punctuation that closes it
pub record ClosedRead (depth : ℕ) (m : Punctuation) (tokens : List TokenKind)
    (x : tree.Expr × ℕ × List TokenKind) : Type 0 where
  pub spelled : tokens ≡ expr_spelled x.0 (token.Punctuation m ∷ x.2)
  pub shape : IsExpr x.0
  pub high : x.1 ≡ expr_height x.0
  pub low : x.1 ≤ depth

pub ClosedRead-long : {depth : ℕ} {m : Punctuation} {tokens : List TokenKind}
    {x : tree.Expr × ℕ × List TokenKind} → ClosedRead depth m tokens x
    → x.1 + length x.2 + 1 ≤ length tokens
ClosedRead-long {depth} {m} {tokens} {x} read =
    omega (arith, expr_length x.0 (token.Punctuation m ∷ x.2), read.high, ap count read.spelled)

abbrev pub IsReader : ℕ → Below → Type 0
IsReader d below = (r : ℕ) (tokens : List TokenKind)
    → Sound (ExprRead d r tokens) d tokens (below r tokens)

pub closed_soundness : (d : ℕ) (below : Below) → IsReader d below
    → (m : Punctuation) (tokens : List TokenKind)
    → Sound (ClosedRead d m tokens) d tokens (closed below m tokens)
unfolding closed
closed_soundness d below sound m tokens =
    Sound-then (ExprRead d lowest_precedence tokens) (ClosedRead d m tokens) d tokens
    (below lowest_precedence tokens) _ (sound lowest_precedence tokens) (λ x read.
    Sound-expect (ClosedRead d m tokens) d tokens m x.2 _ (omega (arith, ExprRead-long read))
    (λ rest e.
    record {
      spelled = read.spelled ∙ ap (λ (ts : List TokenKind). expr_spelled x.0 ts) e;
      shape =
          read.shape;
      high = read.high;
      low = read.low;
    }))
