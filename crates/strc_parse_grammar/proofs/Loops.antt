-- A loop that goes on while there is a separator, beside the definition's loop of at most so many
-- turns.
use Rattle.std.proofs.Common.{◌≡◌, ℕ, ◌-◌, ◌<◌, ◌≤◌, true, List, [], ◌∷◌, length, max, zero, suc}
use Rattle.std.proofs.Common.{◌∙◌, Option, Some, None, Result, Ok, Err, refl, ap, inl, inr, arith}
use Rattle.std.proofs.lemmas.Bool.{cases_Bool}
use Rattle.strc_lex.specs.declared.token.TokenKind.{TokenKind}
use Rattle.strc_lex.specs.declared.token.TokenKind.TheVariants as token
use Rattle.strc_lex.specs.declared.token.Keyword.TheVariants as keyword
use Rattle.strc_lex.specs.declared.token.Punctuation.TheVariants as punctuation
use Rattle.strc_parse_grammar.specs.declared.error.Fault.{Fault}
use Rattle.strc_parse_grammar.specs.declared.error.ReadError.{ReadError}
use Rattle.strc_parse_grammar.specs.declared.error.ReadError.TheVariants as errors
use Rattle.strc_parse_tree.specs.declared.tree.BinaryOperator.{BinaryOperator}
use Rattle.strc_parse_grammar.proofs.Rounds.{chain_on}
use Rattle.strc_parse_grammar.specs.Grammar.{lowest_precedence}
use Rattle.strc_parse_grammar.specs.Reading.{◌>>=◌, Fails, Read, Tall, Below, tail, punctuation_at}
use Rattle.strc_parse_grammar.specs.Reading.{is_punctuation, is_keyword, expect_keyword, name}
use Rattle.strc_parse_grammar.specs.Reading.{raised}
use Rattle.strc_parse_grammar.specs.Reading.{repeated, operator, chain, expression, initial}
use Rattle.strc_parse_grammar.specs.Reading.{variable}
use Rattle.strc_parse_grammar.specs.Reading.{parameter}
use Rattle.strc_parse_grammar.proofs.Repeated.{repeated_on, repeated_ends, repeated_fails}
use Rattle.strc_parse_grammar.proofs.Soundness.{Sound-ok, punctuation_is}
use Rattle.strc_parse_grammar.proofs.ExpressionSoundness.{expression_soundness}
use Rattle.strc_parse_grammar.proofs.ExpressionRead.{ExprRead, ExprRead-long}
use Rattle.strc_parse_tree.specs.Tree as tree

-- The loop so far: to go on from here gives the whole, and the turns are enough for the tokens that
-- are left.
pub record Going {S : Type 0} (stop : List TokenKind → Option (List TokenKind))
    (turn : S → List TokenKind → Read S) (whole : Read S) (so_far : S)
    (tokens : List TokenKind) : Type 0 where
  pub turns : ℕ
  pub enough : length tokens < turns
  pub same : whole ≡ repeated stop turn turns so_far tokens

module _ {S : Type 0} (stop : List TokenKind → Option (List TokenKind))
    (turn : S → List TokenKind → Read S) (whole : Read S) (so_far : S) (tokens : List TokenKind)
    (going : Going stop turn whole so_far tokens) where
  from_none : whole ≡ repeated stop turn (going.turns - 0) so_far tokens
  from_none = let none : going.turns - 0 ≡ going.turns = omega arith in rw none going.same

  pub goes_on : (next : S) (after : List TokenKind) → length after < length tokens
      → stop tokens ≡ None → turn so_far tokens ≡ Ok (next, after)
      → Going stop turn whole next after
  goes_on next after less on is_next = record {
    turns = going.turns - 1;
    enough = omega (arith, going.enough);
    same = repeated_on stop turn going.turns 0 so_far tokens whole from_none next after
        (omega (arith, going.enough)) on is_next;
  }

  pub goes_to : (after : List TokenKind) → stop tokens ≡ Some after → whole ≡ Ok (so_far, after)
  goes_to after stops = repeated_ends stop turn going.turns 0 so_far tokens whole from_none after
      (omega (arith, going.enough)) stops

  pub goes_wrong : (e : ReadError) → stop tokens ≡ None → Fails e (turn so_far tokens)
      → Fails e whole
  goes_wrong e on fails = repeated_fails stop turn going.turns 0 so_far tokens whole from_none e
      (omega (arith, going.enough)) on fails

-- what an expression leaves is no longer than what it was read from
pub expression_within : (depth rank : ℕ) (tokens : List TokenKind) (value : tree.Expr) (height : ℕ)
    (after : List TokenKind) → expression depth rank tokens ≡ Ok (value, height, after)
    → length after ≤ length tokens
expression_within depth rank tokens value height after is =
    let read = Sound-ok (ExprRead depth rank tokens) depth tokens (expression depth rank tokens)
    (value, height, after) is (expression_soundness depth rank tokens) in
    omega (arith, ExprRead-long read)

pub past_comma : (tokens : List TokenKind) → is_punctuation punctuation.Comma tokens ≡ true
    → length (tail tokens) < length tokens
past_comma tokens is = omega (
  arith,
  ap (λ (ts : List TokenKind). length ts)
      (punctuation_is punctuation.Comma tokens is),
)

-- what a rule leaves is no longer than what it was read from
abbrev pub Shrinks : {A : Type 0} → List TokenKind → (A → List TokenKind) → Result A Fault → Type 0
Shrinks tokens left (Ok x) = length (left x) ≤ length tokens
Shrinks tokens left (Err e) = Unit {0}

Shrinks-on : {B : Type 0} (tokens rest : List TokenKind) (left : B → List TokenKind)
    (r : Result B Fault) → length rest ≤ length tokens → Shrinks rest left r → Shrinks tokens left r
Shrinks-on tokens rest left (Err e) le shrinks = tt
Shrinks-on tokens rest left (Ok y) le shrinks = omega arith

Shrinks-then : {A B : Type 0} (tokens : List TokenKind) (middle : A → List TokenKind)
    (left : B → List TokenKind) (r : Result A Fault) (f : A → Result B Fault)
    → Shrinks tokens middle r
    → ((x : A) → Shrinks (middle x) left (f x)) → Shrinks tokens left (r >>= f)
Shrinks-then tokens middle left (Err e) f shrinks then = tt
Shrinks-then tokens middle left (Ok x) f shrinks then =
    Shrinks-on tokens (middle x) left (f x) shrinks (then x)

Shrinks-ok : {A : Type 0} (tokens : List TokenKind) (left : A → List TokenKind) (r : Result A Fault)
    (x : A) → r ≡ Ok x → Shrinks tokens left r → length (left x) ≤ length tokens
Shrinks-ok tokens left (Err e) x is shrinks = absurd cc
Shrinks-ok tokens left (Ok y) x is shrinks = let same : y ≡ x = cc in rw same at shrinks

tail_within : (tokens : List TokenKind) → length (tail tokens) ≤ length tokens
tail_within [] = omega arith
tail_within (t ∷ rest) = omega arith

name_shrinks : (tokens : List TokenKind) → Shrinks tokens (λ x. x.1) (name tokens)
unfolding name
name_shrinks [] = tt
name_shrinks (token.Name x ∷ rest) = omega arith
name_shrinks (token.Number n ∷ rest) = tt
name_shrinks (token.StringLiteral t ∷ rest) = tt
name_shrinks (token.Keyword w ∷ rest) = tt
name_shrinks (token.Punctuation m ∷ rest) = tt

read_shrinks : (depth rank : ℕ) (tokens : List TokenKind)
    (r : Result (tree.Expr × ℕ × List TokenKind) Fault) → expression depth rank tokens ≡ r
    → Shrinks tokens (λ x. x.2) r
read_shrinks depth rank tokens (Err e) is = tt
read_shrinks depth rank tokens (Ok x) is = expression_within depth rank tokens x.0 x.1 x.2 is

initial_shrinks : (depth : ℕ) (tokens : List TokenKind)
    → Shrinks tokens (λ x. x.2) (initial depth tokens)
unfolding initial
initial_shrinks depth tokens =
    elim (cases_Bool (is_punctuation punctuation.Assign tokens)) [
      | inl is ↦ rw is (Shrinks-then tokens (λ x. x.2) (λ x. x.2)
          (expression depth lowest_precedence (tail tokens)) _
          (Shrinks-on tokens (tail tokens) (λ x. x.2)
          (expression depth lowest_precedence (tail tokens)) (tail_within tokens)
          (read_shrinks depth lowest_precedence (tail tokens) _ refl)) (λ x. omega arith))
      | inr is ↦ rw is (omega arith)
    ]

variable_shrinks : (depth : ℕ) (tokens : List TokenKind)
    → Shrinks tokens (λ x. x.2) (variable depth tokens)
unfolding variable
variable_shrinks depth tokens =
    Shrinks-then tokens (λ x. x.1) (λ x. x.2) (name tokens) _ (name_shrinks tokens) (λ named.
    Shrinks-then named.1 (λ x. x.2) (λ x. x.2) (initial depth named.1) _
    (initial_shrinks depth named.1) (λ begun. omega arith))

pub variable_within : (depth : ℕ) (tokens : List TokenKind) (value : tree.Variable) (height : ℕ)
    (after : List TokenKind) → variable depth tokens ≡ Ok (value, height, after)
    → length after ≤ length tokens
variable_within depth tokens value height after is =
    Shrinks-ok tokens (λ x. x.2) (variable depth tokens) (value, height, after) is
    (variable_shrinks depth tokens)

keyword_shrinks : (tokens : List TokenKind)
    → Shrinks tokens (λ x. x) (expect_keyword keyword.Int tokens)
unfolding expect_keyword
keyword_shrinks tokens =
    elim (cases_Bool (is_keyword keyword.Int tokens)) [
      | inl is ↦ rw is (tail_within tokens)
      | inr is ↦ rw is tt
    ]

parameter_shrinks : (tokens : List TokenKind) → Shrinks tokens (λ x. x.1) (parameter tokens)
unfolding parameter
parameter_shrinks tokens =
    Shrinks-then tokens (λ x. x) (λ x. x.1) (expect_keyword keyword.Int tokens) _
    (keyword_shrinks tokens) (λ named. name_shrinks named)

pub parameter_within : (tokens : List TokenKind) (value : List ℕ) (after : List TokenKind)
    → parameter tokens ≡ Ok (value, after) → length after ≤ length tokens
parameter_within tokens value after is = Shrinks-ok tokens (λ x. x.1) (parameter tokens)
    (value, after) is (parameter_shrinks tokens)

-- ---- the chain of operators of one rank

-- The chain so far: to go on from here gives the whole, and the turns are enough for the tokens
-- that are left.
pub record Chaining (depth : ℕ) (below : Below) (rank : ℕ) (whole : Tall tree.Expr)
    (left : tree.Expr) (height : ℕ) (tokens : List TokenKind) : Type 0 where
  pub turns : ℕ
  pub enough : length tokens ≤ turns
  pub same : whole ≡ chain depth below rank turns left height tokens

pub past_operator : (rank : ℕ) (tokens : List TokenKind) (o : BinaryOperator)
    → operator rank tokens ≡ Some o → length (tail tokens) < length tokens
unfolding operator punctuation_at
past_operator rank [] o is = absurd cc
past_operator rank (t ∷ rest) o is = omega arith

chain_stops : (depth : ℕ) (below : Below) (rank turns : ℕ) (left : tree.Expr) (height : ℕ)
    (tokens : List TokenKind) → operator rank tokens ≡ None
    → chain depth below rank turns left height tokens ≡ Ok (left, height, tokens)
unfolding chain
chain_stops depth below rank zero left height tokens none = refl
chain_stops depth below rank (suc turns) left height tokens none = rw none refl

module _ (depth : ℕ) (below : Below) (rank : ℕ) (whole : Tall tree.Expr) (left : tree.Expr)
    (height : ℕ) (tokens : List TokenKind)
    (so_far : Chaining depth below rank whole left height tokens) where
  pub chains_to : operator rank tokens ≡ None → whole ≡ Ok (left, height, tokens)
  chains_to none = so_far.same ∙ chain_stops depth below rank so_far.turns left height tokens none

  from_here : whole ≡ chain depth below rank (so_far.turns - 0) left height tokens
  from_here = let none : so_far.turns - 0 ≡ so_far.turns = omega arith in rw none so_far.same

  pub chains_on : (o : BinaryOperator) (right : tree.Expr) (right_height both : ℕ)
      (after : List TokenKind) → operator rank tokens ≡ Some o
      → below (rank - 1) (tail tokens) ≡ Ok (right, right_height, after)
      → raised depth (max height right_height) ≡ Ok both → length after < length tokens
      → Chaining depth below rank whole (tree.Binary o left right) both after
  chains_on o right right_height both after is_operator is_right is_both less = record {
    turns = so_far.turns - 1;
    enough = omega (arith, so_far.enough);
    same = from_here ∙ chain_on depth below rank so_far.turns 0 left height tokens o right
        right_height both after (omega (arith, so_far.enough)) is_operator is_right is_both;
  }

  chain_fails_at : (e : ReadError) (turns : ℕ) (o : BinaryOperator) → 0 < turns
      → operator rank tokens ≡ Some o → Fails e (below (rank - 1) (tail tokens))
      → Fails e (chain depth below rank turns left height tokens)
  unfolding chain
  chain_fails_at e zero o some is fails = absurd (omega arith)
  chain_fails_at errors.Memory (suc turns) o some is fails = tt
  chain_fails_at (errors.Fault f) (suc turns) o some is fails = rw (is, fails) refl

  pub chain_fails : (e : ReadError) (o : BinaryOperator) → operator rank tokens ≡ Some o
      → Fails e (below (rank - 1) (tail tokens)) → Fails e whole
  chain_fails e o is fails =
      let some : 0 < so_far.turns = omega (arith, so_far.enough, past_operator rank tokens o is) in
      rw so_far.same (chain_fails_at e so_far.turns o some is fails)

  chain_rises_at : (e : ReadError) (turns : ℕ) (o : BinaryOperator) (right : tree.Expr)
      (right_height : ℕ) (after : List TokenKind) → 0 < turns → operator rank tokens ≡ Some o
      → below (rank - 1) (tail tokens) ≡ Ok (right, right_height, after)
      → Fails e (raised depth (max height right_height))
      → Fails e (chain depth below rank turns left height tokens)
  unfolding chain
  chain_rises_at e zero o right right_height after some is is_right fails = absurd (omega arith)
  chain_rises_at errors.Memory (suc turns) o right right_height after some is is_right fails = tt
  chain_rises_at (errors.Fault f) (suc turns) o right right_height after some is is_right fails =
      rw (is, is_right, fails) refl

  pub chain_rises : (e : ReadError) (o : BinaryOperator) (right : tree.Expr) (right_height : ℕ)
      (after : List TokenKind) → operator rank tokens ≡ Some o
      → below (rank - 1) (tail tokens) ≡ Ok (right, right_height, after)
      → Fails e (raised depth (max height right_height)) → Fails e whole
  chain_rises e o right right_height after is is_right fails =
      let some : 0 < so_far.turns = omega (arith, so_far.enough, past_operator rank tokens o is) in
      rw so_far.same (chain_rises_at e so_far.turns o right right_height after some is
      is_right fails)
