-- What stops an expression, and that a tree has no more height than tokens.
use Rattle.std.proofs.Common.{◌≡◌, ℕ, ◌+◌, ◌<◌, ◌≤◌, true, false, eqb, List, ◌∷◌, length, Some}
use Rattle.std.proofs.Common.{None, refl, ◌∙◌, arith}
use Rattle.std.proofs.lemmas.Bool.{ne_eqb, eq-eqb}
use denote.Enum.Bare.{sameb}
use Rattle.strc_lex.specs.contracts.token.Punctuation.{the_type as punctuation_type}
use Rattle.strc_lex.specs.declared.token.TokenKind.{TokenKind}
use Rattle.strc_lex.specs.declared.token.TokenKind.TheVariants as token
use Rattle.strc_lex.specs.declared.token.Keyword.{Keyword}
use Rattle.strc_lex.specs.declared.token.Punctuation.{Punctuation}
use Rattle.strc_lex.specs.declared.token.Punctuation.TheVariants as punctuation
use Rattle.strc_parse_tree.specs.declared.tree.StepOperator.TheVariants as step
use Rattle.strc_parse_tree.specs.declared.tree.AssignOperator.{AssignOperator}
use Rattle.strc_parse_tree.specs.declared.tree.AssignOperator.TheVariants as assign
use Rattle.strc_parse_tree.specs.declared.tree.BinaryOperator.{BinaryOperator}
use Rattle.strc_parse_tree.specs.declared.tree.BinaryOperator.TheVariants as binary
use Rattle.strc_parse_tree.specs.Tree as tree
use Rattle.strc_parse_grammar.specs.Grammar.{binary_punctuation, assign_punctuation, expr_spelled}
use Rattle.strc_parse_grammar.specs.Grammar.{precedence, lowest_precedence, expr_height}
use Rattle.strc_parse_grammar.specs.Grammar.{given_spelled}
use Rattle.strc_parse_grammar.specs.Grammar.{further_spelled, given_height}
use Rattle.strc_parse_tree.specs.Tree.{read_of, step_of_place}
use Rattle.strc_parse_grammar.specs.Reading.{punctuation_at, is_punctuation, binary_of, of_rank}
use Rattle.strc_parse_grammar.specs.Reading.{operator}
use Rattle.strc_parse_grammar.specs.Reading.{step_of, step_after, name, operand}
use Rattle.strc_parse_grammar.specs.Reading.{lowest_binary_precedence}

-- what follows an expression of this rank and stops it
pub record Stops (r : ℕ) (rest : List TokenKind) : Type 0 where
  pub no_step : step_after rest ≡ None
  pub no_index : is_punctuation punctuation.OpenBracket rest ≡ false
  pub no_call : is_punctuation punctuation.OpenParen rest ≡ false
  pub no_operator : (k : ℕ) → k ≤ r → operator k rest ≡ None
  pub no_choice : lowest_precedence ≤ r → is_punctuation punctuation.Question rest ≡ false

pub Stops-le : {r : ℕ} {rest : List TokenKind} (k : ℕ) → k ≤ r → Stops r rest → Stops k rest
Stops-le k le stops = record {
  no_step = stops.no_step;
  no_index = stops.no_index;
  no_call = stops.no_call;
  no_operator = λ j h. stops.no_operator j (omega arith);
  no_choice = λ h. stops.no_choice (omega arith);
}

-- a punctuation mark that is none of an expression's after an operand
Stops-punctuation : (m : Punctuation) → binary_of m ≡ None → step_of (Some m) ≡ None → sameb
    punctuation_type m punctuation.OpenBracket ≡ false → sameb punctuation_type m
    punctuation.OpenParen ≡ false → sameb punctuation_type m punctuation.Question ≡ false
    → (r : ℕ) (rest : List TokenKind) → Stops r (token.Punctuation m ∷ rest)
unfolding step_after operator punctuation_at is_punctuation
Stops-punctuation m no_binary no_step no_index no_call no_choice r rest =
    record {
      no_step = no_step;
      no_index = no_index;
      no_call = no_call;
      no_operator = λ k h. rw no_binary refl;
      no_choice = λ h. no_choice;
    }

pub Stops-semicolon : (r : ℕ) (rest : List TokenKind) → Stops r
    (token.Punctuation punctuation.Semicolon ∷ rest)
Stops-semicolon = Stops-punctuation punctuation.Semicolon refl refl refl refl refl

pub Stops-comma : (r : ℕ) (rest : List TokenKind) → Stops r
    (token.Punctuation punctuation.Comma ∷ rest)
Stops-comma = Stops-punctuation punctuation.Comma refl refl refl refl refl

pub Stops-bracket : (r : ℕ) (rest : List TokenKind) → Stops r
    (token.Punctuation punctuation.CloseParen ∷ rest)
Stops-bracket = Stops-punctuation punctuation.CloseParen refl refl refl refl refl

pub Stops-square : (r : ℕ) (rest : List TokenKind) → Stops r
    (token.Punctuation punctuation.CloseBracket ∷ rest)
Stops-square = Stops-punctuation punctuation.CloseBracket refl refl refl refl refl

pub Stops-colon : (r : ℕ) (rest : List TokenKind) → Stops r
    (token.Punctuation punctuation.Colon ∷ rest)
Stops-colon = Stops-punctuation punctuation.Colon refl refl refl refl refl

pub Stops-brace : (r : ℕ) (rest : List TokenKind) → Stops r
    (token.Punctuation punctuation.OpenBrace ∷ rest)
Stops-brace = Stops-punctuation punctuation.OpenBrace refl refl refl refl refl

pub Stops-assign : (o : AssignOperator) (r : ℕ) (rest : List TokenKind) → Stops r
    (token.Punctuation (assign_punctuation o) ∷ rest)
Stops-assign assign.Set = Stops-punctuation punctuation.Assign refl refl refl refl refl
Stops-assign assign.Add = Stops-punctuation punctuation.PlusAssign refl refl refl refl refl
Stops-assign assign.Subtract = Stops-punctuation punctuation.MinusAssign refl refl refl refl refl
Stops-assign assign.Multiply = Stops-punctuation punctuation.StarAssign refl refl refl refl refl
Stops-assign assign.Divide = Stops-punctuation punctuation.SlashAssign refl refl refl refl refl
Stops-assign assign.Remainder = Stops-punctuation punctuation.PercentAssign refl refl refl refl refl

pub Stops-keyword : (w : Keyword) (r : ℕ) (rest : List TokenKind) → Stops r (token.Keyword w ∷ rest)
unfolding step_after operator punctuation_at is_punctuation
Stops-keyword w r rest = record {
  no_step = refl;
  no_index = refl;
  no_call = refl;
  no_operator = λ k h. refl;
  no_choice = λ h. refl;
}

-- a question mark stops what has no tighter rank
pub Stops-question : (rest : List TokenKind) → Stops lowest_binary_precedence
    (token.Punctuation punctuation.Question ∷ rest)
unfolding step_after operator punctuation_at is_punctuation
Stops-question rest = record {
  no_step = refl;
  no_index = refl;
  no_call = refl;
  no_operator = λ k h. refl;
  no_choice = λ h. absurd
      (omega arith);
}

pub precedence_some : (o : BinaryOperator) → (1 ≤ precedence o) × (precedence o ≤ 10)
precedence_some binary.LogicalOr = (omega arith, omega arith)
precedence_some binary.LogicalAnd = (omega arith, omega arith)
precedence_some binary.Or = (omega arith, omega arith)
precedence_some binary.ExclusiveOr = (omega arith, omega arith)
precedence_some binary.And = (omega arith, omega arith)
precedence_some binary.Equal = (omega arith, omega arith)
precedence_some binary.NotEqual = (omega arith, omega arith)
precedence_some binary.Less = (omega arith, omega arith)
precedence_some binary.LessOrEqual = (omega arith, omega arith)
precedence_some binary.Greater = (omega arith, omega arith)
precedence_some binary.GreaterOrEqual = (omega arith, omega arith)
precedence_some binary.ShiftLeft = (omega arith, omega arith)
precedence_some binary.ShiftRight = (omega arith, omega arith)
precedence_some binary.Add = (omega arith, omega arith)
precedence_some binary.Subtract = (omega arith, omega arith)
precedence_some binary.Multiply = (omega arith, omega arith)
precedence_some binary.Divide = (omega arith, omega arith)
precedence_some binary.Remainder = (omega arith, omega arith)

pub operator_punctuation : (k : ℕ) (o : BinaryOperator) (rest : List TokenKind) → operator k
    (token.Punctuation (binary_punctuation o) ∷ rest) ≡ of_rank k (Some o)
unfolding operator punctuation_at
operator_punctuation k binary.LogicalOr rest = refl
operator_punctuation k binary.LogicalAnd rest = refl
operator_punctuation k binary.Or rest = refl
operator_punctuation k binary.ExclusiveOr rest = refl
operator_punctuation k binary.And rest = refl
operator_punctuation k binary.Equal rest = refl
operator_punctuation k binary.NotEqual rest = refl
operator_punctuation k binary.Less rest = refl
operator_punctuation k binary.LessOrEqual rest = refl
operator_punctuation k binary.Greater rest = refl
operator_punctuation k binary.GreaterOrEqual rest = refl
operator_punctuation k binary.ShiftLeft rest = refl
operator_punctuation k binary.ShiftRight rest = refl
operator_punctuation k binary.Add rest = refl
operator_punctuation k binary.Subtract rest = refl
operator_punctuation k binary.Multiply rest = refl
operator_punctuation k binary.Divide rest = refl
operator_punctuation k binary.Remainder rest = refl

no_step_punctuation : (o : BinaryOperator) (rest : List TokenKind) → step_after
    (token.Punctuation (binary_punctuation o) ∷ rest) ≡ None
unfolding step_after punctuation_at
no_step_punctuation binary.LogicalOr rest = refl
no_step_punctuation binary.LogicalAnd rest = refl
no_step_punctuation binary.Or rest = refl
no_step_punctuation binary.ExclusiveOr rest = refl
no_step_punctuation binary.And rest = refl
no_step_punctuation binary.Equal rest = refl
no_step_punctuation binary.NotEqual rest = refl
no_step_punctuation binary.Less rest = refl
no_step_punctuation binary.LessOrEqual rest = refl
no_step_punctuation binary.Greater rest = refl
no_step_punctuation binary.GreaterOrEqual rest = refl
no_step_punctuation binary.ShiftLeft rest = refl
no_step_punctuation binary.ShiftRight rest = refl
no_step_punctuation binary.Add rest = refl
no_step_punctuation binary.Subtract rest = refl
no_step_punctuation binary.Multiply rest = refl
no_step_punctuation binary.Divide rest = refl
no_step_punctuation binary.Remainder rest = refl

no_index_punctuation : (o : BinaryOperator) (rest : List TokenKind) → is_punctuation
    punctuation.OpenBracket (token.Punctuation (binary_punctuation o) ∷ rest) ≡ false
unfolding is_punctuation
no_index_punctuation binary.LogicalOr rest = refl
no_index_punctuation binary.LogicalAnd rest = refl
no_index_punctuation binary.Or rest = refl
no_index_punctuation binary.ExclusiveOr rest = refl
no_index_punctuation binary.And rest = refl
no_index_punctuation binary.Equal rest = refl
no_index_punctuation binary.NotEqual rest = refl
no_index_punctuation binary.Less rest = refl
no_index_punctuation binary.LessOrEqual rest = refl
no_index_punctuation binary.Greater rest = refl
no_index_punctuation binary.GreaterOrEqual rest = refl
no_index_punctuation binary.ShiftLeft rest = refl
no_index_punctuation binary.ShiftRight rest = refl
no_index_punctuation binary.Add rest = refl
no_index_punctuation binary.Subtract rest = refl
no_index_punctuation binary.Multiply rest = refl
no_index_punctuation binary.Divide rest = refl
no_index_punctuation binary.Remainder rest = refl

no_call_punctuation : (o : BinaryOperator) (rest : List TokenKind) → is_punctuation
    punctuation.OpenParen (token.Punctuation (binary_punctuation o) ∷ rest) ≡ false
unfolding is_punctuation
no_call_punctuation binary.LogicalOr rest = refl
no_call_punctuation binary.LogicalAnd rest = refl
no_call_punctuation binary.Or rest = refl
no_call_punctuation binary.ExclusiveOr rest = refl
no_call_punctuation binary.And rest = refl
no_call_punctuation binary.Equal rest = refl
no_call_punctuation binary.NotEqual rest = refl
no_call_punctuation binary.Less rest = refl
no_call_punctuation binary.LessOrEqual rest = refl
no_call_punctuation binary.Greater rest = refl
no_call_punctuation binary.GreaterOrEqual rest = refl
no_call_punctuation binary.ShiftLeft rest = refl
no_call_punctuation binary.ShiftRight rest = refl
no_call_punctuation binary.Add rest = refl
no_call_punctuation binary.Subtract rest = refl
no_call_punctuation binary.Multiply rest = refl
no_call_punctuation binary.Divide rest = refl
no_call_punctuation binary.Remainder rest = refl

of_rank_other : (k : ℕ) (o : BinaryOperator) → k < precedence o → of_rank k (Some o) ≡ None
of_rank_other k o lt = let ne : eqb (precedence o) k ≡ false = ne_eqb (precedence o) k
    (λ e. absurd (omega arith)) in rw ne refl

pub of_rank_same : (o : BinaryOperator) → of_rank (precedence o) (Some o) ≡ Some o
of_rank_same o = let same : eqb (precedence o) (precedence o) ≡ true = eq-eqb (precedence o)
    (precedence o) refl in rw same refl

pub Stops-operator : (r : ℕ) (o : BinaryOperator) (rest : List TokenKind) → r < precedence o
    → Stops r (token.Punctuation (binary_punctuation o) ∷ rest)
Stops-operator r o rest lt = record {
  no_step = no_step_punctuation o rest;
  no_index = no_index_punctuation o rest;
  no_call = no_call_punctuation o rest;
  no_operator = λ k h. operator_punctuation k o rest ∙ of_rank_other k o (omega arith);
  no_choice = λ h. absurd (omega (arith, (precedence_some o).1));
}

pub height_some : (e : tree.Expr) → 1 ≤ expr_height e
height_some (tree.Number value) = omega arith
height_some (tree.Truth value) = omega arith
height_some (tree.Read name) = omega arith
height_some (tree.Element name at) = omega arith
height_some tree.Pop = omega arith
height_some (tree.Peek at) = omega arith
height_some (tree.Call name given) = omega arith
height_some (tree.Group inner) = omega arith
height_some (tree.Unary o operand) = omega arith
height_some (tree.Step o name) = omega arith
height_some (tree.StepElement o name at) = omega arith
height_some (tree.Binary o left right) = omega arith
height_some (tree.Conditional condition chosen other) = omega arith

mutual
  -- a tree has no more height than tokens
  pub expr_length : (e : tree.Expr) (rest : List TokenKind) → expr_height e + length rest ≤ length
      (expr_spelled e rest)
  expr_length (tree.Number value) rest = omega arith
  expr_length (tree.Truth value) rest = omega arith
  expr_length (tree.Read name) rest = omega arith
  expr_length (tree.Element name at) rest = omega
      (arith, expr_length at (token.Punctuation punctuation.CloseBracket ∷ rest))
  expr_length tree.Pop rest = omega arith
  expr_length (tree.Peek at) rest = omega
      (arith, expr_length at (token.Punctuation punctuation.CloseParen ∷ rest))
  expr_length (tree.Call name given) rest = omega
      (arith, given_length given (token.Punctuation punctuation.CloseParen ∷ rest))
  expr_length (tree.Group inner) rest = omega
      (arith, expr_length inner (token.Punctuation punctuation.CloseParen ∷ rest))
  expr_length (tree.Unary o operand) rest = omega (arith, expr_length operand rest)
  expr_length (tree.Step step.IncrementFirst name) rest = omega arith
  expr_length (tree.Step step.DecrementFirst name) rest = omega arith
  expr_length (tree.Step step.IncrementAfter name) rest = omega arith
  expr_length (tree.Step step.DecrementAfter name) rest = omega arith
  expr_length (tree.StepElement step.IncrementFirst name at) rest = omega
      (arith, expr_length at (token.Punctuation punctuation.CloseBracket ∷ rest))
  expr_length (tree.StepElement step.DecrementFirst name at) rest = omega
      (arith, expr_length at (token.Punctuation punctuation.CloseBracket ∷ rest))
  expr_length (tree.StepElement step.IncrementAfter name at) rest = omega (
    arith,
    expr_length at
        (token.Punctuation punctuation.CloseBracket ∷ token.Punctuation punctuation.PlusPlus ∷
        rest),
  )
  expr_length (tree.StepElement step.DecrementAfter name at) rest = omega (
    arith,
    expr_length at
        (token.Punctuation punctuation.CloseBracket ∷ token.Punctuation punctuation.MinusMinus ∷
        rest),
  )
  expr_length (tree.Binary o left right) rest = omega (
    arith,
    expr_length left (token.Punctuation (binary_punctuation o) ∷ expr_spelled right rest),
    expr_length right rest,
  )
  expr_length (tree.Conditional condition chosen other) rest =
      let past : List TokenKind = token.Punctuation punctuation.Colon ∷ expr_spelled other rest in
      omega (
        arith,
        expr_length condition
            (token.Punctuation punctuation.Question ∷ expr_spelled chosen past),
        expr_length chosen
            past,
        expr_length other rest,
      )

  given_length : (given : tree.Arguments) (rest : List TokenKind)
      → given_height given + length rest ≤ length (given_spelled given rest)
  given_length tree.NoArgument rest = omega arith
  given_length (tree.Argument first others) rest = omega
      (arith, expr_length first (further_spelled others rest), further_length others rest)

  further_length : (given : tree.Arguments) (rest : List TokenKind)
      → given_height given + length rest ≤ length (further_spelled given rest)
  further_length tree.NoArgument rest = omega arith
  further_length (tree.Argument first others) rest = omega
      (arith, expr_length first (further_spelled others rest), further_length others rest)
