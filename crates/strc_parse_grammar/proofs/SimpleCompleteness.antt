-- Assignments and expressions as statements, and the parts of a `for`, are read again.
use Rattle.std.proofs.Common.{◌≡◌, ℕ, suc, ◌+◌, ◌-◌, ◌≤◌, max, false, List, ◌∷◌, length, Option}
use Rattle.std.proofs.Common.{Some, None, Ok, refl, arith}
use denote.Enum.Bare.{true_same}
use Rattle.strc_lex.specs.contracts.token.Punctuation.{the_type as punctuation_type}
use Rattle.strc_lex.specs.declared.token.TokenKind.{TokenKind}
use Rattle.strc_lex.specs.declared.token.TokenKind.TheVariants as token
use Rattle.strc_lex.specs.declared.token.Keyword.TheVariants as keyword
use Rattle.strc_lex.specs.declared.token.Punctuation.{Punctuation}
use Rattle.strc_lex.specs.declared.token.Punctuation.TheVariants as punctuation
use Rattle.strc_parse_tree.specs.declared.tree.AssignOperator.{AssignOperator}
use Rattle.strc_parse_tree.specs.declared.tree.AssignOperator.TheVariants as assign
use Rattle.strc_parse_tree.specs.Tree as tree
use Rattle.strc_parse_grammar.specs.Grammar.{assign_punctuation, expr_spelled, declared_spelled}
use Rattle.strc_parse_grammar.specs.Grammar.{part_spelled, optional_spelled, bracketed_spelled}
use Rattle.strc_parse_grammar.specs.Grammar.{heading_spelled, lowest_precedence, IsExpr, IsOptional}
use Rattle.strc_parse_grammar.specs.Grammar.{IsStep, IsFirst, expr_height, optional_height}
use Rattle.strc_parse_grammar.specs.Grammar.{declared_height, stmt_height}
use Rattle.strc_parse_grammar.specs.Reading.{◌>>=◌, punctuation_at, is_punctuation, is_keyword}
use Rattle.strc_parse_grammar.specs.Reading.{brace}
use Rattle.strc_parse_grammar.specs.Reading.{declare, evaluate, assign_to, assign_element}
use Rattle.strc_parse_grammar.specs.Reading.{assign_at}
use Rattle.strc_parse_grammar.specs.Reading.{assignment, after_value, simple, optional, part, ended}
use Rattle.strc_parse_grammar.specs.Reading.{bracketed, argument, optional_value, last_part}
use Rattle.strc_parse_grammar.specs.Reading.{after_first}
use Rattle.strc_parse_grammar.specs.Reading.{for_heading, return_value}
use Rattle.strc_parse_grammar.specs.Streams.{Inner, keyword_statement, shallow}
use Rattle.strc_parse_grammar.proofs.Completeness.{Complete, Complete-then, Complete-inside}
use Rattle.strc_parse_grammar.proofs.Completeness.{Complete-leaf, Complete-raised}
use Rattle.strc_parse_grammar.proofs.Completeness.{expect_punctuation}
use Rattle.strc_parse_grammar.proofs.Completeness.{Complete-done}
use Rattle.strc_parse_grammar.proofs.Stops.{Stops-semicolon, Stops-bracket, Stops-assign}
use Rattle.strc_parse_grammar.proofs.Stops.{expr_length}
use Rattle.strc_parse_grammar.proofs.Stops.{height_some}
use Rattle.strc_parse_grammar.proofs.ExpressionCompleteness.{expression_completeness}
use Rattle.strc_parse_grammar.proofs.ExpressionCompleteness.{closed_completeness}
use Rattle.strc_parse_grammar.proofs.ListedCompleteness.{found}
use Rattle.strc_parse_grammar.proofs.Opens.{Opens, opens_name, opens}
use Rattle.strc_parse_grammar.proofs.VariableCompleteness.{Ends, Ends-semicolon, Ends-bracket}
use Rattle.strc_parse_grammar.proofs.VariableCompleteness.{declared_length, fields_completeness}

-- ---- how a statement begins that has an expression

opens_step : (s : tree.Stmt) → IsStep s → (s ≡ tree.Empty → ⊥) → (rest : List TokenKind) → Opens
    (part_spelled s rest)
opens_step tree.Empty shape some rest = absurd (some refl)
opens_step (tree.Evaluate value) shape some rest = opens value rest
opens_step (tree.Assign x o value) shape some rest = opens_name x
    (token.Punctuation (assign_punctuation o) ∷ expr_spelled value rest)
opens_step (tree.AssignElement x at o value) shape some rest =
    opens_name x (token.Punctuation punctuation.OpenBracket ∷ expr_spelled at
    (token.Punctuation punctuation.CloseBracket ∷ token.Punctuation (assign_punctuation o) ∷
    expr_spelled value rest))
opens_step _ shape some rest = absurd shape

-- ---- expressions and assignments

assign_at_punctuation : (o : AssignOperator) (rest : List TokenKind) → assign_at
    (token.Punctuation (assign_punctuation o) ∷ rest) ≡ Some o
unfolding assign_at punctuation_at
assign_at_punctuation assign.Set rest = refl
assign_at_punctuation assign.Add rest = refl
assign_at_punctuation assign.Subtract rest = refl
assign_at_punctuation assign.Multiply rest = refl
assign_at_punctuation assign.Divide rest = refl
assign_at_punctuation assign.Remainder rest = refl

-- a statement that was read, with its height
abbrev pub made : tree.Stmt → List TokenKind → tree.Stmt × ℕ × List TokenKind
made s rest = (s, stmt_height s, rest)

module _ (d : ℕ) (rest : List TokenKind) (ends : Ends rest) where
  less : suc d - 1 ≡ d
  less = omega arith

  evaluate_completeness : (e : tree.Expr) → IsExpr e → Complete (suc d)
      (stmt_height (tree.Evaluate e)) (made (tree.Evaluate e) rest)
      (simple (suc d) (expr_spelled e rest))
  unfolding simple after_value evaluate
  evaluate_completeness e shape =
      rw less (Complete-inside d (expr_height e) (expr_height e + 1) (found e rest)
      (made (tree.Evaluate e) rest) _ _ (expression_completeness e shape d rest ends.stops)
      (omega arith)
      (λ low. rw ends.no_assign
      (Complete-raised (suc d) (expr_height e) (made (tree.Evaluate e) rest) _ refl)))

  -- after the operator
  to_completeness : (x : List ℕ) (o : AssignOperator) (e : tree.Expr) → IsExpr e
      → Complete (suc d) (expr_height e + 1) (made (tree.Assign x o e) rest)
      (assign_to (suc d) x o (expr_spelled e rest))
  unfolding assign_to
  to_completeness x o e shape =
      rw less (Complete-inside d (expr_height e) (expr_height e + 1) (found e rest)
      (made (tree.Assign x o e) rest) _ _ (expression_completeness e shape d rest ends.stops)
      (omega arith)
      (λ low. Complete-raised (suc d) (expr_height e) (made (tree.Assign x o e) rest) _ refl))

  element_completeness : (x : List ℕ) (at : tree.Expr) (o : AssignOperator) (e : tree.Expr) →
      IsExpr e
      → Complete (suc d) (max (expr_height at + 1) (expr_height e) + 1)
      (made (tree.AssignElement x at o e) rest)
      (assign_element (suc d) x at (expr_height at + 1) o (expr_spelled e rest))
  unfolding assign_element
  element_completeness x at o e shape =
      rw less (Complete-inside d (expr_height e) (max (expr_height at + 1) (expr_height e) + 1)
      (found e rest) (made (tree.AssignElement x at o e) rest) _ _
      (expression_completeness e shape d rest ends.stops) (omega arith)
      (λ low. Complete-raised (suc d) (max (expr_height at + 1) (expr_height e))
      (made (tree.AssignElement x at o e) rest) _ refl))

  assign_completeness : (x : List ℕ) (o : AssignOperator) (e : tree.Expr) → IsExpr e
      → Complete (suc d) (stmt_height (tree.Assign x o e)) (made (tree.Assign x o e) rest)
      (simple (suc d) (part_spelled (tree.Assign x o e) rest))
  unfolding simple after_value assignment
  assign_completeness x o e shape =
      let past = expr_spelled e rest in
      rw less (Complete-inside d 1 (expr_height e + 1)
      (found (tree.Read x) (token.Punctuation (assign_punctuation o) ∷ past))
      (made (tree.Assign x o e) rest) _ _
      (expression_completeness (tree.Read x) tt d (token.Punctuation (assign_punctuation o) ∷ past)
      (Stops-assign o lowest_precedence past)) (omega (arith, height_some e))
      (λ low. rw (assign_at_punctuation o past) (to_completeness x o e shape)))

  assign_element_completeness : (x : List ℕ) (at : tree.Expr) (o : AssignOperator) (e : tree.Expr)
      → IsExpr at → IsExpr e
      → Complete (suc d) (stmt_height (tree.AssignElement x at o e))
      (made (tree.AssignElement x at o e) rest)
      (simple (suc d) (part_spelled (tree.AssignElement x at o e) rest))
  unfolding simple after_value assignment
  assign_element_completeness x at o e at_shape shape =
      let past = expr_spelled e rest in
      rw less (Complete-inside d (expr_height at + 1)
      (max (expr_height at + 1) (expr_height e) + 1)
      (found (tree.Element x at) (token.Punctuation (assign_punctuation o) ∷ past))
      (made (tree.AssignElement x at o e) rest) _ _
      (expression_completeness (tree.Element x at) at_shape d
      (token.Punctuation (assign_punctuation o) ∷ past)
      (Stops-assign o lowest_precedence past)) (omega arith)
      (λ low. rw (assign_at_punctuation o past) (element_completeness x at o e shape)))

  simple_completeness : (s : tree.Stmt) → IsStep s → (s ≡ tree.Empty → ⊥) → Complete (suc d)
      (stmt_height s) (made s rest) (simple (suc d) (part_spelled s rest))
  simple_completeness tree.Empty shape some = absurd (some refl)
  simple_completeness (tree.Evaluate e) shape some = evaluate_completeness e shape
  simple_completeness (tree.Assign x o e) shape some = assign_completeness x o e shape
  simple_completeness (tree.AssignElement x at o e) shape some = assign_element_completeness x at o
      e shape.0 shape.1
  simple_completeness _ shape some = absurd shape

-- ---- the parts of a `for`, and statements with a semicolon

-- a punctuation mark that ends a part
record IsEnd (m : Punctuation) : Type 0 where
  ends : (rest : List TokenKind) → Ends (token.Punctuation m ∷ rest)
  stays : (tokens : List TokenKind) → Opens tokens → is_punctuation m tokens ≡ false

end_semicolon : IsEnd punctuation.Semicolon
end_semicolon = record { ends = Ends-semicolon; stays = λ tokens opened. opened.no_semicolon }

end_bracket : IsEnd punctuation.CloseParen
end_bracket = record { ends = Ends-bracket; stays = λ tokens opened. opened.no_bracket }

module _ (d : ℕ) (m : Punctuation) (is_end : IsEnd m) (rest : List TokenKind) where
  abbrev past : List TokenKind
  past = token.Punctuation m ∷ rest

  nothing_completeness : Complete (suc d) 1 (made tree.Empty past) (optional (suc d) m past)
  unfolding optional is_punctuation
  nothing_completeness = rw (true_same punctuation_type m m refl) (Complete-leaf d _ _ refl)

  something_completeness : (s : tree.Stmt) → IsStep s → (s ≡ tree.Empty → ⊥) → Complete (suc d)
      (stmt_height s) (made s past) (optional (suc d) m (part_spelled s past))
  unfolding optional
  something_completeness s shape some =
      rw (is_end.stays (part_spelled s past) (opens_step s shape some past))
      (simple_completeness d past (is_end.ends rest) s shape some)

  optional_completeness : (s : tree.Stmt) → IsStep s → Complete (suc d) (stmt_height s)
      (made s past) (optional (suc d) m (part_spelled s past))
  optional_completeness tree.Empty shape = nothing_completeness
  optional_completeness (tree.Evaluate e) shape = something_completeness (tree.Evaluate e) shape
      (λ same. absurd cc)
  optional_completeness (tree.Assign x o e) shape = something_completeness (tree.Assign x o e)
      shape (λ same. absurd cc)
  optional_completeness (tree.AssignElement x at o e) shape = something_completeness
      (tree.AssignElement x at o e) shape (λ same. absurd cc)
  optional_completeness _ shape = absurd shape

module _ (d : ℕ) (rest : List TokenKind) where
  declare_completeness : (kind : tree.VariableType) (vs : List tree.Variable) → IsFirst
      (tree.Declare kind vs)
      → Complete (suc d) (stmt_height (tree.Declare kind vs))
      (made (tree.Declare kind vs) (token.Punctuation punctuation.Semicolon ∷ rest))
      (declare (suc d) (declared_spelled kind vs
      (token.Punctuation punctuation.Semicolon ∷ rest)))
  unfolding declare
  declare_completeness kind vs shape =
      let past : List TokenKind = token.Punctuation punctuation.Semicolon ∷ rest in
      rw (less d past (Ends-semicolon rest))
      (Complete-inside d (declared_height kind vs) (declared_height kind vs + 1)
      ((kind, vs), declared_height kind vs, past) (made (tree.Declare kind vs) past) _ _
      (fields_completeness kind vs shape.0 shape.1 d rest) (omega arith)
      (λ low. Complete-raised (suc d) (declared_height kind vs) (made (tree.Declare kind vs) past)
      _ refl))

  step_part : (s : tree.Stmt) → IsStep s → (s ≡ tree.Empty → ⊥)
      → Complete (suc d) (stmt_height s) (made s (token.Punctuation punctuation.Semicolon ∷ rest))
      (part (suc d) (part_spelled s (token.Punctuation punctuation.Semicolon ∷ rest)))
  step_part s shape some =
      rw ((opens_step s shape some (token.Punctuation punctuation.Semicolon ∷ rest)).is_part
      (suc d)) (optional_completeness d punctuation.Semicolon end_semicolon rest s shape)

  part_completeness : (s : tree.Stmt) → IsFirst s → Complete (suc d) (stmt_height s)
      (made s (token.Punctuation punctuation.Semicolon ∷ rest))
      (part (suc d) (part_spelled s (token.Punctuation punctuation.Semicolon ∷ rest)))
  unfolding part
  part_completeness tree.Empty shape = nothing_completeness d punctuation.Semicolon end_semicolon
      rest
  part_completeness (tree.Declare tree.Boolean vs) shape = declare_completeness tree.Boolean vs
      shape
  part_completeness (tree.Declare tree.Int vs) shape = declare_completeness tree.Int vs shape
  part_completeness (tree.Declare (tree.Array size) vs) shape = declare_completeness
      (tree.Array size) vs shape
  part_completeness (tree.Evaluate e) shape = step_part (tree.Evaluate e) shape (λ same. absurd cc)
  part_completeness (tree.Assign x o e) shape = step_part (tree.Assign x o e) shape
      (λ same. absurd cc)
  part_completeness (tree.AssignElement x at o e) shape = step_part (tree.AssignElement x at o e)
      shape (λ same. absurd cc)
  part_completeness _ shape = absurd shape

  pub ended_completeness : (s : tree.Stmt) → IsFirst s → Complete (suc d) (stmt_height s)
      (made s rest) (ended (suc d)
      (part_spelled s (token.Punctuation punctuation.Semicolon ∷ rest)))
  unfolding ended
  ended_completeness s shape =
      Complete-then (suc d) (stmt_height s) (stmt_height s)
      (made s (token.Punctuation punctuation.Semicolon ∷ rest)) (made s rest) _ _
      (part_completeness s shape) (omega arith)
      (λ low. rw (expect_punctuation punctuation.Semicolon rest)
      (Complete-done (suc d) (stmt_height s) (made s rest) _ low refl))

  last_completeness : (s : tree.Stmt) → IsStep s → Complete (suc d) (stmt_height s) (made s rest)
      (last_part (suc d) (part_spelled s (token.Punctuation punctuation.CloseParen ∷ rest)))
  unfolding last_part
  last_completeness s shape =
      Complete-then (suc d) (stmt_height s) (stmt_height s)
      (made s (token.Punctuation punctuation.CloseParen ∷ rest)) (made s rest) _ _
      (optional_completeness d punctuation.CloseParen end_bracket rest s shape)
      (omega arith)
      (λ low. rw (expect_punctuation punctuation.CloseParen rest)
      (Complete-done (suc d) (stmt_height s) (made s rest) _ low refl))

module _ (d : ℕ) (rest : List TokenKind) where
  optional_value_completeness : (tested : Option tree.Expr) → IsOptional tested
      → Complete d (optional_height tested) (tested, optional_height tested, rest)
      (optional_value d (optional_spelled tested (token.Punctuation punctuation.Semicolon ∷ rest)))
  unfolding optional_value is_punctuation
  optional_value_completeness None shape = Complete-done d 0 (None, 0, rest) _ (omega arith) refl
  optional_value_completeness (Some e) shape =
      let stays : is_punctuation punctuation.Semicolon
      (expr_spelled e (token.Punctuation punctuation.Semicolon ∷ rest)) ≡ false =
      (opens e (token.Punctuation punctuation.Semicolon ∷ rest)).no_semicolon in
      rw stays (Complete-then d (expr_height e) (expr_height e) (found e rest)
      (Some e, expr_height e, rest) _ _
      (closed_completeness e shape d punctuation.Semicolon rest
      (Stops-semicolon lowest_precedence rest)) (omega arith)
      (λ low. Complete-done d (expr_height e) (Some e, expr_height e, rest) _ low refl))

-- the height of what is in the brackets of a `for`
abbrev pub heading_height : tree.Stmt → Option tree.Expr → tree.Stmt → ℕ
heading_height begun tested stepped = max (stmt_height begun)
    (max (optional_height tested) (stmt_height stepped))

module _ (d : ℕ) (rest : List TokenKind) where
  past_completeness : (tested : Option tree.Expr) (stepped : tree.Stmt) → IsOptional tested →
      IsStep stepped
      → Complete (suc d) (max (optional_height tested) (stmt_height stepped))
      ((tested, stepped), max (optional_height tested) (stmt_height stepped), rest)
      (after_first (suc d) (optional_spelled tested
      (token.Punctuation punctuation.Semicolon ∷ part_spelled stepped
      (token.Punctuation punctuation.CloseParen ∷ rest))))
  unfolding after_first
  past_completeness tested stepped is_tested is_step =
      let stepping : List TokenKind = part_spelled stepped
      (token.Punctuation punctuation.CloseParen ∷ rest) in
      let high : ℕ = max (optional_height tested) (stmt_height stepped) in
      let all : (Option tree.Expr × tree.Stmt) × ℕ × List TokenKind =
      ((tested, stepped), high, rest) in
      Complete-then (suc d) (optional_height tested) high
      (tested, optional_height tested, stepping) all _ _
      (optional_value_completeness (suc d) stepping tested is_tested) (omega arith) (λ one.
      Complete-then (suc d) (stmt_height stepped) high (made stepped rest) all _ _
      (last_completeness d rest stepped is_step) (omega arith) (λ two.
      Complete-done (suc d) high all _ (omega arith) refl))

  pub heading_completeness : (begun : tree.Stmt) (tested : Option tree.Expr) (stepped : tree.Stmt)
      → IsFirst begun → IsOptional tested → IsStep stepped
      → Complete (suc d) (heading_height begun tested stepped)
      ((begun, tested, stepped), heading_height begun tested stepped, rest)
      (for_heading (suc d) (heading_spelled begun tested stepped rest))
  unfolding for_heading
  heading_completeness begun tested stepped is_first is_tested is_step =
      let testing : List TokenKind = optional_spelled tested
      (token.Punctuation punctuation.Semicolon ∷ part_spelled stepped
      (token.Punctuation punctuation.CloseParen ∷ rest)) in
      let high : ℕ = heading_height begun tested stepped in
      let after : ℕ = max (optional_height tested) (stmt_height stepped) in
      let all : (tree.Stmt × Option tree.Expr × tree.Stmt) × ℕ × List TokenKind =
      ((begun, tested, stepped), high, rest) in
      rw (expect_punctuation punctuation.OpenParen
      (part_spelled begun (token.Punctuation punctuation.Semicolon ∷ testing)))
      (Complete-then (suc d) (stmt_height begun) high (made begun testing) all _ _
      (ended_completeness d testing begun is_first) (omega arith) (λ one.
      Complete-then (suc d) after high ((tested, stepped), after, rest) all _ _
      (past_completeness tested stepped is_tested is_step) (omega arith) (λ two.
      Complete-done (suc d) high all _ (omega arith) refl)))

  -- an expression in brackets, one depth below
  pub bracketed_completeness : (e : tree.Expr) → IsExpr e → Complete d (expr_height e)
      (found e rest) (bracketed (suc d) (bracketed_spelled e rest))
  unfolding bracketed
  bracketed_completeness e shape =
      let less : suc d - 1 ≡ d = omega arith in
      rw (
        expect_punctuation punctuation.OpenParen
            (expr_spelled e (token.Punctuation punctuation.CloseParen ∷ rest)),
        less,
      )
      (closed_completeness e shape d punctuation.CloseParen rest
      (Stops-bracket lowest_precedence rest))

module _ (d : ℕ) (rest : List TokenKind) where
  argument_completeness : (e : tree.Expr) → IsExpr e → Complete (suc d) (expr_height e + 1)
      (e, expr_height e + 1, rest)
      (argument (suc d) (bracketed_spelled e (token.Punctuation punctuation.Semicolon ∷ rest)))
  unfolding argument
  argument_completeness e shape =
      Complete-inside d (expr_height e) (expr_height e + 1)
      (found e (token.Punctuation punctuation.Semicolon ∷ rest)) (e, expr_height e + 1, rest) _
      _ (bracketed_completeness d (token.Punctuation punctuation.Semicolon ∷ rest) e shape)
      (omega arith)
      (λ low. rw (expect_punctuation punctuation.Semicolon rest)
      (Complete-raised (suc d) (expr_height e) (e, expr_height e + 1, rest) _ refl))

  -- a statement made of such an expression
  pub of_argument : (e : tree.Expr) → IsExpr e → (make : tree.Expr → tree.Stmt)
      → Complete (suc d) (expr_height e + 1) {X = tree.Stmt × ℕ × List TokenKind}
      (make e, expr_height e + 1, rest)
      (argument (suc d) (bracketed_spelled e (token.Punctuation punctuation.Semicolon ∷ rest)) >>=
      λ read. Ok (make read.0, read.1, read.2))
  of_argument e shape make =
      Complete-then (suc d) (expr_height e + 1) (expr_height e + 1) (e, expr_height e + 1, rest)
      (make e, expr_height e + 1, rest) _ _ (argument_completeness e shape) (omega arith)
      (λ low. Complete-done (suc d) (expr_height e + 1) (make e, expr_height e + 1, rest) _ low
      refl)

module _ (d : ℕ) (rest : List TokenKind) where
  pub return_completeness : (value : Option tree.Expr) → IsOptional value
      → Complete (suc d) (optional_height value + 1) (made (tree.Return value) rest)
      (return_value (suc d) (optional_spelled value (token.Punctuation punctuation.Semicolon
      ∷ rest)))
  unfolding return_value
  return_completeness value shape =
      let same : suc d - 1 ≡ d = omega arith in
      rw same (Complete-inside d (optional_height value) (optional_height value + 1)
      (value, optional_height value, rest) (made (tree.Return value) rest) _ _
      (optional_value_completeness d rest value shape) (omega arith)
      (λ low. Complete-raised (suc d) (optional_height value) (made (tree.Return value) rest) _
      refl))

-- ---- how a statement with a semicolon begins

-- a statement with a semicolon is read as one, and begins neither with a closing brace nor with
-- `else`
pub record Begins (s : tree.Stmt) : Type 0 where
  pub no_brace : (rest : List TokenKind) → brace
      (part_spelled s (token.Punctuation punctuation.Semicolon ∷ rest)) ≡ None
  pub no_else : (rest : List TokenKind) → is_keyword keyword.Else
      (part_spelled s (token.Punctuation punctuation.Semicolon ∷ rest)) ≡ false
  pub is_ended : (depth : ℕ) (inner : Inner) (rest : List TokenKind)
      → shallow depth inner (part_spelled s (token.Punctuation punctuation.Semicolon ∷ rest)) ≡
      ended depth (part_spelled s (token.Punctuation punctuation.Semicolon ∷ rest))

step_begins : (s : tree.Stmt) → IsStep s → (s ≡ tree.Empty → ⊥) → Begins s
step_begins s shape some = record {
  no_brace = λ rest. (opens_step s shape some
      (token.Punctuation punctuation.Semicolon ∷ rest)).no_brace;
  no_else = λ rest. (opens_step s shape some
      (token.Punctuation punctuation.Semicolon ∷ rest)).no_else;
  is_ended = λ depth inner rest.
      (opens_step s shape some (token.Punctuation punctuation.Semicolon ∷ rest)).is_ended depth
      inner;
}

pub begins : (s : tree.Stmt) → IsFirst s → Begins s
unfolding shallow keyword_statement brace is_punctuation is_keyword
begins tree.Empty shape = record
    { no_brace = λ rest. refl; no_else = λ rest. refl; is_ended = λ depth inner rest. refl }
begins (tree.Declare tree.Boolean vs) shape = record
    { no_brace = λ rest. refl; no_else = λ rest. refl; is_ended = λ depth inner rest. refl }
begins (tree.Declare tree.Int vs) shape = record
    { no_brace = λ rest. refl; no_else = λ rest. refl; is_ended = λ depth inner rest. refl }
begins (tree.Declare (tree.Array size) vs) shape = record
    { no_brace = λ rest. refl; no_else = λ rest. refl; is_ended = λ depth inner rest. refl }
begins (tree.Evaluate e) shape = step_begins (tree.Evaluate e) shape (λ same. absurd cc)
begins (tree.Assign x o e) shape = step_begins (tree.Assign x o e) shape (λ same. absurd cc)
begins (tree.AssignElement x at o e) shape = step_begins (tree.AssignElement x at o e) shape
    (λ same. absurd cc)
begins _ shape = absurd shape

-- ---- lengths

pub stmt_height_some : (s : tree.Stmt) → 1 ≤ stmt_height s
stmt_height_some tree.Empty = omega arith
stmt_height_some (tree.Block body) = omega arith
stmt_height_some (tree.Declare kind vs) = omega arith
stmt_height_some (tree.Evaluate e) = omega arith
stmt_height_some (tree.Assign x o e) = omega arith
stmt_height_some (tree.AssignElement x at o e) = omega arith
stmt_height_some (tree.If c a) = omega arith
stmt_height_some (tree.IfElse c a b) = omega arith
stmt_height_some (tree.While c body) = omega arith
stmt_height_some (tree.For begun tested stepped body) = omega arith
stmt_height_some (tree.Push e) = omega arith
stmt_height_some (tree.Print e) = omega arith
stmt_height_some (tree.Println e) = omega arith
stmt_height_some (tree.Return value) = omega arith
stmt_height_some (tree.Compose c) = omega arith

-- a part has no more height than tokens, with its semicolon
pub part_length : (s : tree.Stmt) → IsFirst s → (rest : List TokenKind) → stmt_height s + length
    rest ≤ length (part_spelled s rest) + 1
part_length tree.Empty shape rest = omega arith
part_length (tree.Declare kind vs) shape rest = omega (arith, declared_length kind vs rest)
part_length (tree.Evaluate e) shape rest = omega (arith, expr_length e rest)
part_length (tree.Assign x o e) shape rest = omega (arith, expr_length e rest)
part_length (tree.AssignElement x at o e) shape rest =
    omega (
      arith,
      expr_length at
          (token.Punctuation punctuation.CloseBracket ∷ token.Punctuation (assign_punctuation o) ∷
          expr_spelled e rest),
      expr_length e rest,
    )
part_length _ shape rest = absurd shape

pub step_first : (s : tree.Stmt) → IsStep s → IsFirst s
step_first tree.Empty shape = shape
step_first (tree.Evaluate e) shape = shape
step_first (tree.Assign x o e) shape = shape
step_first (tree.AssignElement x at o e) shape = shape
step_first _ shape = absurd shape

pub optional_length : (tested : Option tree.Expr) (rest : List TokenKind) → optional_height tested
    + length rest ≤ length (optional_spelled tested rest)
optional_length None rest = omega arith
optional_length (Some e) rest = omega (arith, expr_length e rest)

pub heading_length : (begun : tree.Stmt) (tested : Option tree.Expr) (stepped : tree.Stmt) →
    IsFirst begun → IsStep stepped → (rest : List TokenKind)
    → heading_height begun tested stepped + length rest + 2 ≤ length
    (heading_spelled begun tested stepped rest)
heading_length begun tested stepped is_first is_step rest =
    let stepping : List TokenKind = part_spelled stepped
    (token.Punctuation punctuation.CloseParen ∷ rest) in
    let testing : List TokenKind = optional_spelled tested
    (token.Punctuation punctuation.Semicolon ∷ stepping) in
    omega (
      arith,
      part_length begun is_first (token.Punctuation punctuation.Semicolon ∷ testing),
      optional_length tested (token.Punctuation punctuation.Semicolon ∷ stepping),
      part_length stepped (step_first stepped is_step)
          (token.Punctuation punctuation.CloseParen ∷ rest),
    )
