-- Declarations of variables are read again.
use Rattle.std.proofs.Common.{◌≡◌, ℕ, ◌+◌, ◌≤◌, max, false, List, [], ◌∷◌, length, Option, Some}
use Rattle.std.proofs.Common.{None, refl, arith}
use Rattle.std.specs.List.{AllByRecursion}
use Rattle.strc_lex.specs.declared.token.TokenKind.{TokenKind}
use Rattle.strc_lex.specs.declared.token.TokenKind.TheVariants as token
use Rattle.strc_lex.specs.declared.token.Punctuation.TheVariants as punctuation
use Rattle.strc_parse_tree.specs.Tree as tree
use Rattle.strc_parse_grammar.specs.Grammar.{each_spelled, highest, type_spelled, initial_spelled}
use Rattle.strc_parse_grammar.specs.Grammar.{variable_spelled, next_spelled, variables_spelled}
use Rattle.strc_parse_grammar.specs.Grammar.{declared_spelled, lowest_precedence, IsOptional}
use Rattle.strc_parse_grammar.specs.Grammar.{IsVariableType, IsVariable, AreVariables, expr_height}
use Rattle.strc_parse_grammar.specs.Grammar.{optional_height, type_height, variable_height}
use Rattle.strc_parse_grammar.specs.Grammar.{declared_height}
use Rattle.strc_parse_grammar.specs.Reading.{punctuation_at, is_punctuation, name, initial}
use Rattle.strc_parse_grammar.specs.Reading.{variable}
use Rattle.strc_parse_grammar.specs.Reading.{no_comma, next_variable, more_variables, variables}
use Rattle.strc_parse_grammar.specs.Reading.{int_type}
use Rattle.strc_parse_grammar.specs.Reading.{variable_type, declared, assign_at}
use Rattle.strc_parse_grammar.proofs.Completeness.{Complete, Complete-then, Complete-max}
use Rattle.strc_parse_grammar.proofs.Completeness.{Complete-done}
use Rattle.strc_parse_grammar.proofs.Stops.{Stops, Stops-semicolon, Stops-comma, Stops-bracket}
use Rattle.strc_parse_grammar.proofs.Stops.{Stops-square, expr_length}
use Rattle.strc_parse_grammar.proofs.ExpressionCompleteness.{expression_completeness}
use Rattle.strc_parse_grammar.proofs.ExpressionCompleteness.{closed_completeness}
use Rattle.strc_parse_grammar.proofs.ListedCompleteness.{found}
use Rattle.strc_parse_grammar.proofs.Lists.{TallCompleteness, each_taller_completeness}

-- what follows an expression that is a statement, an initialiser or a part of a `for`
pub record Ends (rest : List TokenKind) : Type 0 where
  pub stops : Stops lowest_precedence rest
  pub no_assign : assign_at rest ≡ None
  pub no_initial : is_punctuation punctuation.Assign rest ≡ false

pub Ends-semicolon : (rest : List TokenKind) → Ends (token.Punctuation punctuation.Semicolon ∷ rest)
unfolding assign_at punctuation_at is_punctuation
Ends-semicolon rest = record
    { stops = Stops-semicolon lowest_precedence rest; no_assign = refl; no_initial = refl }

pub Ends-bracket : (rest : List TokenKind) → Ends (token.Punctuation punctuation.CloseParen ∷ rest)
unfolding assign_at punctuation_at is_punctuation
Ends-bracket rest = record
    { stops = Stops-bracket lowest_precedence rest; no_assign = refl; no_initial = refl }

pub Ends-comma : (rest : List TokenKind) → Ends (token.Punctuation punctuation.Comma ∷ rest)
unfolding assign_at punctuation_at is_punctuation
Ends-comma rest = record
    { stops = Stops-comma lowest_precedence rest; no_assign = refl; no_initial = refl }

-- ---- declarations of variables

initial_completeness : (begun : Option tree.Expr) → IsOptional begun → (d : ℕ)
    (rest : List TokenKind) → Ends rest
    → Complete d (optional_height begun) (begun, optional_height begun, rest)
    (initial d (initial_spelled begun rest))
unfolding initial is_punctuation
initial_completeness None shape d rest ends = rw ends.no_initial
    (Complete-done d 0 (None, 0, rest) _ (omega arith) refl)
initial_completeness (Some e) shape d rest ends =
    Complete-then d (expr_height e) (expr_height e) (found e rest) (Some e, expr_height e, rest) _
    _ (expression_completeness e shape d rest ends.stops) (omega arith)
    (λ low. Complete-done d (expr_height e) (Some e, expr_height e, rest) _ low refl)

abbrev seen_as : tree.Variable → List TokenKind → tree.Variable × ℕ × List TokenKind
seen_as v rest = (v, variable_height v, rest)

variable_completeness : (v : tree.Variable) → IsVariable v → (d : ℕ) (rest : List TokenKind) → Ends
    rest
    → Complete d (variable_height v) (seen_as v rest) (variable d (variable_spelled v rest))
unfolding variable name
variable_completeness v shape d rest ends =
    Complete-then d (variable_height v) (variable_height v) (v.initial, variable_height v, rest)
    (seen_as v rest) _ _ (initial_completeness v.initial shape d rest ends) (omega arith)
    (λ low. Complete-done d (variable_height v) (seen_as v rest) _ low refl)

pub initial_length : (begun : Option tree.Expr) (rest : List TokenKind) → optional_height begun +
    length rest ≤ length (initial_spelled begun rest)
initial_length None rest = omega arith
initial_length (Some e) rest = omega (arith, expr_length e rest)

pub variable_length : (v : tree.Variable) (rest : List TokenKind) → variable_height v + length rest
    + 1 ≤ length (variable_spelled v rest)
variable_length v rest = omega (arith, initial_length v.initial rest)

pub nexts_length : (others : List tree.Variable) (rest : List TokenKind) → highest variable_height
    others + length rest ≤ length (each_spelled next_spelled others rest)
nexts_length [] rest = omega arith
nexts_length (v ∷ others) rest = omega
    (arith, variable_length v (each_spelled next_spelled others rest), nexts_length others rest)

pub variables_length : (vs : List tree.Variable) (rest : List TokenKind) → highest variable_height
    vs + length rest ≤ length (variables_spelled vs rest)
variables_length [] rest = omega arith
variables_length (v ∷ others) rest = omega
    (arith, variable_length v (each_spelled next_spelled others rest), nexts_length others rest)

pub type_length : (kind : tree.VariableType) (rest : List TokenKind) → type_height kind + length
    rest + 1 ≤ length (type_spelled kind rest)
type_length tree.Boolean rest = omega arith
type_length tree.Int rest = omega arith
type_length (tree.Array size) rest = omega
    (arith, expr_length size (token.Punctuation punctuation.CloseBracket ∷ rest))

pub declared_length : (kind : tree.VariableType) (vs : List tree.Variable) (rest : List TokenKind)
    → declared_height kind vs + length rest + 1 ≤ length (declared_spelled kind vs rest)
declared_length kind vs rest = omega
    (arith, type_length kind (variables_spelled vs rest), variables_length vs rest)

module _ (d : ℕ) where
  abbrev IsNextCompleteness : tree.Variable → Type 0
  IsNextCompleteness v = TallCompleteness next_spelled variable_height (next_variable d) no_comma
      Ends d v

  next_completeness : (v : tree.Variable) → IsVariable v → IsNextCompleteness v
  unfolding next_variable no_comma is_punctuation
  next_completeness v shape = record {
    reads = λ rest ends. variable_completeness v shape d rest ends;
    stays = λ rest. refl;
    follows = λ rest. Ends-comma (variable_spelled v rest);
    long = λ rest. omega (arith, variable_length v rest);
  }

  nexts_completeness : (others : List tree.Variable) → AllByRecursion IsVariable others →
      AllByRecursion IsNextCompleteness others
  nexts_completeness [] shape = tt
  nexts_completeness (v ∷ others) shape =
      (next_completeness v shape.0, nexts_completeness others shape.1)

  follow : (others : List tree.Variable) → AllByRecursion IsNextCompleteness others →
      (rest : List TokenKind) → Ends rest → Ends (each_spelled next_spelled others rest)
  follow [] complete rest ends = ends
  follow (v ∷ others) complete rest ends = complete.0.follows
      (each_spelled next_spelled others rest)

  variables_completeness : (vs : List tree.Variable) → AreVariables vs → (rest : List TokenKind) →
      Ends rest → no_comma rest ≡ Some rest
      → Complete d (highest variable_height vs) ((vs, highest variable_height vs), rest)
      (variables d (variables_spelled vs rest))
  unfolding variables more_variables
  variables_completeness [] shape rest ends stop = absurd shape
  variables_completeness (v ∷ others) shape rest ends stop =
      let past = each_spelled next_spelled others rest in
      let high : ℕ = max (variable_height v) (highest variable_height others) in
      let complete = nexts_completeness others shape.1 in
      let follows : Ends past = follow others complete rest ends in
      Complete-then d (variable_height v) high (seen_as v past) ((v ∷ others, high), rest) _ _
      (variable_completeness v shape.0 d past follows) (omega arith)
      (λ low. Complete-max d (variable_height v) (highest variable_height others)
      ((v ∷ others, high), rest) _ low
      (each_taller_completeness next_spelled variable_height (next_variable d) no_comma Ends d
      others complete (v ∷ []) (variable_height v) (length past + 1) rest rest stop ends
      (omega arith)))

  -- the type is before a name
  type_completeness : (kind : tree.VariableType) → IsVariableType kind → (rest : List TokenKind) →
      is_punctuation punctuation.OpenBracket rest ≡ false
      → Complete d (type_height kind) (kind, type_height kind, rest)
      (variable_type d (type_spelled kind rest))
  unfolding variable_type int_type is_punctuation
  type_completeness tree.Boolean shape rest none = Complete-done d 0 (tree.Boolean, 0, rest) _
      (omega arith) refl
  type_completeness tree.Int shape rest none = rw none
      (Complete-done d 0 (tree.Int, 0, rest) _ (omega arith) refl)
  type_completeness (tree.Array size) shape rest none =
      Complete-then d (expr_height size) (expr_height size) (found size rest)
      (tree.Array size, expr_height size, rest) _ _
      (closed_completeness size shape d punctuation.CloseBracket rest
      (Stops-square lowest_precedence rest)) (omega arith)
      (λ low. Complete-done d (expr_height size) (tree.Array size, expr_height size, rest) _ low
      refl)

  no_index_before : (vs : List tree.Variable) → AreVariables vs → (rest : List TokenKind) →
      is_punctuation punctuation.OpenBracket (variables_spelled vs rest) ≡ false
  unfolding is_punctuation
  no_index_before [] shape rest = absurd shape
  no_index_before (v ∷ others) shape rest = refl

  pub declared_completeness : (kind : tree.VariableType) (vs : List tree.Variable) → IsVariableType
      kind → AreVariables vs → (rest : List TokenKind) → Ends rest → no_comma rest ≡ Some rest
      → Complete d (declared_height kind vs) ((kind, vs), declared_height kind vs, rest)
      (declared d (declared_spelled kind vs rest))
  unfolding declared
  declared_completeness kind vs typed shape rest ends stop =
      let past = variables_spelled vs rest in
      let high : ℕ = declared_height kind vs in
      Complete-then d (type_height kind) high (kind, type_height kind, past)
      ((kind, vs), high, rest) _ _
      (type_completeness kind typed past (no_index_before vs shape rest)) (omega arith)
      (λ low.
      Complete-max d (type_height kind) (highest variable_height vs) ((kind, vs), high, rest) _ low
      (Complete-then d (highest variable_height vs) (highest variable_height vs)
      ((vs, highest variable_height vs), rest) ((kind, vs), high, rest) _ _
      (variables_completeness vs shape rest ends stop) (omega arith)
      (λ also. Complete-done d (highest variable_height vs) ((kind, vs), high, rest) _ also refl)))

no_comma_semicolon : (rest : List TokenKind) → no_comma
    (token.Punctuation punctuation.Semicolon ∷ rest) ≡ Some
    (token.Punctuation punctuation.Semicolon ∷ rest)
unfolding no_comma is_punctuation
no_comma_semicolon rest = refl

-- a declaration before its semicolon
pub fields_completeness : (kind : tree.VariableType) (vs : List tree.Variable) → IsVariableType
    kind → AreVariables vs → (d : ℕ) (rest : List TokenKind)
    → Complete d (declared_height kind vs)
    ((kind, vs), declared_height kind vs, token.Punctuation punctuation.Semicolon ∷ rest)
    (declared d (declared_spelled kind vs (token.Punctuation punctuation.Semicolon ∷ rest)))
fields_completeness kind vs typed shape d rest = declared_completeness d kind vs typed shape
    (token.Punctuation punctuation.Semicolon ∷ rest) (Ends-semicolon rest) (no_comma_semicolon rest)
