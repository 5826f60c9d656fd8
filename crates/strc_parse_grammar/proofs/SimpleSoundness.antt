-- What is read as a declaration, an assignment or an expression, or as a part of a `for`, is one,
-- and these are its tokens.
use Rattle.std.proofs.Common.{◌≡◌, ℕ, suc, ◌+◌, ◌-◌, ◌≤◌, max, List, [], ◌∷◌, ◌++◌, length, Option}
use Rattle.std.proofs.Common.{Some, None, Ok, refl, sym, ap, subst, ◌∙◌, arith, inl, inr}
use Rattle.std.proofs.lemmas.Bool.{cases_Bool}
use Rattle.strc_lex.specs.declared.token.TokenKind.{TokenKind}
use Rattle.strc_lex.specs.declared.token.TokenKind.TheVariants as token
use Rattle.strc_lex.specs.declared.token.Keyword.TheVariants as keyword
use Rattle.strc_lex.specs.declared.token.Punctuation.{Punctuation}
use Rattle.strc_lex.specs.declared.token.Punctuation.TheVariants as punctuation
use Rattle.strc_parse_tree.specs.declared.tree.AssignOperator.{AssignOperator}
use Rattle.strc_parse_tree.specs.declared.tree.AssignOperator.TheVariants as assign
use Rattle.strc_parse_tree.specs.Tree as tree
use Rattle.strc_parse_grammar.specs.Grammar.{assign_punctuation, expr_spelled, highest}
use Rattle.strc_parse_grammar.specs.Grammar.{type_spelled}
use Rattle.strc_parse_grammar.specs.Grammar.{initial_spelled, variable_spelled, next_spelled}
use Rattle.strc_parse_grammar.specs.Grammar.{variables_spelled, declared_spelled, part_spelled}
use Rattle.strc_parse_grammar.specs.Grammar.{optional_spelled, bracketed_spelled, heading_spelled}
use Rattle.strc_parse_grammar.specs.Grammar.{lowest_precedence, IsExpr, IsOptional, IsVariableType}
use Rattle.strc_parse_grammar.specs.Grammar.{IsVariable, AreVariables, IsStep, IsFirst, expr_height}
use Rattle.strc_parse_grammar.specs.Grammar.{optional_height, type_height, variable_height}
use Rattle.strc_parse_grammar.specs.Grammar.{declared_height, stmt_height}
use Rattle.strc_parse_grammar.specs.Reading.{tail, punctuation_at, is_punctuation, closed}
use Rattle.strc_parse_grammar.specs.Reading.{expression}
use Rattle.strc_parse_grammar.specs.Reading.{one_taller, repeated, initial, variable, no_comma}
use Rattle.strc_parse_grammar.specs.Reading.{next_variable, more_variables, variables, int_type}
use Rattle.strc_parse_grammar.specs.Reading.{variable_type, declared, declare, evaluate, assign_to}
use Rattle.strc_parse_grammar.specs.Reading.{assign_element, assign_at, assign_by, assignment}
use Rattle.strc_parse_grammar.specs.Reading.{after_value_by, after_value, simple, optional, part}
use Rattle.strc_parse_grammar.specs.Reading.{ended}
use Rattle.strc_parse_grammar.specs.Reading.{bracketed, argument, optional_value, last_part}
use Rattle.strc_parse_grammar.specs.Reading.{after_first}
use Rattle.strc_parse_grammar.specs.Reading.{for_heading}
use Rattle.strc_parse_grammar.proofs.Stops.{expr_length}
use Rattle.strc_parse_grammar.proofs.VariableCompleteness.{variable_length, type_length}
use Rattle.strc_parse_grammar.proofs.SimpleCompleteness.{heading_height, part_length, step_first}
use Rattle.strc_parse_grammar.proofs.SimpleCompleteness.{optional_length, stmt_height_some}
use Rattle.strc_parse_grammar.proofs.Soundness.{Sound, Sound-ok, Sound-then, Sound-on, Sound-expect}
use Rattle.strc_parse_grammar.proofs.Soundness.{Sound-name, Sound-raised, Stopped}
use Rattle.strc_parse_grammar.proofs.Soundness.{repeated_soundness}
use Rattle.strc_parse_grammar.proofs.Soundness.{punctuation_is}
use Rattle.strc_parse_grammar.proofs.Soundness.{comma_is, no_comma_is, each_spelled-push}
use Rattle.strc_parse_grammar.proofs.Soundness.{highest-push}
use Rattle.strc_parse_grammar.proofs.Soundness.{All-push}
use Rattle.strc_parse_grammar.proofs.ExpressionRead.{ExprRead, ClosedRead, closed_soundness}
use Rattle.strc_parse_grammar.proofs.ExpressionSoundness.{expression_soundness}

abbrev count : List TokenKind → ℕ
count ts = length ts

-- ---- declarations of variables

record InitialRead (depth : ℕ) (tokens : List TokenKind)
    (x : Option tree.Expr × ℕ × List TokenKind) : Type 0 where
  spelled : tokens ≡ initial_spelled x.0 x.2
  shape : IsOptional x.0
  high : x.1 ≡ optional_height x.0
  low : x.1 ≤ depth

-- an expression somewhere within these tokens
within : (d deep : ℕ) (all tokens : List TokenKind) → length tokens ≤ length all
    → deep + length tokens ≤ d + length all
    → Sound (ExprRead d lowest_precedence tokens) deep all (expression d lowest_precedence tokens)
within d deep all tokens le room = Sound-on (ExprRead d lowest_precedence tokens)
    (ExprRead d lowest_precedence tokens) d deep tokens all
    (expression d lowest_precedence tokens) le room
    (expression_soundness d lowest_precedence tokens) (λ x h. h)

-- the same with the punctuation that closes it
closed_within : (d deep : ℕ) (m : Punctuation) (all tokens : List TokenKind)
    → length tokens ≤ length all → deep + length tokens ≤ d + length all
    → Sound (ClosedRead d m tokens) deep all (closed (expression d) m tokens)
closed_within d deep m all tokens le room =
    Sound-on (ClosedRead d m tokens) (ClosedRead d m tokens) d deep tokens all
    (closed (expression d) m tokens) le room
    (closed_soundness d (expression d) (expression_soundness d) m tokens) (λ x h. h)

initial_soundness : (depth : ℕ) (tokens : List TokenKind)
    → Sound (InitialRead depth tokens) depth tokens (initial depth tokens)
unfolding initial
initial_soundness depth tokens =
    let Q : Option tree.Expr × ℕ × List TokenKind → Type 0 = InitialRead depth tokens in
    elim (cases_Bool (is_punctuation punctuation.Assign tokens)) [
      | inl is ↦
          let starts = punctuation_is punctuation.Assign tokens is in
          let one : length tokens ≡ suc (length (tail tokens)) = ap count starts in
          let read = Sound-then (ExprRead depth lowest_precedence (tail tokens)) Q depth tokens
          (expression depth lowest_precedence (tail tokens))
          (λ value. Ok (Some value.0, value.1, value.2))
          (within depth depth tokens (tail tokens) (omega arith) (omega arith))
          (λ x value. record {
            spelled = starts ∙ ap (λ (ts : List TokenKind). token.Punctuation punctuation.Assign
                ∷ ts) value.spelled;
            shape = value.shape;
            high = value.high;
            low = value.low;
          }) in
          rw is read
      | inr is ↦
          let none : Q (None, 0, tokens) =
          record { spelled = refl; shape = tt; high = refl; low = omega arith } in
          rw is none
    ]

-- a variable, its height and what follows it, read from these tokens
record VariableRead (depth : ℕ) (tokens : List TokenKind)
    (x : tree.Variable × ℕ × List TokenKind) : Type 0 where
  spelled : tokens ≡ variable_spelled x.0 x.2
  shape : IsVariable x.0
  high : x.1 ≡ variable_height x.0
  low : x.1 ≤ depth

variable_soundness : (depth : ℕ) (tokens : List TokenKind)
    → Sound (VariableRead depth tokens) depth tokens (variable depth tokens)
unfolding variable
variable_soundness depth tokens =
    Sound-name (VariableRead depth tokens) depth tokens tokens _ (omega arith) (λ x rest e.
    let one : length tokens ≡ suc (length rest) = ap count e in
    Sound-then (InitialRead depth rest) (VariableRead depth tokens) depth tokens
    (initial depth rest) _
    (Sound-on (InitialRead depth rest) (InitialRead depth rest) depth depth rest tokens
    (initial depth rest) (omega arith) (omega arith) (initial_soundness depth rest) (λ y h. h))
    (λ y begun.
    record {
      spelled = e ∙ ap (λ (ts : List TokenKind). token.Name x ∷ ts) begun.spelled;
      shape =
          begun.shape;
      high = begun.high;
      low = begun.low;
    }))

-- the variables so far, the height of the highest, and what follows them
record VariablesRead (depth : ℕ) (all : List TokenKind) (so_far : List tree.Variable × ℕ)
    (rest : List TokenKind) : Type 0 where
  spelled : all ≡ variables_spelled so_far.0 rest
  shape : AreVariables so_far.0
  high : so_far.1 ≡ highest variable_height so_far.0
  low : so_far.1 ≤ depth

variables_spelled-push : (front : List tree.Variable) (v : tree.Variable) (rest : List TokenKind)
    → AreVariables front
    → variables_spelled (front ++ v ∷ []) rest ≡ variables_spelled front (next_spelled v rest)
variables_spelled-push [] v rest shape = absurd shape
variables_spelled-push (w ∷ front) v rest shape =
    ap (variable_spelled w) (each_spelled-push next_spelled front v rest)

AreVariables-push : (front : List tree.Variable) (v : tree.Variable) → AreVariables front
    → IsVariable v → AreVariables (front ++ v ∷ [])
AreVariables-push [] v shape one = absurd shape
AreVariables-push (w ∷ front) v shape one = (shape.0, All-push IsVariable front v shape.1 one)

module _ (depth : ℕ) (all : List TokenKind) where
  next_soundness : (so_far : List tree.Variable × ℕ) (tokens : List TokenKind)
      → VariablesRead depth all so_far tokens → length tokens ≤ length all → no_comma tokens ≡ None
      → Sound (λ x. VariablesRead depth all x.0 x.1 × (length x.1 ≤ length all)) depth all
      (one_taller (next_variable depth) so_far tokens)
  unfolding one_taller next_variable
  next_soundness so_far tokens kept le goes =
      let starts = comma_is tokens goes in
      let one : length tokens ≡ suc (length (tail tokens)) = ap count starts in
      Sound-then (VariableRead depth (tail tokens))
      (λ x. VariablesRead depth all x.0 x.1 × (length x.1 ≤ length all)) depth all
      (variable depth (tail tokens)) _
      (Sound-on (VariableRead depth (tail tokens)) (VariableRead depth (tail tokens)) depth depth
      (tail tokens) all (variable depth (tail tokens)) (omega arith) (omega arith)
      (variable_soundness depth (tail tokens)) (λ x h. h)) (λ x read. (
        record {
          spelled = kept.spelled ∙ ap (λ (ts : List TokenKind). variables_spelled so_far.0 ts)
              (starts ∙ ap (λ (ts : List TokenKind). token.Punctuation punctuation.Comma ∷ ts)
              read.spelled)
              ∙ sym (variables_spelled-push so_far.0 x.0 x.2 kept.shape);
          shape = AreVariables-push so_far.0 x.0 kept.shape read.shape;
          high = omega (arith, kept.high, read.high, highest-push variable_height so_far.0 x.0);
          low = omega (arith, kept.low, read.low);
        },
        omega (arith, ap count read.spelled, variable_length x.0 x.2),
      ))

  more_soundness : (so_far : List tree.Variable × ℕ) (tokens : List TokenKind)
      → VariablesRead depth all so_far tokens → length tokens ≤ length all
      → Sound (λ x. VariablesRead depth all x.0 x.1) depth all (more_variables depth so_far tokens)
  unfolding more_variables
  more_soundness so_far tokens kept le =
      Sound-on (Stopped no_comma (one_taller (next_variable depth))
      (VariablesRead depth all) depth all)
      (λ x. VariablesRead depth all x.0 x.1) depth depth all all
      (repeated no_comma (one_taller (next_variable depth)) (length tokens + 1) so_far tokens)
      (omega arith) (omega arith)
      (repeated_soundness no_comma (one_taller (next_variable depth))
      (VariablesRead depth all) depth all next_soundness
      (length tokens + 1) so_far tokens kept le)
      (λ x stopped. subst (λ (ts : List TokenKind). VariablesRead depth all x.0 ts)
      (no_comma_is stopped.0 x.1 stopped.2) stopped.1)

variables_soundness : (depth : ℕ) (tokens : List TokenKind)
    → Sound (λ x. VariablesRead depth tokens x.0 x.1) depth tokens (variables depth tokens)
unfolding variables
variables_soundness depth tokens =
    Sound-then (VariableRead depth tokens) (λ x. VariablesRead depth tokens x.0 x.1) depth tokens
    (variable depth tokens) _ (variable_soundness depth tokens) (λ x read.
    more_soundness depth tokens (x.0 ∷ [], x.1) x.2
    (record {
      spelled = read.spelled;
      shape = (read.shape, tt);
      high =
          omega (arith, read.high);
      low = read.low;
    })
    (omega (arith, ap count read.spelled, variable_length x.0 x.2)))

record TypeRead (depth : ℕ) (tokens : List TokenKind)
    (x : tree.VariableType × ℕ × List TokenKind) : Type 0 where
  spelled : tokens ≡ type_spelled x.0 x.2
  shape : IsVariableType x.0
  high : x.1 ≡ type_height x.0
  low : x.1 ≤ depth

int_type_soundness : (depth : ℕ) (past : List TokenKind)
    → Sound (TypeRead depth (token.Keyword keyword.Int ∷ past)) depth
    (token.Keyword keyword.Int ∷ past) (int_type depth past)
unfolding int_type
int_type_soundness depth past =
    let all : List TokenKind = token.Keyword keyword.Int ∷ past in
    let Q : tree.VariableType × ℕ × List TokenKind → Type 0 = TypeRead depth all in
    elim (cases_Bool (is_punctuation punctuation.OpenBracket past)) [
      | inl is ↦
          let starts = punctuation_is punctuation.OpenBracket past is in
          let one : length past ≡ suc (length (tail past)) = ap count starts in
          let read = Sound-then (ClosedRead depth punctuation.CloseBracket (tail past)) Q depth all
          (closed (expression depth) punctuation.CloseBracket (tail past))
          (λ size. Ok (tree.Array size.0, size.1, size.2))
          (closed_within depth depth punctuation.CloseBracket all (tail past) (omega arith)
          (omega arith))
          (λ x size. record {
            spelled = ap (λ (ts : List TokenKind). token.Keyword keyword.Int ∷ ts)
                (starts ∙ ap (λ (ts : List TokenKind). token.Punctuation punctuation.OpenBracket
                ∷ ts) size.spelled);
            shape = size.shape;
            high = size.high;
            low = size.low;
          }) in
          rw is read
      | inr is ↦
          let none : Q (tree.Int, 0, past) =
          record { spelled = refl; shape = tt; high = refl; low = omega arith } in
          rw is none
    ]

type_soundness : (depth : ℕ) (tokens : List TokenKind)
    → Sound (TypeRead depth tokens) depth tokens (variable_type depth tokens)
unfolding variable_type
type_soundness depth (token.Keyword keyword.Boolean ∷ rest) =
    record { spelled = refl; shape = tt; high = refl; low = omega arith }
type_soundness depth (token.Keyword keyword.Int ∷ rest) = int_type_soundness depth rest
type_soundness depth _ = omega arith

-- a declaration, the height of its highest expression and what follows it
pub record DeclaredRead (depth : ℕ) (tokens : List TokenKind)
    (x : (tree.VariableType × List tree.Variable) × ℕ × List TokenKind) : Type 0 where
  pub spelled : tokens ≡ declared_spelled x.0.0 x.0.1 x.2
  pub typed : IsVariableType x.0.0
  pub shape : AreVariables x.0.1
  pub high : x.1 ≡ declared_height x.0.0 x.0.1
  pub low : x.1 ≤ depth

pub declared_soundness : (depth : ℕ) (tokens : List TokenKind)
    → Sound (DeclaredRead depth tokens) depth tokens (declared depth tokens)
unfolding declared
declared_soundness depth tokens =
    Sound-then (TypeRead depth tokens) (DeclaredRead depth tokens) depth tokens
    (variable_type depth tokens) _ (type_soundness depth tokens) (λ kind typed.
    let le : length kind.2 ≤ length tokens =
    omega (arith, ap count typed.spelled, type_length kind.0 kind.2) in
    Sound-then (λ x. VariablesRead depth kind.2 x.0 x.1) (DeclaredRead depth tokens) depth tokens
    (variables depth kind.2) _
    (Sound-on (λ x. VariablesRead depth kind.2 x.0 x.1)
    (λ x. VariablesRead depth kind.2 x.0 x.1) depth depth kind.2 tokens
    (variables depth kind.2) le (omega arith) (variables_soundness depth kind.2) (λ x h. h))
    (λ x read.
    record {
      spelled = typed.spelled ∙ ap (λ (ts : List TokenKind). type_spelled kind.0 ts) read.spelled;
      typed = typed.shape;
      shape = read.shape;
      high = omega (arith, typed.high, read.high);
      low = omega (arith, typed.low, read.low);
    }))

-- ---- expressions and assignments

-- a statement without its semicolon, its height and what follows it
record PartRead (Shape : tree.Stmt → Type 0) (depth : ℕ) (tokens : List TokenKind)
    (x : tree.Stmt × ℕ × List TokenKind) : Type 0 where
  spelled : tokens ≡ part_spelled x.0 x.2
  shape : Shape x.0
  high : x.1 ≡ stmt_height x.0
  low : x.1 ≤ depth

assign_is : (o : AssignOperator) (tokens : List TokenKind) → assign_at tokens ≡ Some o
    → tokens ≡ token.Punctuation (assign_punctuation o) ∷ tail tokens
unfolding assign_at punctuation_at
assign_is o (token.Punctuation punctuation.Assign ∷ rest) e = let same : assign.Set ≡ o = cc in
    ap (λ (p : AssignOperator). token.Punctuation (assign_punctuation p) ∷ rest) same
assign_is o (token.Punctuation punctuation.PlusAssign ∷ rest) e = let same : assign.Add ≡ o = cc in
    ap (λ (p : AssignOperator). token.Punctuation (assign_punctuation p) ∷ rest) same
assign_is o (token.Punctuation punctuation.MinusAssign ∷ rest) e = let same : assign.Subtract ≡ o =
    cc in ap
    (λ (p : AssignOperator).
    token.Punctuation
    (assign_punctuation p)
    ∷ rest) same
assign_is o (token.Punctuation punctuation.StarAssign ∷ rest) e = let same : assign.Multiply ≡ o =
    cc in ap
    (λ (p : AssignOperator).
    token.Punctuation
    (assign_punctuation p)
    ∷ rest) same
assign_is o (token.Punctuation punctuation.SlashAssign ∷ rest) e = let same : assign.Divide ≡ o =
    cc in ap
    (λ (p : AssignOperator).
    token.Punctuation
    (assign_punctuation p)
    ∷ rest) same
assign_is o (token.Punctuation punctuation.PercentAssign ∷ rest) e =
    let same : assign.Remainder ≡ o = cc in
    ap (λ (p : AssignOperator). token.Punctuation (assign_punctuation p) ∷ rest) same
assign_is o _ e = absurd cc

module _ (d : ℕ) (all : List TokenKind) where
  less : suc d - 1 ≡ d
  less = omega arith

  abbrev IsStepRead : tree.Stmt × ℕ × List TokenKind → Type 0
  IsStepRead = PartRead IsStep (suc d) all

  evaluate_soundness : (e : tree.Expr) (h : ℕ) (rest : List TokenKind) → all ≡ expr_spelled e rest
      → IsExpr e → h ≡ expr_height e → h ≤ d → Sound IsStepRead d all (evaluate (suc d) e h rest)
  unfolding evaluate
  evaluate_soundness e h rest spelled shape high low =
      Sound-raised IsStepRead d all (suc d) h _
      (λ lt. record {
        spelled = spelled;
        shape = shape;
        high = ap (λ (n : ℕ). n + 1) high;
        low =
            omega arith;
      })
      (λ le. absurd (omega arith))

  assign_soundness : (x : List ℕ) (o : AssignOperator) (past : List TokenKind)
      → all ≡ token.Name x ∷ token.Punctuation (assign_punctuation o) ∷ past
      → Sound IsStepRead d all (assign_to (suc d) x o past)
  unfolding assign_to
  assign_soundness x o past starts =
      let two : length all ≡ suc (suc (length past)) = ap count starts in
      let read : Sound (ExprRead d lowest_precedence past) d all
      (expression (suc d - 1) lowest_precedence past) =
      rw less (within d d all past (omega arith) (omega arith)) in
      Sound-then (ExprRead d lowest_precedence past) IsStepRead d all
      (expression (suc d - 1) lowest_precedence past) _ read (λ v value.
      Sound-raised IsStepRead d all (suc d) v.1 _
      (λ lt. record {
        spelled = starts ∙ ap (λ (ts : List TokenKind). token.Name x
            ∷ token.Punctuation (assign_punctuation o) ∷ ts) value.spelled;
        shape = value.shape;
        high = ap (λ (n : ℕ). n + 1) value.high;
        low = omega arith;
      }) (λ le. absurd (omega (arith, value.low))))

  element_soundness : (x : List ℕ) (at : tree.Expr) (o : AssignOperator) (past : List TokenKind)
      → all ≡ expr_spelled (tree.Element x at) (token.Punctuation (assign_punctuation o) ∷ past)
      → IsExpr at
      → (h : ℕ) → h ≡ expr_height at + 1 → h ≤ d
      → Sound IsStepRead d all (assign_element (suc d) x at h o past)
  unfolding assign_element
  element_soundness x at o past starts shape h high low =
      let some : length past + 1 ≤ length all =
      omega (
        arith,
        ap count starts,
        expr_length (tree.Element x at) (token.Punctuation (assign_punctuation o) ∷ past),
      ) in
      let read : Sound (ExprRead d lowest_precedence past) d all
      (expression (suc d - 1) lowest_precedence past) =
      rw less (within d d all past (omega arith) (omega arith)) in
      Sound-then (ExprRead d lowest_precedence past) IsStepRead d all
      (expression (suc d - 1) lowest_precedence past) _ read (λ v value.
      Sound-raised IsStepRead d all (suc d) (max h v.1) _
      (λ lt. record {
        spelled = starts ∙ ap (λ (ts : List TokenKind). expr_spelled (tree.Element x at)
            (token.Punctuation (assign_punctuation o) ∷ ts)) value.spelled;
        shape = (shape, value.shape);
        high = omega (arith, high, value.high);
        low = omega arith;
      }) (λ le. absurd (omega (arith, value.low))))

  assignment_soundness : (e : tree.Expr) (h : ℕ) (o : AssignOperator) (past : List TokenKind)
      → all ≡ expr_spelled e past → past ≡ token.Punctuation (assign_punctuation o) ∷ tail past
      → IsExpr e → h ≡ expr_height e → h ≤ d
      → Sound IsStepRead d all (assign_by (suc d) e h o past)
  assignment_soundness (tree.Read x) h o past spelled starts shape high low =
      assign_soundness x o (tail past) (spelled
      ∙ ap (λ (ts : List TokenKind). token.Name x ∷ ts) starts)
  assignment_soundness (tree.Element x at) h o past spelled starts shape high low =
      element_soundness x at o (tail past)
      (spelled ∙ ap (λ (ts : List TokenKind). expr_spelled (tree.Element x at) ts) starts) shape
      h high low
  assignment_soundness e h o past spelled starts shape high low =
      evaluate_soundness e h past spelled shape high low

  after_value_soundness : (e : tree.Expr) (h : ℕ) (past : List TokenKind)
      → all ≡ expr_spelled e past → IsExpr e → h ≡ expr_height e → h ≤ d
      → (o : Option AssignOperator) → assign_at past ≡ o
      → Sound IsStepRead d all (after_value_by (suc d) e h past o)
  unfolding assignment
  after_value_soundness e h past spelled shape high low None is =
      evaluate_soundness e h past spelled shape high low
  after_value_soundness e h past spelled shape high low (Some o) is =
      assignment_soundness e h o past spelled (assign_is o past is) shape high low

  simple_soundness : Sound IsStepRead d all (simple (suc d) all)
  unfolding simple after_value
  simple_soundness =
      let read : Sound (ExprRead d lowest_precedence all) d all
      (expression (suc d - 1) lowest_precedence all) =
      rw less (within d d all all (omega arith) (omega arith)) in
      Sound-then (ExprRead d lowest_precedence all) IsStepRead d all
      (expression (suc d - 1) lowest_precedence all) _ read (λ v value.
      after_value_soundness v.0 v.1 v.2 value.spelled value.shape value.high value.low
      (assign_at v.2) refl)

  optional_soundness : (m : Punctuation) → Sound IsStepRead d all (optional (suc d) m all)
  unfolding optional
  optional_soundness m =
      elim (cases_Bool (is_punctuation m all)) [
        | inl is ↦
            let none : IsStepRead (tree.Empty, 1, all) =
            record { spelled = refl; shape = tt; high = refl; low = omega arith } in
            rw is none
        | inr is ↦ rw is simple_soundness
      ]

  declare_soundness : Sound (PartRead IsFirst (suc d) all) d all (declare (suc d) all)
  unfolding declare
  declare_soundness =
      let read : Sound (DeclaredRead d all) d all (declared (suc d - 1) all) =
      rw less (declared_soundness d all) in
      Sound-then (DeclaredRead d all) (PartRead IsFirst (suc d) all) d all
      (declared (suc d - 1) all) _ read (λ x found.
      Sound-raised (PartRead IsFirst (suc d) all) d all (suc d) x.1 _
      (λ lt. record {
        spelled = found.spelled;
        shape = (found.typed, found.shape);
        high =
            ap (λ (n : ℕ). n + 1) found.high;
        low = omega arith;
      })
      (λ le. absurd (omega (arith, found.low))))

  undeclared : Sound (PartRead IsFirst (suc d) all) d all
      (optional (suc d) punctuation.Semicolon all)
  undeclared =
      Sound-on IsStepRead (PartRead IsFirst (suc d) all) d d all all
      (optional (suc d) punctuation.Semicolon all) (omega arith) (omega arith)
      (optional_soundness punctuation.Semicolon)
      (λ x read. record {
        spelled = read.spelled;
        shape = step_first x.0 read.shape;
        high =
            read.high;
        low = read.low;
      })

part_soundness : (d : ℕ) (tokens : List TokenKind)
    → Sound (PartRead IsFirst (suc d) tokens) d tokens (part (suc d) tokens)
unfolding part
part_soundness d (token.Keyword keyword.Boolean ∷ rest) =
    declare_soundness d (token.Keyword keyword.Boolean ∷ rest)
part_soundness d (token.Keyword keyword.Int ∷ rest) =
    declare_soundness d (token.Keyword keyword.Int ∷ rest)
part_soundness d tokens = undeclared d tokens

-- ---- the parts of a `for`, and statements with a semicolon

-- a part and the punctuation that ends it
pub record EndedRead (Shape : tree.Stmt → Type 0) (m : Punctuation) (depth : ℕ)
    (tokens : List TokenKind) (x : tree.Stmt × ℕ × List TokenKind) : Type 0 where
  pub spelled : tokens ≡ part_spelled x.0 (token.Punctuation m ∷ x.2)
  pub shape : Shape x.0
  pub high : x.1 ≡ stmt_height x.0
  pub low : x.1 ≤ depth

pub ended_soundness : (d : ℕ) (tokens : List TokenKind)
    → Sound (EndedRead IsFirst punctuation.Semicolon (suc d) tokens) d tokens (ended (suc d) tokens)
unfolding ended
ended_soundness d tokens =
    let Q : tree.Stmt × ℕ × List TokenKind → Type 0 =
    EndedRead IsFirst punctuation.Semicolon (suc d) tokens in
    Sound-then (PartRead IsFirst (suc d) tokens) Q d tokens (part (suc d) tokens) _
    (part_soundness d tokens) (λ x read.
    Sound-expect Q d tokens punctuation.Semicolon x.2 _
    (omega (arith, ap count read.spelled, part_length x.0 read.shape x.2, stmt_height_some x.0))
    (λ rest e.
    record {
      spelled = read.spelled ∙ ap (λ (ts : List TokenKind). part_spelled x.0 ts) e;
      shape =
          read.shape;
      high = read.high;
      low = read.low;
    }))

last_soundness : (d : ℕ) (tokens : List TokenKind)
    → Sound (EndedRead IsStep punctuation.CloseParen (suc d) tokens) d tokens
    (last_part (suc d) tokens)
unfolding last_part
last_soundness d tokens =
    let Q : tree.Stmt × ℕ × List TokenKind → Type 0 =
    EndedRead IsStep punctuation.CloseParen (suc d) tokens in
    Sound-then (PartRead IsStep (suc d) tokens) Q d tokens
    (optional (suc d) punctuation.CloseParen tokens) _
    (optional_soundness d tokens punctuation.CloseParen) (λ x read.
    Sound-expect Q d tokens punctuation.CloseParen x.2 _
    (omega (
      arith,
      ap count read.spelled,
      part_length x.0 (step_first x.0 read.shape) x.2,
      stmt_height_some x.0,
    )) (λ rest e.
    record {
      spelled = read.spelled ∙ ap (λ (ts : List TokenKind). part_spelled x.0 ts) e;
      shape =
          read.shape;
      high = read.high;
      low = read.low;
    }))

pub record OptionalRead (depth : ℕ) (tokens : List TokenKind)
    (x : Option tree.Expr × ℕ × List TokenKind) : Type 0 where
  pub spelled : tokens ≡ optional_spelled x.0 (token.Punctuation punctuation.Semicolon ∷ x.2)
  pub shape : IsOptional x.0
  pub high : x.1 ≡ optional_height x.0
  pub low : x.1 ≤ depth

pub optional_value_soundness : (depth : ℕ) (tokens : List TokenKind)
    → Sound (OptionalRead depth tokens) depth tokens (optional_value depth tokens)
unfolding optional_value
optional_value_soundness depth tokens =
    let Q : Option tree.Expr × ℕ × List TokenKind → Type 0 = OptionalRead depth tokens in
    elim (cases_Bool (is_punctuation punctuation.Semicolon tokens)) [
      | inl is ↦
          let none : Q (None, 0, tail tokens) =
          record {
            spelled = punctuation_is punctuation.Semicolon tokens is;
            shape =
                tt;
            high = refl;
            low = omega arith;
          } in
          rw is none
      | inr is ↦
          let read = Sound-then (ClosedRead depth punctuation.Semicolon tokens) Q depth tokens
          (closed (expression depth) punctuation.Semicolon tokens)
          (λ value. Ok (Some value.0, value.1, value.2))
          (closed_within depth depth punctuation.Semicolon tokens tokens (omega arith)
          (omega arith))
          (λ x value. record {
            spelled = value.spelled;
            shape = value.shape;
            high =
                value.high;
            low = value.low;
          }) in
          rw is read
    ]

-- the condition and the step of a `for`
record BehindRead (depth : ℕ) (tokens : List TokenKind)
    (x : (Option tree.Expr × tree.Stmt) × ℕ × List TokenKind) : Type 0 where
  spelled : tokens ≡ optional_spelled x.0.0
      (token.Punctuation punctuation.Semicolon
      ∷ part_spelled x.0.1 (token.Punctuation punctuation.CloseParen ∷ x.2))
  tested : IsOptional x.0.0
  stepped : IsStep x.0.1
  high : x.1 ≡ max (optional_height x.0.0) (stmt_height x.0.1)
  low : x.1 ≤ depth

-- at least one token is before these
past_soundness : (d : ℕ) (all tokens : List TokenKind) → length tokens + 1 ≤ length all
    → Sound (BehindRead (suc d) tokens) d all (after_first (suc d) tokens)
unfolding after_first
past_soundness d all tokens le =
    let Q : (Option tree.Expr × tree.Stmt) × ℕ × List TokenKind → Type 0 =
    BehindRead (suc d) tokens in
    Sound-then (OptionalRead (suc d) tokens) Q d all (optional_value (suc d) tokens) _
    (Sound-on (OptionalRead (suc d) tokens) (OptionalRead (suc d) tokens) (suc d) d tokens all
    (optional_value (suc d) tokens) (omega arith) (omega arith)
    (optional_value_soundness (suc d) tokens)
    (λ y h. h)) (λ y tested.
    let three : length y.2 ≤ length tokens =
    omega (
      arith,
      ap count tested.spelled,
      optional_length y.0 (token.Punctuation punctuation.Semicolon ∷ y.2),
    ) in
    Sound-then (EndedRead IsStep punctuation.CloseParen (suc d) y.2) Q d all
    (last_part (suc d) y.2) _
    (Sound-on (EndedRead IsStep punctuation.CloseParen (suc d) y.2)
    (EndedRead IsStep punctuation.CloseParen (suc d) y.2) d d y.2 all (last_part (suc d) y.2)
    (omega arith) (omega arith) (last_soundness d y.2) (λ z h. h)) (λ z stepped.
    record {
      spelled = tested.spelled ∙ ap (λ (ts : List TokenKind). optional_spelled y.0
          (token.Punctuation punctuation.Semicolon ∷ ts)) stepped.spelled;
      tested = tested.shape;
      stepped = stepped.shape;
      high = omega (arith, tested.high, stepped.high);
      low = omega (arith, tested.low, stepped.low);
    }))

-- the tokens of a step, and of the condition with the step, spell them
pub step_is_spelled : (d : ℕ) (m : Punctuation) (tokens : List TokenKind) (value : tree.Stmt)
    (height : ℕ) (after : List TokenKind) → optional (suc d) m tokens ≡ Ok (value, height, after)
    → tokens ≡ part_spelled value after
step_is_spelled d m tokens value height after is =
    (Sound-ok (PartRead IsStep (suc d) tokens) d tokens (optional (suc d) m tokens)
    (value, height, after) is (optional_soundness d tokens m)).spelled

pub after_first_is_spelled : (d : ℕ) (tokens : List TokenKind)
    (value : Option tree.Expr × tree.Stmt) (height : ℕ) (after : List TokenKind)
    → after_first (suc d) tokens ≡ Ok (value, height, after)
    → tokens ≡ optional_spelled value.0 (token.Punctuation punctuation.Semicolon
    ∷ part_spelled value.1 (token.Punctuation punctuation.CloseParen ∷ after))
after_first_is_spelled d tokens value height after is =
    let all = token.Punctuation punctuation.OpenParen ∷ tokens in
    (Sound-ok (BehindRead (suc d) tokens) d all (after_first (suc d) tokens) (value, height, after)
    is (past_soundness d all tokens (omega arith))).spelled

-- what is in the brackets of a `for`
pub record HeadingRead (depth : ℕ) (tokens : List TokenKind)
    (x : (tree.Stmt × Option tree.Expr × tree.Stmt) × ℕ × List TokenKind) : Type 0 where
  pub spelled : tokens ≡ heading_spelled x.0.0 x.0.1 x.0.2 x.2
  pub begun : IsFirst x.0.0
  pub tested : IsOptional x.0.1
  pub stepped : IsStep x.0.2
  pub high : x.1 ≡ heading_height x.0.0 x.0.1 x.0.2
  pub low : x.1 ≤ depth

pub heading_soundness : (d : ℕ) (tokens : List TokenKind)
    → Sound (HeadingRead (suc d) tokens) d tokens (for_heading (suc d) tokens)
unfolding for_heading
heading_soundness d tokens =
    let Q : (tree.Stmt × Option tree.Expr × tree.Stmt) × ℕ × List TokenKind → Type 0 =
    HeadingRead (suc d) tokens in
    Sound-expect Q d tokens punctuation.OpenParen tokens _ (omega arith) (λ opened e.
    let one : length tokens ≡ suc (length opened) = ap count e in
    Sound-then (EndedRead IsFirst punctuation.Semicolon (suc d) opened) Q d tokens
    (ended (suc d) opened) _
    (Sound-on (EndedRead IsFirst punctuation.Semicolon (suc d) opened)
    (EndedRead IsFirst punctuation.Semicolon (suc d) opened) d d opened tokens
    (ended (suc d) opened) (omega arith) (omega arith) (ended_soundness d opened) (λ x h. h))
    (λ x begun.
    let two : length x.2 ≤ length opened =
    omega (
      arith,
      ap count begun.spelled,
      part_length x.0 begun.shape (token.Punctuation punctuation.Semicolon ∷ x.2),
      stmt_height_some x.0,
    ) in
    Sound-then (BehindRead (suc d) x.2) Q d tokens (after_first (suc d) x.2) _
    (past_soundness d tokens x.2 (omega arith)) (λ y past.
    record {
      spelled = e ∙ ap (λ (ts : List TokenKind). token.Punctuation punctuation.OpenParen ∷ ts)
          (begun.spelled ∙ ap (λ (ts : List TokenKind). part_spelled x.0
          (token.Punctuation punctuation.Semicolon ∷ ts)) past.spelled);
      begun = begun.shape;
      tested = past.tested;
      stepped = past.stepped;
      high = omega (arith, begun.high, past.high);
      low = omega (arith, begun.low, past.low);
    })))

-- ---- an expression in brackets

-- the expression, its height and what follows the bracket
pub record BracketedRead (depth : ℕ) (tokens : List TokenKind)
    (x : tree.Expr × ℕ × List TokenKind) : Type 0 where
  pub spelled : tokens ≡ bracketed_spelled x.0 x.2
  pub shape : IsExpr x.0
  pub high : x.1 ≡ expr_height x.0
  pub low : x.1 ≤ depth

-- the same with a semicolon, and the height of a node above it
pub record ArgumentRead (depth : ℕ) (tokens : List TokenKind)
    (x : tree.Expr × ℕ × List TokenKind) : Type 0 where
  pub spelled : tokens ≡ bracketed_spelled x.0 (token.Punctuation punctuation.Semicolon ∷ x.2)
  pub shape : IsExpr x.0
  pub high : x.1 ≡ expr_height x.0 + 1
  pub low : x.1 ≤ depth

pub bracketed_soundness : (d : ℕ) (tokens : List TokenKind)
    → Sound (BracketedRead d tokens) d tokens (bracketed (suc d) tokens)
unfolding bracketed
bracketed_soundness d tokens =
    Sound-expect (BracketedRead d tokens) d tokens punctuation.OpenParen tokens _ (omega arith)
    (λ inside e.
    let one : length tokens ≡ suc (length inside) = ap count e in
    let same : suc d - 1 ≡ d = omega arith in
    rw same (Sound-on (ClosedRead d punctuation.CloseParen inside)
    (BracketedRead d tokens) d d inside tokens
    (closed (expression d) punctuation.CloseParen inside) (omega arith) (omega arith)
    (closed_soundness d (expression d) (expression_soundness d) punctuation.CloseParen inside)
    (λ x value. record {
      spelled = e ∙ ap
          (λ (ts : List TokenKind). token.Punctuation punctuation.OpenParen ∷ ts) value.spelled;
      shape =
          value.shape;
      high = value.high;
      low = value.low;
    })))

pub argument_soundness : (d : ℕ) (tokens : List TokenKind)
    → Sound (ArgumentRead (suc d) tokens) d tokens (argument (suc d) tokens)
unfolding argument
argument_soundness d tokens =
    let Q : tree.Expr × ℕ × List TokenKind → Type 0 = ArgumentRead (suc d) tokens in
    Sound-then (BracketedRead d tokens) Q d tokens (bracketed (suc d) tokens) _
    (bracketed_soundness d tokens) (λ x value.
    let long : length x.2 ≤ length tokens =
    omega (
      arith,
      ap count value.spelled,
      expr_length x.0 (token.Punctuation punctuation.CloseParen ∷ x.2),
    ) in
    Sound-expect Q d tokens punctuation.Semicolon x.2 _ long (λ rest e.
    Sound-raised Q d tokens (suc d) x.1 _
    (λ lt. record {
      spelled = value.spelled
          ∙ ap (λ (ts : List TokenKind). bracketed_spelled x.0 ts) e;
      shape = value.shape;
      high =
          ap (λ (n : ℕ). n + 1) value.high;
      low = omega arith;
    })
    (λ le. absurd (omega (arith, value.low)))))
