-- The statements that the judgement accepts are closed.
use Rattle.std.proofs.Common.{◌≡◌, ℕ, zero, suc, ◌≤◌, Bool, true, false, ◌||◌, cond, not, ℤ, pos}
use Rattle.std.proofs.Common.{negsuc, List, [], ◌∷◌, length, Option, Some, None, Result, Ok, Err}
use Rattle.std.proofs.Common.{refl, ap, ◌∙◌, arith, subst}
use Rattle.std.specs.Prelude.{IsNone, IsFalse, bytes_eq}
use Rattle.std.specs.Int.RustNames.{int_lt}
use Rattle.strc_lex_names.specs.Results.{result_and_then}
use Rattle.strc_parse_tree.specs.Tree as tree
use Rattle.strc_parse_tree.specs.declared.tree.AssignOperator.{AssignOperator}
use Rattle.strc_parse_tree.specs.declared.tree.HelperType.{HelperType}
use Rattle.strc_work_rules.specs.declared.error.LowerError.{LowerError}
use Rattle.strc_work_meaning.specs.declared.fault.Cause.TheVariants.{Index}
use Rattle.strc_work_rules.specs.declared.error.LowerErrorKind.TheVariants as refused
use Rattle.strc_work_rules.specs.declared.type_rules.TheConstants.{LENGTH_LIMIT}
use Rattle.strc_work_meaning.specs.declared.types.ValueType.{ValueType}
use Rattle.strc_work_meaning.specs.declared.types.ValueType.TheVariants.{Int, Boolean, Array}
use Rattle.strc_lex_names.specs.Names.{has_name}
use Rattle.strc_work_meaning.specs.Scoping as plain
use Rattle.strc_work_meaning.specs.Scoping.{Scope, cells_of, is_declared, answer_name}
use Rattle.strc_work_meaning.specs.Filters.{stmt_prints, stmts_print}
use Rattle.strc_work_meaning.specs.Returns.{stmt_returns, stmts_return, variables_shadow}
use Rattle.strc_work_meaning.specs.Returns.{stmt_shadows}
use Rattle.strc_work_meaning.specs.Returns.{stmts_shadow, expr_answers, option_answers}
use Rattle.strc_work_meaning.specs.Returns.{variables_answer}
use Rattle.strc_work_meaning.specs.Returns.{stmt_answers, stmts_answer}
use Rattle.strc_work_meaning.specs.Typing as typing
use Rattle.strc_work_meaning.specs.Typing.{TypedNames, same_type, is_array, type_of, names_with}
use Rattle.strc_work_meaning.specs.Typing.{block_names}
use Rattle.strc_work_rules.specs.Resolution.{Context, ResolvedType, where_kept, expect_type}
use Rattle.strc_work_rules.specs.Resolution.{type_resolved, array_type, number_resolved}
use Rattle.strc_work_rules.specs.Resolution.{write_resolved, array_resolved}
use Rattle.strc_work_rules.specs.Resolution.{expr_resolved}
use Rattle.strc_work_rules.specs.Resolution.{expr_as, initial_resolved, is_taken, local_resolved}
use Rattle.strc_work_rules.specs.Resolution.{variables_resolved, assigned_type}
use Rattle.strc_work_rules.specs.Resolution.{element_assign_resolved}
use Rattle.strc_work_rules.specs.Resolution.{given_resolved, stmt_resolved, stmts_resolved}
use Rattle.strc_work_rules.specs.Resolution.{evaluated, returned_as}
use Rattle.strc_work_rules.specs.Resolution.{returned}
use Rattle.strc_work_rules.specs.Signatures.{given_type}
use Rattle.strc_work_meaning.specs.Closed.{IsNamed, IsClosedInitial}
use Rattle.strc_work_meaning.specs.Closed.{FitsInitial, AreClosedVariables, IsClosedStmt, AreClosed}
pub use Rattle.strc_work_rules.proofs.ResolvingExpressions.{Gives, then_gives, any_gives}
pub use Rattle.strc_work_rules.proofs.ResolvingExpressions.{kept_gives}
use Rattle.strc_work_rules.proofs.ResolvingExpressions.{Sees, HasAnswer, neither, sees_more}
use Rattle.strc_work_rules.proofs.Unanswered.{both_give, gives_more, IsSparing, IsSparingInitial}
use Rattle.strc_work_rules.proofs.Unanswered.{IsOther, written_other, array_other, as_spares}
use Rattle.strc_work_rules.proofs.Unanswered.{initial_given, evaluated_spares}

-- how many cells a variable of a type has: a number or a truth value one, an array at least one
abbrev pub FitsType : ValueType → (cells : ℕ) → Type 0
FitsType Int cells = cells ≡ 1
FitsType Boolean cells = cells ≡ 1
FitsType Array cells = 1 ≤ cells

one_cell : (cells : ℕ) → cells ≡ 1 → 1 ≤ cells
one_cell cells e = omega arith

-- no value is an array
no_array : (kind : ValueType) (value : tree.Expr) → Gives (λ (v : tree.Expr). ⊥)
    (where_kept (same_type kind Array) (Ok value))
no_array Int value = tt
no_array Boolean value = tt
no_array Array value = tt

-- an initialiser fits the cells of its variable
initial_fits : (context : Context) (names : TypedNames) (kind : ValueType) (cells : ℕ)
    (initial : Option tree.Expr) → FitsType kind cells → Gives (FitsInitial cells)
    (initial_resolved context names kind initial)
initial_fits context names Int cells None fits = one_cell cells fits
initial_fits context names Boolean cells None fits = one_cell cells fits
initial_fits context names Array cells None fits = fits
initial_fits context names Int cells (Some value) fits = any_gives (FitsInitial cells)
    (expr_as context names Int value) (λ v. Ok (Some v)) (λ v. fits)
initial_fits context names Boolean cells (Some value) fits = any_gives (FitsInitial cells)
    (expr_as context names Boolean value) (λ v. Ok (Some v)) (λ v. fits)
initial_fits context names Array cells (Some value) fits =
    then_gives (λ (v : tree.Expr). ⊥) (FitsInitial cells) (expr_as context names Array value)
    (λ v. Ok (Some v))
    (any_gives (λ (v : tree.Expr). ⊥) (expr_resolved context names value)
    (λ typed. expect_type Array typed) (λ typed. no_array typed.kind typed.value))
    (λ v h. absurd h)

-- the cells of a declared type, and what its names stand for
abbrev pub FitsDeclared : tree.VariableType → ResolvedType → Type 0
FitsDeclared kind resolved = FitsType resolved.kind (cells_of resolved.written) ×
    (resolved.kind ≡ type_of kind)

array_fits : (length : tree.Expr) (number : ℤ) → Gives (FitsDeclared (tree.Array length))
    (array_type number)
array_fits length (negsuc n) = tt
array_fits length (pos zero) = tt
array_fits length (pos (suc n)) = by_test
    (int_lt (pos (suc n)) (pos 1) || int_lt LENGTH_LIMIT (pos (suc n)))
  where
    by_test : (t : Bool) → Gives (FitsDeclared (tree.Array length))
        (cond t (Err (refused.ConstFault Index))
        (Ok (record { kind = Array; written = tree.Array (tree.Number (pos (suc n))) })))
    by_test true = tt
    by_test false = let some : 1 ≤ suc n = omega arith in (some, refl)

pub type_gives : (constants : List (List ℕ × ℤ)) (names : TypedNames) (kind : tree.VariableType) →
    Gives (FitsDeclared kind) (type_resolved constants names kind)
type_gives constants names tree.Boolean = (refl, refl)
type_gives constants names tree.Int = (refl, refl)
type_gives constants names (tree.Array length) = any_gives (FitsDeclared (tree.Array length))
    (number_resolved constants names length) (λ number. array_type number)
    (λ number. array_fits length number)

-- what returns is in a helper function, what prints is where that may be, and nothing shadows a
-- helper function's answer or writes it
abbrev pub IsFit : Context → (returns prints shadows answers : Bool) → Type 0
IsFit context returns prints shadows answers =
    (IsNone context.returns → returns ≡ false) × (IsFalse context.prints → prints ≡ false)
    × (shadows ≡ false) × (answers ≡ false)

fit_none : (context : Context) (answers : Bool) → answers ≡ false
    → IsFit context false false false answers
fit_none context answers e = record { 0 = λ n. refl; 1 = λ n. refl; 2 = refl; 3 = e }

-- inside a text that writes no answer either
fit_after : (context : Context) (first r p h a : Bool) → first ≡ false → IsFit context r p h a
    → IsFit context r p h (first || a)
fit_after context first r p h a e fit = record {
  0 = fit.0;
  1 = fit.1;
  2 = fit.2;
  3 = neither first a e fit.3;
}

fit_both : (context : Context) (r p h a r' p' h' a' : Bool) → IsFit context r p h a
    → IsFit context r' p' h' a' → IsFit context (r || r') (p || p') (h || h') (a || a')
fit_both context r p h a r' p' h' a' fit fit' = record {
  0 = λ n. neither r r' (fit.0 n) (fit'.0 n);
  1 = λ n. neither p p' (fit.1 n) (fit'.1 n);
  2 = neither h h' fit.2 fit'.2;
  3 = neither a a' fit.3 fit'.3;
}

abbrev FitsStmt : Context → tree.Stmt → Type 0
FitsStmt context s =
    IsFit context (stmt_returns s) (stmt_prints s) (stmt_shadows s) (stmt_answers s)

abbrev FitsStmts : Context → tree.Stmts → Type 0
FitsStmts context b =
    IsFit context (stmts_return b) (stmts_print b) (stmts_shadow b) (stmts_answer b)

-- after an expression that writes no answer
fit_inside : (context : Context) (e : tree.Expr) (s : tree.Stmt) → expr_answers e ≡ false
    → FitsStmt context s → IsFit context (stmt_returns s) (stmt_prints s) (stmt_shadows s)
    (expr_answers e || stmt_answers s)
fit_inside context e s none fit =
    fit_after context (expr_answers e) (stmt_returns s) (stmt_prints s) (stmt_shadows s)
    (stmt_answers s) none fit

fit_two : (context : Context) (s s' : tree.Stmt) → FitsStmt context s → FitsStmt context s'
    → IsFit context (stmt_returns s || stmt_returns s') (stmt_prints s || stmt_prints s')
    (stmt_shadows s || stmt_shadows s') (stmt_answers s || stmt_answers s')
fit_two context s s' fit fit' =
    fit_both context (stmt_returns s) (stmt_prints s) (stmt_shadows s) (stmt_answers s)
    (stmt_returns s') (stmt_prints s') (stmt_shadows s') (stmt_answers s') fit fit'

-- a choice between two statements
fit_either : (context : Context) (e : tree.Expr) (s s' : tree.Stmt) → expr_answers e ≡ false
    → FitsStmt context s → FitsStmt context s' → FitsStmt context (tree.IfElse e s s')
fit_either context e s s' none fit fit' =
    fit_after context (expr_answers e) (stmt_returns s || stmt_returns s')
    (stmt_prints s || stmt_prints s') (stmt_shadows s || stmt_shadows s')
    (stmt_answers s || stmt_answers s') none (fit_two context s s' fit fit')

-- a loop
fit_loop : (context : Context) (first : tree.Stmt) (condition : Option tree.Expr)
    (step body : tree.Stmt) → FitsStmt context first → option_answers condition ≡ false
    → FitsStmt context step → FitsStmt context body
    → FitsStmt context (tree.For first condition step body)
fit_loop context first condition step body fit none fit' fit'' =
    fit_both context (stmt_returns first) (stmt_prints first) (stmt_shadows first)
    (stmt_answers first) (stmt_returns step || stmt_returns body)
    (stmt_prints step || stmt_prints body) (stmt_shadows step || stmt_shadows body)
    (option_answers condition || (stmt_answers step || stmt_answers body)) fit
    (fit_after context (option_answers condition) (stmt_returns step || stmt_returns body)
    (stmt_prints step || stmt_prints body) (stmt_shadows step || stmt_shadows body)
    (stmt_answers step || stmt_answers body) none (fit_two context step body fit' fit''))

-- a closed statement after which the same names can be seen
abbrev IsLike : Context → Scope → TypedNames → tree.Stmt → tree.Stmt → Type 0
IsLike context scope names s s' = IsClosedStmt scope s'
    × Sees context (plain.names_after scope s') (typing.names_after names s)
    × FitsStmt context s'

-- closed statements
abbrev pub AreLike : Context → Scope → tree.Stmts → Type 0
AreLike context scope b = AreClosed scope b × FitsStmts context b

-- a test that is kept holds of what follows
pub kept_known : {B : Type 0} (Q : B → Type 0) (kept : Bool) (next : Result B LowerError)
    → (kept ≡ true → Gives Q next) → Gives Q (where_kept kept next)
kept_known Q true next h = h refl
kept_known Q false next h = tt

pub not_first : (a b : Bool) → not (a || b) ≡ true → a ≡ false
not_first true b e = absurd (cc)
not_first false b e = refl

-- a closed variable of the same name, whose initialiser doesn't write a helper function's answer
abbrev pub IsLikeVariable : Scope → (cells : ℕ) → tree.Variable → tree.Variable → Type 0
IsLikeVariable scope cells variable variable' = IsClosedInitial scope variable'.initial ×
    FitsInitial cells variable'.initial × (variable'.name ≡ variable.name)
    × (option_answers variable'.initial ≡ false)

pub initial_like : (context : Context) (scope : Scope) (names : TypedNames) (kind : ValueType)
    (cells : ℕ) (variable : tree.Variable) → Sees context scope names → FitsType kind cells → Gives
    (IsLikeVariable scope cells variable)
    (result_and_then (initial_resolved context names kind variable.initial)
    (λ i. Ok (record { name = variable.name; initial = i })))
initial_like context scope names kind cells variable sees fits =
    let initial = initial_resolved context names kind variable.initial in
    then_gives (λ (i : Option tree.Expr). IsSparingInitial scope i × FitsInitial cells i)
    (IsLikeVariable scope cells variable) initial
    (λ i. Ok (record { name = variable.name; initial = i }))
    (both_give (IsSparingInitial scope) (FitsInitial cells) initial
    (initial_given context scope names kind variable.initial sees)
    (initial_fits context names kind cells variable.initial fits))
    (λ i h. record { 0 = h.0.0; 1 = h.1; 2 = refl; 3 = h.0.1 })

-- a closed variable of the same name, which isn't that of a helper function's answer
abbrev IsLikeLocal : Scope → (cells : ℕ) → tree.Variable → tree.Variable → Type 0
IsLikeLocal scope cells variable variable' =
    IsLikeVariable scope cells variable variable' × (bytes_eq variable'.name answer_name ≡ false)

-- a name that isn't taken isn't the answer's
pub not_answer : (names : TypedNames) (outer : ℕ) (name name' : List ℕ) → name' ≡ name
    → not (is_taken names outer name) ≡ true → bytes_eq name' answer_name ≡ false
not_answer names outer name name' same free =
    ap (λ n. bytes_eq n answer_name) same
    ∙ not_first (bytes_eq name answer_name) (has_name (block_names outer names) name) free

variable_gives : (context : Context) (scope : Scope) (names : TypedNames) (outer : ℕ)
    (kind : ValueType) (cells : ℕ) (variable : tree.Variable) → Sees context scope names
    → FitsType kind cells → Gives (IsLikeLocal scope cells variable)
    (local_resolved context names outer kind variable)
variable_gives context scope names outer kind cells variable sees fits =
    let next = result_and_then (initial_resolved context names kind variable.initial)
    (λ i. Ok (record { name = variable.name; initial = i })) in
    kept_known (IsLikeLocal scope cells variable) (not (is_taken names outer variable.name)) next
    (λ free. gives_more (IsLikeVariable scope cells variable) (IsLikeLocal scope cells variable)
    next (λ v h. (h, not_answer names outer variable.name v.name h.2 free))
    (initial_like context scope names kind cells variable sees fits))

-- closed variables that declare the same names
abbrev AreLikeVariables : Context → Scope → TypedNames → ValueType → (cells : ℕ)
    → List tree.Variable → List tree.Variable → Type 0
AreLikeVariables context scope names kind cells variables variables' =
    AreClosedVariables scope cells variables'
    × Sees context (plain.with_declared scope cells variables')
    (typing.with_declared names kind variables)
    × (variables_shadow variables' ≡ false) × (variables_answer variables' ≡ false)

variables_gives : (context : Context) (scope : Scope) (names : TypedNames) (outer : ℕ)
    (kind : ValueType) (cells : ℕ) (variables : List tree.Variable) → Sees context scope names
    → FitsType kind cells → Gives (AreLikeVariables context scope names kind cells variables)
    (variables_resolved context names outer kind variables)
variables_gives context scope names outer kind cells [] sees fits =
    record { 0 = tt; 1 = sees; 2 = refl; 3 = refl }
variables_gives context scope names outer kind cells (first ∷ rest) sees fits =
    let inner : TypedNames = record { 0 = first.name; 1 = kind } ∷ names in
    let like = AreLikeVariables context scope names kind cells (first ∷ rest) in
    then_gives (IsLikeLocal scope cells first) like
    (local_resolved context names outer kind first)
    (λ f. result_and_then (variables_resolved context inner outer kind rest)
    (λ r. Ok (f ∷ r))) (variable_gives context scope names outer kind cells first sees
    fits) (λ f h.
    let inside : Scope = record { 0 = f.name; 1 = cells } ∷ scope in
    then_gives (AreLikeVariables context inside inner kind cells rest) like
    (variables_resolved context inner outer kind rest) (λ r. Ok (f ∷ r))
    (variables_gives context inside inner outer kind cells rest
    (sees_more context scope names first.name f.name cells kind h.0.2 h.1 sees) fits) (λ r h'.
    record {
      0 = record { 0 = h.0.0; 1 = h.0.1; 2 = h'.0 };
      1 = h'.1;
      2 = neither (bytes_eq f.name answer_name) (variables_shadow r) h.1 h'.2;
      3 = neither (option_answers f.initial) (variables_answer r) h.0.3 h'.3;
    }))

-- a declaration
declare_gives : (context : Context) (scope : Scope) (names : TypedNames) (outer : ℕ)
    (kind : tree.VariableType) (variables : List tree.Variable) → Sees context scope names → Gives
    (IsLike context scope names (tree.Declare kind variables))
    (stmt_resolved context names outer (tree.Declare kind variables))
declare_gives context scope names outer kind variables sees =
    let like = IsLike context scope names (tree.Declare kind variables) in
    then_gives (FitsDeclared kind) like (type_resolved context.constants names kind)
    (λ t. result_and_then (variables_resolved context names outer t.kind variables)
    (λ v. Ok (tree.Declare t.written v))) (type_gives context.constants names kind)
    (λ t fits.
    then_gives (AreLikeVariables context scope names t.kind (cells_of t.written) variables) like
    (variables_resolved context names outer t.kind variables)
    (λ v. Ok (tree.Declare t.written v))
    (variables_gives context scope names outer t.kind (cells_of t.written) variables
    sees fits.0) (λ v h.
    record {
      0 = h.0;
      1 = subst (λ k. Sees context (plain.with_declared scope (cells_of t.written) v)
          (typing.with_declared names k variables)) fits.1 h.1;
      2 = record { 0 = λ n. refl; 1 = λ n. refl; 2 = h.2; 3 = h.3 };
    }))

given_like : (context : Context) (scope : Scope) (names : TypedNames) (may : Bool) (e : tree.Expr)
    (s : tree.Stmt) (wrap : tree.Expr → tree.Stmt) → Sees context scope names
    → (may ≡ true → (e' : tree.Expr) → IsSparing scope e'
    → IsLike context scope names s (wrap e'))
    → Gives (IsLike context scope names s)
    (result_and_then (given_resolved context names may e) (λ e'. Ok (wrap e')))
given_like context scope names may e s wrap sees like =
    let closed : tree.Expr → Type 0 = λ e'. (may ≡ true) × IsSparing scope e' in
    then_gives closed (IsLike context scope names s) (given_resolved context names may e)
    (λ e'. Ok (wrap e')) (kept_known closed may (expr_as context names Int e) (λ kept.
    gives_more (IsSparing scope) closed (expr_as context names Int e) (λ e' h. (kept, h))
    (as_spares context scope names Int e sees))) (λ e' h. like h.0 e' h.1)

-- an assignment to an element
element_assign_gives : (context : Context) (scope : Scope) (names : TypedNames) (name : List ℕ)
    (index : tree.Expr) (operator : AssignOperator) (value : tree.Expr) → Sees context scope names
    → Gives
    (IsLike context scope names (tree.AssignElement name index operator value))
    (element_assign_resolved context names name index operator value)
element_assign_gives context scope names name index operator value sees =
    let like = IsLike context scope names (tree.AssignElement name index operator value) in
    then_gives (IsOther scope) like (array_resolved context names name)
    (λ n. result_and_then (expr_as context names Int index)
    (λ i. result_and_then (expr_as context names Int value)
    (λ v. Ok (tree.AssignElement n i operator v))))
    (array_other context scope names name sees) (λ n h.
    then_gives (IsSparing scope) like (expr_as context names Int index)
    (λ i. result_and_then (expr_as context names Int value)
    (λ v. Ok (tree.AssignElement n i operator v)))
    (as_spares context scope names Int index sees) (λ i h'.
    then_gives (IsSparing scope) like (expr_as context names Int value)
    (λ v. Ok (tree.AssignElement n i operator v))
    (as_spares context scope names Int value sees)
    (λ v h''. record {
      0 = record { 0 = h.0; 1 = h'.0; 2 = h''.0 };
      1 = sees;
      2 = fit_none context (bytes_eq answer_name n || (expr_answers i || expr_answers v))
          (neither (bytes_eq answer_name n) (expr_answers i || expr_answers v) h.1
          (neither (expr_answers i) (expr_answers v) h'.1 h''.1));
    })))

-- what is returned where this type is wanted
returned_as_gives : (context : Context) (scope : Scope) (names : TypedNames)
    (kind : Option ValueType) (value : Option tree.Expr) → Sees context scope names
    → Gives (IsSparingInitial scope) (returned_as context names kind value)
returned_as_gives context scope names None None sees = (tt, refl)
returned_as_gives context scope names None (Some value) sees = tt
returned_as_gives context scope names (Some kind) None sees = tt
returned_as_gives context scope names (Some kind) (Some value) sees =
    initial_given context scope names kind (Some value) sees

-- a closed value, in a helper function with its answer, which the value itself doesn't write
abbrev IsAnswer : Option HelperType → Scope → Option tree.Expr → Type 0
IsAnswer returns scope value = (IsNamed scope answer_name × IsClosedInitial scope value)
    × (IsNone returns → ⊥) × (option_answers value ≡ false)

some_is : true ≡ false → ⊥
some_is e = cc

both_ways : {t : Bool} → t ≡ true → t ≡ false → ⊥
both_ways e f = cc

returned_gives : (context : Context) (scope : Scope) (names : TypedNames)
    (returns : Option HelperType) (value : Option tree.Expr) → Sees context scope names
    → HasAnswer returns scope
    → Gives (IsAnswer returns scope) (returned context names returns value)
returned_gives context scope names None value sees answer = tt
returned_gives context scope names (Some kind) value sees answer =
    weaker (returned_as context names (given_type kind) value)
    (returned_as_gives context scope names (given_type kind) value sees)
  where
    weaker : (r : Result (Option tree.Expr) LowerError) → Gives (IsSparingInitial scope) r
        → Gives (IsAnswer (Some kind) scope) r
    weaker (Ok v) h = record { 0 = (answer, h.0); 1 = λ n. some_is n; 2 = h.1 }
    weaker (Err e) h = tt

mutual
  stmt_gives : (context : Context) (scope : Scope) (names : TypedNames) (outer : ℕ) (s : tree.Stmt)
      → Sees context scope names → Gives (IsLike context scope names s)
      (stmt_resolved context names outer s)
  stmt_gives context scope names outer tree.Empty sees =
      record { 0 = tt; 1 = sees; 2 = fit_none context false refl }
  stmt_gives context scope names outer (tree.Compose statement) sees = tt
  stmt_gives context scope names outer (tree.Block body) sees =
      then_gives (AreLike context scope) (IsLike context scope names (tree.Block body))
      (stmts_resolved context names (length names) body) (λ b. Ok (tree.Block b))
      (stmts_gives context scope names (length names) body sees)
      (λ b h. record { 0 = h.0; 1 = sees; 2 = h.1 })
  stmt_gives context scope names outer (tree.Declare kind variables) sees = declare_gives context
      scope names outer kind variables sees
  stmt_gives context scope names outer (tree.Evaluate value) sees =
      then_gives (IsSparing scope) (IsLike context scope names (tree.Evaluate value))
      (evaluated context names value) (λ v. Ok (tree.Evaluate v))
      (evaluated_spares context scope names value sees)
      (λ v h. record { 0 = h.0; 1 = sees; 2 = fit_none context (expr_answers v) h.1 })
  stmt_gives context scope names outer (tree.Assign name operator value) sees =
      let like = IsLike context scope names (tree.Assign name operator value) in
      then_gives (λ (kind : ValueType). IsOther scope name) like
      (write_resolved context names name)
      (λ kind. result_and_then (assigned_type operator kind)
      (λ kind'. result_and_then (expr_as context names kind' value)
      (λ v. Ok (tree.Assign name operator v))))
      (written_other context scope names name sees)
      (λ kind h.
      any_gives like (assigned_type operator kind)
      (λ kind'. result_and_then (expr_as context names kind' value)
      (λ v. Ok (tree.Assign name operator v))) (λ kind'.
      then_gives (IsSparing scope) like (expr_as context names kind' value)
      (λ v. Ok (tree.Assign name operator v))
      (as_spares context scope names kind' value sees) (λ v h'.
      record {
        0 = (h.0, h'.0);
        1 = sees;
        2 = fit_none context (bytes_eq answer_name name || expr_answers v)
            (neither (bytes_eq answer_name name) (expr_answers v) h.1 h'.1);
      })))
  stmt_gives context scope names outer (tree.AssignElement name index operator value) sees =
      element_assign_gives context scope names name index operator value sees
  stmt_gives context scope names outer (tree.If condition chosen) sees =
      let like = IsLike context scope names (tree.If condition chosen) in
      then_gives (IsSparing scope) like (expr_as context names Boolean condition)
      (λ c. result_and_then (stmt_resolved context names (length names) chosen)
      (λ t. Ok (tree.If c t))) (as_spares context scope names Boolean condition sees)
      (λ c h.
      then_gives (IsLike context scope names chosen) like
      (stmt_resolved context names (length names) chosen) (λ t. Ok (tree.If c t))
      (stmt_gives context scope names (length names) chosen sees)
      (λ t h'. record {
        0 = (h.0, h'.0);
        1 = sees;
        2 = fit_inside context c t h.1 h'.2;
      }))
  stmt_gives context scope names outer (tree.IfElse condition chosen other) sees =
      let like = IsLike context scope names (tree.IfElse condition chosen other) in
      then_gives (IsSparing scope) like (expr_as context names Boolean condition)
      (λ c. result_and_then (stmt_resolved context names (length names) chosen)
      (λ t. result_and_then (stmt_resolved context names (length names) other)
      (λ o. Ok (tree.IfElse c t o))))
      (as_spares context scope names Boolean condition sees) (λ c h.
      then_gives (IsLike context scope names chosen) like
      (stmt_resolved context names (length names) chosen)
      (λ t. result_and_then (stmt_resolved context names (length names) other)
      (λ o. Ok (tree.IfElse c t o)))
      (stmt_gives context scope names (length names) chosen sees) (λ t h'.
      then_gives (IsLike context scope names other) like
      (stmt_resolved context names (length names) other)
      (λ o. Ok (tree.IfElse c t o)) (stmt_gives context scope names (length names) other sees)
      (λ o h''. record {
        0 = record { 0 = h.0; 1 = h'.0; 2 = h''.0 };
        1 = sees;
        2 = fit_either context c t o h.1 h'.2 h''.2;
      })))
  stmt_gives context scope names outer (tree.While condition body) sees =
      let like = IsLike context scope names (tree.While condition body) in
      then_gives (IsSparing scope) like (expr_as context names Boolean condition)
      (λ c. result_and_then (stmt_resolved context names (length names) body)
      (λ b. Ok (tree.While c b)))
      (as_spares context scope names Boolean condition sees) (λ c h.
      then_gives (IsLike context scope names body) like
      (stmt_resolved context names (length names) body)
      (λ b. Ok (tree.While c b)) (stmt_gives context scope names (length names) body sees)
      (λ b h'. record {
        0 = (h.0, h'.0);
        1 = sees;
        2 = fit_inside context c b h.1 h'.2;
      }))
  stmt_gives context scope names outer (tree.For first condition step body) sees =
      let inner = typing.names_after names first in
      let count = length inner in
      let like = IsLike context scope names (tree.For first condition step body) in
      then_gives (IsLike context scope names first) like
      (stmt_resolved context names (length names) first)
      (λ f. result_and_then (initial_resolved context inner Boolean condition)
      (λ c. result_and_then (stmt_resolved context inner count step)
      (λ s. result_and_then (stmt_resolved context inner count body)
      (λ b. Ok (tree.For f c s b)))))
      (stmt_gives context scope names (length names) first sees) (λ f h.
      let inside = plain.names_after scope f in
      then_gives (IsSparingInitial inside) like (initial_resolved context inner Boolean condition)
      (λ c. result_and_then (stmt_resolved context inner count step)
      (λ s. result_and_then (stmt_resolved context inner count body)
      (λ b. Ok (tree.For f c s b))))
      (initial_given context inside inner Boolean condition h.1) (λ c hc.
      then_gives (IsLike context inside inner step) like (stmt_resolved context inner count step)
      (λ s. result_and_then (stmt_resolved context inner count body)
      (λ b. Ok (tree.For f c s b))) (stmt_gives context inside inner count step h.1)
      (λ s hs.
      then_gives (IsLike context inside inner body) like (stmt_resolved context inner count body)
      (λ b. Ok (tree.For f c s b)) (stmt_gives context inside inner count body h.1) (λ b hb.
      record {
        0 = record { 0 = h.0; 1 = hc.0; 2 = hs.0; 3 = hb.0 };
        1 = sees;
        2 = fit_loop context f c s b h.2 hc.1 hs.2 hb.2;
      }))))
  stmt_gives context scope names outer (tree.Push value) sees =
      given_like context scope names context.pushes value (tree.Push value) tree.Push sees
      (λ may e h. record { 0 = h.0; 1 = sees; 2 = fit_none context (expr_answers e) h.1 })
  stmt_gives context scope names outer (tree.Print value) sees =
      given_like context scope names context.prints value (tree.Print value) tree.Print sees
      (λ may e h. record {
        0 = h.0;
        1 = sees;
        2 = record {
          0 = λ n. refl;
          1 = λ n. absurd (both_ways may n);
          2 = refl;
          3 = h.1;
        };
      })
  stmt_gives context scope names outer (tree.Println value) sees =
      given_like context scope names context.prints value (tree.Println value) tree.Println sees
      (λ may e h. record {
        0 = h.0;
        1 = sees;
        2 = record {
          0 = λ n. refl;
          1 = λ n. absurd (both_ways may n);
          2 = refl;
          3 = h.1;
        };
      })
  stmt_gives context scope names outer (tree.Return value) sees =
      then_gives (IsAnswer context.returns scope) (IsLike context scope names (tree.Return value))
      (returned context names context.returns value) (λ v. Ok (tree.Return v))
      (returned_gives context scope names context.returns value sees sees.1)
      (λ v h. record {
        0 = h.0;
        1 = sees;
        2 = record { 0 = λ n. absurd (h.1 n); 1 = λ n. refl; 2 = refl; 3 = h.2 };
      })

  pub stmts_gives : (context : Context) (scope : Scope) (names : TypedNames) (outer : ℕ)
      (b : tree.Stmts) → Sees context scope names → Gives (AreLike context scope)
      (stmts_resolved context names outer b)
  stmts_gives context scope names outer tree.Done sees = (tt, fit_none context false refl)
  stmts_gives context scope names outer (tree.Then first rest) sees =
      let inner = typing.names_after names first in
      then_gives (IsLike context scope names first) (AreLike context scope)
      (stmt_resolved context names outer first)
      (λ f. result_and_then (stmts_resolved context inner outer rest)
      (λ r. Ok (tree.Then f r))) (stmt_gives context scope names outer first sees)
      (λ f h.
      then_gives (AreLike context (plain.names_after scope f)) (AreLike context scope)
      (stmts_resolved context inner outer rest) (λ r. Ok (tree.Then f r))
      (stmts_gives context (plain.names_after scope f) inner outer rest h.1) (λ r h'. (
        (h.0, h'.0),
        fit_both context (stmt_returns f) (stmt_prints f) (stmt_shadows f) (stmt_answers f)
            (stmts_return r) (stmts_print r) (stmts_shadow r) (stmts_answer r) h.2 h'.1,
      )))
