-- The walk accepts declared types, statements and blocks exactly where they are well formed.
use Rattle.std.proofs.Common.{◌≡◌, ◌↔◌, ℕ, ℤ, pos, ◌≤ℤ◌, Bool, true, false, not, ◌||◌, cond, List}
use Rattle.std.proofs.Common.{[], ◌∷◌, length, Option, Some, None, Result, Ok, Err, IsOk, refl, sym}
use Rattle.std.proofs.Common.{ap, ◌∙◌, subst, arith}
use Rattle.std.proofs.lemmas.Int.{ints}
use Rattle.std.specs.Int.RustNames.{int_lt}
use Rattle.strc_lex_names.specs.Results.{result_and_then}
use Rattle.strc_parse_tree.specs.Tree as tree
use Rattle.strc_parse_tree.specs.declared.tree.AssignOperator.{AssignOperator}
use Rattle.strc_parse_tree.specs.declared.tree.AssignOperator.TheVariants as assign
use Rattle.strc_work_meaning.specs.declared.fault.Cause.TheVariants.{Index}
use Rattle.strc_work_rules.specs.declared.error.LowerError.{LowerError}
use Rattle.strc_work_rules.specs.declared.error.LowerErrorKind.TheVariants as refused
use Rattle.strc_work_rules.specs.declared.type_rules.TheConstants.{LENGTH_LIMIT}
use Rattle.strc_work_meaning.specs.declared.types.ValueType.{ValueType}
use Rattle.strc_work_meaning.specs.declared.types.ValueType.TheVariants.{Int, Boolean, Array}
use Rattle.strc_work_meaning.specs.Typing.{TypedNames, same_type, type_of, names_after}
use Rattle.strc_work_rules.specs.Resolution.{Context, Typed, ResolvedType, where_kept}
use Rattle.strc_work_rules.specs.Resolution.{write_resolved}
use Rattle.strc_work_rules.specs.Resolution.{array_resolved, expr_resolved, expr_as}
use Rattle.strc_work_rules.specs.Resolution.{initial_resolved}
use Rattle.strc_work_rules.specs.Resolution.{number_resolved, array_type, type_resolved}
use Rattle.strc_work_rules.specs.Resolution.{local_resolved, variables_resolved, assigned_type}
use Rattle.strc_work_rules.specs.Resolution.{assign_resolved, element_assign_resolved}
use Rattle.strc_work_rules.specs.Resolution.{given_resolved}
use Rattle.strc_work_rules.specs.Resolution.{stmt_resolved, stmts_resolved, is_taken, evaluated}
use Rattle.strc_work_rules.specs.Resolution.{arguments_resolved, call_given, returned_as, returned}
use Rattle.strc_work_rules.specs.Signatures.{given_type}
use Rattle.strc_parse_tree.specs.declared.tree.HelperType.{HelperType}
use Rattle.strc_work_rules.proofs.ResolvingStatements.{Gives, then_gives}
use Rattle.strc_work.specs.Expressions.{IsVariable, SeesVariable, HasType, InitialHasType}
use Rattle.strc_work.specs.Numbers.{HasNumber}
use Rattle.strc_work.specs.Statements.{IsLength, IsDeclarable, AreDeclared, IsAssignable}
use Rattle.strc_work.specs.Statements.{IsWellFormed, AreWellFormed, IsEvaluated, IsAnswer}
use Rattle.strc_work.specs.Statements.{IsReturned}
use Rattle.strc_work.proofs.Accepting.{kept_gives, kept_is, then_is, then_ok, any_ok, given}
use Rattle.strc_work.proofs.Accepting.{is_ok_of, same_type_true, not_true, not_false}
use Rattle.strc_work.proofs.TypesOfExpressions.{expr_gives, expr_accepts, expr_as_gives}
use Rattle.strc_work.proofs.TypesOfExpressions.{expr_as_ok, initial_gives, initial_ok, CallsWell}
use Rattle.strc_work.proofs.TypesOfExpressions.{call_gives}
use Rattle.strc_work.proofs.TypesOfExpressions.{call_is, arguments_give, arguments_accept}
use Rattle.strc_work.proofs.TypesOfExpressions.{write_gives, write_is, array_gives, array_is}
use Rattle.strc_work.proofs.Numbers.{number_gives, number_is}

-- lengths

at_least : (a b : ℤ) → int_lt a b ≡ false → b ≤ℤ a
at_least a b e = grind (arith, ints)

not_below : (a b : ℤ) → b ≤ℤ a → int_lt a b ≡ false
not_below a b h = grind (arith, ints)

length_gives : (number : ℤ)
    → Gives (λ (r : ResolvedType). IsLength number × (r.kind ≡ Array)) (array_type number)
length_gives number = by_tests (int_lt number (pos 1)) (int_lt LENGTH_LIMIT number) refl refl
  where
    by_tests : (low high : Bool) → int_lt number (pos 1) ≡ low → int_lt LENGTH_LIMIT number ≡ high
        → Gives (λ (r : ResolvedType). IsLength number × (r.kind ≡ Array))
        (cond (low || high) (Err (refused.ConstFault Index))
        (Ok (record { kind = Array; written = tree.Array (tree.Number number) })))
    by_tests true high low_is high_is = tt
    by_tests false true low_is high_is = tt
    by_tests false false low_is high_is =
        ((at_least number (pos 1) low_is, at_least LENGTH_LIMIT number high_is), refl)

length_ok : (number : ℤ) → IsLength number → IsOk (array_type number)
length_ok number h =
    let low : int_lt number (pos 1) ≡ false = not_below number (pos 1) h.0 in
    let high : int_lt LENGTH_LIMIT number ≡ false = not_below LENGTH_LIMIT number h.1 in
    is_ok_of (array_type number)
    (record { kind = Array; written = tree.Array (tree.Number number) })
    (by_tests (int_lt number (pos 1)) (int_lt LENGTH_LIMIT number) low high)
  where
    by_tests : (low high : Bool) → low ≡ false → high ≡ false
        → (let r : Result ResolvedType LowerError = cond (low || high)
        (Err (refused.ConstFault Index))
        (Ok (record { kind = Array; written = tree.Array (tree.Number number) })) in r)
        ≡ Ok (record { kind = Array; written = tree.Array (tree.Number number) })
    by_tests true high low_is high_is = absurd (cc)
    by_tests false true low_is high_is = absurd (cc)
    by_tests false false low_is high_is = refl

-- declared types

pub type_gives : (constants : List (List ℕ × ℤ)) (names : TypedNames) (kind : tree.VariableType)
    → Gives (λ (r : ResolvedType). IsDeclarable constants names kind × (r.kind ≡ type_of kind))
    (type_resolved constants names kind)
type_gives constants names tree.Boolean = (tt, refl)
type_gives constants names tree.Int = (tt, refl)
type_gives constants names (tree.Array length) =
    let Q : ResolvedType → Type 0 =
    λ r. IsDeclarable constants names (tree.Array length) × (r.kind ≡ Array) in
    then_gives (HasNumber constants names length) Q (number_resolved constants names length)
    (λ number. array_type number) (number_gives constants names length) (λ number h.
    with_number number h (array_type number) (length_gives number))
  where
    with_number : (number : ℤ) → HasNumber constants names length number
        → (r : Result ResolvedType LowerError)
        → Gives (λ (t : ResolvedType). IsLength number × (t.kind ≡ Array)) r
        → Gives (λ (t : ResolvedType). IsDeclarable constants names (tree.Array length)
        × (t.kind ≡ Array)) r
    with_number number h (Ok t) fits = ((number, (h, fits.0)), fits.1)
    with_number number h (Err refusal) fits = tt

pub type_ok : (constants : List (List ℕ × ℤ)) (names : TypedNames) (kind : tree.VariableType)
    → IsDeclarable constants names kind → IsOk (type_resolved constants names kind)
type_ok constants names tree.Boolean h = refl
type_ok constants names tree.Int h = refl
type_ok constants names (tree.Array length) h =
    subst IsOk (sym (then_is (number_resolved constants names length) (λ n. array_type n) h.0
    (number_is constants names length h.0 h.1.0))) (length_ok h.0 h.1.1)

pub walk_accepts_type : (constants : List (List ℕ × ℤ)) (names : TypedNames)
    (kind : tree.VariableType)
    → IsOk (type_resolved constants names kind) ↔ IsDeclarable constants names kind
walk_accepts_type constants names kind = (
  λ ok. declarable (type_resolved constants names kind) (type_gives constants names kind) ok,
  type_ok constants names kind,
)
  where
    declarable : (r : Result ResolvedType LowerError)
        → Gives (λ (t : ResolvedType). IsDeclarable constants names kind × (t.kind ≡ type_of kind))
        r → IsOk r → IsDeclarable constants names kind
    declarable (Ok t) h ok = h.0
    declarable (Err refusal) h ok = absurd (cc)

-- declarations

variable_gives : (context : Context) (names : TypedNames) (outer : ℕ) (kind : ValueType)
    (variable : tree.Variable)
    → Gives (λ (v : tree.Variable). (is_taken names outer variable.name ≡ false)
    × InitialHasType context names variable.initial kind)
    (local_resolved context names outer kind variable)
variable_gives context names outer kind variable =
    let there = is_taken names outer variable.name in
    let Q : tree.Variable → Type 0 =
    λ v. (there ≡ false) × InitialHasType context names variable.initial kind in
    let go : Option tree.Expr → Result tree.Variable LowerError =
    λ i. Ok (record { name = variable.name; initial = i }) in
    let initial = initial_resolved context names kind variable.initial in
    kept_gives Q (not there) (result_and_then initial go) (λ new.
    then_gives (λ (i : Option tree.Expr). InitialHasType context names variable.initial kind) Q
    initial go (initial_gives context names kind variable.initial)
    (λ i h. (not_true there new, h)))

variable_ok : (context : Context) (names : TypedNames) (outer : ℕ) (kind : ValueType)
    (variable : tree.Variable) → is_taken names outer variable.name ≡ false
    → InitialHasType context names variable.initial kind
    → IsOk (local_resolved context names outer kind variable)
variable_ok context names outer kind variable new h =
    let there = is_taken names outer variable.name in
    let go : Option tree.Expr → Result tree.Variable LowerError =
    λ i. Ok (record { name = variable.name; initial = i }) in
    let initial = initial_resolved context names kind variable.initial in
    subst IsOk (sym (kept_is (not there) (result_and_then initial go) (not_false there new)))
    (any_ok initial go (initial_ok context names kind variable.initial h) (λ i. refl))

variables_give : (context : Context) (names : TypedNames) (outer : ℕ) (kind : ValueType)
    (variables : List tree.Variable)
    → Gives (λ (v : List tree.Variable). AreDeclared context names outer kind variables)
    (variables_resolved context names outer kind variables)
variables_give context names outer kind [] = tt
variables_give context names outer kind (first ∷ rest) =
    let Q : List tree.Variable → Type 0 =
    λ v. AreDeclared context names outer kind (first ∷ rest) in
    let inner : TypedNames = record { 0 = first.name; 1 = kind } ∷ names in
    then_gives (λ (v : tree.Variable). (is_taken names outer first.name ≡ false)
    × InitialHasType context names first.initial kind) Q
    (local_resolved context names outer kind first)
    (λ f. result_and_then (variables_resolved context inner outer kind rest) (λ r. Ok (f ∷ r)))
    (variable_gives context names outer kind first) (λ f h.
    then_gives (λ (v : List tree.Variable). AreDeclared context inner outer kind rest) Q
    (variables_resolved context inner outer kind rest) (λ r. Ok (f ∷ r))
    (variables_give context inner outer kind rest)
    (λ r h'. record { 0 = h.0; 1 = h.1; 2 = h' }))

variables_ok : (context : Context) (names : TypedNames) (outer : ℕ) (kind : ValueType)
    (variables : List tree.Variable) → AreDeclared context names outer kind variables
    → IsOk (variables_resolved context names outer kind variables)
variables_ok context names outer kind [] h = refl
variables_ok context names outer kind (first ∷ rest) h =
    let inner : TypedNames = record { 0 = first.name; 1 = kind } ∷ names in
    any_ok (local_resolved context names outer kind first)
    (λ f. result_and_then (variables_resolved context inner outer kind rest) (λ r. Ok (f ∷ r)))
    (variable_ok context names outer kind first h.0 h.1) (λ f.
    any_ok (variables_resolved context inner outer kind rest) (λ r. Ok (f ∷ r))
    (variables_ok context inner outer kind rest h.2) (λ r. refl))

-- assignments

numbers_give : (kind : ValueType)
    → Gives (λ (k : ValueType). (kind ≡ Int) × (k ≡ kind))
    (where_kept (same_type kind Int) (Ok kind))
numbers_give kind =
    kept_gives (λ (k : ValueType). (kind ≡ Int) × (k ≡ kind)) (same_type kind Int) (Ok kind)
    (λ same. (same_type_true kind Int same, refl))

assigned_gives : (operator : AssignOperator) (kind : ValueType)
    → Gives (λ (k : ValueType). IsAssignable operator kind × (k ≡ kind))
    (assigned_type operator kind)
assigned_gives assign.Set kind = (tt, refl)
assigned_gives assign.Add kind = numbers_give kind
assigned_gives assign.Subtract kind = numbers_give kind
assigned_gives assign.Multiply kind = numbers_give kind
assigned_gives assign.Divide kind = numbers_give kind
assigned_gives assign.Remainder kind = numbers_give kind

numbers_are : (kind : ValueType) → kind ≡ Int → where_kept (same_type kind Int) (Ok kind) ≡ Ok kind
numbers_are kind e = kept_is (same_type kind Int) (Ok kind) (ap (λ k. same_type k Int) e)

assigned_is : (operator : AssignOperator) (kind : ValueType) → IsAssignable operator kind
    → assigned_type operator kind ≡ Ok kind
assigned_is assign.Set kind h = refl
assigned_is assign.Add kind h = numbers_are kind h
assigned_is assign.Subtract kind h = numbers_are kind h
assigned_is assign.Multiply kind h = numbers_are kind h
assigned_is assign.Divide kind h = numbers_are kind h
assigned_is assign.Remainder kind h = numbers_are kind h

assign_gives : (context : Context) (names : TypedNames) (outer : ℕ) (name : List ℕ)
    (operator : AssignOperator) (value : tree.Expr)
    → Gives (λ (s : tree.Stmt). IsWellFormed context names outer (tree.Assign name operator value))
    (assign_resolved context names name operator value)
assign_gives context names outer name operator value =
    let Q : tree.Stmt → Type 0 =
    λ s. IsWellFormed context names outer (tree.Assign name operator value) in
    let made : tree.Expr → Result tree.Stmt LowerError = λ v. Ok (tree.Assign name operator v) in
    then_gives (IsVariable names name) Q (write_resolved context names name)
    (λ kind. result_and_then (assigned_type operator kind)
    (λ kind'. result_and_then (expr_as context names kind' value) made))
    (write_gives context names name) (λ kind is.
    then_gives (λ (k : ValueType). IsAssignable operator kind × (k ≡ kind)) Q
    (assigned_type operator kind)
    (λ kind'. result_and_then (expr_as context names kind' value) made)
    (assigned_gives operator kind) (λ kind' may.
    then_gives (λ (v : tree.Expr). HasType context names value kind') Q
    (expr_as context names kind' value) made (expr_as_gives context names kind' value)
    (λ v h. (kind, record { 0 = is; 1 = may.0; 2 = subst (HasType context names value) may.1 h }))))

assign_ok : (context : Context) (names : TypedNames) (outer : ℕ) (name : List ℕ)
    (operator : AssignOperator) (value : tree.Expr)
    → IsWellFormed context names outer (tree.Assign name operator value)
    → IsOk (assign_resolved context names name operator value)
assign_ok context names outer name operator value h =
    let kind = h.0 in
    let made : tree.Expr → Result tree.Stmt LowerError = λ v. Ok (tree.Assign name operator v) in
    subst IsOk (sym (then_is (write_resolved context names name)
    (λ k. result_and_then (assigned_type operator k)
    (λ k'. result_and_then (expr_as context names k' value) made)) kind
    (write_is context names name kind h.1.0)
    ∙ then_is (assigned_type operator kind)
    (λ k'. result_and_then (expr_as context names k' value) made) kind
    (assigned_is operator kind h.1.1)))
    (any_ok (expr_as context names kind value) made
    (expr_as_ok context names kind value h.1.2) (λ v. refl))

element_gives : (context : Context) (names : TypedNames) (outer : ℕ) (name : List ℕ)
    (index : tree.Expr) (operator : AssignOperator) (value : tree.Expr)
    → Gives (λ (s : tree.Stmt). IsWellFormed context names outer
    (tree.AssignElement name index operator value))
    (element_assign_resolved context names name index operator value)
element_gives context names outer name index operator value =
    let Q : tree.Stmt → Type 0 =
    λ s. IsWellFormed context names outer (tree.AssignElement name index operator value) in
    then_gives (λ (n : List ℕ). SeesVariable context names name Array) Q
    (array_resolved context names name)
    (λ n. result_and_then (expr_as context names Int index) (λ i.
    result_and_then (expr_as context names Int value)
    (λ v. Ok (tree.AssignElement n i operator v))))
    (array_gives context names name) (λ n sees.
    then_gives (λ (i : tree.Expr). HasType context names index Int) Q
    (expr_as context names Int index)
    (λ i. result_and_then (expr_as context names Int value)
    (λ v. Ok (tree.AssignElement n i operator v)))
    (expr_as_gives context names Int index) (λ i h.
    then_gives (λ (v : tree.Expr). HasType context names value Int) Q
    (expr_as context names Int value) (λ v. Ok (tree.AssignElement n i operator v))
    (expr_as_gives context names Int value) (λ v h'. record { 0 = sees; 1 = h; 2 = h' })))

element_ok : (context : Context) (names : TypedNames) (outer : ℕ) (name : List ℕ)
    (index : tree.Expr) (operator : AssignOperator) (value : tree.Expr)
    → IsWellFormed context names outer (tree.AssignElement name index operator value)
    → IsOk (element_assign_resolved context names name index operator value)
element_ok context names outer name index operator value h =
    any_ok (array_resolved context names name)
    (λ n. result_and_then (expr_as context names Int index) (λ i.
    result_and_then (expr_as context names Int value)
    (λ v. Ok (tree.AssignElement n i operator v))))
    (is_ok_of (array_resolved context names name) name (array_is context names name h.0)) (λ n.
    any_ok (expr_as context names Int index)
    (λ i. result_and_then (expr_as context names Int value)
    (λ v. Ok (tree.AssignElement n i operator v)))
    (expr_as_ok context names Int index h.1) (λ i.
    any_ok (expr_as context names Int value) (λ v. Ok (tree.AssignElement n i operator v))
    (expr_as_ok context names Int value h.2) (λ v. refl)))

-- a number that is given away
number_given : (context : Context) (names : TypedNames) (may : Bool) (value : tree.Expr)
    (made : tree.Expr → tree.Stmt)
    → Gives (λ (s : tree.Stmt). (may ≡ true) × HasType context names value Int)
    (result_and_then (given_resolved context names may value) (λ v. Ok (made v)))
number_given context names may value made =
    let Q : tree.Expr → Type 0 = λ v. (may ≡ true) × HasType context names value Int in
    then_gives Q (λ (s : tree.Stmt). (may ≡ true) × HasType context names value Int)
    (given_resolved context names may value) (λ v. Ok (made v))
    (kept_gives Q may (expr_as context names Int value) (λ allowed.
    with_test allowed (expr_as context names Int value) (expr_as_gives context names Int value)))
    (λ v h. h)
  where
    with_test : may ≡ true → (r : Result tree.Expr LowerError)
        → Gives (λ (v : tree.Expr). HasType context names value Int) r
        → Gives (λ (v : tree.Expr). (may ≡ true) × HasType context names value Int) r
    with_test allowed (Ok v) h = (allowed, h)
    with_test allowed (Err refusal) h = tt

number_given_ok : (context : Context) (names : TypedNames) (may : Bool) (value : tree.Expr)
    (made : tree.Expr → tree.Stmt) → may ≡ true → HasType context names value Int
    → IsOk (result_and_then (given_resolved context names may value) (λ v. Ok (made v)))
number_given_ok context names may value made allowed h =
    any_ok (given_resolved context names may value) (λ v. Ok (made v))
    (subst IsOk (sym (kept_is may (expr_as context names Int value) allowed))
    (expr_as_ok context names Int value h)) (λ v. refl)

-- expressions that are statements

alone_gives : (context : Context) (names : TypedNames) (e : tree.Expr)
    → Gives (λ (v : tree.Expr). (kind : ValueType) × HasType context names e kind)
    (result_and_then (expr_resolved context names e) (λ t. Ok t.value))
alone_gives context names e =
    then_gives (λ (t : Typed). HasType context names e t.kind)
    (λ (v : tree.Expr). (kind : ValueType) × HasType context names e kind)
    (expr_resolved context names e) (λ t. Ok t.value) (expr_gives context names e)
    (λ t h. (t.kind, h))

alone_ok : (context : Context) (names : TypedNames) (e : tree.Expr)
    → (kind : ValueType) × HasType context names e kind
    → IsOk (result_and_then (expr_resolved context names e) (λ t. Ok t.value))
alone_ok context names e h =
    let at = expr_accepts context names e h.0 h.1 in
    any_ok (expr_resolved context names e) (λ t. Ok t.value)
    (is_ok_of (expr_resolved context names e) (record { kind = h.0; value = at.0 }) at.1)
    (λ t. refl)

evaluated_gives : (context : Context) (names : TypedNames) (e : tree.Expr)
    → Gives (λ (v : tree.Expr). IsEvaluated context names e) (evaluated context names e)
evaluated_gives context names (tree.Call name arguments) =
    let given = arguments_resolved context names arguments in
    then_gives (CallsWell context names name arguments)
    (λ (v : tree.Expr). IsEvaluated context names (tree.Call name arguments))
    (call_given context name arguments given) (λ c. Ok c.call)
    (call_gives context names name arguments given (arguments_give context names arguments))
    (λ c h. ((c.kind, h.0), h.1))
evaluated_gives context names (tree.Number value) =
    alone_gives context names (tree.Number value)
evaluated_gives context names (tree.Truth value) =
    alone_gives context names (tree.Truth value)
evaluated_gives context names (tree.Read name) =
    alone_gives context names (tree.Read name)
evaluated_gives context names (tree.Element name index) =
    alone_gives context names (tree.Element name index)
evaluated_gives context names tree.Pop =
    alone_gives context names tree.Pop
evaluated_gives context names (tree.Peek index) =
    alone_gives context names (tree.Peek index)
evaluated_gives context names (tree.Group inner) =
    alone_gives context names (tree.Group inner)
evaluated_gives context names (tree.Unary operator operand) =
    alone_gives context names (tree.Unary operator operand)
evaluated_gives context names (tree.Step operator name) =
    alone_gives context names (tree.Step operator name)
evaluated_gives context names (tree.StepElement operator name index) =
    alone_gives context names (tree.StepElement operator name index)
evaluated_gives context names (tree.Binary operator left right) =
    alone_gives context names (tree.Binary operator left right)
evaluated_gives context names (tree.Conditional condition chosen other) =
    alone_gives context names (tree.Conditional condition chosen other)

evaluated_ok : (context : Context) (names : TypedNames) (e : tree.Expr)
    → IsEvaluated context names e → IsOk (evaluated context names e)
evaluated_ok context names (tree.Call name arguments) h =
    let given = arguments_resolved context names arguments in
    let at = arguments_accept context names arguments h.1 in
    any_ok (call_given context name arguments given) (λ c. Ok c.call)
    (is_ok_of (call_given context name arguments given)
    (record { kind = h.0.0; call = tree.Call name at.0 })
    (call_is context name arguments given h.0.0 at.0 h.0.1 at.1)) (λ c. refl)
evaluated_ok context names (tree.Number value) h =
    alone_ok context names (tree.Number value) h
evaluated_ok context names (tree.Truth value) h =
    alone_ok context names (tree.Truth value) h
evaluated_ok context names (tree.Read name) h =
    alone_ok context names (tree.Read name) h
evaluated_ok context names (tree.Element name index) h =
    alone_ok context names (tree.Element name index) h
evaluated_ok context names tree.Pop h =
    alone_ok context names tree.Pop h
evaluated_ok context names (tree.Peek index) h =
    alone_ok context names (tree.Peek index) h
evaluated_ok context names (tree.Group inner) h =
    alone_ok context names (tree.Group inner) h
evaluated_ok context names (tree.Unary operator operand) h =
    alone_ok context names (tree.Unary operator operand) h
evaluated_ok context names (tree.Step operator name) h =
    alone_ok context names (tree.Step operator name) h
evaluated_ok context names (tree.StepElement operator name index) h =
    alone_ok context names (tree.StepElement operator name index) h
evaluated_ok context names (tree.Binary operator left right) h =
    alone_ok context names (tree.Binary operator left right) h
evaluated_ok context names (tree.Conditional condition chosen other) h =
    alone_ok context names (tree.Conditional condition chosen other) h

-- what is returned

answer_gives : (context : Context) (names : TypedNames) (kind : Option ValueType)
    (value : Option tree.Expr)
    → Gives (λ (v : Option tree.Expr). IsAnswer context names kind value)
    (returned_as context names kind value)
answer_gives context names None None = tt
answer_gives context names None (Some value) = tt
answer_gives context names (Some kind) None = tt
answer_gives context names (Some kind) (Some value) =
    initial_gives context names kind (Some value)

answer_ok : (context : Context) (names : TypedNames) (kind : Option ValueType)
    (value : Option tree.Expr) → IsAnswer context names kind value
    → IsOk (returned_as context names kind value)
answer_ok context names None None h = refl
answer_ok context names None (Some value) h = absurd h
answer_ok context names (Some kind) None h = absurd h
answer_ok context names (Some kind) (Some value) h =
    initial_ok context names kind (Some value) h

returned_gives : (context : Context) (names : TypedNames) (returns : Option HelperType)
    (value : Option tree.Expr)
    → Gives (λ (v : Option tree.Expr). IsReturned context names returns value)
    (returned context names returns value)
returned_gives context names None value = tt
returned_gives context names (Some kind) value =
    answer_gives context names (given_type kind) value

returned_ok : (context : Context) (names : TypedNames) (returns : Option HelperType)
    (value : Option tree.Expr) → IsReturned context names returns value
    → IsOk (returned context names returns value)
returned_ok context names None value h = absurd h
returned_ok context names (Some kind) value h = answer_ok context names (given_type kind) value h

mutual
  -- what the walk accepts is well formed
  pub stmt_gives : (context : Context) (names : TypedNames) (outer : ℕ) (s : tree.Stmt)
      → Gives (λ (s' : tree.Stmt). IsWellFormed context names outer s)
      (stmt_resolved context names outer s)
  stmt_gives context names outer tree.Empty = tt
  stmt_gives context names outer (tree.Compose statement) = tt
  stmt_gives context names outer (tree.Block body) =
      then_gives (λ (b : tree.Stmts). AreWellFormed context names (length names) body)
      (λ (s : tree.Stmt). AreWellFormed context names (length names) body)
      (stmts_resolved context names (length names) body) (λ b. Ok (tree.Block b))
      (stmts_give context names (length names) body) (λ b h. h)
  stmt_gives context names outer (tree.Declare kind variables) =
      let Q : tree.Stmt → Type 0 = λ s. IsWellFormed context names outer
      (tree.Declare kind variables) in
      then_gives (λ (t : ResolvedType). IsDeclarable context.constants names kind
      × (t.kind ≡ type_of kind)) Q (type_resolved context.constants names kind)
      (λ t. result_and_then (variables_resolved context names outer t.kind variables)
      (λ v. Ok (tree.Declare t.written v)))
      (type_gives context.constants names kind) (λ t h.
      then_gives (λ (v : List tree.Variable). AreDeclared context names outer t.kind variables) Q
      (variables_resolved context names outer t.kind variables)
      (λ v. Ok (tree.Declare t.written v)) (variables_give context names outer t.kind variables)
      (λ v h'. (h.0, subst (λ k. AreDeclared context names outer k variables) h.1 h')))
  stmt_gives context names outer (tree.Evaluate value) =
      then_gives (λ (v : tree.Expr). IsEvaluated context names value)
      (λ (s : tree.Stmt). IsEvaluated context names value) (evaluated context names value)
      (λ v. Ok (tree.Evaluate v)) (evaluated_gives context names value) (λ v h. h)
  stmt_gives context names outer (tree.Assign name operator value) =
      assign_gives context names outer name operator value
  stmt_gives context names outer (tree.AssignElement name index operator value) =
      element_gives context names outer name index operator value
  stmt_gives context names outer (tree.If condition chosen) =
      let Q : tree.Stmt → Type 0 = λ s. IsWellFormed context names outer
      (tree.If condition chosen) in
      then_gives (λ (c : tree.Expr). HasType context names condition Boolean) Q
      (expr_as context names Boolean condition)
      (λ c. result_and_then (stmt_resolved context names (length names) chosen)
      (λ t. Ok (tree.If c t))) (expr_as_gives context names Boolean condition) (λ c h.
      then_gives (λ (t : tree.Stmt). IsWellFormed context names (length names) chosen) Q
      (stmt_resolved context names (length names) chosen) (λ t. Ok (tree.If c t))
      (stmt_gives context names (length names) chosen) (λ t h'. (h, h')))
  stmt_gives context names outer (tree.IfElse condition chosen other) =
      let Q : tree.Stmt → Type 0 = λ s. IsWellFormed context names outer
      (tree.IfElse condition chosen other) in
      then_gives (λ (c : tree.Expr). HasType context names condition Boolean) Q
      (expr_as context names Boolean condition)
      (λ c. result_and_then (stmt_resolved context names (length names) chosen) (λ t.
      result_and_then (stmt_resolved context names (length names) other)
      (λ o. Ok (tree.IfElse c t o)))) (expr_as_gives context names Boolean condition) (λ c h.
      then_gives (λ (t : tree.Stmt). IsWellFormed context names (length names) chosen) Q
      (stmt_resolved context names (length names) chosen)
      (λ t. result_and_then (stmt_resolved context names (length names) other)
      (λ o. Ok (tree.IfElse c t o))) (stmt_gives context names (length names) chosen) (λ t h'.
      then_gives (λ (o : tree.Stmt). IsWellFormed context names (length names) other) Q
      (stmt_resolved context names (length names) other) (λ o. Ok (tree.IfElse c t o))
      (stmt_gives context names (length names) other)
      (λ o h''. record { 0 = h; 1 = h'; 2 = h'' })))
  stmt_gives context names outer (tree.While condition body) =
      let Q : tree.Stmt → Type 0 = λ s. IsWellFormed context names outer
      (tree.While condition body) in
      then_gives (λ (c : tree.Expr). HasType context names condition Boolean) Q
      (expr_as context names Boolean condition)
      (λ c. result_and_then (stmt_resolved context names (length names) body)
      (λ b. Ok (tree.While c b))) (expr_as_gives context names Boolean condition) (λ c h.
      then_gives (λ (b : tree.Stmt). IsWellFormed context names (length names) body) Q
      (stmt_resolved context names (length names) body) (λ b. Ok (tree.While c b))
      (stmt_gives context names (length names) body) (λ b h'. (h, h')))
  stmt_gives context names outer (tree.For first condition step body) =
      let Q : tree.Stmt → Type 0 = λ s. IsWellFormed context names outer
      (tree.For first condition step body) in
      let inner = names_after names first in
      then_gives (λ (f : tree.Stmt). IsWellFormed context names (length names) first) Q
      (stmt_resolved context names (length names) first) (λ f.
      result_and_then (initial_resolved context inner Boolean condition) (λ c.
      result_and_then (stmt_resolved context inner (length inner) step) (λ t.
      result_and_then (stmt_resolved context inner (length inner) body)
      (λ b. Ok (tree.For f c t b))))) (stmt_gives context names (length names) first) (λ f hf.
      then_gives (λ (c : Option tree.Expr). InitialHasType context inner condition Boolean) Q
      (initial_resolved context inner Boolean condition) (λ c.
      result_and_then (stmt_resolved context inner (length inner) step) (λ t.
      result_and_then (stmt_resolved context inner (length inner) body)
      (λ b. Ok (tree.For f c t b)))) (initial_gives context inner Boolean condition) (λ c hc.
      then_gives (λ (t : tree.Stmt). IsWellFormed context inner (length inner) step) Q
      (stmt_resolved context inner (length inner) step) (λ t.
      result_and_then (stmt_resolved context inner (length inner) body)
      (λ b. Ok (tree.For f c t b))) (stmt_gives context inner (length inner) step) (λ t ht.
      then_gives (λ (b : tree.Stmt). IsWellFormed context inner (length inner) body) Q
      (stmt_resolved context inner (length inner) body) (λ b. Ok (tree.For f c t b))
      (stmt_gives context inner (length inner) body)
      (λ b hb. record { 0 = hf; 1 = hc; 2 = ht; 3 = hb }))))
  stmt_gives context names outer (tree.Push value) =
      number_given context names context.pushes value tree.Push
  stmt_gives context names outer (tree.Print value) =
      number_given context names context.prints value tree.Print
  stmt_gives context names outer (tree.Println value) =
      number_given context names context.prints value tree.Println
  stmt_gives context names outer (tree.Return value) =
      let Q : Type 0 = IsReturned context names context.returns value in
      then_gives (λ (v : Option tree.Expr). Q) (λ (s : tree.Stmt). Q)
      (returned context names context.returns value) (λ v. Ok (tree.Return v))
      (returned_gives context names context.returns value) (λ v h. h)

  pub stmts_give : (context : Context) (names : TypedNames) (outer : ℕ) (block : tree.Stmts)
      → Gives (λ (b : tree.Stmts). AreWellFormed context names outer block)
      (stmts_resolved context names outer block)
  stmts_give context names outer tree.Done = tt
  stmts_give context names outer (tree.Then first rest) =
      let Q : tree.Stmts → Type 0 = λ b. AreWellFormed context names outer
      (tree.Then first rest) in
      then_gives (λ (s : tree.Stmt). IsWellFormed context names outer first) Q
      (stmt_resolved context names outer first)
      (λ f. result_and_then (stmts_resolved context (names_after names first) outer rest)
      (λ r. Ok (tree.Then f r))) (stmt_gives context names outer first) (λ f h.
      then_gives (λ (b : tree.Stmts). AreWellFormed context (names_after names first) outer rest) Q
      (stmts_resolved context (names_after names first) outer rest) (λ r. Ok (tree.Then f r))
      (stmts_give context (names_after names first) outer rest) (λ r h'. (h, h')))

mutual
  -- what is well formed is accepted
  pub stmt_ok : (context : Context) (names : TypedNames) (outer : ℕ) (s : tree.Stmt)
      → IsWellFormed context names outer s → IsOk (stmt_resolved context names outer s)
  stmt_ok context names outer tree.Empty h = refl
  stmt_ok context names outer (tree.Compose statement) h = absurd h
  stmt_ok context names outer (tree.Block body) h =
      any_ok (stmts_resolved context names (length names) body) (λ b. Ok (tree.Block b))
      (stmts_ok context names (length names) body h) (λ b. refl)
  stmt_ok context names outer (tree.Declare kind variables) h =
      then_ok (λ (t : ResolvedType). IsDeclarable context.constants names kind
      × (t.kind ≡ type_of kind)) (type_resolved context.constants names kind)
      (λ t. result_and_then (variables_resolved context names outer t.kind variables)
      (λ v. Ok (tree.Declare t.written v))) (type_gives context.constants names kind)
      (type_ok context.constants names kind h.0) (λ t is.
      any_ok (variables_resolved context names outer t.kind variables)
      (λ v. Ok (tree.Declare t.written v))
      (variables_ok context names outer t.kind variables
      (subst (λ k. AreDeclared context names outer k variables) (sym is.1) h.1)) (λ v. refl))
  stmt_ok context names outer (tree.Evaluate value) h =
      any_ok (evaluated context names value) (λ v. Ok (tree.Evaluate v))
      (evaluated_ok context names value h) (λ v. refl)
  stmt_ok context names outer (tree.Assign name operator value) h =
      assign_ok context names outer name operator value h
  stmt_ok context names outer (tree.AssignElement name index operator value) h =
      element_ok context names outer name index operator value h
  stmt_ok context names outer (tree.If condition chosen) h =
      any_ok (expr_as context names Boolean condition)
      (λ c. result_and_then (stmt_resolved context names (length names) chosen)
      (λ t. Ok (tree.If c t))) (expr_as_ok context names Boolean condition h.0) (λ c.
      any_ok (stmt_resolved context names (length names) chosen) (λ t. Ok (tree.If c t))
      (stmt_ok context names (length names) chosen h.1) (λ t. refl))
  stmt_ok context names outer (tree.IfElse condition chosen other) h =
      any_ok (expr_as context names Boolean condition)
      (λ c. result_and_then (stmt_resolved context names (length names) chosen) (λ t.
      result_and_then (stmt_resolved context names (length names) other)
      (λ o. Ok (tree.IfElse c t o)))) (expr_as_ok context names Boolean condition h.0) (λ c.
      any_ok (stmt_resolved context names (length names) chosen)
      (λ t. result_and_then (stmt_resolved context names (length names) other)
      (λ o. Ok (tree.IfElse c t o))) (stmt_ok context names (length names) chosen h.1) (λ t.
      any_ok (stmt_resolved context names (length names) other) (λ o. Ok (tree.IfElse c t o))
      (stmt_ok context names (length names) other h.2) (λ o. refl)))
  stmt_ok context names outer (tree.While condition body) h =
      any_ok (expr_as context names Boolean condition)
      (λ c. result_and_then (stmt_resolved context names (length names) body)
      (λ b. Ok (tree.While c b))) (expr_as_ok context names Boolean condition h.0) (λ c.
      any_ok (stmt_resolved context names (length names) body) (λ b. Ok (tree.While c b))
      (stmt_ok context names (length names) body h.1) (λ b. refl))
  stmt_ok context names outer (tree.For first condition step body) h =
      let inner = names_after names first in
      any_ok (stmt_resolved context names (length names) first) (λ f.
      result_and_then (initial_resolved context inner Boolean condition) (λ c.
      result_and_then (stmt_resolved context inner (length inner) step) (λ t.
      result_and_then (stmt_resolved context inner (length inner) body)
      (λ b. Ok (tree.For f c t b))))) (stmt_ok context names (length names) first h.0) (λ f.
      any_ok (initial_resolved context inner Boolean condition) (λ c.
      result_and_then (stmt_resolved context inner (length inner) step) (λ t.
      result_and_then (stmt_resolved context inner (length inner) body)
      (λ b. Ok (tree.For f c t b)))) (initial_ok context inner Boolean condition h.1) (λ c.
      any_ok (stmt_resolved context inner (length inner) step) (λ t.
      result_and_then (stmt_resolved context inner (length inner) body)
      (λ b. Ok (tree.For f c t b))) (stmt_ok context inner (length inner) step h.2) (λ t.
      any_ok (stmt_resolved context inner (length inner) body) (λ b. Ok (tree.For f c t b))
      (stmt_ok context inner (length inner) body h.3) (λ b. refl))))
  stmt_ok context names outer (tree.Push value) h =
      number_given_ok context names context.pushes value tree.Push h.0 h.1
  stmt_ok context names outer (tree.Print value) h =
      number_given_ok context names context.prints value tree.Print h.0 h.1
  stmt_ok context names outer (tree.Println value) h =
      number_given_ok context names context.prints value tree.Println h.0 h.1
  stmt_ok context names outer (tree.Return value) h =
      any_ok (returned context names context.returns value) (λ v. Ok (tree.Return v))
      (returned_ok context names context.returns value h) (λ v. refl)

  pub stmts_ok : (context : Context) (names : TypedNames) (outer : ℕ) (block : tree.Stmts)
      → AreWellFormed context names outer block → IsOk (stmts_resolved context names outer block)
  stmts_ok context names outer tree.Done h = refl
  stmts_ok context names outer (tree.Then first rest) h =
      any_ok (stmt_resolved context names outer first)
      (λ f. result_and_then (stmts_resolved context (names_after names first) outer rest)
      (λ r. Ok (tree.Then f r))) (stmt_ok context names outer first h.0) (λ f.
      any_ok (stmts_resolved context (names_after names first) outer rest)
      (λ r. Ok (tree.Then f r)) (stmts_ok context (names_after names first) outer rest h.1)
      (λ r. refl))

pub walk_accepts_stmt : (context : Context) (names : TypedNames) (outer : ℕ) (s : tree.Stmt)
    → IsOk (stmt_resolved context names outer s) ↔ IsWellFormed context names outer s
walk_accepts_stmt context names outer s = (
  λ ok. given (IsWellFormed context names outer s) (stmt_resolved context names outer s)
      (stmt_gives context names outer s) ok,
  stmt_ok context names outer s,
)

pub walk_accepts_block : (context : Context) (names : TypedNames) (outer : ℕ) (block : tree.Stmts)
    → IsOk (stmts_resolved context names outer block) ↔ AreWellFormed context names outer block
walk_accepts_block context names outer block = (
  λ ok. given (AreWellFormed context names outer block)
      (stmts_resolved context names outer block) (stmts_give context names outer block) ok,
  stmts_ok context names outer block,
)
