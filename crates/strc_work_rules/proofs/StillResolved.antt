-- The texts that the judgement accepts where nothing may be popped or pushed move no items.
use Rattle.std.proofs.Common.{◌≡◌, refl, ℕ, Bool, true, false, ◌||◌, not, ℤ, List, [], ◌∷◌, length}
use Rattle.std.proofs.Common.{Option, Some, None, Result, Ok}
use Rattle.strc_lex_names.specs.Results.{result_and_then}
use Rattle.strc_parse_tree.specs.Tree as tree
use Rattle.strc_parse_tree.specs.declared.tree.AssignOperator.{AssignOperator}
use Rattle.strc_parse_tree.specs.declared.tree.StepOperator.{StepOperator}
use Rattle.strc_parse_tree.specs.declared.tree.UnaryOperator.{UnaryOperator}
use Rattle.strc_parse_tree.specs.declared.tree.BinaryOperator.{BinaryOperator}
use Rattle.strc_parse_tree.specs.declared.tree.HelperType.{HelperType}
use Rattle.strc_work_rules.specs.declared.error.LowerError.{LowerError}
use Rattle.strc_work_meaning.specs.declared.types.ValueType.{ValueType}
use Rattle.strc_work_meaning.specs.declared.types.ValueType.TheVariants.{Int, Boolean}
use Rattle.strc_lex_names.specs.Names.{value_named}
use Rattle.strc_work_meaning.specs.Calls.{argument_count}
use Rattle.strc_work_meaning.specs.Still.{expr_moves, arguments_move, option_moves, variables_move}
use Rattle.strc_work_meaning.specs.Still.{stmt_moves, stmts_move}
use Rattle.strc_work_meaning.specs.Typing.{TypedNames, same_type, is_array, names_after}
use Rattle.strc_work_rules.specs.Signatures.{given_type}
use Rattle.strc_work_rules.specs.Resolution.{Context, Typed, Called, where_kept, expect_type}
use Rattle.strc_work_rules.specs.Resolution.{constant_read, read_as, operand_type, sides_type}
use Rattle.strc_work_rules.specs.Resolution.{binary_type, unary_typed, binary_typed}
use Rattle.strc_work_rules.specs.Resolution.{conditional_typed, peek_typed, group_typed}
use Rattle.strc_work_rules.specs.Resolution.{step_resolved, array_resolved, element_typed}
use Rattle.strc_work_rules.specs.Resolution.{step_element_typed, called_among, call_given}
use Rattle.strc_work_rules.specs.Resolution.{value_called, called_typed, expr_resolved}
use Rattle.strc_work_rules.specs.Resolution.{arguments_resolved, call_resolved, evaluated, expr_as}
use Rattle.strc_work_rules.specs.Resolution.{initial_resolved, type_resolved, is_taken}
use Rattle.strc_work_rules.specs.Resolution.{local_resolved, variables_resolved, write_resolved}
use Rattle.strc_work_rules.specs.Resolution.{assigned_type, given_resolved, returned_as, returned}
use Rattle.strc_work_rules.specs.Resolution.{stmt_resolved, stmts_resolved}
use Rattle.strc_work_rules.proofs.ResolvingExpressions.{Gives, then_gives, any_gives, kept_gives}
use Rattle.strc_work_rules.proofs.ResolvingExpressions.{neither}

-- an expression that moves no item, and others
abbrev IsStill : tree.Expr → Type 0
IsStill e = expr_moves e ≡ false

abbrev IsStillTyped : Typed → Type 0
IsStillTyped typed = IsStill typed.value

abbrev IsStillCalled : Called → Type 0
IsStillCalled called = IsStill called.call

abbrev AreStillArguments : tree.Arguments → Type 0
AreStillArguments arguments = arguments_move arguments ≡ false

abbrev IsStillInitial : Option tree.Expr → Type 0
IsStillInitial initial = option_moves initial ≡ false

abbrev IsStillVariable : tree.Variable → Type 0
IsStillVariable variable = IsStillInitial variable.initial

abbrev AreStillVariables : List tree.Variable → Type 0
AreStillVariables variables = variables_move variables ≡ false

abbrev IsStillStmt : tree.Stmt → Type 0
IsStillStmt s = stmt_moves s ≡ false

abbrev pub AreStill : tree.Stmts → Type 0
AreStill block = stmts_move block ≡ false

-- a rule that isn't kept gives nothing
none_gives : {B : Type 0} (Q : B → Type 0) (kept : Bool) (next : Result B LowerError)
    → kept ≡ false → Gives Q (where_kept kept next)
none_gives Q true next broken = absurd (cc)
none_gives Q false next broken = tt

-- ---- parts of expressions

as_still : (kind : ValueType) (typed : Typed) → IsStillTyped typed
    → Gives IsStill (expect_type kind typed)
as_still kind typed h = kept_gives IsStill (same_type typed.kind kind) (Ok typed.value) h

constant_still : (name : List ℕ) (o : Option ℤ) → Gives IsStillTyped (constant_read name o)
constant_still name None = tt
constant_still name (Some value) = refl

name_still : (context : Context) (name : List ℕ) (o : Option ValueType)
    → Gives IsStillTyped (read_as context name o)
name_still context name (Some kind) =
    let read : Result Typed LowerError = Ok (record { kind = kind; value = tree.Read name }) in
    kept_gives IsStillTyped (not context.constants_only) (where_kept (not (is_array kind)) read)
    (kept_gives IsStillTyped (not (is_array kind)) read refl)
name_still context name None = constant_still name (value_named context.constants name)

element_still : (name : List ℕ) (index : Typed) → IsStillTyped index
    → Gives IsStillTyped (element_typed name index)
element_still name index h =
    then_gives IsStill IsStillTyped (expect_type Int index)
    (λ i. Ok (record { kind = Int; value = tree.Element name i })) (as_still Int index h)
    (λ i still. still)

step_element_still : (operator : StepOperator) (name : List ℕ) (index : Typed)
    → IsStillTyped index → Gives IsStillTyped (step_element_typed operator name index)
step_element_still operator name index h =
    then_gives IsStill IsStillTyped (expect_type Int index)
    (λ i. Ok (record { kind = Int; value = tree.StepElement operator name i }))
    (as_still Int index h) (λ i still. still)

unary_still : (operator : UnaryOperator) (operand : Typed) → IsStillTyped operand
    → Gives IsStillTyped (unary_typed operator operand)
unary_still operator operand h =
    then_gives IsStill IsStillTyped (expect_type (operand_type operator) operand)
    (λ o. Ok (record { kind = operand_type operator; value = tree.Unary operator o }))
    (as_still (operand_type operator) operand h) (λ o still. still)

binary_still : (operator : BinaryOperator) (left right : Typed) → IsStillTyped left
    → IsStillTyped right → Gives IsStillTyped (binary_typed operator left right)
binary_still operator left right h k =
    let kind = sides_type operator left.kind in
    then_gives IsStill IsStillTyped (expect_type kind left)
    (λ l. result_and_then (expect_type kind right)
    (λ r. Ok (record { kind = binary_type operator; value = tree.Binary operator l r })))
    (as_still kind left h) (λ l still.
    then_gives IsStill IsStillTyped (expect_type kind right)
    (λ r. Ok (record { kind = binary_type operator; value = tree.Binary operator l r }))
    (as_still kind right k) (λ r still'. neither (expr_moves l) (expr_moves r) still still'))

conditional_still : (condition chosen other : Typed) → IsStillTyped condition
    → IsStillTyped chosen → IsStillTyped other
    → Gives IsStillTyped (conditional_typed condition chosen other)
conditional_still condition chosen other h k l =
    then_gives IsStill IsStillTyped (expect_type Boolean condition)
    (λ c. result_and_then (expect_type chosen.kind other)
    (λ o. Ok (record { kind = chosen.kind; value = tree.Conditional c chosen.value o })))
    (as_still Boolean condition h) (λ c still.
    then_gives IsStill IsStillTyped (expect_type chosen.kind other)
    (λ o. Ok (record { kind = chosen.kind; value = tree.Conditional c chosen.value o }))
    (as_still chosen.kind other l) (λ o still'.
    neither (expr_moves c) (expr_moves chosen.value || expr_moves o) still
    (neither (expr_moves chosen.value) (expr_moves o) k still')))

call_still : (context : Context) (name : List ℕ) (arguments : tree.Arguments)
    (given : Result tree.Arguments LowerError) → Gives AreStillArguments given
    → Gives IsStillCalled (call_given context name arguments given)
call_still context name arguments given h =
    any_gives IsStillCalled (called_among name (argument_count arguments) context.helpers)
    (λ kind. result_and_then given (λ a. Ok (record { kind = kind; call = tree.Call name a })))
    (λ kind. then_gives AreStillArguments IsStillCalled given
    (λ a. Ok (record { kind = kind; call = tree.Call name a })) h (λ a still. still))

value_still : (kind : Option ValueType) (call : tree.Expr) → IsStill call
    → Gives IsStillTyped (value_called kind call)
value_still None call h = tt
value_still (Some kind) call h = h

module _ (context : Context) (no_pops : context.pops ≡ false)
    (no_pushes : context.pushes ≡ false) where
  -- ---- expressions

  mutual
    expr_still : (names : TypedNames) (e : tree.Expr)
        → Gives IsStillTyped (expr_resolved context names e)
    expr_still names (tree.Number value) = refl
    expr_still names (tree.Truth value) = refl
    expr_still names (tree.Read name) = name_still context name (value_named names name)
    expr_still names (tree.Element name index) =
        any_gives IsStillTyped (array_resolved context names name)
        (λ n. result_and_then (expr_resolved context names index) (λ i. element_typed n i))
        (λ n. then_gives IsStillTyped IsStillTyped (expr_resolved context names index)
        (λ i. element_typed n i) (expr_still names index) (λ i h. element_still n i h))
    expr_still names tree.Pop =
        none_gives IsStillTyped context.pops (Ok (record { kind = Int; value = tree.Pop })) no_pops
    expr_still names (tree.Peek index) =
        any_gives IsStillTyped (expr_resolved context names index)
        (λ i. peek_typed context.pops i)
        (λ i. none_gives IsStillTyped context.pops (result_and_then (expect_type Int i)
        (λ i'. Ok (record { kind = Int; value = tree.Peek i' }))) no_pops)
    expr_still names (tree.Call name arguments) =
        let given = arguments_resolved context names arguments in
        then_gives IsStillCalled IsStillTyped (call_given context name arguments given)
        (λ c. called_typed c)
        (call_still context name arguments given (arguments_still names arguments))
        (λ c h. value_still (given_type c.kind) c.call h)
    expr_still names (tree.Group inner) =
        then_gives IsStillTyped IsStillTyped (expr_resolved context names inner)
        (λ i. Ok (group_typed i)) (expr_still names inner) (λ i h. h)
    expr_still names (tree.Unary operator operand) =
        then_gives IsStillTyped IsStillTyped (expr_resolved context names operand)
        (λ o. unary_typed operator o) (expr_still names operand) (λ o h. unary_still operator o h)
    expr_still names (tree.Step operator name) =
        any_gives IsStillTyped (step_resolved context names name)
        (λ n. Ok (record { kind = Int; value = tree.Step operator n })) (λ n. refl)
    expr_still names (tree.StepElement operator name index) =
        any_gives IsStillTyped (array_resolved context names name)
        (λ n. result_and_then (expr_resolved context names index)
        (λ i. step_element_typed operator n i))
        (λ n. then_gives IsStillTyped IsStillTyped (expr_resolved context names index)
        (λ i. step_element_typed operator n i) (expr_still names index)
        (λ i h. step_element_still operator n i h))
    expr_still names (tree.Binary operator left right) =
        then_gives IsStillTyped IsStillTyped (expr_resolved context names left)
        (λ l. result_and_then (expr_resolved context names right) (λ r. binary_typed operator l r))
        (expr_still names left) (λ l h.
        then_gives IsStillTyped IsStillTyped (expr_resolved context names right)
        (λ r. binary_typed operator l r) (expr_still names right)
        (λ r k. binary_still operator l r h k))
    expr_still names (tree.Conditional condition chosen other) =
        then_gives IsStillTyped IsStillTyped (expr_resolved context names condition)
        (λ c. result_and_then (expr_resolved context names chosen)
        (λ t. result_and_then (expr_resolved context names other)
        (λ o. conditional_typed c t o))) (expr_still names condition) (λ c h.
        then_gives IsStillTyped IsStillTyped (expr_resolved context names chosen)
        (λ t. result_and_then (expr_resolved context names other) (λ o. conditional_typed c t o))
        (expr_still names chosen) (λ t k.
        then_gives IsStillTyped IsStillTyped (expr_resolved context names other)
        (λ o. conditional_typed c t o) (expr_still names other)
        (λ o l. conditional_still c t o h k l)))

    arguments_still : (names : TypedNames) (arguments : tree.Arguments)
        → Gives AreStillArguments (arguments_resolved context names arguments)
    arguments_still names tree.NoArgument = refl
    arguments_still names (tree.Argument first rest) =
        then_gives IsStill AreStillArguments (result_and_then (expr_resolved context names first)
        (λ typed. expect_type Int typed))
        (λ f. result_and_then (arguments_resolved context names rest)
        (λ r. Ok (tree.Argument f r)))
        (then_gives IsStillTyped IsStill (expr_resolved context names first)
        (λ typed. expect_type Int typed) (expr_still names first)
        (λ typed h. as_still Int typed h)) (λ f h.
        then_gives AreStillArguments AreStillArguments (arguments_resolved context names rest)
        (λ r. Ok (tree.Argument f r)) (arguments_still names rest)
        (λ r k. neither (expr_moves f) (arguments_move r) h k))

  typed_still : (names : TypedNames) (kind : ValueType) (e : tree.Expr)
      → Gives IsStill (expr_as context names kind e)
  typed_still names kind e =
      then_gives IsStillTyped IsStill (expr_resolved context names e)
      (λ typed. expect_type kind typed) (expr_still names e) (λ typed h. as_still kind typed h)

  alone_still : (names : TypedNames) (e : tree.Expr)
      → Gives IsStill (result_and_then (expr_resolved context names e) (λ typed. Ok typed.value))
  alone_still names e =
      then_gives IsStillTyped IsStill (expr_resolved context names e) (λ typed. Ok typed.value)
      (expr_still names e) (λ typed h. h)

  -- an expression that is a statement
  evaluated_still : (names : TypedNames) (e : tree.Expr)
      → Gives IsStill (evaluated context names e)
  evaluated_still names (tree.Call name arguments) =
      then_gives IsStillCalled IsStill (call_resolved context names name arguments)
      (λ c. Ok c.call)
      (call_still context name arguments (arguments_resolved context names arguments)
      (arguments_still names arguments)) (λ c h. h)
  evaluated_still names (tree.Number value) = alone_still names (tree.Number value)
  evaluated_still names (tree.Truth value) = alone_still names (tree.Truth value)
  evaluated_still names (tree.Read name) = alone_still names (tree.Read name)
  evaluated_still names (tree.Element name index) = alone_still names (tree.Element name index)
  evaluated_still names tree.Pop = alone_still names tree.Pop
  evaluated_still names (tree.Peek index) = alone_still names (tree.Peek index)
  evaluated_still names (tree.Group inner) = alone_still names (tree.Group inner)
  evaluated_still names (tree.Unary operator operand) =
      alone_still names (tree.Unary operator operand)
  evaluated_still names (tree.Step operator name) = alone_still names (tree.Step operator name)
  evaluated_still names (tree.StepElement operator name index) =
      alone_still names (tree.StepElement operator name index)
  evaluated_still names (tree.Binary operator left right) =
      alone_still names (tree.Binary operator left right)
  evaluated_still names (tree.Conditional condition chosen other) =
      alone_still names (tree.Conditional condition chosen other)

  initial_still : (names : TypedNames) (kind : ValueType) (initial : Option tree.Expr)
      → Gives IsStillInitial (initial_resolved context names kind initial)
  initial_still names kind None = refl
  initial_still names kind (Some value) =
      then_gives IsStill IsStillInitial (expr_as context names kind value) (λ v. Ok (Some v))
      (typed_still names kind value) (λ v h. h)

  -- ---- statements

  local_still : (names : TypedNames) (outer : ℕ) (kind : ValueType) (variable : tree.Variable)
      → Gives IsStillVariable (local_resolved context names outer kind variable)
  local_still names outer kind variable =
      kept_gives IsStillVariable (not (is_taken names outer variable.name))
      (result_and_then (initial_resolved context names kind variable.initial)
      (λ i. Ok (record { name = variable.name; initial = i })))
      (then_gives IsStillInitial IsStillVariable
      (initial_resolved context names kind variable.initial)
      (λ i. Ok (record { name = variable.name; initial = i }))
      (initial_still names kind variable.initial) (λ i h. h))

  variables_still : (names : TypedNames) (outer : ℕ) (kind : ValueType)
      (variables : List tree.Variable)
      → Gives AreStillVariables (variables_resolved context names outer kind variables)
  variables_still names outer kind [] = refl
  variables_still names outer kind (first ∷ rest) =
      let inner : TypedNames = record { 0 = first.name; 1 = kind } ∷ names in
      then_gives IsStillVariable AreStillVariables (local_resolved context names outer kind first)
      (λ f. result_and_then (variables_resolved context inner outer kind rest)
      (λ r. Ok (f ∷ r))) (local_still names outer kind first) (λ f h.
      then_gives AreStillVariables AreStillVariables
      (variables_resolved context inner outer kind rest) (λ r. Ok (f ∷ r))
      (variables_still inner outer kind rest)
      (λ r k. neither (option_moves f.initial) (variables_move r) h k))

  element_assign_still : (names : TypedNames) (name : List ℕ) (index : tree.Expr)
      (operator : AssignOperator) (value : tree.Expr)
      → Gives IsStillStmt (result_and_then (array_resolved context names name)
      (λ n. result_and_then (expr_as context names Int index)
      (λ i. result_and_then (expr_as context names Int value)
      (λ v. Ok (tree.AssignElement n i operator v)))))
  element_assign_still names name index operator value =
      any_gives IsStillStmt (array_resolved context names name)
      (λ n. result_and_then (expr_as context names Int index)
      (λ i. result_and_then (expr_as context names Int value)
      (λ v. Ok (tree.AssignElement n i operator v)))) (λ n.
      then_gives IsStill IsStillStmt (expr_as context names Int index)
      (λ i. result_and_then (expr_as context names Int value)
      (λ v. Ok (tree.AssignElement n i operator v))) (typed_still names Int index) (λ i h.
      then_gives IsStill IsStillStmt (expr_as context names Int value)
      (λ v. Ok (tree.AssignElement n i operator v)) (typed_still names Int value)
      (λ v k. neither (expr_moves i) (expr_moves v) h k)))

  returned_still : (names : TypedNames) (returns : Option HelperType) (value : Option tree.Expr)
      → Gives IsStillInitial (returned context names returns value)
  returned_still names None value = tt
  returned_still names (Some kind) value = by_type (given_type kind) value
    where
      by_type : (wanted : Option ValueType) (v : Option tree.Expr)
          → Gives IsStillInitial (returned_as context names wanted v)
      by_type None None = refl
      by_type None (Some v) = tt
      by_type (Some wanted) None = tt
      by_type (Some wanted) (Some v) = initial_still names wanted (Some v)

  -- a word that is printed, where it may be
  printed_still : (names : TypedNames) (e : tree.Expr)
      → Gives IsStill (given_resolved context names context.prints e)
  printed_still names e =
      kept_gives IsStill context.prints (expr_as context names Int e) (typed_still names Int e)

  mutual
    stmt_still : (names : TypedNames) (outer : ℕ) (s : tree.Stmt)
        → Gives IsStillStmt (stmt_resolved context names outer s)
    stmt_still names outer tree.Empty = refl
    stmt_still names outer (tree.Compose statement) = tt
    stmt_still names outer (tree.Block body) =
        then_gives AreStill IsStillStmt (stmts_resolved context names (length names) body)
        (λ b. Ok (tree.Block b)) (stmts_still names (length names) body) (λ b h. h)
    stmt_still names outer (tree.Declare kind variables) =
        any_gives IsStillStmt (type_resolved context.constants names kind)
        (λ t. result_and_then (variables_resolved context names outer t.kind variables)
        (λ v. Ok (tree.Declare t.written v)))
        (λ t. then_gives AreStillVariables IsStillStmt
        (variables_resolved context names outer t.kind variables)
        (λ v. Ok (tree.Declare t.written v)) (variables_still names outer t.kind variables)
        (λ v h. h))
    stmt_still names outer (tree.Evaluate value) =
        then_gives IsStill IsStillStmt (evaluated context names value)
        (λ v. Ok (tree.Evaluate v)) (evaluated_still names value) (λ v h. h)
    stmt_still names outer (tree.Assign name operator value) =
        any_gives IsStillStmt (write_resolved context names name)
        (λ kind. result_and_then (assigned_type operator kind)
        (λ kind'. result_and_then (expr_as context names kind' value)
        (λ v. Ok (tree.Assign name operator v)))) (λ kind.
        any_gives IsStillStmt (assigned_type operator kind)
        (λ kind'. result_and_then (expr_as context names kind' value)
        (λ v. Ok (tree.Assign name operator v))) (λ kind'.
        then_gives IsStill IsStillStmt (expr_as context names kind' value)
        (λ v. Ok (tree.Assign name operator v)) (typed_still names kind' value) (λ v h. h)))
    stmt_still names outer (tree.AssignElement name index operator value) =
        element_assign_still names name index operator value
    stmt_still names outer (tree.If condition chosen) =
        then_gives IsStill IsStillStmt (expr_as context names Boolean condition)
        (λ c. result_and_then (stmt_resolved context names (length names) chosen)
        (λ t. Ok (tree.If c t))) (typed_still names Boolean condition) (λ c h.
        then_gives IsStillStmt IsStillStmt (stmt_resolved context names (length names) chosen)
        (λ t. Ok (tree.If c t)) (stmt_still names (length names) chosen)
        (λ t k. neither (expr_moves c) (stmt_moves t) h k))
    stmt_still names outer (tree.IfElse condition chosen other) =
        then_gives IsStill IsStillStmt (expr_as context names Boolean condition)
        (λ c. result_and_then (stmt_resolved context names (length names) chosen)
        (λ t. result_and_then (stmt_resolved context names (length names) other)
        (λ o. Ok (tree.IfElse c t o)))) (typed_still names Boolean condition) (λ c h.
        then_gives IsStillStmt IsStillStmt (stmt_resolved context names (length names) chosen)
        (λ t. result_and_then (stmt_resolved context names (length names) other)
        (λ o. Ok (tree.IfElse c t o))) (stmt_still names (length names) chosen) (λ t k.
        then_gives IsStillStmt IsStillStmt (stmt_resolved context names (length names) other)
        (λ o. Ok (tree.IfElse c t o)) (stmt_still names (length names) other)
        (λ o l. neither (expr_moves c) (stmt_moves t || stmt_moves o) h
        (neither (stmt_moves t) (stmt_moves o) k l))))
    stmt_still names outer (tree.While condition body) =
        then_gives IsStill IsStillStmt (expr_as context names Boolean condition)
        (λ c. result_and_then (stmt_resolved context names (length names) body)
        (λ b. Ok (tree.While c b))) (typed_still names Boolean condition) (λ c h.
        then_gives IsStillStmt IsStillStmt (stmt_resolved context names (length names) body)
        (λ b. Ok (tree.While c b)) (stmt_still names (length names) body)
        (λ b k. neither (expr_moves c) (stmt_moves b) h k))
    stmt_still names outer (tree.For first condition step body) =
        let inner = names_after names first in
        let count = length inner in
        then_gives IsStillStmt IsStillStmt (stmt_resolved context names (length names) first)
        (λ f. result_and_then (initial_resolved context inner Boolean condition)
        (λ c. result_and_then (stmt_resolved context inner count step)
        (λ s. result_and_then (stmt_resolved context inner count body)
        (λ b. Ok (tree.For f c s b))))) (stmt_still names (length names) first) (λ f h.
        then_gives IsStillInitial IsStillStmt (initial_resolved context inner Boolean condition)
        (λ c. result_and_then (stmt_resolved context inner count step)
        (λ s. result_and_then (stmt_resolved context inner count body)
        (λ b. Ok (tree.For f c s b)))) (initial_still inner Boolean condition) (λ c k.
        then_gives IsStillStmt IsStillStmt (stmt_resolved context inner count step)
        (λ s. result_and_then (stmt_resolved context inner count body)
        (λ b. Ok (tree.For f c s b))) (stmt_still inner count step) (λ s l.
        then_gives IsStillStmt IsStillStmt (stmt_resolved context inner count body)
        (λ b. Ok (tree.For f c s b)) (stmt_still inner count body) (λ b m.
        neither (stmt_moves f) (option_moves c || (stmt_moves s || stmt_moves b)) h
        (neither (option_moves c) (stmt_moves s || stmt_moves b) k
        (neither (stmt_moves s) (stmt_moves b) l m))))))
    stmt_still names outer (tree.Push value) =
        then_gives (λ e. ⊥) IsStillStmt (given_resolved context names context.pushes value)
        (λ v. Ok (tree.Push v))
        (none_gives (λ e. ⊥) context.pushes (expr_as context names Int value) no_pushes)
        (λ v h. absurd h)
    stmt_still names outer (tree.Print value) =
        then_gives IsStill IsStillStmt (given_resolved context names context.prints value)
        (λ v. Ok (tree.Print v)) (printed_still names value) (λ v h. h)
    stmt_still names outer (tree.Println value) =
        then_gives IsStill IsStillStmt (given_resolved context names context.prints value)
        (λ v. Ok (tree.Println v)) (printed_still names value) (λ v h. h)
    stmt_still names outer (tree.Return value) =
        then_gives IsStillInitial IsStillStmt (returned context names context.returns value)
        (λ v. Ok (tree.Return v)) (returned_still names context.returns value) (λ v h. h)

    -- a block that moves nothing
    pub stmts_still : (names : TypedNames) (outer : ℕ) (block : tree.Stmts)
        → Gives AreStill (stmts_resolved context names outer block)
    stmts_still names outer tree.Done = refl
    stmts_still names outer (tree.Then first rest) =
        let inner = names_after names first in
        then_gives IsStillStmt AreStill (stmt_resolved context names outer first)
        (λ f. result_and_then (stmts_resolved context inner outer rest) (λ r. Ok (tree.Then f r)))
        (stmt_still names outer first) (λ f h.
        then_gives AreStill AreStill (stmts_resolved context inner outer rest)
        (λ r. Ok (tree.Then f r)) (stmts_still inner outer rest)
        (λ r k. neither (stmt_moves f) (stmts_move r) h k))
