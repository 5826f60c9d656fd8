-- The expressions that the judgement accepts are closed.
use Rattle.std.proofs.Common.{◌≡◌, ℕ, Bool, true, false, ◌||◌, cond, not, ℤ}
use Rattle.std.proofs.Common.{List, [], ◌∷◌, Option, Some, None, Result, Ok, Err}
use Rattle.std.proofs.Common.{refl, sym, ap, ◌∙◌}
use Rattle.std.specs.Prelude.{bytes_eq}
use Rattle.strc_lex_names.specs.Results.{result_and_then}
use Rattle.strc_parse_tree.specs.Tree as tree
use Rattle.strc_parse_tree.specs.declared.tree.StepOperator.{StepOperator}
use Rattle.strc_parse_tree.specs.declared.tree.UnaryOperator.{UnaryOperator}
use Rattle.strc_parse_tree.specs.declared.tree.BinaryOperator.{BinaryOperator}
use Rattle.strc_parse_tree.specs.declared.tree.HelperType.{HelperType}
use Rattle.strc_work_rules.specs.declared.error.LowerError.{LowerError}
use Rattle.strc_work_meaning.specs.declared.types.ValueType.{ValueType}
use Rattle.strc_work_meaning.specs.declared.types.ValueType.TheVariants.{Int, Boolean}
use Rattle.strc_lex_names.specs.Names.{has_name, value_named, plain_names}
use Rattle.strc_work_meaning.specs.Scoping.{Scope, is_declared, answer_name}
use Rattle.strc_work_meaning.specs.Typing as typing
use Rattle.strc_work_meaning.specs.Typing.{TypedNames, same_type, is_array, type_of, names_with}
use Rattle.strc_work_meaning.specs.Typing.{block_names}
use Rattle.strc_work_rules.specs.Resolution.{Context, Typed, where_kept, expect_type}
use Rattle.strc_work_rules.specs.Resolution.{read_as}
use Rattle.strc_work_rules.specs.Resolution.{write_as, write_resolved, array_resolved}
use Rattle.strc_work_rules.specs.Resolution.{element_typed}
use Rattle.strc_work_rules.specs.Resolution.{step_element_typed, constant_read, operand_type}
use Rattle.strc_work_rules.specs.Resolution.{sides_type}
use Rattle.strc_work_rules.specs.Resolution.{binary_type, unary_typed, binary_typed}
use Rattle.strc_work_rules.specs.Resolution.{conditional_typed}
use Rattle.strc_work_rules.specs.Resolution.{peek_typed, group_typed, step_resolved, expr_resolved}
use Rattle.strc_work_rules.specs.Resolution.{expr_as, initial_resolved}
use Rattle.strc_work_rules.specs.Resolution.{Called}
use Rattle.strc_work_rules.specs.Resolution.{called_among, call_given, value_called, called_typed}
use Rattle.strc_work_rules.specs.Resolution.{arguments_resolved, call_resolved, evaluated}
use Rattle.strc_work_rules.specs.Signatures.{given_type}
use Rattle.strc_work_meaning.specs.Calls.{argument_count}
use Rattle.strc_work_meaning.specs.Closed.{IsNamed, IsClosed, AreClosedArguments, IsClosedInitial}

-- a property of a result, where there is one
abbrev pub Gives : {A : Type 0} → (A → Type 0) → Result A LowerError → Type 0
Gives P (Ok a) = P a
Gives P (Err e) = Unit {0}

pub then_gives : {A B : Type 0} (P : A → Type 0) (Q : B → Type 0) (r : Result A LowerError)
    (go : A → Result B LowerError) → Gives P r → ((a : A) → P a → Gives Q (go a)) → Gives Q
    (result_and_then r go)
then_gives P Q (Ok a) go h next = next a h
then_gives P Q (Err e) go h next = tt

-- where nothing is known of the result
pub any_gives : {A B : Type 0} (Q : B → Type 0) (r : Result A LowerError)
    (go : A → Result B LowerError) → ((a : A) → Gives Q (go a)) → Gives Q (result_and_then r go)
any_gives Q (Ok a) go next = next a
any_gives Q (Err e) go next = tt

pub kept_gives : {B : Type 0} (Q : B → Type 0) (kept : Bool) (next : Result B LowerError) → Gives Q
    next → Gives Q (where_kept kept next)
kept_gives Q true next h = h
kept_gives Q false next h = tt

-- in a helper function its answer is one of the variables
abbrev pub HasAnswer : Option HelperType → Scope → Type 0
HasAnswer None scope = Unit {0}
HasAnswer (Some kind) scope = IsNamed scope answer_name

-- a scope in which each of these names is declared
abbrev pub SeesNames : Scope → TypedNames → Type 0
SeesNames scope names = (name : List ℕ) → has_name (plain_names names) name ≡ true
    → IsNamed scope name

-- none of these names is the answer's
abbrev pub NoneAnswers : TypedNames → Type 0
NoneAnswers names = has_name (plain_names names) answer_name ≡ false

-- a scope in which each of these names is declared, and in a helper function its answer, which is
-- none of them
abbrev pub Sees : Context → Scope → TypedNames → Type 0
Sees context scope names =
    SeesNames scope names × HasAnswer context.returns scope × NoneAnswers names

-- whether a name is declared depends on the names alone
pub declared_by_name : (scope : Scope) (name : List ℕ) → is_declared scope name ≡ has_name
    (plain_names scope) name
declared_by_name [] name = refl
declared_by_name (first ∷ rest) name = ap (λ t. bytes_eq first.0 name || t)
    (declared_by_name rest name)

pub named_in : (scope : Scope) (names : List (List ℕ)) (name : List ℕ) → plain_names scope ≡ names →
    has_name names name ≡ true → IsNamed scope name
named_in scope names name sees there = declared_by_name scope name ∙ ap (λ l. has_name l name) sees
    ∙ there

or_more : (a b : Bool) → b ≡ true → (a || b) ≡ true
or_more true b h = refl
or_more false b h = h

or_as : (a b c : Bool) → (b ≡ true → c ≡ true) → (a || b) ≡ true → (a || c) ≡ true
or_as true b c f h = refl
or_as false b c f h = f h

-- one more name that is seen
pub names_more : (scope : Scope) (name : List ℕ) (cells : ℕ) (seen : List (List ℕ))
    → ((q : List ℕ) → has_name seen q ≡ true → IsNamed scope q)
    → (q : List ℕ) → has_name seen q ≡ true → IsNamed (record { 0 = name; 1 = cells } ∷ scope) q
names_more scope name cells seen sees q h =
    or_more (bytes_eq name q) (is_declared scope q) (sees q h)

answer_more : (returns : Option HelperType) (scope : Scope) (name : List ℕ) (cells : ℕ)
    → HasAnswer returns scope → HasAnswer returns (record { 0 = name; 1 = cells } ∷ scope)
answer_more None scope name cells h = tt
answer_more (Some kind) scope name cells h =
    or_more (bytes_eq name answer_name) (is_declared scope answer_name) h

pub neither : (a b : Bool) → a ≡ false → b ≡ false → (a || b) ≡ false
neither a b e f = ap (λ t. t || b) e ∙ f

-- a variable inside others, which hasn't the answer's name
pub sees_more : (context : Context) (scope : Scope) (names : TypedNames) (name name' : List ℕ)
    (cells : ℕ) (kind : ValueType) → name' ≡ name → bytes_eq name' answer_name ≡ false
    → Sees context scope names
    → Sees context (record { 0 = name'; 1 = cells } ∷ scope)
    (record { 0 = name; 1 = kind } ∷ names)
sees_more context scope names name name' cells kind same other sees = record {
  0 = λ q h. ap (λ n. bytes_eq n q || is_declared scope q) same
      ∙ or_as (bytes_eq name q) (has_name (plain_names names) q) (is_declared scope q) (sees.0 q)
      h;
  1 = answer_more context.returns scope name' cells sees.1;
  2 = neither (bytes_eq name answer_name) (has_name (plain_names names) answer_name)
      (ap (λ n. bytes_eq n answer_name) (sym same) ∙ other) sees.2;
}

-- the names alone after a declaration
pub plain_declared : (names : TypedNames) (kind : ValueType) (variables : List tree.Variable) →
    plain_names (typing.with_declared names kind variables) ≡ names_with (plain_names names)
    variables
plain_declared names kind [] = refl
plain_declared names kind (first ∷ rest) = plain_declared
    (record { 0 = first.name; 1 = kind } ∷ names) kind rest

-- a name that has a type is there
pub typed_name : (names : TypedNames) (name : List ℕ) (kind : ValueType) → value_named names name ≡
    Some kind → has_name (plain_names names) name ≡ true
typed_name [] name kind e = cc
typed_name (first ∷ rest) name kind e = by_value (bytes_eq first.0 name) e
    (typed_name rest name kind)
  where
    by_value : (t : Bool) → cond t (Some first.1) (value_named rest name) ≡ Some kind →
        (value_named rest name ≡ Some kind → has_name (plain_names rest) name ≡ true) → t ||
        has_name (plain_names rest) name ≡ true
    by_value true e inner = refl
    by_value false e inner = inner e

named_of_type : (context : Context) (scope : Scope) (names : TypedNames) (name : List ℕ)
    (kind : ValueType) → SeesNames scope names → value_named names name ≡ Some kind
    → IsNamed scope name
named_of_type context scope names name kind sees e = sees name (typed_name names name kind e)

-- a typed expression is closed
abbrev IsClosedTyped : Scope → Typed → Type 0
IsClosedTyped scope typed = IsClosed scope typed.value

constant_gives : (scope : Scope) (name : List ℕ) (o : Option ℤ) → Gives (IsClosedTyped scope)
    (constant_read name o)
constant_gives scope name None = tt
constant_gives scope name (Some value) = tt

name_gives : (context : Context) (scope : Scope) (names : TypedNames) (name : List ℕ)
    (o : Option ValueType) → SeesNames scope names → value_named names name ≡ o → Gives
    (IsClosedTyped scope) (read_as context name o)
name_gives context scope names name (Some kind) sees e =
    let read : Result Typed LowerError = Ok (record { kind = kind; value = tree.Read name }) in
    kept_gives (IsClosedTyped scope) (not context.constants_only)
    (where_kept (not (is_array kind)) read)
    (kept_gives (IsClosedTyped scope) (not (is_array kind)) read
    (named_of_type context scope names name kind sees e))
name_gives context scope names name None sees e = constant_gives scope name
    (value_named context.constants name)

pub write_gives : (context : Context) (scope : Scope) (names : TypedNames) (name : List ℕ)
    (o : Option ValueType) → SeesNames scope names → value_named names name ≡ o → Gives
    (λ (kind : ValueType). IsNamed scope name) (write_as context name o)
write_gives context scope names name (Some kind) sees e = named_of_type context scope names name
    kind sees e
write_gives context scope names name None sees e = tt

-- a name of a variable that keeps a rule
written_gives : (context : Context) (scope : Scope) (names : TypedNames) (name : List ℕ)
    (rule : ValueType → Bool) → SeesNames scope names → Gives (IsNamed scope)
    (where_kept (not context.constants_only)
    (result_and_then (write_resolved context names name)
    (λ kind. where_kept (rule kind) (Ok name))))
written_gives context scope names name rule sees =
    kept_gives (IsNamed scope) (not context.constants_only)
    (result_and_then (write_resolved context names name)
    (λ kind. where_kept (rule kind) (Ok name)))
    (then_gives (λ (kind : ValueType). IsNamed scope name) (IsNamed scope)
    (write_resolved context names name) (λ kind. where_kept (rule kind) (Ok name))
    (write_gives context scope names name (value_named names name) sees refl) (λ kind h.
    kept_gives (IsNamed scope) (rule kind) (Ok name) h))

step_gives : (context : Context) (scope : Scope) (names : TypedNames) (name : List ℕ)
    → SeesNames scope
    names → Gives (IsNamed scope) (step_resolved context names name)
step_gives context scope names name sees = written_gives context scope names name
    (λ kind. same_type kind Int) sees

pub array_gives : (context : Context) (scope : Scope) (names : TypedNames) (name : List ℕ)
    → SeesNames scope
    names → Gives (IsNamed scope) (array_resolved context names name)
array_gives context scope names name sees = written_gives context scope names name is_array sees

as_gives : (scope : Scope) (kind : ValueType) (typed : Typed) → IsClosedTyped scope typed → Gives
    (IsClosed scope) (expect_type kind typed)
as_gives scope kind typed h = kept_gives (IsClosed scope) (same_type typed.kind kind)
    (Ok typed.value) h

peek_gives : (scope : Scope) (pops : Bool) (index : Typed) → IsClosedTyped scope index → Gives
    (IsClosedTyped scope) (peek_typed pops index)
peek_gives scope pops index h =
    kept_gives (IsClosedTyped scope) pops
    (result_and_then (expect_type Int index)
    (λ i. Ok (record { kind = Int; value = tree.Peek i })))
    (then_gives (IsClosed scope) (IsClosedTyped scope) (expect_type Int index)
    (λ i. Ok (record { kind = Int; value = tree.Peek i })) (as_gives scope Int index h)
    (λ i h'. h'))

element_gives : (scope : Scope) (name : List ℕ) (index : Typed) → IsNamed scope name →
    IsClosedTyped scope index → Gives (IsClosedTyped scope) (element_typed name index)
element_gives scope name index named h =
    then_gives (IsClosed scope) (IsClosedTyped scope) (expect_type Int index)
    (λ i. Ok (record { kind = Int; value = tree.Element name i })) (as_gives scope Int index h)
    (λ i h'. (named, h'))

step_element_gives : (scope : Scope) (operator : StepOperator) (name : List ℕ) (index : Typed) →
    IsNamed scope name → IsClosedTyped scope index → Gives (IsClosedTyped scope)
    (step_element_typed operator name index)
step_element_gives scope operator name index named h =
    then_gives (IsClosed scope) (IsClosedTyped scope) (expect_type Int index)
    (λ i. Ok (record { kind = Int; value = tree.StepElement operator name i }))
    (as_gives scope Int index h) (λ i h'. (named, h'))

unary_gives : (scope : Scope) (operator : UnaryOperator) (operand : Typed) → IsClosedTyped scope
    operand → Gives (IsClosedTyped scope) (unary_typed operator operand)
unary_gives scope operator operand h =
    then_gives (IsClosed scope) (IsClosedTyped scope) (expect_type (operand_type operator) operand)
    (λ i. Ok (record { kind = operand_type operator; value = tree.Unary operator i }))
    (as_gives scope (operand_type operator) operand h) (λ i h'. h')

binary_gives : (scope : Scope) (operator : BinaryOperator) (left right : Typed) → IsClosedTyped
    scope left → IsClosedTyped scope right → Gives (IsClosedTyped scope)
    (binary_typed operator left right)
binary_gives scope operator left right hl hr =
    let kind = sides_type operator left.kind in
    let closed = IsClosed scope in
    then_gives closed (IsClosedTyped scope) (expect_type kind left)
    (λ l. result_and_then (expect_type kind right)
    (λ r. Ok (record { kind = binary_type operator; value = tree.Binary operator l r })))
    (as_gives scope kind left hl) (λ l h.
    then_gives closed (IsClosedTyped scope) (expect_type kind right)
    (λ r. Ok (record { kind = binary_type operator; value = tree.Binary operator l r }))
    (as_gives scope kind right hr) (λ r h'. (h, h')))

conditional_gives : (scope : Scope) (condition chosen other : Typed) → IsClosedTyped scope
    condition → IsClosedTyped scope chosen → IsClosedTyped scope other → Gives
    (IsClosedTyped scope) (conditional_typed condition chosen other)
conditional_gives scope condition chosen other hc ht ho =
    let closed = IsClosed scope in
    then_gives closed (IsClosedTyped scope) (expect_type Boolean condition)
    (λ c. result_and_then (expect_type chosen.kind other)
    (λ o. Ok (record { kind = chosen.kind; value = tree.Conditional c chosen.value o })))
    (as_gives scope Boolean condition hc) (λ c h.
    then_gives closed (IsClosedTyped scope) (expect_type chosen.kind other)
    (λ o. Ok (record { kind = chosen.kind; value = tree.Conditional c chosen.value o }))
    (as_gives scope chosen.kind other ho) (λ o h'. record { 0 = h; 1 = ht; 2 = h' }))

-- a call with closed arguments is closed
abbrev IsClosedCalled : Scope → Called → Type 0
IsClosedCalled scope called = IsClosed scope called.call

call_gives : (context : Context) (scope : Scope) (name : List ℕ) (arguments : tree.Arguments)
    (given : Result tree.Arguments LowerError) → Gives (AreClosedArguments scope) given
    → Gives (IsClosedCalled scope) (call_given context name arguments given)
call_gives context scope name arguments given h =
    any_gives (IsClosedCalled scope)
    (called_among name (argument_count arguments) context.helpers)
    (λ kind. result_and_then given (λ a. Ok (record { kind = kind; call = tree.Call name a })))
    (λ kind. then_gives (AreClosedArguments scope) (IsClosedCalled scope) given
    (λ a. Ok (record { kind = kind; call = tree.Call name a })) h (λ a h'. h'))

value_gives : (scope : Scope) (kind : Option ValueType) (call : tree.Expr) → IsClosed scope call
    → Gives (IsClosedTyped scope) (value_called kind call)
value_gives scope None call h = tt
value_gives scope (Some kind) call h = h

mutual
  expr_gives : (context : Context) (scope : Scope) (names : TypedNames) (e : tree.Expr)
      → SeesNames scope
      names → Gives (IsClosedTyped scope) (expr_resolved context names e)
  expr_gives context scope names (tree.Number value) sees = tt
  expr_gives context scope names (tree.Truth value) sees = tt
  expr_gives context scope names (tree.Element name index) sees =
      then_gives (IsNamed scope) (IsClosedTyped scope) (array_resolved context names name)
      (λ n. result_and_then (expr_resolved context names index) (λ i. element_typed n i))
      (array_gives context scope names name sees) (λ n h.
      then_gives (IsClosedTyped scope) (IsClosedTyped scope) (expr_resolved context names index)
      (λ i. element_typed n i) (expr_gives context scope names index sees)
      (λ i h'. element_gives scope n i h h'))
  expr_gives context scope names (tree.StepElement operator name index) sees =
      then_gives (IsNamed scope) (IsClosedTyped scope) (array_resolved context names name)
      (λ n. result_and_then (expr_resolved context names index)
      (λ i. step_element_typed operator n i)) (array_gives context scope names name sees)
      (λ n h.
      then_gives (IsClosedTyped scope) (IsClosedTyped scope) (expr_resolved context names index)
      (λ i. step_element_typed operator n i) (expr_gives context scope names index sees)
      (λ i h'. step_element_gives scope operator n i h h'))
  expr_gives context scope names (tree.Read name) sees = name_gives context scope names name
      (value_named names name) sees refl
  expr_gives context scope names tree.Pop sees = kept_gives (IsClosedTyped scope) context.pops
      (Ok (record { kind = Int; value = tree.Pop })) tt
  expr_gives context scope names (tree.Peek index) sees =
      then_gives (IsClosedTyped scope) (IsClosedTyped scope) (expr_resolved context names index)
      (λ i. peek_typed context.pops i) (expr_gives context scope names index sees)
      (λ i h. peek_gives scope context.pops i h)
  expr_gives context scope names (tree.Call name arguments) sees =
      let given = arguments_resolved context names arguments in
      then_gives (IsClosedCalled scope) (IsClosedTyped scope)
      (call_given context name arguments given) (λ c. called_typed c)
      (call_gives context scope name arguments given
      (arguments_give context scope names arguments sees))
      (λ c h. value_gives scope (given_type c.kind) c.call h)
  expr_gives context scope names (tree.Group inner) sees =
      then_gives (IsClosedTyped scope) (IsClosedTyped scope) (expr_resolved context names inner)
      (λ i. Ok (group_typed i)) (expr_gives context scope names inner sees) (λ i h. h)
  expr_gives context scope names (tree.Unary operator operand) sees =
      then_gives (IsClosedTyped scope) (IsClosedTyped scope) (expr_resolved context names operand)
      (λ i. unary_typed operator i) (expr_gives context scope names operand sees)
      (λ i h. unary_gives scope operator i h)
  expr_gives context scope names (tree.Step operator name) sees =
      then_gives (IsNamed scope) (IsClosedTyped scope) (step_resolved context names name)
      (λ n. Ok (record { kind = Int; value = tree.Step operator n }))
      (step_gives context scope names name sees) (λ n h. h)
  expr_gives context scope names (tree.Binary operator left right) sees =
      then_gives (IsClosedTyped scope) (IsClosedTyped scope) (expr_resolved context names left)
      (λ l. result_and_then (expr_resolved context names right) (λ r. binary_typed operator l r))
      (expr_gives context scope names left sees) (λ l h.
      then_gives (IsClosedTyped scope) (IsClosedTyped scope) (expr_resolved context names right)
      (λ r. binary_typed operator l r) (expr_gives context scope names right sees)
      (λ r h'. binary_gives scope operator l r h h'))
  expr_gives context scope names (tree.Conditional condition chosen other) sees =
      then_gives (IsClosedTyped scope) (IsClosedTyped scope) (expr_resolved context names condition)
      (λ c. result_and_then (expr_resolved context names chosen)
      (λ t. result_and_then (expr_resolved context names other)
      (λ o. conditional_typed c t o))) (expr_gives context scope names condition sees)
      (λ c h.
      then_gives (IsClosedTyped scope) (IsClosedTyped scope) (expr_resolved context names chosen)
      (λ t. result_and_then (expr_resolved context names other) (λ o. conditional_typed c t o))
      (expr_gives context scope names chosen sees) (λ t h'.
      then_gives (IsClosedTyped scope) (IsClosedTyped scope) (expr_resolved context names other)
      (λ o. conditional_typed c t o) (expr_gives context scope names other sees)
      (λ o h''. conditional_gives scope c t o h h' h'')))

  arguments_give : (context : Context) (scope : Scope) (names : TypedNames)
      (arguments : tree.Arguments) → SeesNames scope names
      → Gives (AreClosedArguments scope) (arguments_resolved context names arguments)
  arguments_give context scope names tree.NoArgument sees = tt
  arguments_give context scope names (tree.Argument first rest) sees =
      let closed = AreClosedArguments scope in
      then_gives (IsClosed scope) closed
      (result_and_then (expr_resolved context names first) (λ typed. expect_type Int typed))
      (λ f. result_and_then (arguments_resolved context names rest)
      (λ r. Ok (tree.Argument f r)))
      (then_gives (IsClosedTyped scope) (IsClosed scope) (expr_resolved context names first)
      (λ typed. expect_type Int typed) (expr_gives context scope names first sees)
      (λ typed h. as_gives scope Int typed h)) (λ f h.
      then_gives closed closed (arguments_resolved context names rest)
      (λ r. Ok (tree.Argument f r)) (arguments_give context scope names rest sees)
      (λ r h'. (h, h')))

-- an expression that is a statement
alone_gives : (context : Context) (scope : Scope) (names : TypedNames) (e : tree.Expr)
    → SeesNames scope names → Gives (IsClosed scope)
    (result_and_then (expr_resolved context names e) (λ typed. Ok typed.value))
alone_gives context scope names e sees =
    then_gives (IsClosedTyped scope) (IsClosed scope) (expr_resolved context names e)
    (λ typed. Ok typed.value) (expr_gives context scope names e sees) (λ typed h. h)

pub evaluated_gives : (context : Context) (scope : Scope) (names : TypedNames) (e : tree.Expr)
    → SeesNames scope names → Gives (IsClosed scope) (evaluated context names e)
evaluated_gives context scope names (tree.Call name arguments) sees =
    then_gives (IsClosedCalled scope) (IsClosed scope)
    (call_resolved context names name arguments) (λ c. Ok c.call)
    (call_gives context scope name arguments (arguments_resolved context names arguments)
    (arguments_give context scope names arguments sees)) (λ c h. h)
evaluated_gives context scope names (tree.Number value) sees =
    alone_gives context scope names (tree.Number value) sees
evaluated_gives context scope names (tree.Truth value) sees =
    alone_gives context scope names (tree.Truth value) sees
evaluated_gives context scope names (tree.Read name) sees =
    alone_gives context scope names (tree.Read name) sees
evaluated_gives context scope names (tree.Element name index) sees =
    alone_gives context scope names (tree.Element name index) sees
evaluated_gives context scope names tree.Pop sees =
    alone_gives context scope names tree.Pop sees
evaluated_gives context scope names (tree.Peek index) sees =
    alone_gives context scope names (tree.Peek index) sees
evaluated_gives context scope names (tree.Group inner) sees =
    alone_gives context scope names (tree.Group inner) sees
evaluated_gives context scope names (tree.Unary operator operand) sees =
    alone_gives context scope names (tree.Unary operator operand) sees
evaluated_gives context scope names (tree.Step operator name) sees =
    alone_gives context scope names (tree.Step operator name) sees
evaluated_gives context scope names (tree.StepElement operator name index) sees =
    alone_gives context scope names (tree.StepElement operator name index) sees
evaluated_gives context scope names (tree.Binary operator left right) sees =
    alone_gives context scope names (tree.Binary operator left right) sees
evaluated_gives context scope names (tree.Conditional condition chosen other) sees =
    alone_gives context scope names (tree.Conditional condition chosen other) sees

pub expr_as_gives : (context : Context) (scope : Scope) (names : TypedNames) (kind : ValueType)
    (e : tree.Expr) → SeesNames scope names
    → Gives (IsClosed scope) (expr_as context names kind e)
expr_as_gives context scope names kind e sees =
    then_gives (IsClosedTyped scope) (IsClosed scope) (expr_resolved context names e)
    (λ typed. expect_type kind typed) (expr_gives context scope names e sees)
    (λ typed h. as_gives scope kind typed h)

pub initial_gives : (context : Context) (scope : Scope) (names : TypedNames) (kind : ValueType)
    (initial : Option tree.Expr) → SeesNames scope names → Gives (IsClosedInitial scope)
    (initial_resolved context names kind initial)
initial_gives context scope names kind None sees = tt
initial_gives context scope names kind (Some value) sees =
    then_gives (IsClosed scope) (IsClosedInitial scope) (expr_as context names kind value)
    (λ v. Ok (Some v)) (expr_as_gives context scope names kind value sees) (λ v h. h)
