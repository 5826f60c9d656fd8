-- The walk accepts an expression at a type exactly where the expression has it.
use Rattle.std.proofs.Common.{◌≡◌, ◌↔◌, ℕ, ℤ, Bool, true, false, not, List, Option, Some, None}
use Rattle.std.proofs.Common.{Result, Ok, Err, IsOk, IsNone, IsSome, is_some, refl, sym, ap}
use Rattle.std.proofs.Common.{◌∙◌, subst, inl, inr, cond, ◌==◌, arith}
use Rattle.std.proofs.lemmas.Bool.Decides.{nat_tests}
use Rattle.strc_lex_names.specs.Names.{value_named}
use Rattle.strc_lex_names.specs.Results.{result_and_then}
use Rattle.strc_parse_tree.specs.Tree as tree
use Rattle.strc_parse_tree.specs.declared.tree.UnaryOperator.{UnaryOperator}
use Rattle.strc_parse_tree.specs.declared.tree.UnaryOperator.TheVariants as unary
use Rattle.strc_parse_tree.specs.declared.tree.BinaryOperator.{BinaryOperator}
use Rattle.strc_parse_tree.specs.declared.tree.BinaryOperator.TheVariants as binary
use Rattle.strc_work_rules.specs.declared.error.LowerError.{LowerError}
use Rattle.strc_work_meaning.specs.declared.types.ValueType.{ValueType}
use Rattle.strc_work_meaning.specs.declared.types.ValueType.TheVariants.{Int, Boolean, Array}
use Rattle.strc_work_meaning.specs.Typing.{TypedNames, same_type, is_array}
use Rattle.strc_work_rules.specs.Resolution.{Context, Typed, where_kept, expect_type, constant_read}
use Rattle.strc_work_rules.specs.Resolution.{read_as, write_as, write_resolved, operand_type}
use Rattle.strc_work_rules.specs.Resolution.{sides_type}
use Rattle.strc_work_rules.specs.Resolution.{binary_type, unary_typed, binary_typed}
use Rattle.strc_work_rules.specs.Resolution.{conditional_typed}
use Rattle.strc_work_rules.specs.Resolution.{peek_typed, group_typed, step_resolved, array_resolved}
use Rattle.strc_work_rules.specs.Resolution.{element_typed, step_element_typed, expr_resolved}
use Rattle.strc_work_rules.specs.Resolution.{expr_as}
use Rattle.strc_work_rules.specs.Resolution.{initial_resolved, Called, called_as, called_among}
use Rattle.strc_work_rules.specs.Resolution.{call_given, value_called, called_typed}
use Rattle.strc_work_rules.specs.Resolution.{arguments_resolved}
use Rattle.strc_work_rules.specs.declared.signatures.Signature.{Signature}
use Rattle.strc_work_rules.specs.Signatures.{Signatures, given_type}
use Rattle.strc_work_meaning.specs.Calls.{argument_count}
use Rattle.strc_work_rules.specs.declared.error.LowerErrorKind.TheVariants as refused
use Rattle.strc_parse_tree.specs.declared.tree.HelperType.{HelperType}
use Rattle.strc_parse_tree.specs.declared.tree.HelperType.TheVariants as helper
use Rattle.strc_work_rules.proofs.ResolvingExpressions.{Gives, then_gives}
use Rattle.strc_work.specs.Expressions.{IsVariable, SeesVariable, NameHasType}
use Rattle.strc_work.specs.Expressions.{HasType, InitialHasType, Calls, AreNumbers}
use Rattle.strc_work.proofs.Accepting.{kept_gives, kept_is, then_is, any_ok, given, is_ok_of}
use Rattle.strc_work.proofs.Accepting.{same_type_true, same_type_self, not_true, not_false}

-- a result accepts at a type
abbrev pub Accepts : ValueType → Result Typed LowerError → Type 0
Accepts kind r = (resolved : tree.Expr) × (r ≡ Ok (record { kind = kind; value = resolved }))

accepts_at : (r : Result Typed LowerError) (kind kind' : ValueType) → kind' ≡ kind
    → Accepts kind r → Accepts kind' r
accepts_at r kind kind' e h = subst (λ k. Accepts k r) (sym e) h

-- no value is an array
unary_no_array : (operator : UnaryOperator) → Array ≡ operand_type operator → ⊥
unary_no_array unary.Negate e = cc
unary_no_array unary.Not e = cc
unary_no_array unary.Complement e = cc

binary_no_array : (operator : BinaryOperator) → Array ≡ binary_type operator → ⊥
binary_no_array binary.LogicalOr e = cc
binary_no_array binary.LogicalAnd e = cc
binary_no_array binary.Equal e = cc
binary_no_array binary.NotEqual e = cc
binary_no_array binary.Less e = cc
binary_no_array binary.LessOrEqual e = cc
binary_no_array binary.Greater e = cc
binary_no_array binary.GreaterOrEqual e = cc
binary_no_array _ e = cc

name_no_array : (context : Context) (names : TypedNames) (name : List ℕ)
    → NameHasType context names name Array → ⊥
name_no_array context names name (inl h) = let e : true ≡ false = h.1 in cc
name_no_array context names name (inr h) = let e : Array ≡ Int = h.1 in cc

given_no_array : (given : HelperType) → given_type given ≡ Some Array → ⊥
given_no_array helper.Int e = cc
given_no_array helper.Boolean e = cc
given_no_array helper.Void e = cc

pub no_array : (context : Context) (names : TypedNames) (e : tree.Expr)
    → HasType context names e Array → ⊥
no_array context names (tree.Number value) h = cc
no_array context names (tree.Truth value) h = cc
no_array context names (tree.Read name) h = name_no_array context names name h
no_array context names (tree.Element name index) h = let e : Array ≡ Int = h.2 in cc
no_array context names tree.Pop h = let e : Array ≡ Int = h.1 in cc
no_array context names (tree.Peek index) h = let e : Array ≡ Int = h.2 in cc
no_array context names (tree.Call name arguments) h = given_no_array h.0.0 h.0.1.1
no_array context names (tree.Group inner) h = no_array context names inner h
no_array context names (tree.Unary operator operand) h = unary_no_array operator h.1
no_array context names (tree.Step operator name) h = let e : Array ≡ Int = h.1 in cc
no_array context names (tree.StepElement operator name index) h =
    let e : Array ≡ Int = h.2 in cc
no_array context names (tree.Binary operator left right) h = binary_no_array operator h.1
no_array context names (tree.Conditional condition chosen other) h =
    no_array context names chosen h.1

-- a type that an expression has passes for itself
pub has_same : (context : Context) (names : TypedNames) (e : tree.Expr) (kind : ValueType)
    → HasType context names e kind → same_type kind kind ≡ true
has_same context names e kind h =
    same_type_self (HasType context names e) kind (no_array context names e) h

-- names

name_gives : (context : Context) (names : TypedNames) (name : List ℕ) (o : Option ValueType)
    → value_named names name ≡ o
    → Gives (λ (t : Typed). NameHasType context names name t.kind) (read_as context name o)
name_gives context names name (Some kind) is =
    let Q : Typed → Type 0 = λ t. NameHasType context names name t.kind in
    let read : Result Typed LowerError = Ok (record { kind = kind; value = tree.Read name }) in
    kept_gives Q (not context.constants_only) (where_kept (not (is_array kind)) read) (λ sees.
    kept_gives Q (not (is_array kind)) read (λ value.
    inl ((not_true context.constants_only sees, is), not_true (is_array kind) value)))
name_gives context names name None is =
    by_constant (value_named context.constants name) refl
  where
    by_constant : (o : Option ℤ) → value_named context.constants name ≡ o
        → Gives (λ (t : Typed). NameHasType context names name t.kind) (constant_read name o)
    by_constant None at = tt
    by_constant (Some value) at = inr ((ap is_some is, ap is_some at), refl)

name_accepts : (context : Context) (names : TypedNames) (name : List ℕ) (kind : ValueType)
    → NameHasType context names name kind
    → Accepts kind (read_as context name (value_named names name))
name_accepts context names name kind (inl h) = (
  tree.Read name,
  ap (read_as context name) h.0.1
      ∙ kept_is (not context.constants_only) _ (not_false context.constants_only h.0.0)
      ∙ kept_is (not (is_array kind)) _ (not_false (is_array kind) h.1),
)
name_accepts context names name kind (inr h) =
    accepts_at (read_as context name (value_named names name)) Int kind h.1
    (by_none (value_named names name) h.0.0 (value_named context.constants name) refl h.0.1)
  where
    by_none : (o : Option ValueType) → IsNone o → (c : Option ℤ)
        → value_named context.constants name ≡ c → IsSome c → Accepts Int (read_as context name o)
    by_none (Some k) none c at some = absurd (cc)
    by_none None none None at some = absurd (cc)
    by_none None none (Some value) at some = (tree.Number value, ap (constant_read name) at)

-- the type of a name that is written
pub write_gives : (context : Context) (names : TypedNames) (name : List ℕ)
    → Gives (IsVariable names name) (write_resolved context names name)
write_gives context names name = by_value (value_named names name) refl
  where
    by_value : (o : Option ValueType) → value_named names name ≡ o
        → Gives (IsVariable names name) (write_as context name o)
    by_value (Some kind) is = is
    by_value None is = tt

pub write_is : (context : Context) (names : TypedNames) (name : List ℕ) (kind : ValueType)
    → IsVariable names name kind → write_resolved context names name ≡ Ok kind
write_is context names name kind h = ap (write_as context name) h

-- a name of a variable that keeps a rule
seen_gives : (context : Context) (names : TypedNames) (name : List ℕ) (rule : ValueType → Bool)
    (kind : ValueType) → ((k : ValueType) → rule k ≡ true → k ≡ kind)
    → Gives (λ (n : List ℕ). SeesVariable context names name kind)
    (where_kept (not context.constants_only) (result_and_then (write_resolved context names name)
    (λ k. where_kept (rule k) (Ok name))))
seen_gives context names name rule kind only =
    let Q : List ℕ → Type 0 = λ n. SeesVariable context names name kind in
    kept_gives Q (not context.constants_only)
    (result_and_then (write_resolved context names name) (λ k. where_kept (rule k) (Ok name)))
    (λ sees. then_gives (IsVariable names name) Q (write_resolved context names name)
    (λ k. where_kept (rule k) (Ok name)) (write_gives context names name) (λ k h.
    kept_gives Q (rule k) (Ok name) (λ kept.
    (not_true context.constants_only sees, h ∙ ap Some (only k kept)))))

seen_is : (context : Context) (names : TypedNames) (name : List ℕ) (rule : ValueType → Bool)
    (kind : ValueType) → rule kind ≡ true → SeesVariable context names name kind
    → where_kept (not context.constants_only)
    (result_and_then (write_resolved context names name) (λ k. where_kept (rule k) (Ok name)))
    ≡ Ok name
seen_is context names name rule kind kept h =
    kept_is (not context.constants_only) _ (not_false context.constants_only h.0)
    ∙ then_is (write_resolved context names name) (λ k. where_kept (rule k) (Ok name)) kind
    (write_is context names name kind h.1)
    ∙ kept_is (rule kind) (Ok name) kept

is_array_only : (kind : ValueType) → is_array kind ≡ true → kind ≡ Array
is_array_only Int e = absurd (cc)
is_array_only Boolean e = absurd (cc)
is_array_only Array e = refl

pub array_gives : (context : Context) (names : TypedNames) (name : List ℕ)
    → Gives (λ (n : List ℕ). SeesVariable context names name Array)
    (array_resolved context names name)
array_gives context names name = seen_gives context names name is_array Array is_array_only

pub array_is : (context : Context) (names : TypedNames) (name : List ℕ)
    → SeesVariable context names name Array → array_resolved context names name ≡ Ok name
array_is context names name h = seen_is context names name is_array Array refl h

step_gives : (context : Context) (names : TypedNames) (name : List ℕ)
    → Gives (λ (n : List ℕ). SeesVariable context names name Int)
    (step_resolved context names name)
step_gives context names name =
    seen_gives context names name (λ k. same_type k Int) Int (λ k e. same_type_true k Int e)

step_is : (context : Context) (names : TypedNames) (name : List ℕ)
    → SeesVariable context names name Int → step_resolved context names name ≡ Ok name
step_is context names name h = seen_is context names name (λ k. same_type k Int) Int refl h

-- parts of expressions

as_gives : (H : ValueType → Type 0) (kind : ValueType) (typed : Typed) → H typed.kind
    → Gives (λ (e : tree.Expr). H kind) (expect_type kind typed)
as_gives H kind typed h =
    kept_gives (λ (e : tree.Expr). H kind) (same_type typed.kind kind) (Ok typed.value)
    (λ same. subst H (same_type_true typed.kind kind same) h)

as_is : (kind : ValueType) (value : tree.Expr) → same_type kind kind ≡ true
    → expect_type kind (record { kind = kind; value = value }) ≡ Ok value
as_is kind value same = kept_is (same_type kind kind) (Ok value) same

unary_gives : (H : ValueType → Type 0) (operator : UnaryOperator) (operand : Typed)
    → H operand.kind
    → Gives (λ (t : Typed). H (operand_type operator) × (t.kind ≡ operand_type operator))
    (unary_typed operator operand)
unary_gives H operator operand h =
    then_gives (λ (e : tree.Expr). H (operand_type operator))
    (λ (t : Typed). H (operand_type operator) × (t.kind ≡ operand_type operator))
    (expect_type (operand_type operator) operand)
    (λ o. Ok (record { kind = operand_type operator; value = tree.Unary operator o }))
    (as_gives H (operand_type operator) operand h) (λ o h'. (h', refl))

-- both sides have one type that the operator takes
abbrev Sides : (H H' : ValueType → Type 0) → BinaryOperator → ValueType → Type 0
Sides H H' operator kind =
    ((sides : ValueType) × (H sides × H' sides × (sides_type operator sides ≡ sides)))
    × (kind ≡ binary_type operator)

binary_gives : (H H' : ValueType → Type 0) (operator : BinaryOperator) (left right : Typed)
    → H left.kind → H' right.kind
    → Gives (λ (t : Typed). Sides H H' operator t.kind) (binary_typed operator left right)
binary_gives H H' operator left right h h' =
    let kind = sides_type operator left.kind in
    let Q : Typed → Type 0 = λ t. Sides H H' operator t.kind in
    let made : tree.Expr → tree.Expr → Result Typed LowerError =
    λ l r. Ok (record { kind = binary_type operator; value = tree.Binary operator l r }) in
    then_gives (λ (e : tree.Expr). left.kind ≡ kind) Q (expect_type kind left)
    (λ l. result_and_then (expect_type kind right) (made l))
    (as_gives (λ k. left.kind ≡ k) kind left refl) (λ l e.
    then_gives (λ (e' : tree.Expr). H' kind) Q (expect_type kind right) (made l)
    (as_gives H' kind right h')
    (λ r h''. ((left.kind, record { 0 = h; 1 = subst H' (sym e) h''; 2 = sym e }), refl)))

binary_is : (operator : BinaryOperator) (sides : ValueType) (left right : tree.Expr)
    → same_type sides sides ≡ true → sides_type operator sides ≡ sides
    → binary_typed operator (record { kind = sides; value = left })
    (record { kind = sides; value = right })
    ≡ Ok (record { kind = binary_type operator; value = tree.Binary operator left right })
binary_is operator sides left right same takes =
    let kept : same_type sides (sides_type operator sides) ≡ true =
    ap (same_type sides) takes ∙ same in
    let made : tree.Expr → tree.Expr → Result Typed LowerError =
    λ l r. Ok (record { kind = binary_type operator; value = tree.Binary operator l r }) in
    let right_is : Result tree.Expr LowerError =
    where_kept (same_type sides (sides_type operator sides)) (Ok right) in
    ap (λ r. result_and_then r (λ l. result_and_then right_is (made l)))
    (kept_is (same_type sides (sides_type operator sides)) (Ok left) kept)
    ∙ ap (λ r. result_and_then r (made left))
    (kept_is (same_type sides (sides_type operator sides)) (Ok right) kept)

conditional_gives : (H H' H'' : ValueType → Type 0) (condition chosen other : Typed)
    → H condition.kind → H' chosen.kind → H'' other.kind
    → Gives (λ (t : Typed). H Boolean × H' t.kind × H'' t.kind)
    (conditional_typed condition chosen other)
conditional_gives H H' H'' condition chosen other h h' h'' =
    let Q : Typed → Type 0 = λ t. H Boolean × H' t.kind × H'' t.kind in
    let made : tree.Expr → tree.Expr → Result Typed LowerError =
    λ c o. Ok (record { kind = chosen.kind; value = tree.Conditional c chosen.value o }) in
    then_gives (λ (e : tree.Expr). H Boolean) Q (expect_type Boolean condition)
    (λ c. result_and_then (expect_type chosen.kind other) (made c))
    (as_gives H Boolean condition h) (λ c hc.
    then_gives (λ (e : tree.Expr). H'' chosen.kind) Q (expect_type chosen.kind other) (made c)
    (as_gives H'' chosen.kind other h'') (λ o ho. record { 0 = hc; 1 = h'; 2 = ho }))

-- an index that is a number
index_gives : (H : ValueType → Type 0) (P : Type 0) (index : Typed) (made : tree.Expr → tree.Expr)
    → P → H index.kind
    → Gives (λ (t : Typed). P × H Int × (t.kind ≡ Int))
    (result_and_then (expect_type Int index) (λ i. Ok (record { kind = Int; value = made i })))
index_gives H P index made p h =
    then_gives (λ (e : tree.Expr). H Int) (λ (t : Typed). P × H Int × (t.kind ≡ Int))
    (expect_type Int index) (λ i. Ok (record { kind = Int; value = made i }))
    (as_gives H Int index h) (λ i h'. record { 0 = p; 1 = h'; 2 = refl })

-- calls

same_number : (a b : ℕ) → a == b ≡ true → a ≡ b
same_number a b e = grind (arith, nat_tests)

number_itself : (a : ℕ) → a == a ≡ true
number_itself a = grind (arith, nat_tests)

-- what the walk finds to be called
called_gives : (context : Context) (name : List ℕ) (count : ℕ) (helpers : Option Signatures)
    → context.helpers ≡ helpers
    → Gives (Calls context name count) (called_among name count helpers)
called_gives context name count None is = tt
called_gives context name count (Some helpers) is = by_found (value_named helpers name) refl
  where
    by_count : (signature : Signature) → value_named helpers name ≡ Some signature → (t : Bool)
        → signature.parameters == count ≡ t → Gives (Calls context name count)
        (cond t (Ok signature.kind) (Err refused.BadArguments))
    by_count signature found true e = (
      helpers,
      (
        is,
        found ∙ ap (λ n.
            Some (record { kind = signature.kind; parameters = n }))
            (same_number signature.parameters count e),
      ),
    )
    by_count signature found false e = tt

    by_found : (o : Option Signature) → value_named helpers name ≡ o
        → Gives (Calls context name count) (called_as name count o)
    by_found None found = tt
    by_found (Some signature) found =
        by_count signature found (signature.parameters == count) refl

called_is : (context : Context) (name : List ℕ) (count : ℕ) (kind : HelperType)
    → Calls context name count kind → called_among name count context.helpers ≡ Ok kind
called_is context name count kind h =
    ap (called_among name count) h.1.0 ∙ ap (called_as name count) h.1.1
    ∙ ap (λ t. cond t (Ok kind) (Err refused.BadArguments)) (number_itself count)

-- a call of a helper function with numbers
abbrev pub CallsWell : Context → TypedNames → List ℕ → tree.Arguments → Called → Type 0
CallsWell context names name arguments called =
    Calls context name (argument_count arguments) called.kind
    × AreNumbers context names arguments

pub call_gives : (context : Context) (names : TypedNames) (name : List ℕ)
    (arguments : tree.Arguments) (given : Result tree.Arguments LowerError)
    → Gives (λ (a : tree.Arguments). AreNumbers context names arguments) given
    → Gives (CallsWell context names name arguments) (call_given context name arguments given)
call_gives context names name arguments given numbers =
    let count = argument_count arguments in
    let well = CallsWell context names name arguments in
    then_gives (Calls context name count) well (called_among name count context.helpers)
    (λ kind. result_and_then given (λ a. Ok (record { kind = kind; call = tree.Call name a })))
    (called_gives context name count context.helpers refl) (λ kind h.
    then_gives (λ (a : tree.Arguments). AreNumbers context names arguments) well given
    (λ a. Ok (record { kind = kind; call = tree.Call name a })) numbers (λ a h'. (h, h')))

pub call_is : (context : Context) (name : List ℕ) (arguments : tree.Arguments)
    (given : Result tree.Arguments LowerError) (kind : HelperType) (a : tree.Arguments)
    → Calls context name (argument_count arguments) kind → given ≡ Ok a
    → call_given context name arguments given
    ≡ Ok (record { kind = kind; call = tree.Call name a })
call_is context name arguments given kind a h e =
    then_is (called_among name (argument_count arguments) context.helpers)
    (λ k. result_and_then given (λ a'. Ok (record { kind = k; call = tree.Call name a' }))) kind
    (called_is context name (argument_count arguments) kind h)
    ∙ then_is given (λ a'. Ok (record { kind = kind; call = tree.Call name a' })) a e

value_gives : (context : Context) (names : TypedNames) (name : List ℕ)
    (arguments : tree.Arguments) (given : HelperType) (kind : Option ValueType) (call : tree.Expr)
    → given_type given ≡ kind
    → CallsWell context names name arguments (record { kind = given; call = call })
    → Gives (λ (t : Typed). HasType context names (tree.Call name arguments) t.kind)
    (value_called kind call)
value_gives context names name arguments given None call e h = tt
value_gives context names name arguments given (Some kind) call e h =
    ((given, (h.0, e)), h.1)

-- what the walk accepts has the type that it gives
mutual
  pub expr_gives : (context : Context) (names : TypedNames) (e : tree.Expr)
      → Gives (λ (t : Typed). HasType context names e t.kind) (expr_resolved context names e)
  expr_gives context names (tree.Number value) = refl
  expr_gives context names (tree.Truth value) = refl
  expr_gives context names (tree.Read name) =
      name_gives context names name (value_named names name) refl
  expr_gives context names (tree.Element name index) =
      let Q : Typed → Type 0 = λ t. HasType context names (tree.Element name index) t.kind in
      let H : ValueType → Type 0 = HasType context names index in
      let P : Type 0 = SeesVariable context names name Array in
      then_gives (λ (n : List ℕ). P) Q (array_resolved context names name)
      (λ n. result_and_then (expr_resolved context names index) (λ i. element_typed n i))
      (array_gives context names name) (λ n p.
      then_gives (λ (t : Typed). H t.kind) Q (expr_resolved context names index)
      (λ i. element_typed n i) (expr_gives context names index)
      (λ i h. index_gives H P i (tree.Element n) p h))
  expr_gives context names tree.Pop =
      kept_gives (λ (t : Typed). HasType context names tree.Pop t.kind) context.pops
      (Ok (record { kind = Int; value = tree.Pop })) (λ pops. (pops, refl))
  expr_gives context names (tree.Peek index) =
      let Q : Typed → Type 0 = λ t. HasType context names (tree.Peek index) t.kind in
      let H : ValueType → Type 0 = HasType context names index in
      then_gives (λ (t : Typed). H t.kind) Q (expr_resolved context names index)
      (λ i. peek_typed context.pops i) (expr_gives context names index) (λ i h.
      kept_gives Q context.pops (result_and_then (expect_type Int i)
      (λ i'. Ok (record { kind = Int; value = tree.Peek i' })))
      (λ pops. index_gives H (context.pops ≡ true) i tree.Peek pops h))
  expr_gives context names (tree.Call name arguments) =
      let given = arguments_resolved context names arguments in
      then_gives (CallsWell context names name arguments)
      (λ (t : Typed). HasType context names (tree.Call name arguments) t.kind)
      (call_given context name arguments given) (λ c. called_typed c)
      (call_gives context names name arguments given (arguments_give context names arguments))
      (λ c h. value_gives context names name arguments c.kind (given_type c.kind) c.call refl h)
  expr_gives context names (tree.Group inner) =
      let H : Typed → Type 0 = λ t. HasType context names inner t.kind in
      then_gives H H (expr_resolved context names inner) (λ i. Ok (group_typed i))
      (expr_gives context names inner) (λ i h. h)
  expr_gives context names (tree.Unary operator operand) =
      let Q : Typed → Type 0 = λ t. HasType context names (tree.Unary operator operand) t.kind in
      let H : ValueType → Type 0 = HasType context names operand in
      then_gives (λ (t : Typed). H t.kind) Q (expr_resolved context names operand)
      (λ o. unary_typed operator o) (expr_gives context names operand)
      (λ o h. unary_gives H operator o h)
  expr_gives context names (tree.Step operator name) =
      let Q : Typed → Type 0 = λ t. HasType context names (tree.Step operator name) t.kind in
      then_gives (λ (n : List ℕ). SeesVariable context names name Int) Q
      (step_resolved context names name)
      (λ n. Ok (record { kind = Int; value = tree.Step operator n }))
      (step_gives context names name) (λ n h. (h, refl))
  expr_gives context names (tree.StepElement operator name index) =
      let Q : Typed → Type 0 = λ t. HasType context names (tree.StepElement operator name index)
      t.kind in
      let H : ValueType → Type 0 = HasType context names index in
      let P : Type 0 = SeesVariable context names name Array in
      then_gives (λ (n : List ℕ). P) Q (array_resolved context names name)
      (λ n. result_and_then (expr_resolved context names index)
      (λ i. step_element_typed operator n i))
      (array_gives context names name) (λ n p.
      then_gives (λ (t : Typed). H t.kind) Q (expr_resolved context names index)
      (λ i. step_element_typed operator n i) (expr_gives context names index)
      (λ i h. index_gives H P i (tree.StepElement operator n) p h))
  expr_gives context names (tree.Binary operator left right) =
      let Q : Typed → Type 0 = λ t. HasType context names
      (tree.Binary operator left right) t.kind in
      let H : ValueType → Type 0 = HasType context names left in
      let H' : ValueType → Type 0 = HasType context names right in
      then_gives (λ (t : Typed). H t.kind) Q (expr_resolved context names left)
      (λ l. result_and_then (expr_resolved context names right) (λ r. binary_typed operator l r))
      (expr_gives context names left) (λ l h.
      then_gives (λ (t : Typed). H' t.kind) Q (expr_resolved context names right)
      (λ r. binary_typed operator l r) (expr_gives context names right)
      (λ r h'. binary_gives H H' operator l r h h'))
  expr_gives context names (tree.Conditional condition chosen other) =
      let Q : Typed → Type 0 = λ t. HasType context names (tree.Conditional condition chosen other)
      t.kind in
      let H : tree.Expr → Typed → Type 0 = λ e t. HasType context names e t.kind in
      then_gives (H condition) Q (expr_resolved context names condition)
      (λ c. result_and_then (expr_resolved context names chosen)
      (λ t. result_and_then (expr_resolved context names other) (λ o. conditional_typed c t o)))
      (expr_gives context names condition) (λ c h.
      then_gives (H chosen) Q (expr_resolved context names chosen)
      (λ t. result_and_then (expr_resolved context names other) (λ o. conditional_typed c t o))
      (expr_gives context names chosen) (λ t h'.
      then_gives (H other) Q (expr_resolved context names other) (λ o. conditional_typed c t o)
      (expr_gives context names other) (λ o h''.
      conditional_gives (HasType context names condition) (HasType context names chosen)
      (HasType context names other) c t o h h' h'')))

  pub arguments_give : (context : Context) (names : TypedNames) (arguments : tree.Arguments)
      → Gives (λ (a : tree.Arguments). AreNumbers context names arguments)
      (arguments_resolved context names arguments)
  arguments_give context names tree.NoArgument = tt
  arguments_give context names (tree.Argument first rest) =
      let H : ValueType → Type 0 = HasType context names first in
      let Q : tree.Arguments → Type 0 =
      λ a. AreNumbers context names (tree.Argument first rest) in
      then_gives (λ (e : tree.Expr). H Int) Q
      (result_and_then (expr_resolved context names first) (λ t. expect_type Int t))
      (λ f. result_and_then (arguments_resolved context names rest)
      (λ r. Ok (tree.Argument f r)))
      (then_gives (λ (t : Typed). H t.kind) (λ (e : tree.Expr). H Int)
      (expr_resolved context names first) (λ t. expect_type Int t)
      (expr_gives context names first) (λ t h. as_gives H Int t h)) (λ f h.
      then_gives (λ (a : tree.Arguments). AreNumbers context names rest) Q
      (arguments_resolved context names rest) (λ r. Ok (tree.Argument f r))
      (arguments_give context names rest) (λ r h'. (h, h')))

-- an expression that has a type is accepted at it
mutual
  pub expr_accepts : (context : Context) (names : TypedNames) (e : tree.Expr) (kind : ValueType)
      → HasType context names e kind → Accepts kind (expr_resolved context names e)
  expr_accepts context names (tree.Number value) kind h =
      accepts_at (expr_resolved context names (tree.Number value)) Int kind h
      (tree.Number value, refl)
  expr_accepts context names (tree.Truth value) kind h =
      accepts_at (expr_resolved context names (tree.Truth value)) Boolean kind h
      (tree.Truth value, refl)
  expr_accepts context names (tree.Read name) kind h = name_accepts context names name kind h
  expr_accepts context names (tree.Element name index) kind h =
      let at = expr_accepts context names index Int h.1 in
      accepts_at (expr_resolved context names (tree.Element name index)) Int kind h.2 (
        tree.Element name at.0,
        then_is (array_resolved context names name)
            (λ n. result_and_then (expr_resolved context names index) (λ i. element_typed n i)) name
            (array_is context names name h.0)
            ∙ then_is (expr_resolved context names index) (λ i. element_typed name i)
            (record { kind = Int; value = at.0 }) at.1,
      )
  expr_accepts context names tree.Pop kind h =
      accepts_at (expr_resolved context names tree.Pop) Int kind h.1
      (tree.Pop, kept_is context.pops (Ok (record { kind = Int; value = tree.Pop })) h.0)
  expr_accepts context names (tree.Peek index) kind h =
      let at = expr_accepts context names index Int h.1 in
      accepts_at (expr_resolved context names (tree.Peek index)) Int kind h.2 (
        tree.Peek at.0,
        then_is (expr_resolved context names index)
            (λ i. peek_typed context.pops i) (record { kind = Int; value = at.0 }) at.1
            ∙ kept_is context.pops (Ok (record { kind = Int; value = tree.Peek at.0 })) h.0,
      )
  expr_accepts context names (tree.Call name arguments) kind h =
      let at = arguments_accept context names arguments h.1 in
      let call = tree.Call name at.0 in (
        call,
        then_is (call_given context name arguments (arguments_resolved context names arguments))
            (λ c. called_typed c) (record { kind = h.0.0; call = call })
            (call_is context name arguments (arguments_resolved context names arguments) h.0.0
            at.0 h.0.1.0 at.1)
            ∙ ap (λ k. value_called k call) h.0.1.1,
      )
  expr_accepts context names (tree.Group inner) kind h =
      let at = expr_accepts context names inner kind h in (
        tree.Group at.0,
        then_is (expr_resolved context names inner) (λ i. Ok (group_typed i))
            (record { kind = kind; value = at.0 }) at.1,
      )
  expr_accepts context names (tree.Unary operator operand) kind h =
      let needed = operand_type operator in
      let at = expr_accepts context names operand needed h.0 in
      accepts_at (expr_resolved context names (tree.Unary operator operand)) needed kind h.1 (
        tree.Unary operator at.0,
        then_is (expr_resolved context names operand)
            (λ o. unary_typed operator o) (record { kind = needed; value = at.0 }) at.1
            ∙ ap (λ r. result_and_then r
            (λ o. Ok (record { kind = needed; value = tree.Unary operator o })))
            (as_is needed at.0 (has_same context names operand needed h.0)),
      )
  expr_accepts context names (tree.Step operator name) kind h =
      accepts_at (expr_resolved context names (tree.Step operator name)) Int kind h.1 (
        tree.Step operator name,
        then_is (step_resolved context names name)
            (λ n. Ok (record { kind = Int; value = tree.Step operator n })) name
            (step_is context names name h.0),
      )
  expr_accepts context names (tree.StepElement operator name index) kind h =
      let at = expr_accepts context names index Int h.1 in
      accepts_at (expr_resolved context names (tree.StepElement operator name index)) Int kind h.2 (
        tree.StepElement operator name at.0,
        then_is (array_resolved context names name)
            (λ n. result_and_then (expr_resolved context names index)
            (λ i. step_element_typed operator n i)) name (array_is context names name h.0)
            ∙ then_is (expr_resolved context names index) (λ i. step_element_typed operator name i)
            (record { kind = Int; value = at.0 }) at.1,
      )
  expr_accepts context names (tree.Binary operator left right) kind h =
      let sides = h.0.0 in
      let l = expr_accepts context names left sides h.0.1.0 in
      let r = expr_accepts context names right sides h.0.1.1 in
      accepts_at (expr_resolved context names (tree.Binary operator left right))
      (binary_type operator) kind h.1 (
        tree.Binary operator l.0 r.0,
        then_is (expr_resolved context names left)
            (λ l'. result_and_then (expr_resolved context names right)
            (λ r'. binary_typed operator l' r'))
            (record { kind = sides; value = l.0 }) l.1
            ∙ then_is (expr_resolved context names right)
            (λ r'. binary_typed operator (record { kind = sides; value = l.0 }) r')
            (record { kind = sides; value = r.0 }) r.1
            ∙ binary_is operator sides l.0 r.0 (has_same context names left sides h.0.1.0) h.0.1.2,
      )
  expr_accepts context names (tree.Conditional condition chosen other) kind h =
      let c = expr_accepts context names condition Boolean h.0 in
      let t = expr_accepts context names chosen kind h.1 in
      let o = expr_accepts context names other kind h.2 in
      let condition' : Typed = record { kind = Boolean; value = c.0 } in
      let chosen' : Typed = record { kind = kind; value = t.0 } in (
        tree.Conditional c.0 t.0 o.0,
        then_is (expr_resolved context names condition)
            (λ c'. result_and_then (expr_resolved context names chosen)
            (λ t'. result_and_then (expr_resolved context names other)
            (λ o'. conditional_typed c' t' o')))
            condition' c.1
            ∙ then_is (expr_resolved context names chosen)
            (λ t'. result_and_then (expr_resolved context names other)
            (λ o'. conditional_typed condition' t' o')) chosen' t.1
            ∙ then_is (expr_resolved context names other)
            (λ o'. conditional_typed condition' chosen' o')
            (record { kind = kind; value = o.0 }) o.1
            ∙ ap (λ r. result_and_then r
            (λ o'. Ok (record { kind = kind; value = tree.Conditional c.0 t.0 o' })))
            (as_is kind o.0 (has_same context names chosen kind h.1)),
      )

  pub arguments_accept : (context : Context) (names : TypedNames) (arguments : tree.Arguments)
      → AreNumbers context names arguments
      → (given : tree.Arguments) × (arguments_resolved context names arguments ≡ Ok given)
  arguments_accept context names tree.NoArgument h = (tree.NoArgument, refl)
  arguments_accept context names (tree.Argument first rest) h =
      let f = expr_accepts context names first Int h.0 in
      let r = arguments_accept context names rest h.1 in (
        tree.Argument f.0 r.0,
        then_is (result_and_then (expr_resolved context names first) (λ t. expect_type Int t))
            (λ f'. result_and_then (arguments_resolved context names rest)
            (λ r'. Ok (tree.Argument f' r'))) f.0
            (then_is (expr_resolved context names first) (λ t. expect_type Int t)
            (record { kind = Int; value = f.0 }) f.1
            ∙ as_is Int f.0 refl)
            ∙ then_is (arguments_resolved context names rest)
            (λ r'. Ok (tree.Argument f.0 r')) r.0 r.1,
      )

-- an expression of this type, and one where it may be missing
pub expr_as_gives : (context : Context) (names : TypedNames) (kind : ValueType) (e : tree.Expr)
    → Gives (λ (v : tree.Expr). HasType context names e kind) (expr_as context names kind e)
expr_as_gives context names kind e =
    let H : ValueType → Type 0 = HasType context names e in
    then_gives (λ (t : Typed). H t.kind) (λ (v : tree.Expr). H kind) (expr_resolved context names e)
    (λ t. expect_type kind t) (expr_gives context names e) (λ t h. as_gives H kind t h)

pub expr_as_is : (context : Context) (names : TypedNames) (kind : ValueType) (e : tree.Expr)
    (h : HasType context names e kind)
    → expr_as context names kind e ≡ Ok (expr_accepts context names e kind h).0
expr_as_is context names kind e h =
    let at = expr_accepts context names e kind h in
    then_is (expr_resolved context names e) (λ t. expect_type kind t)
    (record { kind = kind; value = at.0 }) at.1
    ∙ as_is kind at.0 (has_same context names e kind h)

pub expr_as_ok : (context : Context) (names : TypedNames) (kind : ValueType) (e : tree.Expr)
    → HasType context names e kind → IsOk (expr_as context names kind e)
expr_as_ok context names kind e h =
    is_ok_of (expr_as context names kind e) (expr_accepts context names e kind h).0
    (expr_as_is context names kind e h)

pub initial_gives : (context : Context) (names : TypedNames) (kind : ValueType)
    (initial : Option tree.Expr)
    → Gives (λ (v : Option tree.Expr). InitialHasType context names initial kind)
    (initial_resolved context names kind initial)
initial_gives context names kind None = tt
initial_gives context names kind (Some value) =
    then_gives (λ (v : tree.Expr). HasType context names value kind)
    (λ (v : Option tree.Expr). HasType context names value kind) (expr_as context names kind value)
    (λ v. Ok (Some v)) (expr_as_gives context names kind value) (λ v h. h)

pub initial_ok : (context : Context) (names : TypedNames) (kind : ValueType)
    (initial : Option tree.Expr) → InitialHasType context names initial kind
    → IsOk (initial_resolved context names kind initial)
initial_ok context names kind None h = refl
initial_ok context names kind (Some value) h =
    any_ok (expr_as context names kind value) (λ v. Ok (Some v))
    (expr_as_ok context names kind value h) (λ v. refl)

-- the walk and the relation agree, and there is one type
pub walk_gives_type : (context : Context) (names : TypedNames) (e : tree.Expr) (kind : ValueType)
    → Accepts kind (expr_resolved context names e) ↔ HasType context names e kind
walk_gives_type context names e kind = (
  λ at. subst (Gives (λ (t : Typed). HasType context names e t.kind)) at.1
      (expr_gives context names e),
  expr_accepts context names e kind,
)

pub walk_accepts_value : (context : Context) (names : TypedNames) (kind : ValueType) (e : tree.Expr)
    → IsOk (expr_as context names kind e) ↔ HasType context names e kind
walk_accepts_value context names kind e = (
  λ ok. given (HasType context names e kind) (expr_as context names kind e)
      (expr_as_gives context names kind e) ok,
  expr_as_ok context names kind e,
)

-- the type that a result accepts at
abbrev kind_of : Result Typed LowerError → ValueType
kind_of (Ok typed) = typed.kind
kind_of (Err refusal) = Int

pub type_is_one : (context : Context) (names : TypedNames) (e : tree.Expr) (kind kind' : ValueType)
    → HasType context names e kind → HasType context names e kind' → kind ≡ kind'
type_is_one context names e kind kind' h h' =
    sym (ap kind_of (expr_accepts context names e kind h).1)
    ∙ ap kind_of (expr_accepts context names e kind' h').1
