-- The walk finds a number of a constant expression exactly where the expression means it.
use Rattle.std.proofs.Common.{◌≡◌, ◌↔◌, ℕ, ℤ, Bool, true, false, cond, List, [], ◌∷◌, Option, Some}
use Rattle.std.proofs.Common.{None, Result, Ok, Err, pos, refl, sym, ap, ◌∙◌, subst}
use Rattle.std.specs.Prelude.{bytes_eq, slice_index_or}
use Rattle.strc_lex_names.specs.Names.{value_named}
use Rattle.strc_lex_names.specs.Results.{result_and_then}
use Rattle.strc_parse_tree.specs.Tree as tree
use Rattle.strc_parse_tree.specs.declared.tree.UnaryOperator.{UnaryOperator}
use Rattle.strc_parse_tree.specs.declared.tree.BinaryOperator.{BinaryOperator}
use Rattle.strc_parse_tree.specs.declared.tree.BinaryOperator.TheVariants as binary
use Rattle.strc_work_meaning.specs.declared.fault.Cause.{Cause}
use Rattle.strc_work_meaning.specs.Arithmetic.{unary_value, binary_value, is_true}
use Rattle.strc_work_meaning.specs.Constants.{IsConstant, constant_value}
use Rattle.strc_work_meaning.specs.Firing.{Setting, Traffic, Store, cells_named, joined, value_of}
use Rattle.strc_work_meaning.specs.Firing.{alone}
use Rattle.strc_work_meaning.proofs.ConstantValues.{constant_value_Ok, constant_value_Err}
use Rattle.strc_work_rules.specs.declared.error.LowerError.{LowerError}
use Rattle.strc_work_meaning.specs.declared.types.ValueType.{ValueType}
use Rattle.strc_work_meaning.specs.declared.types.ValueType.TheVariants.{Int, Boolean}
use Rattle.strc_work_meaning.specs.Typing.{TypedNames, same_type}
use Rattle.strc_work_rules.specs.Resolution.{Typed, expect_type, read_as, constant_read}
use Rattle.strc_work_rules.specs.Resolution.{operand_type}
use Rattle.strc_work_rules.specs.Resolution.{sides_type, binary_type, unary_typed, binary_typed}
use Rattle.strc_work_rules.specs.Resolution.{conditional_typed, peek_typed, group_typed}
use Rattle.strc_work_rules.specs.Resolution.{expr_resolved}
use Rattle.strc_work_rules.specs.Resolution.{expr_as, rate_context, value_given, number_resolved}
use Rattle.strc_work_rules.proofs.ResolvingStatements.{Gives, then_gives, any_gives}
use Rattle.strc_work_rules.proofs.ResolvingStatements as resolving
use Rattle.strc_work.specs.Expressions.{HasType}
use Rattle.strc_work.specs.Numbers.{constant_variables, constant_store, Means, HasNumber}
use Rattle.strc_work.proofs.Accepting.{then_is}
use Rattle.strc_work.proofs.TypesOfExpressions.{expr_accepts, expr_as_gives, expr_as_is}

-- the value of an expression that names no variable
pub constant_means : (setting : Setting) (value : tree.Expr) (store : Store) → IsConstant value
    → value_of setting value store
    ≡ result_and_then (constant_value value) (λ number. Ok (number, store))
constant_means setting value store h = by_value (constant_value value) refl
  where
    by_value : (r : Result ℤ Cause) → constant_value value ≡ r
        → value_of setting value store ≡ result_and_then r (λ number. Ok (number, store))
    by_value (Ok number) is = constant_value_Ok setting value store number h is
    by_value (Err cause) is = constant_value_Err setting value store cause h is

-- a constant's cell
constant_cells : (constants : List (List ℕ × ℤ)) (name : List ℕ) (value : ℤ)
    → value_named constants name ≡ Some value
    → cells_named (constant_variables constants) name ≡ value ∷ []
constant_cells [] name value e = absurd (cc)
constant_cells (first ∷ rest) name value e =
    by_test (bytes_eq first.0 name) e (constant_cells rest name value)
  where
    by_test : (t : Bool) → cond t (Some first.1) (value_named rest name) ≡ Some value
        → (value_named rest name ≡ Some value
        → cells_named (constant_variables rest) name ≡ value ∷ [])
        → cond t (first.1 ∷ []) (cells_named (constant_variables rest) name) ≡ value ∷ []
    by_test true e inner = cc
    by_test false e inner = inner e

-- the number of a value beside a store
abbrev number_of : Result (ℤ × Store) Cause → ℤ
number_of (Ok value) = value.0
number_of (Err cause) = pos 0

module _ (constants : List (List ℕ × ℤ)) where
  -- an expression without variables that means what another one means over the constants
  abbrev pub MeansAs : tree.Expr → tree.Expr → Type 0
  MeansAs e made = IsConstant made × ((setting : Setting) (traffic : Traffic)
      → value_of setting e (constant_store constants traffic)
      ≡ value_of setting made (constant_store constants traffic))

  abbrev TypedMeansAs : tree.Expr → Typed → Type 0
  TypedMeansAs e typed = MeansAs e typed.value

  as_means : (kind : ValueType) (e : tree.Expr) (typed : Typed) → TypedMeansAs e typed
      → Gives (MeansAs e) (expect_type kind typed)
  as_means kind e typed h =
      resolving.kept_gives (MeansAs e) (same_type typed.kind kind) (Ok typed.value) h

  unary_means : (operator : UnaryOperator) (e : tree.Expr) (typed : Typed) → TypedMeansAs e typed
      → Gives (TypedMeansAs (tree.Unary operator e)) (unary_typed operator typed)
  unary_means operator e typed h =
      then_gives (MeansAs e) (TypedMeansAs (tree.Unary operator e))
      (expect_type (operand_type operator) typed)
      (λ o. Ok (record { kind = operand_type operator; value = tree.Unary operator o }))
      (as_means (operand_type operator) e typed h) (λ o h'. (
        h'.0,
        λ setting traffic.
            ap (λ r. result_and_then r (λ right. Ok (unary_value operator right.0, right.1)))
            (h'.1 setting traffic),
      ))

  -- what follows a value without variables sees the same store
  then_same : (store : Store) (setting : Setting) (e made : tree.Expr)
      (go go' : ℤ × Store → Result (ℤ × Store) Cause) → IsConstant made
      → value_of setting e store ≡ value_of setting made store
      → ((value : ℤ) → go (value, store) ≡ go' (value, store))
      → result_and_then (value_of setting e store) go
      ≡ result_and_then (value_of setting made store) go'
  then_same store setting e made go go' h is same =
      ap (λ r. result_and_then r go) (is ∙ means) ∙ at (constant_value made)
      ∙ ap (λ r. result_and_then r go') (sym means)
    where
      means : value_of setting made store
          ≡ result_and_then (constant_value made) (λ number. Ok (number, store))
      means = constant_means setting made store h

      at : (r : Result ℤ Cause)
          → result_and_then (result_and_then r (λ number. Ok (number, store))) go
          ≡ result_and_then (result_and_then r (λ number. Ok (number, store))) go'
      at (Ok value) = same value
      at (Err cause) = refl

  joined_same : (operator : BinaryOperator) (first : ℤ × Store)
      (right right' : Store → Result (ℤ × Store) Cause) → right first.1 ≡ right' first.1
      → joined operator first right ≡ joined operator first right'
  joined_same binary.LogicalOr first right right' e = ap (cond (is_true first.0) (Ok first)) e
  joined_same binary.LogicalAnd first right right' e =
      ap (λ r. cond (is_true first.0) r (Ok first)) e
  joined_same operator first right right' e =
      ap (λ r. result_and_then r (λ second. result_and_then
      (binary_value operator first.0 second.0) (λ value. Ok (value, second.1)))) e

  sides_mean : (operator : BinaryOperator) (l r l' r' : tree.Expr) → MeansAs l l' → MeansAs r r'
      → MeansAs (tree.Binary operator l r) (tree.Binary operator l' r')
  sides_mean operator l r l' r' h h' = (
    (h.0, h'.0),
    λ setting traffic.
        let store = constant_store constants traffic in
        then_same store setting l l' (λ first. joined operator first (value_of setting r))
        (λ first. joined operator first (value_of setting r')) h.0 (h.1 setting traffic)
        (λ value. joined_same operator (value, store) (value_of setting r) (value_of setting r')
        (h'.1 setting traffic)),
  )

  binary_means : (operator : BinaryOperator) (l r : tree.Expr) (left right : Typed)
      → TypedMeansAs l left → TypedMeansAs r right
      → Gives (TypedMeansAs (tree.Binary operator l r)) (binary_typed operator left right)
  binary_means operator l r left right h h' =
      let kind = sides_type operator left.kind in
      let Q : Typed → Type 0 = TypedMeansAs (tree.Binary operator l r) in
      let made : tree.Expr → tree.Expr → Result Typed LowerError =
      λ a b. Ok (record { kind = binary_type operator; value = tree.Binary operator a b }) in
      then_gives (MeansAs l) Q (expect_type kind left)
      (λ a. result_and_then (expect_type kind right) (made a)) (as_means kind l left h) (λ a ha.
      then_gives (MeansAs r) Q (expect_type kind right) (made a) (as_means kind r right h')
      (λ b hb. sides_mean operator l r a b ha hb))

  choice_means : (c t o c' t' o' : tree.Expr) → MeansAs c c' → MeansAs t t' → MeansAs o o'
      → MeansAs (tree.Conditional c t o) (tree.Conditional c' t' o')
  choice_means c t o c' t' o' h h' h'' = (
    record { 0 = h.0; 1 = h'.0; 2 = h''.0 },
    λ setting traffic.
        let store = constant_store constants traffic in
        then_same store setting c c'
        (λ test. cond (is_true test.0) (value_of setting t test.1) (value_of setting o test.1))
        (λ test. cond (is_true test.0) (value_of setting t' test.1) (value_of setting o' test.1))
        h.0 (h.1 setting traffic) (λ value.
        ap (λ r. cond (is_true value) r (value_of setting o store)) (h'.1 setting traffic)
        ∙ ap (cond (is_true value) (value_of setting t' store)) (h''.1 setting traffic)),
  )

  conditional_means : (c t o : tree.Expr) (condition chosen other : Typed)
      → TypedMeansAs c condition → TypedMeansAs t chosen → TypedMeansAs o other
      → Gives (TypedMeansAs (tree.Conditional c t o)) (conditional_typed condition chosen other)
  conditional_means c t o condition chosen other h h' h'' =
      let Q : Typed → Type 0 = TypedMeansAs (tree.Conditional c t o) in
      let made : tree.Expr → tree.Expr → Result Typed LowerError =
      λ a b. Ok (record { kind = chosen.kind; value = tree.Conditional a chosen.value b }) in
      then_gives (MeansAs c) Q (expect_type Boolean condition)
      (λ a. result_and_then (expect_type chosen.kind other) (made a))
      (as_means Boolean c condition h) (λ a ha.
      then_gives (MeansAs o) Q (expect_type chosen.kind other) (made a)
      (as_means chosen.kind o other h'')
      (λ b hb. choice_means c t o a chosen.value b ha h' hb))

  name_means : (name : List ℕ) (o : Option ValueType)
      → Gives (TypedMeansAs (tree.Read name)) (read_as (rate_context constants) name o)
  name_means name (Some kind) = tt
  name_means name None = by_constant (value_named constants name) refl
    where
      by_constant : (o : Option ℤ) → value_named constants name ≡ o
          → Gives (TypedMeansAs (tree.Read name)) (constant_read name o)
      by_constant None is = tt
      by_constant (Some value) is = (
        tt,
        λ setting traffic.
            ap (λ cells. Ok (slice_index_or cells 0 (pos 0), constant_store constants traffic))
            (constant_cells constants name value is),
      )

  -- the walk substitutes constants, and the meaning stays
  expr_means : (names : TypedNames) (e : tree.Expr)
      → Gives (TypedMeansAs e) (expr_resolved (rate_context constants) names e)
  expr_means names (tree.Number value) = (tt, λ setting traffic. refl)
  expr_means names (tree.Truth value) = (tt, λ setting traffic. refl)
  expr_means names (tree.Read name) = name_means name (value_named names name)
  expr_means names (tree.Element name index) = tt
  expr_means names tree.Pop = tt
  expr_means names (tree.Peek index) =
      any_gives (TypedMeansAs (tree.Peek index))
      (expr_resolved (rate_context constants) names index) (λ i. peek_typed false i) (λ i. tt)
  expr_means names (tree.Call name arguments) = tt
  expr_means names (tree.Group inner) =
      then_gives (TypedMeansAs inner) (TypedMeansAs (tree.Group inner))
      (expr_resolved (rate_context constants) names inner) (λ i. Ok (group_typed i))
      (expr_means names inner) (λ i h. h)
  expr_means names (tree.Unary operator operand) =
      then_gives (TypedMeansAs operand) (TypedMeansAs (tree.Unary operator operand))
      (expr_resolved (rate_context constants) names operand) (λ o. unary_typed operator o)
      (expr_means names operand) (λ o h. unary_means operator operand o h)
  expr_means names (tree.Step operator name) = tt
  expr_means names (tree.StepElement operator name index) = tt
  expr_means names (tree.Binary operator left right) =
      let context = rate_context constants in
      let Q : Typed → Type 0 = TypedMeansAs (tree.Binary operator left right) in
      then_gives (TypedMeansAs left) Q (expr_resolved context names left)
      (λ l. result_and_then (expr_resolved context names right) (λ r. binary_typed operator l r))
      (expr_means names left) (λ l h.
      then_gives (TypedMeansAs right) Q (expr_resolved context names right)
      (λ r. binary_typed operator l r) (expr_means names right)
      (λ r h'. binary_means operator left right l r h h'))
  expr_means names (tree.Conditional condition chosen other) =
      let context = rate_context constants in
      let Q : Typed → Type 0 = TypedMeansAs (tree.Conditional condition chosen other) in
      then_gives (TypedMeansAs condition) Q (expr_resolved context names condition)
      (λ c. result_and_then (expr_resolved context names chosen)
      (λ t. result_and_then (expr_resolved context names other) (λ o. conditional_typed c t o)))
      (expr_means names condition) (λ c h.
      then_gives (TypedMeansAs chosen) Q (expr_resolved context names chosen)
      (λ t. result_and_then (expr_resolved context names other) (λ o. conditional_typed c t o))
      (expr_means names chosen) (λ t h'.
      then_gives (TypedMeansAs other) Q (expr_resolved context names other)
      (λ o. conditional_typed c t o) (expr_means names other)
      (λ o h''. conditional_means condition chosen other c t o h h' h'')))

  expr_as_means : (names : TypedNames) (kind : ValueType) (e : tree.Expr)
      → Gives (MeansAs e) (expr_as (rate_context constants) names kind e)
  expr_as_means names kind e =
      then_gives (TypedMeansAs e) (MeansAs e) (expr_resolved (rate_context constants) names e)
      (λ t. expect_type kind t) (expr_means names e) (λ t h. as_means kind e t h)

  -- the number of what the walk made
  given_means : (e made : tree.Expr) → MeansAs e made
      → Gives (Means constants e) (value_given (constant_value made))
  given_means e made h = by_value (constant_value made) refl
    where
      by_value : (r : Result ℤ Cause) → constant_value made ≡ r
          → Gives (Means constants e) (value_given r)
      by_value (Ok number) is = λ setting traffic. h.1 setting traffic
          ∙ constant_value_Ok setting made (constant_store constants traffic) number h.0 is
      by_value (Err cause) is = tt

  pub number_gives : (names : TypedNames) (e : tree.Expr)
      → Gives (HasNumber constants names e) (number_resolved constants names e)
  number_gives names e =
      both (expr_as (rate_context constants) names Int e)
      (expr_as_gives (rate_context constants) names Int e) (expr_as_means names Int e)
    where
      both : (r : Result tree.Expr LowerError)
          → Gives (λ (v : tree.Expr). HasType (rate_context constants) names e Int) r
          → Gives (MeansAs e) r
          → Gives (HasNumber constants names e)
          (result_and_then r (λ v. value_given (constant_value v)))
      both (Ok made) h h' = with_type (value_given (constant_value made)) (given_means e made h')
        where
          with_type : (r : Result ℤ LowerError) → Gives (Means constants e) r
              → Gives (HasNumber constants names e) r
          with_type (Ok number) means = (h, means)
          with_type (Err refusal) means = tt
      both (Err refusal) h h' = tt

  pub number_is : (names : TypedNames) (e : tree.Expr) (number : ℤ)
      → HasNumber constants names e number → number_resolved constants names e ≡ Ok number
  number_is names e number h =
      let context = rate_context constants in
      let made = (expr_accepts context names e Int h.0).0 in
      let is : expr_as context names Int e ≡ Ok made = expr_as_is context names Int e h.0 in
      let means : MeansAs e made = subst (Gives (MeansAs e)) is (expr_as_means names Int e) in
      then_is (expr_as context names Int e) (λ v. value_given (constant_value v)) made is
      ∙ ap value_given (one_value made means)
    where
      store : Store
      store = constant_store constants
          (record { popped = 0; pushes = []; words = []; turns = 0 })

      by_value : (r : Result ℤ Cause)
          → result_and_then {B = ℤ × Store} r (λ n. Ok (n, store)) ≡ Ok (number, store)
          → r ≡ Ok number
      by_value (Ok n) is = ap Ok (ap number_of is)
      by_value (Err cause) is = absurd (cc)

      one_value : (made : tree.Expr) → MeansAs e made → constant_value made ≡ Ok number
      one_value made means = by_value (constant_value made)
          (sym (constant_means alone made store means.0)
          ∙ sym (means.1 alone store.traffic) ∙ h.1 alone store.traffic)

  pub walk_gives_number : (names : TypedNames) (e : tree.Expr) (number : ℤ)
      → (number_resolved constants names e ≡ Ok number) ↔ HasNumber constants names e number
  walk_gives_number names e number = (
    λ is. subst (Gives (HasNumber constants names e)) is (number_gives names e),
    number_is names e number,
  )

  number_in : Result ℤ LowerError → ℤ
  number_in (Ok number) = number
  number_in (Err refusal) = pos 0

  pub number_is_one : (names : TypedNames) (e : tree.Expr) (number number' : ℤ)
      → HasNumber constants names e number → HasNumber constants names e number'
      → number ≡ number'
  unfolding number_in
  number_is_one names e number number' h h' =
      sym (ap number_in (number_is names e number h)) ∙ ap number_in (number_is names e number' h')
