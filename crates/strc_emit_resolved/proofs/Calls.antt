-- The calls in expressions that the rules accept are known.
use Rattle.std.proofs.Common.{◌≡◌, ℕ, suc, Bool, true, not, ℤ, List, Option, Some, None, Result}
use Rattle.std.proofs.Common.{Ok, Err, refl, ap, ◌∙◌}
use Rattle.strc_lex_names.specs.Names.{value_named}
use Rattle.strc_lex_names.specs.Results.{result_and_then}
use Rattle.strc_parse_tree.specs.Tree as tree
use Rattle.strc_parse_tree.specs.declared.tree.HelperType.{HelperType}
use Rattle.strc_work_meaning.specs.Calls.{argument_count}
use Rattle.strc_work_meaning.specs.Typing.{TypedNames, same_type, is_array}
use Rattle.strc_work_meaning.specs.declared.types.ValueType.{ValueType}
use Rattle.strc_work_meaning.specs.declared.types.ValueType.TheVariants.{Int, Boolean}
use Rattle.strc_work_rules.specs.declared.error.LowerError.{LowerError}
use Rattle.strc_work_rules.specs.Resolution.{Context, Typed, Called, where_kept, expect_type}
use Rattle.strc_work_rules.specs.Resolution.{constant_read, read_as, array_resolved}
use Rattle.strc_work_rules.specs.Resolution.{step_resolved, element_typed, step_element_typed}
use Rattle.strc_work_rules.specs.Resolution.{operand_type, sides_type, binary_type, unary_typed}
use Rattle.strc_work_rules.specs.Resolution.{binary_typed, conditional_typed, peek_typed}
use Rattle.strc_work_rules.specs.Resolution.{group_typed, called_among, call_given, value_called}
use Rattle.strc_work_rules.specs.Resolution.{called_typed, expr_resolved, arguments_resolved}
use Rattle.strc_work_rules.specs.Resolution.{call_resolved, evaluated, expr_as, initial_resolved}
use Rattle.strc_work_rules.specs.Signatures.{given_type}
use Rattle.strc_work_rules.proofs.ResolvingExpressions.{Gives, then_gives, any_gives, kept_gives}
use Rattle.strc_emit_meaning.specs.Known.{IsKnown, AreKnownArguments, IsKnownOption}

-- the calls that the rules accept where this is are known
abbrev pub Knows : (known : List ℕ → ℕ → Bool) → Context → Type 0
Knows known context = (name : List ℕ) (count : ℕ) (kind : HelperType)
    → called_among name count context.helpers ≡ Ok kind → known name count ≡ true

module _ (known : List ℕ → ℕ → Bool) where
  abbrev pub IsKnownTyped : Typed → Type 0
  IsKnownTyped typed = IsKnown known typed.value

  abbrev IsKnownCalled : Called → Type 0
  IsKnownCalled called = IsKnown known called.call

  -- as many known arguments
  abbrev AreLikeArguments : tree.Arguments → tree.Arguments → Type 0
  AreLikeArguments arguments arguments' = AreKnownArguments known arguments'
      × (argument_count arguments' ≡ argument_count arguments)

  pub as_known : (kind : ValueType) (typed : Typed) → IsKnownTyped typed
      → Gives (IsKnown known) (expect_type kind typed)
  as_known kind typed h =
      kept_gives (IsKnown known) (same_type typed.kind kind) (Ok typed.value) h

  -- an operand of a type, in a larger expression
  around : (kind outer : ValueType) (typed : Typed) (whole : tree.Expr → tree.Expr)
      → ((e : tree.Expr) → IsKnown known e → IsKnown known (whole e)) → IsKnownTyped typed
      → Gives IsKnownTyped (result_and_then (expect_type kind typed)
      (λ e. Ok (record { kind = outer; value = whole e })))
  around kind outer typed whole more h =
      then_gives (IsKnown known) IsKnownTyped (expect_type kind typed)
      (λ e. Ok (record { kind = outer; value = whole e })) (as_known kind typed h) more

  constant_known : (name : List ℕ) (value : Option ℤ)
      → Gives IsKnownTyped (constant_read name value)
  constant_known name None = tt
  constant_known name (Some value) = tt

  name_known : (context : Context) (name : List ℕ) (kind : Option ValueType)
      → Gives IsKnownTyped (read_as context name kind)
  name_known context name (Some kind) =
      let read : Result Typed LowerError = Ok (record { kind = kind; value = tree.Read name }) in
      kept_gives IsKnownTyped (not context.constants_only) (where_kept (not (is_array kind)) read)
      (kept_gives IsKnownTyped (not (is_array kind)) read tt)
  name_known context name None = constant_known name (value_named context.constants name)

  peek_known : (pops : Bool) (index : Typed) → IsKnownTyped index
      → Gives IsKnownTyped (peek_typed pops index)
  peek_known pops index h =
      kept_gives IsKnownTyped pops
      (result_and_then (expect_type Int index)
      (λ i. Ok (record { kind = Int; value = tree.Peek i })))
      (around Int Int index tree.Peek (λ e h'. h') h)

  binary_known : (operator : _) (left right : Typed) → IsKnownTyped left → IsKnownTyped right
      → Gives IsKnownTyped (binary_typed operator left right)
  binary_known operator left right hl hr =
      let kind = sides_type operator left.kind in
      then_gives (IsKnown known) IsKnownTyped (expect_type kind left)
      (λ l. result_and_then (expect_type kind right)
      (λ r. Ok (record { kind = binary_type operator; value = tree.Binary operator l r })))
      (as_known kind left hl)
      (λ l h. around kind (binary_type operator) right (tree.Binary operator l)
      (λ r h'. (h, h')) hr)

  conditional_known : (condition chosen other : Typed) → IsKnownTyped condition
      → IsKnownTyped chosen → IsKnownTyped other
      → Gives IsKnownTyped (conditional_typed condition chosen other)
  conditional_known condition chosen other hc ht ho =
      then_gives (IsKnown known) IsKnownTyped (expect_type Boolean condition)
      (λ c. result_and_then (expect_type chosen.kind other)
      (λ o. Ok (record { kind = chosen.kind; value = tree.Conditional c chosen.value o })))
      (as_known Boolean condition hc)
      (λ c h. around chosen.kind chosen.kind other (tree.Conditional c chosen.value)
      (λ o h'. record { 0 = h; 1 = ht; 2 = h' }) ho)

  value_known : (kind : Option ValueType) (call : tree.Expr) → IsKnown known call
      → Gives IsKnownTyped (value_called kind call)
  value_known None call h = tt
  value_known (Some kind) call h = h

  module _ (context : Context) (knows : Knows known context) where
    -- a call that the rules accept, of known arguments
    call_known : (name : List ℕ) (arguments : tree.Arguments)
        (given : Result tree.Arguments LowerError) → Gives (AreLikeArguments arguments) given
        → Gives IsKnownCalled (call_given context name arguments given)
    call_known name arguments given h =
        by_kind (called_among name (argument_count arguments) context.helpers)
        (knows name (argument_count arguments))
      where
        by_kind : (r : Result HelperType LowerError)
            → ((kind : HelperType) → r ≡ Ok kind
            → known name (argument_count arguments) ≡ true)
            → Gives IsKnownCalled (result_and_then r (λ kind. result_and_then given
            (λ a. Ok (record { kind = kind; call = tree.Call name a }))))
        by_kind (Err e) accepted = tt
        by_kind (Ok kind) accepted =
            then_gives (AreLikeArguments arguments) IsKnownCalled given
            (λ a. Ok (record { kind = kind; call = tree.Call name a })) h
            (λ a h'. (ap (known name) h'.1 ∙ accepted kind refl, h'.0))

    mutual
      pub expr_known : (names : TypedNames) (e : tree.Expr)
          → Gives IsKnownTyped (expr_resolved context names e)
      expr_known names (tree.Number value) = tt
      expr_known names (tree.Truth value) = tt
      expr_known names (tree.Read name) = name_known context name (value_named names name)
      expr_known names (tree.Element name index) =
          any_gives IsKnownTyped (array_resolved context names name)
          (λ n. result_and_then (expr_resolved context names index) (λ i. element_typed n i))
          (λ n. then_gives IsKnownTyped IsKnownTyped (expr_resolved context names index)
          (λ i. element_typed n i) (expr_known names index)
          (λ i h. around Int Int i (tree.Element n) (λ e h'. h') h))
      expr_known names tree.Pop =
          kept_gives IsKnownTyped context.pops (Ok (record { kind = Int; value = tree.Pop })) tt
      expr_known names (tree.Peek index) =
          then_gives IsKnownTyped IsKnownTyped (expr_resolved context names index)
          (λ i. peek_typed context.pops i) (expr_known names index)
          (λ i h. peek_known context.pops i h)
      expr_known names (tree.Call name arguments) =
          let given = arguments_resolved context names arguments in
          then_gives IsKnownCalled IsKnownTyped (call_given context name arguments given)
          (λ c. called_typed c)
          (call_known name arguments given (arguments_known names arguments))
          (λ c h. value_known (given_type c.kind) c.call h)
      expr_known names (tree.Group inner) =
          then_gives IsKnownTyped IsKnownTyped (expr_resolved context names inner)
          (λ i. Ok (group_typed i)) (expr_known names inner) (λ i h. h)
      expr_known names (tree.Unary operator operand) =
          then_gives IsKnownTyped IsKnownTyped (expr_resolved context names operand)
          (λ i. unary_typed operator i) (expr_known names operand)
          (λ i h. around (operand_type operator) (operand_type operator) i (tree.Unary operator)
          (λ e h'. h') h)
      expr_known names (tree.Step operator name) =
          any_gives IsKnownTyped (step_resolved context names name)
          (λ n. Ok (record { kind = Int; value = tree.Step operator n })) (λ n. tt)
      expr_known names (tree.StepElement operator name index) =
          any_gives IsKnownTyped (array_resolved context names name)
          (λ n. result_and_then (expr_resolved context names index)
          (λ i. step_element_typed operator n i))
          (λ n. then_gives IsKnownTyped IsKnownTyped (expr_resolved context names index)
          (λ i. step_element_typed operator n i) (expr_known names index)
          (λ i h. around Int Int i (tree.StepElement operator n) (λ e h'. h') h))
      expr_known names (tree.Binary operator left right) =
          then_gives IsKnownTyped IsKnownTyped (expr_resolved context names left)
          (λ l. result_and_then (expr_resolved context names right)
          (λ r. binary_typed operator l r)) (expr_known names left)
          (λ l h. then_gives IsKnownTyped IsKnownTyped (expr_resolved context names right)
          (λ r. binary_typed operator l r) (expr_known names right)
          (λ r h'. binary_known operator l r h h'))
      expr_known names (tree.Conditional condition chosen other) =
          then_gives IsKnownTyped IsKnownTyped (expr_resolved context names condition)
          (λ c. result_and_then (expr_resolved context names chosen)
          (λ t. result_and_then (expr_resolved context names other)
          (λ o. conditional_typed c t o))) (expr_known names condition)
          (λ c h. then_gives IsKnownTyped IsKnownTyped (expr_resolved context names chosen)
          (λ t. result_and_then (expr_resolved context names other)
          (λ o. conditional_typed c t o)) (expr_known names chosen)
          (λ t h'. then_gives IsKnownTyped IsKnownTyped (expr_resolved context names other)
          (λ o. conditional_typed c t o) (expr_known names other)
          (λ o h''. conditional_known c t o h h' h'')))

      arguments_known : (names : TypedNames) (arguments : tree.Arguments)
          → Gives (AreLikeArguments arguments) (arguments_resolved context names arguments)
      arguments_known names tree.NoArgument = (tt, refl)
      arguments_known names (tree.Argument first rest) =
          let like = AreLikeArguments (tree.Argument first rest) in
          then_gives (IsKnown known) like
          (result_and_then (expr_resolved context names first) (λ typed. expect_type Int typed))
          (λ f. result_and_then (arguments_resolved context names rest)
          (λ r. Ok (tree.Argument f r)))
          (then_gives IsKnownTyped (IsKnown known) (expr_resolved context names first)
          (λ typed. expect_type Int typed) (expr_known names first)
          (λ typed h. as_known Int typed h))
          (λ f h. then_gives (AreLikeArguments rest) like (arguments_resolved context names rest)
          (λ r. Ok (tree.Argument f r)) (arguments_known names rest)
          (λ r h'. ((h, h'.0), ap suc h'.1)))

    pub expr_as_known : (names : TypedNames) (kind : ValueType) (e : tree.Expr)
        → Gives (IsKnown known) (expr_as context names kind e)
    expr_as_known names kind e =
        then_gives IsKnownTyped (IsKnown known) (expr_resolved context names e)
        (λ typed. expect_type kind typed) (expr_known names e) (λ typed h. as_known kind typed h)

    pub initial_known : (names : TypedNames) (kind : ValueType) (initial : Option tree.Expr)
        → Gives (IsKnownOption known) (initial_resolved context names kind initial)
    initial_known names kind None = tt
    initial_known names kind (Some value) =
        then_gives (IsKnown known) (IsKnownOption known) (expr_as context names kind value)
        (λ v. Ok (Some v)) (expr_as_known names kind value) (λ v h. h)

    -- an expression that is a statement
    alone_known : (names : TypedNames) (e : tree.Expr) → Gives (IsKnown known)
        (result_and_then (expr_resolved context names e) (λ typed. Ok typed.value))
    alone_known names e =
        then_gives IsKnownTyped (IsKnown known) (expr_resolved context names e)
        (λ typed. Ok typed.value) (expr_known names e) (λ typed h. h)

    pub evaluated_known : (names : TypedNames) (e : tree.Expr)
        → Gives (IsKnown known) (evaluated context names e)
    evaluated_known names (tree.Call name arguments) =
        then_gives IsKnownCalled (IsKnown known) (call_resolved context names name arguments)
        (λ c. Ok c.call)
        (call_known name arguments (arguments_resolved context names arguments)
        (arguments_known names arguments)) (λ c h. h)
    evaluated_known names (tree.Number value) = alone_known names (tree.Number value)
    evaluated_known names (tree.Truth value) = alone_known names (tree.Truth value)
    evaluated_known names (tree.Read name) = alone_known names (tree.Read name)
    evaluated_known names (tree.Element name index) = alone_known names (tree.Element name index)
    evaluated_known names tree.Pop = alone_known names tree.Pop
    evaluated_known names (tree.Peek index) = alone_known names (tree.Peek index)
    evaluated_known names (tree.Group inner) = alone_known names (tree.Group inner)
    evaluated_known names (tree.Unary operator operand) =
        alone_known names (tree.Unary operator operand)
    evaluated_known names (tree.Step operator name) = alone_known names (tree.Step operator name)
    evaluated_known names (tree.StepElement operator name index) =
        alone_known names (tree.StepElement operator name index)
    evaluated_known names (tree.Binary operator left right) =
        alone_known names (tree.Binary operator left right)
    evaluated_known names (tree.Conditional condition chosen other) =
        alone_known names (tree.Conditional condition chosen other)
