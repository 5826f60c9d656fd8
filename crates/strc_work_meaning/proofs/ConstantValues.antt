-- The value of a constant expression is the language's own.
use Rattle.std.proofs.Common.{◌≡◌, ℤ, Bool, true, false, cond, not, Result, Ok, Err, refl, sym, ap}
use Rattle.std.proofs.Common.{◌∙◌}
use Rattle.strc_lex_names.specs.Results.{result_and_then}
use Rattle.strc_parse_tree.specs.Tree as tree
use Rattle.strc_parse_tree.specs.declared.tree.BinaryOperator.{BinaryOperator}
use Rattle.strc_parse_tree.specs.declared.tree.BinaryOperator.TheVariants as binary
use Rattle.strc_work_meaning.specs.declared.fault.Cause.{Cause}
use Rattle.strc_work_meaning.specs.Arithmetic.{unary_value, binary_value, is_true}
use Rattle.strc_work_meaning.specs.Firing.{Setting, Store, joined, value_of}
use Rattle.strc_work_meaning.specs.Constants.{IsConstant, sides_value, constant_value}

-- a value before a store that stays as it was, or a fault
abbrev beside : Store → Result ℤ Cause → Result (ℤ × Store) Cause
beside store (Ok value) = Ok (value, store)
beside store (Err cause) = Err cause

-- a value that goes on with the store
beside-then : (store : Store) (r : Result ℤ Cause) (go : ℤ → Result ℤ Cause)
    (does : ℤ × Store → Result (ℤ × Store) Cause)
    → ((value : ℤ) → beside store (go value) ≡ does (value, store))
    → beside store (result_and_then r go) ≡ result_and_then (beside store r) does
beside-then store (Ok value) go does same = same value
beside-then store (Err cause) go does same = refl

-- an operator whose sides both count
beside-both : (store : Store) (operator : BinaryOperator) (left : ℤ) (right : Result ℤ Cause)
    → beside store (result_and_then right (λ value. binary_value operator left value))
    ≡ result_and_then (beside store right)
    (λ second. result_and_then (binary_value operator left second.0)
    (λ value. Ok (value, second.1)))
beside-both store operator left right =
    beside-then store right (λ value. binary_value operator left value)
    (λ second. result_and_then (binary_value operator left second.0)
    (λ value. Ok (value, second.1))) (λ value. given (binary_value operator left value))
  where
    given : (r : Result ℤ Cause) → beside store r ≡ result_and_then r (λ value. Ok (value, store))
    given (Ok value) = refl
    given (Err cause) = refl

then-Ok : (r : Result ℤ Cause) → result_and_then r (λ value. Ok value) ≡ r
then-Ok (Ok value) = refl
then-Ok (Err cause) = refl

beside-or : (store : Store) (left : ℤ) (right : Result ℤ Cause) (t : Bool)
    → beside store (cond t (Ok left) (result_and_then right (λ value. Ok value)))
    ≡ cond t (Ok (left, store)) (beside store right)
beside-or store left right true = refl
beside-or store left right false = ap (beside store) (then-Ok right)

beside-and : (store : Store) (left : ℤ) (right : Result ℤ Cause) (t : Bool)
    → beside store (cond (not t) (Ok left) (result_and_then right (λ value. Ok value)))
    ≡ cond t (beside store right) (Ok (left, store))
beside-and store left right true = ap (beside store) (then-Ok right)
beside-and store left right false = refl

-- the two sides of an operator
beside-sides : (store : Store) (operator : BinaryOperator) (left : ℤ) (right : Result ℤ Cause)
    (does : Store → Result (ℤ × Store) Cause) → beside store right ≡ does store
    → beside store (sides_value operator left right) ≡ joined operator (left, store) does
beside-sides store binary.LogicalOr left right does same =
    beside-or store left right (is_true left) ∙ ap (cond (is_true left) (Ok (left, store))) same
beside-sides store binary.LogicalAnd left right does same =
    beside-and store left right (is_true left)
    ∙ ap (λ r. cond (is_true left) r (Ok (left, store))) same
beside-sides store binary.Or left right does same =
    beside-both store binary.Or left right
    ∙ ap (λ r. result_and_then r (λ second. result_and_then (binary_value binary.Or left second.0)
    (λ value. Ok (value, second.1)))) same
beside-sides store binary.ExclusiveOr left right does same =
    beside-both store binary.ExclusiveOr left right
    ∙ ap (λ r. result_and_then r (λ second. result_and_then
    (binary_value binary.ExclusiveOr left second.0) (λ value. Ok (value, second.1)))) same
beside-sides store binary.And left right does same =
    beside-both store binary.And left right
    ∙ ap (λ r. result_and_then r (λ second. result_and_then (binary_value binary.And left second.0)
    (λ value. Ok (value, second.1)))) same
beside-sides store binary.Equal left right does same =
    beside-both store binary.Equal left right
    ∙ ap (λ r. result_and_then r (λ second. result_and_then
    (binary_value binary.Equal left second.0) (λ value. Ok (value, second.1)))) same
beside-sides store binary.NotEqual left right does same =
    beside-both store binary.NotEqual left right
    ∙ ap (λ r. result_and_then r (λ second. result_and_then
    (binary_value binary.NotEqual left second.0) (λ value. Ok (value, second.1)))) same
beside-sides store binary.Less left right does same =
    beside-both store binary.Less left right
    ∙ ap (λ r. result_and_then r (λ second. result_and_then (binary_value binary.Less left second.0)
    (λ value. Ok (value, second.1)))) same
beside-sides store binary.LessOrEqual left right does same =
    beside-both store binary.LessOrEqual left right
    ∙ ap (λ r. result_and_then r (λ second. result_and_then
    (binary_value binary.LessOrEqual left second.0) (λ value. Ok (value, second.1)))) same
beside-sides store binary.Greater left right does same =
    beside-both store binary.Greater left right
    ∙ ap (λ r. result_and_then r (λ second. result_and_then
    (binary_value binary.Greater left second.0) (λ value. Ok (value, second.1)))) same
beside-sides store binary.GreaterOrEqual left right does same =
    beside-both store binary.GreaterOrEqual left right
    ∙ ap (λ r. result_and_then r (λ second. result_and_then
    (binary_value binary.GreaterOrEqual left second.0) (λ value. Ok (value, second.1)))) same
beside-sides store binary.ShiftLeft left right does same =
    beside-both store binary.ShiftLeft left right
    ∙ ap (λ r. result_and_then r (λ second. result_and_then
    (binary_value binary.ShiftLeft left second.0) (λ value. Ok (value, second.1)))) same
beside-sides store binary.ShiftRight left right does same =
    beside-both store binary.ShiftRight left right
    ∙ ap (λ r. result_and_then r (λ second. result_and_then
    (binary_value binary.ShiftRight left second.0) (λ value. Ok (value, second.1)))) same
beside-sides store binary.Add left right does same =
    beside-both store binary.Add left right
    ∙ ap (λ r. result_and_then r (λ second. result_and_then (binary_value binary.Add left second.0)
    (λ value. Ok (value, second.1)))) same
beside-sides store binary.Subtract left right does same =
    beside-both store binary.Subtract left right
    ∙ ap (λ r. result_and_then r (λ second. result_and_then
    (binary_value binary.Subtract left second.0) (λ value. Ok (value, second.1)))) same
beside-sides store binary.Multiply left right does same =
    beside-both store binary.Multiply left right
    ∙ ap (λ r. result_and_then r (λ second. result_and_then
    (binary_value binary.Multiply left second.0) (λ value. Ok (value, second.1)))) same
beside-sides store binary.Divide left right does same =
    beside-both store binary.Divide left right
    ∙ ap (λ r. result_and_then r (λ second. result_and_then
    (binary_value binary.Divide left second.0) (λ value. Ok (value, second.1)))) same
beside-sides store binary.Remainder left right does same =
    beside-both store binary.Remainder left right
    ∙ ap (λ r. result_and_then r (λ second. result_and_then
    (binary_value binary.Remainder left second.0) (λ value. Ok (value, second.1)))) same

beside-if : (store : Store) (t : Bool) (chosen other : Result ℤ Cause)
    (does does' : Result (ℤ × Store) Cause) → beside store chosen ≡ does
    → beside store other ≡ does' → beside store (cond t chosen other) ≡ cond t does does'
beside-if store true chosen other does does' e e' = e
beside-if store false chosen other does does' e e' = e'

-- a constant expression's value is that of the expression wherever it is, and nothing changes
pub constant_is_value : (setting : Setting) (value : tree.Expr) (store : Store) → IsConstant value
    → beside store (constant_value value) ≡ value_of setting value store
constant_is_value setting (tree.Number value) store h = refl
constant_is_value setting (tree.Truth value) store h = refl
constant_is_value setting (tree.Read name) store h = absurd h
constant_is_value setting (tree.Element name index) store h = absurd h
constant_is_value setting tree.Pop store h = absurd h
constant_is_value setting (tree.Peek index) store h = absurd h
constant_is_value setting (tree.Call name arguments) store h = absurd h
constant_is_value setting (tree.Group inner) store h = constant_is_value setting inner store h
constant_is_value setting (tree.Unary operator operand) store h =
    beside-then store (constant_value operand) (λ value. Ok (unary_value operator value))
    (λ right. Ok (unary_value operator right.0, right.1)) (λ value. refl)
    ∙ ap (λ r. result_and_then r (λ right. Ok (unary_value operator right.0, right.1)))
    (constant_is_value setting operand store h)
constant_is_value setting (tree.Step operator name) store h = absurd h
constant_is_value setting (tree.StepElement operator name index) store h = absurd h
constant_is_value setting (tree.Binary operator left right) store h =
    let does : ℤ × Store → Result (ℤ × Store) Cause =
    λ first. joined operator first (value_of setting right) in
    beside-then store (constant_value left)
    (λ value. sides_value operator value (constant_value right)) does
    (λ value. beside-sides store operator value (constant_value right) (value_of setting right)
    (constant_is_value setting right store h.1))
    ∙ ap (λ r. result_and_then r does) (constant_is_value setting left store h.0)
constant_is_value setting (tree.Conditional condition chosen other) store h =
    let does : ℤ × Store → Result (ℤ × Store) Cause =
    λ test. cond (is_true test.0) (value_of setting chosen test.1)
    (value_of setting other test.1) in
    beside-then store (constant_value condition)
    (λ test. cond (is_true test) (constant_value chosen) (constant_value other)) does
    (λ test. beside-if store (is_true test) (constant_value chosen) (constant_value other)
    (value_of setting chosen store) (value_of setting other store)
    (constant_is_value setting chosen store h.1) (constant_is_value setting other store h.2))
    ∙ ap (λ r. result_and_then r does) (constant_is_value setting condition store h.0)

-- the same, for a value and for a fault
pub constant_value_Ok : (setting : Setting) (e : tree.Expr) (store : Store) (value : ℤ)
    → IsConstant e → constant_value e ≡ Ok value → value_of setting e store ≡ Ok (value, store)
constant_value_Ok setting e store value h is =
    sym (constant_is_value setting e store h) ∙ ap (beside store) is

pub constant_value_Err : (setting : Setting) (e : tree.Expr) (store : Store) (cause : Cause)
    → IsConstant e → constant_value e ≡ Err cause → value_of setting e store ≡ Err cause
constant_value_Err setting e store cause h is =
    sym (constant_is_value setting e store h) ∙ ap (beside store) is
