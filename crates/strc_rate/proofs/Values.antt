-- An evaluation whose counts fit its port, and whose peeks are all closed, stays in range.
use Rattle.std.proofs.Common.{◌≡◌, refl, ap, ℕ, zero, suc, ◌+◌, ◌<◌, ◌≤◌, ℤ, pos, negsuc, Bool}
use Rattle.std.proofs.Common.{true, false, not, List, [], ◌∷◌, ◌++◌, length, Option, Some, None}
use Rattle.std.proofs.Common.{Result, Ok, Err, arith, length-append}
use Rattle.std.specs.Prelude.{IsSome, nat_lt, slice_get, if◌then◌else◌}
use Rattle.std.specs.Bool.{MatchBool}
use Rattle.std.specs.Option.{IfSome}
use Rattle.std.proofs.lemmas.Bool.{lt-ltb}
use Rattle.strc_lex_names.specs.Results.{result_and_then}
use Rattle.strc_parse_tree.specs.Tree as tree
use Rattle.strc_parse_tree.specs.declared.tree.BinaryOperator.{BinaryOperator}
use Rattle.strc_parse_tree.specs.declared.tree.BinaryOperator.TheVariants as binary
use Rattle.strc_work_meaning.specs.declared.fault.Cause.{Cause}
use Rattle.strc_work_meaning.specs.declared.fault.Cause.TheVariants.{PeekRange, Turns}
use Rattle.strc_work_meaning.specs.Arithmetic.{is_true, binary_value, unless_zero, quotient}
use Rattle.strc_work_meaning.specs.Arithmetic.{remainder}
use Rattle.strc_work_meaning.specs.Constants.{decides}
use Rattle.strc_work_meaning.specs.Firing.{Setting, Port, Traffic, Store, cells_named, place_in}
use Rattle.strc_work_meaning.specs.Firing.{tested_place, place_of, item_popped, popped_from}
use Rattle.strc_work_meaning.specs.Firing.{item_ahead, looked_at, peeked_from, pushed_to, turned}
use Rattle.strc_work_meaning.specs.Firing.{turn_limit, values_of, fields_in, joined, value_of}
use Rattle.strc_work_meaning.specs.Firing.{arguments_given}
use Rattle.strc_rate_intervals.specs.Constant.{constant}
use Rattle.strc_rate.specs.Counts.{one_pop, one_push, need_of, needed, branch_counts, expr_counts}
use Rattle.strc_rate.specs.Counts.{arguments_counts}
use Rattle.strc_rate.specs.Entries.{peeks_of_expr, peeks_of_arguments}
use Rattle.strc_rate.specs.PeeksSafe.{ExprIsSafe, ArgumentsAreSafe}
use Rattle.strc_rate.specs.Ranges.{IsInRange, AllAreClosed}
use Rattle.strc_rate.proofs.Results.{both_ok}
use Rattle.strc_rate.proofs.Reaching.{in_then, in_plain, in_side, match_true, match_false}
use Rattle.strc_rate.proofs.Fitting.{IsNarrow, Fits, CountedFits, fits_first, fits_after}
use Rattle.strc_rate.proofs.Fitting.{fits_sides, fits_right}
use Rattle.strc_rate.proofs.LoopParts.{constant_sound}
use Rattle.strc_rate.proofs.CountedMoves.{Counted, value_counts}
use Rattle.strc_rate.proofs.SafeValues.{item_there}

-- ---- steps with faults of their own

place_by : (place : Option ℕ) → IsInRange (tested_place place)
place_by None = tt
place_by (Some place) = tt

-- an index is tested
pub place_stays : (store : Store) (name : List ℕ) (index : ℤ)
    → IsInRange (place_of store name index)
place_stays store name index = place_by (place_in (length (cells_named store.variables name)) index)

zero_stays : (divisor value : ℤ) → IsInRange (unless_zero divisor value)
zero_stays (pos zero) value = tt
zero_stays (pos (suc n)) value = tt
zero_stays (negsuc n) value = tt

-- operators divide by 0 at most
pub operator_stays : (operator : BinaryOperator) (left right : ℤ)
    → IsInRange (binary_value operator left right)
operator_stays binary.LogicalOr left right = tt
operator_stays binary.LogicalAnd left right = tt
operator_stays binary.Or left right = tt
operator_stays binary.ExclusiveOr left right = tt
operator_stays binary.And left right = tt
operator_stays binary.Equal left right = tt
operator_stays binary.NotEqual left right = tt
operator_stays binary.Less left right = tt
operator_stays binary.LessOrEqual left right = tt
operator_stays binary.Greater left right = tt
operator_stays binary.GreaterOrEqual left right = tt
operator_stays binary.ShiftLeft left right = tt
operator_stays binary.ShiftRight left right = tt
operator_stays binary.Add left right = tt
operator_stays binary.Subtract left right = tt
operator_stays binary.Multiply left right = tt
operator_stays binary.Divide left right = zero_stays right (quotient left right)
operator_stays binary.Remainder left right = zero_stays right (remainder left right)

-- one more turn meets its limit at most
pub turned_stays : (store : Store) → IsInRange (turned store)
turned_stays store = by_test (nat_lt store.traffic.turns turn_limit)
  where
    by_test : (t : Bool) → IsInRange (result_and_then
        (if t then Ok (record store.traffic { turns = store.traffic.turns + 1 }) else Err Turns)
        (λ traffic. Ok (record store { traffic = traffic })))
    by_test true = tt
    by_test false = tt

-- ---- items

popped_by : (item : Option ℤ) (traffic : Traffic) → IsSome item
    → IsInRange (item_popped item traffic)
popped_by None traffic there = absurd (cc)
popped_by (Some item) traffic there = tt

-- a pop that fits finds its item
pub pop_stays : (port : Port) (traffic : Traffic) → Fits port traffic one_pop
    → IsInRange (popped_from port traffic)
pop_stays port traffic fits =
    let pops = fits.pops in
    popped_by (slice_get port.front traffic.popped) traffic
    (item_there port.front traffic.popped (omega arith))

looked_by : (item : Option ℤ) → IsSome item → IsInRange (looked_at item)
looked_by None there = absurd (cc)
looked_by (Some item) there = tt

-- a push that fits finds its room
pub push_stays : (port : Port) (item : ℤ) (traffic : Traffic) → Fits port traffic one_push
    → IsInRange (pushed_to port item traffic)
push_stays port item traffic fits = by_test (nat_lt (length traffic.pushes) port.room) refl
  where
    by_test : (t : Bool) → nat_lt (length traffic.pushes) port.room ≡ t
        → IsInRange (if t then Ok (record traffic { pushes = traffic.pushes ++ item ∷ [] })
        else Err PeekRange)
    by_test true e = tt
    by_test false e =
        let pushes = fits.pushes in
        let room : length traffic.pushes < port.room = omega arith in
        let there = lt-ltb (length traffic.pushes) port.room room in absurd (cc)

-- ---- operators

strict_stays : (operator : BinaryOperator) (first : ℤ × Store)
    (right : Store → Result (ℤ × Store) Cause) → IsInRange (right first.1)
    → IsInRange {A = ℤ × Store} (result_and_then (right first.1)
    (λ second. result_and_then (binary_value operator first.0 second.0)
    (λ value. Ok (value, second.1))))
strict_stays operator first right h =
    in_plain (right first.1) _ h
    (λ second. in_plain (binary_value operator first.0 second.0) _
    (operator_stays operator first.0 second.0) (λ value. tt))

-- the right side, where it is evaluated
pub joined_stays : (operator : BinaryOperator) (first : ℤ × Store)
    (right : Store → Result (ℤ × Store) Cause)
    → (decides operator first.0 ≡ false → IsInRange (right first.1))
    → IsInRange (joined operator first right)
joined_stays binary.LogicalOr first right h =
    in_side (is_true first.0) (Ok first) (right first.1) (λ e. tt) h
joined_stays binary.LogicalAnd first right h =
    in_side (is_true first.0) (right first.1) (Ok first) (λ e. h (ap not e)) (λ e. tt)
joined_stays binary.Or first right h = strict_stays binary.Or first right (h refl)
joined_stays binary.ExclusiveOr first right h = strict_stays binary.ExclusiveOr first right (h refl)
joined_stays binary.And first right h = strict_stays binary.And first right (h refl)
joined_stays binary.Equal first right h = strict_stays binary.Equal first right (h refl)
joined_stays binary.NotEqual first right h = strict_stays binary.NotEqual first right (h refl)
joined_stays binary.Less first right h = strict_stays binary.Less first right (h refl)
joined_stays binary.LessOrEqual first right h = strict_stays binary.LessOrEqual first right (h refl)
joined_stays binary.Greater first right h = strict_stays binary.Greater first right (h refl)
joined_stays binary.GreaterOrEqual first right h =
    strict_stays binary.GreaterOrEqual first right (h refl)
joined_stays binary.ShiftLeft first right h = strict_stays binary.ShiftLeft first right (h refl)
joined_stays binary.ShiftRight first right h = strict_stays binary.ShiftRight first right (h refl)
joined_stays binary.Add first right h = strict_stays binary.Add first right (h refl)
joined_stays binary.Subtract first right h = strict_stays binary.Subtract first right (h refl)
joined_stays binary.Multiply first right h = strict_stays binary.Multiply first right (h refl)
joined_stays binary.Divide first right h = strict_stays binary.Divide first right (h refl)
joined_stays binary.Remainder first right h = strict_stays binary.Remainder first right (h refl)

-- ---- expressions

-- calls of helper functions stay in range
abbrev pub CallsStay : Setting → Type 0
CallsStay setting =
    (name : List ℕ) (values held : List ℤ) (turns : ℕ)
    → IsInRange (setting.call name values held turns)

module _ (setting : Setting) (narrow : IsNarrow setting.port) (calls : CallsStay setting)
    (entries : List Bool) (closed : AllAreClosed entries) where
  mutual
    pub value_stays : (e : tree.Expr) (place : ℕ) (store : Store)
        → CountedFits setting.port store.traffic (expr_counts e)
        → place + length (peeks_of_expr e) ≤ length entries
        → ExprIsSafe setting entries place e store → IsInRange (value_of setting e store)
    value_stays (tree.Number value) place store fits within safe = tt
    value_stays (tree.Truth value) place store fits within safe = tt
    value_stays (tree.Read name) place store fits within safe = tt
    value_stays (tree.Element name index) place store fits within safe =
        in_plain (value_of setting index store) _ (value_stays index place store fits within safe)
        (λ at. in_plain (place_of at.1 name at.0) _ (place_stays at.1 name at.0) (λ found. tt))
    value_stays tree.Pop place store fits within safe =
        in_plain (popped_from setting.port store.traffic) _
        (pop_stays setting.port store.traffic fits) (λ taken. tt)
    value_stays (tree.Peek index) place store fits within safe =
        let size = length-append (peeks_of_expr index) (index ∷ []) in
        let past = place + length (peeks_of_expr index) in
        in_then (value_of setting index store) _
        (λ at. IsSome (item_ahead setting.port at.1.traffic.popped at.0))
        (value_stays index place store fits (omega arith) safe.0)
        (safe.1 (closed past (omega arith)))
        (λ at there. in_plain (peeked_from setting.port at.0 at.1.traffic) _
        (looked_by (item_ahead setting.port at.1.traffic.popped at.0) there) (λ item. tt))
    value_stays (tree.Call name arguments) place store fits within safe =
        in_plain (arguments_given setting arguments store) _
        (arguments_stay arguments place store fits within safe)
        (λ given.
        let held = values_of (fields_in setting given.1.variables) in
        in_plain (setting.call name given.0 held given.1.traffic.turns) _
        (calls name given.0 held given.1.traffic.turns) (λ called. tt))
    value_stays (tree.Group inner) place store fits within safe =
        value_stays inner place store fits within safe
    value_stays (tree.Unary operator operand) place store fits within safe =
        in_plain (value_of setting operand store) _
        (value_stays operand place store fits within safe) (λ right. tt)
    value_stays (tree.Step operator name) place store fits within safe = tt
    value_stays (tree.StepElement operator name index) place store fits within safe =
        in_plain (value_of setting index store) _ (value_stays index place store fits within safe)
        (λ at. in_plain (place_of at.1 name at.0) _ (place_stays at.1 name at.0) (λ found. tt))
    value_stays (tree.Binary operator left right) place store fits within safe =
        let size = length-append (peeks_of_expr left) (peeks_of_expr right) in
        let past = place + length (peeks_of_expr left) in
        let port = setting.port in
        let y = needed (need_of operator left) (expr_counts right) in
        in_then (value_of setting left store) _
        (λ first. Counted (expr_counts left) store.traffic first.1.traffic
        × (IfSome (constant left) (λ v. first.0 ≡ v)
        × MatchBool (decides operator first.0) (Unit {0})
        (ExprIsSafe setting entries past right first.1)))
        (value_stays left place store
        (fits_first port narrow store.traffic (expr_counts left) y fits) (omega arith) safe.0)
        (both_ok (value_of setting left store) _ _ (value_counts setting left store)
        (both_ok (value_of setting left store) _ _ (constant_sound setting left store) safe.1))
        (λ first known. joined_stays operator first (value_of setting right)
        (λ e. value_stays right past first.1
        (fits_right port first.1.traffic operator left first.0 (expr_counts right) known.1.0
        (fits_after port narrow store.traffic first.1.traffic (expr_counts left) y fits known.0) e)
        (omega arith)
        (match_false (decides operator first.0) (Unit {0}) _ e known.1.1)))
    value_stays (tree.Conditional condition chosen other) place store fits within safe =
        let sides = length-append (peeks_of_expr chosen) (peeks_of_expr other) in
        let size = length-append (peeks_of_expr condition)
        (peeks_of_expr chosen ++ peeks_of_expr other) in
        let past = place + length (peeks_of_expr condition) in
        let last = past + length (peeks_of_expr chosen) in
        let port = setting.port in
        let x = expr_counts condition in
        let y = branch_counts (constant condition) (expr_counts chosen) (expr_counts other) in
        in_then (value_of setting condition store) _
        (λ test. Counted x store.traffic test.1.traffic
        × (IfSome (constant condition) (λ v. test.0 ≡ v)
        × MatchBool (is_true test.0) (ExprIsSafe setting entries past chosen test.1)
        (ExprIsSafe setting entries last other test.1)))
        (value_stays condition place store (fits_first port narrow store.traffic x y fits)
        (omega arith) safe.0)
        (both_ok (value_of setting condition store) _ _ (value_counts setting condition store)
        (both_ok (value_of setting condition store) _ _ (constant_sound setting condition store)
        safe.1))
        (λ test known.
        let left = fits_sides port test.1.traffic (constant condition) test.0 (expr_counts chosen)
        (expr_counts other) known.1.0
        (fits_after port narrow store.traffic test.1.traffic x y fits known.0) in
        in_side (is_true test.0) (value_of setting chosen test.1) (value_of setting other test.1)
        (λ e. value_stays chosen past test.1 (left.0 e) (omega arith)
        (match_true (is_true test.0) _ (ExprIsSafe setting entries last other test.1) e known.1.1))
        (λ e. value_stays other last test.1 (left.1 e) (omega arith)
        (match_false (is_true test.0) (ExprIsSafe setting entries past chosen test.1) _ e
        known.1.1)))

    arguments_stay : (arguments : tree.Arguments) (place : ℕ) (store : Store)
        → CountedFits setting.port store.traffic (arguments_counts arguments)
        → place + length (peeks_of_arguments arguments) ≤ length entries
        → ArgumentsAreSafe setting entries place arguments store
        → IsInRange (arguments_given setting arguments store)
    arguments_stay tree.NoArgument place store fits within safe = tt
    arguments_stay (tree.Argument first rest) place store fits within safe =
        let size = length-append (peeks_of_expr first) (peeks_of_arguments rest) in
        let past = place + length (peeks_of_expr first) in
        let port = setting.port in
        let x = expr_counts first in
        let y = arguments_counts rest in
        in_then (value_of setting first store) _
        (λ given. Counted x store.traffic given.1.traffic
        × ArgumentsAreSafe setting entries past rest given.1)
        (value_stays first place store (fits_first port narrow store.traffic x y fits) (omega arith)
        safe.0)
        (both_ok (value_of setting first store) _ _ (value_counts setting first store) safe.1)
        (λ given known. in_plain (arguments_given setting rest given.1) _
        (arguments_stay rest past given.1
        (fits_after port narrow store.traffic given.1.traffic x y fits known.0) (omega arith)
        known.1) (λ others. tt))
