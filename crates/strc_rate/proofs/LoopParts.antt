-- What the parts of a counted loop do: its first part, its condition and its step.
use Rattle.std.proofs.Common.{◌≡◌, refl, sym, subst, ◌∙◌, ap, ℕ, ◌≤◌, ℤ, pos, neg_ℤ, ◌+ℤ◌, Bool}
use Rattle.std.proofs.Common.{true, false, cond, ◌&&◌, ◌||◌, List, [], ◌∷◌, length, set, get_or}
use Rattle.std.proofs.Common.{Option, Some, None, Result, Ok, Err, arith}
use Rattle.std.specs.Prelude.{bytes_eq, unwrap_or, if◌then◌else◌}
use Rattle.std.specs.Option.{IfSome, option_map}
use Rattle.std.specs.Result.{IfOk}
use Rattle.std.proofs.lemmas.List.{get_or-set_same}
use Rattle.strc_lex_names.specs.Results.{result_and_then}
use Rattle.strc_parse_tree.specs.Tree as tree
use Rattle.strc_parse_tree.specs.declared.tree.AssignOperator.{AssignOperator}
use Rattle.strc_parse_tree.specs.declared.tree.AssignOperator.TheVariants as assign
use Rattle.strc_parse_tree.specs.declared.tree.StepOperator.{StepOperator}
use Rattle.strc_parse_tree.specs.declared.tree.StepOperator.TheVariants as step
use Rattle.strc_parse_tree.specs.declared.tree.BinaryOperator.{BinaryOperator}
use Rattle.strc_parse_tree.specs.declared.tree.BinaryOperator.TheVariants as binary
use Rattle.strc_work_meaning.specs.declared.fault.Cause.{Cause}
use Rattle.strc_work_meaning.specs.Arithmetic.{wrapped, truth, binary_value}
use Rattle.strc_lex_names.specs.Names.{has_name}
use Rattle.strc_work_meaning.specs.Scoping.{Scope, size_named, size_of, cells_of, with_declared}
use Rattle.strc_work_meaning.specs.Scoping.{names_after, is_declared}
use Rattle.strc_work_meaning.specs.Constants.{constant_value, IsConstant}
use Rattle.strc_work_meaning.specs.Closed.{FitsInitial, AreClosedVariables, IsClosedStmt}
use Rattle.strc_work_meaning.specs.Firing.{Setting, Store, Variables, cells_named, with_cell}
use Rattle.strc_work_meaning.specs.Firing.{value_in}
use Rattle.strc_work_meaning.specs.Firing.{assigned, value_of, value_stepped, assigned_value}
use Rattle.strc_work_meaning.specs.Firing.{joined}
use Rattle.strc_work_meaning.specs.Firing.{inside, stmt_done}
use Rattle.strc_work_meaning.proofs.ConstantValues.{constant_value_Ok}
use Rattle.strc_rate.proofs.Scopes.{scope_of}
use Rattle.strc_rate_intervals.specs.Constant.{is_constant, faultless, constant}
use Rattle.strc_rate_intervals.specs.declared.loops.Bound.{Bound}
use Rattle.strc_rate_intervals.specs.Loops.{is_order}
use Rattle.strc_work_writes.specs.LocalWrites.{Locals, with_locals, locals_after}
use Rattle.strc_rate_intervals.specs.Loops.{is_variable, bound_of, step_move, moved_by, sum_move}
use Rattle.strc_rate_intervals.specs.Loops.{assign_move, value_move, move_of}
use Rattle.strc_rate.proofs.Results.{and_first, and_second, any_ok, ok_known, above, above_more}
use Rattle.strc_rate.proofs.Keeping.{same_name, one_name}
use Rattle.strc_rate.proofs.LoopTurns.{compares}

-- ---- constants

constant_form : (e : tree.Expr) → is_constant e ≡ true → IsConstant e
constant_form (tree.Number value) h = tt
constant_form (tree.Truth value) h = tt
constant_form (tree.Read name) h = absurd (cc)
constant_form (tree.Element name index) h = absurd (cc)
constant_form tree.Pop h = absurd (cc)
constant_form (tree.Peek index) h = absurd (cc)
constant_form (tree.Call name arguments) h = absurd (cc)
constant_form (tree.Group inner) h = constant_form inner h
constant_form (tree.Unary operator operand) h = constant_form operand h
constant_form (tree.Step operator name) h = absurd (cc)
constant_form (tree.StepElement operator name index) h = absurd (cc)
constant_form (tree.Binary operator left right) h = (
  constant_form left (and_first (is_constant left) _ h),
  constant_form right (and_second (is_constant left) _ h),
)
constant_form (tree.Conditional condition chosen other) h =
    let branch_counts = and_second (is_constant condition)
    (is_constant chosen && is_constant other) h in (
      constant_form condition (and_first (is_constant condition) _ h),
      constant_form chosen (and_first (is_constant chosen) _ branch_counts),
      constant_form other (and_second (is_constant chosen) _ branch_counts),
    )

faultless_Ok : (r : Result ℤ Cause) (v : ℤ) → faultless r ≡ Some v → r ≡ Ok v
faultless_Ok (Ok value) v e = let same : value ≡ v = cc in ap Ok same
faultless_Ok (Err cause) v e = absurd (cc)

constant_by : (setting : Setting) (e : tree.Expr) (store : Store) (v : ℤ) (t : Bool)
    → is_constant e ≡ t → (if t then faultless (constant_value e) else None) ≡ Some v
    → value_of setting e store ≡ Ok (v, store)
constant_by setting e store v true is h = constant_value_Ok setting e store v (constant_form e is)
    (faultless_Ok (constant_value e) v h)
constant_by setting e store v false is h = absurd (cc)

-- a constant has its value in each store, and changes none
pub constant_done : (setting : Setting) (e : tree.Expr) (store : Store) (v : ℤ)
    → constant e ≡ Some v → value_of setting e store ≡ Ok (v, store)
constant_done setting e store v h = constant_by setting e store v (is_constant e) refl h

sound_by : (setting : Setting) (e : tree.Expr) (store : Store) (known : Option ℤ)
    → constant e ≡ known
    → IfOk (value_of setting e store) (λ given. IfSome known (λ v. given.0 ≡ v))
sound_by setting e store None is = any_ok (value_of setting e store)
sound_by setting e store (Some v) is =
    ok_known (value_of setting e store) (v, store) (λ given. given.0 ≡ v)
    (constant_done setting e store v is) refl

-- a known value is the one that an evaluation gives
pub constant_sound : (setting : Setting) (e : tree.Expr) (store : Store)
    → IfOk (value_of setting e store) (λ given. IfSome (constant e) (λ v. given.0 ≡ v))
constant_sound setting e store = sound_by setting e store (constant e) refl

-- ---- cells

sized_by : (first : List ℕ × List ℤ) (rest : Variables) (name : List ℕ) (t : Bool)
    → length (cells_named rest name) ≡ size_of (scope_of rest) name
    → length (cond t first.1 (cells_named rest name))
    ≡ unwrap_or (cond t (Some (length first.1)) (size_named (scope_of rest) name)) 0
sized_by first rest name true inside = refl
sized_by first rest name false inside = inside

pub cells_sized : (variables : Variables) (name : List ℕ)
    → length (cells_named variables name) ≡ size_of (scope_of variables) name
cells_sized [] name = refl
cells_sized (first ∷ rest) name = sized_by first rest name (bytes_eq first.0 name)
    (cells_sized rest name)

value_by : (first : List ℕ × List ℤ) (rest : Variables) (name : List ℕ) (value : ℤ) (t : Bool)
    → bytes_eq first.0 name ≡ t → 1 ≤ length (cond t first.1 (cells_named rest name))
    → (1 ≤ length (cells_named rest name)
    → get_or (cells_named (with_cell rest name 0 value) name) 0 (pos 0) ≡ value)
    → get_or (cells_named (cond t (record { 0 = first.0; 1 = set first.1 0 value } ∷ rest)
    (first ∷ with_cell rest name 0 value)) name) 0 (pos 0) ≡ value
value_by first rest name value true e some inside =
    ap (λ t. get_or (cond t (set first.1 0 value) (cells_named rest name)) 0 (pos 0)) e
    ∙ get_or-set_same first.1 0 value (pos 0) (omega arith)
value_by first rest name value false e some inside =
    ap (λ t. get_or (cond t first.1 (cells_named (with_cell rest name 0 value) name)) 0 (pos 0)) e
    ∙ inside some

-- the value that was assigned
pub assigned_is : (variables : Variables) (name : List ℕ) (value : ℤ)
    → 1 ≤ length (cells_named variables name)
    → get_or (cells_named (with_cell variables name 0 value) name) 0 (pos 0) ≡ value
assigned_is [] name value some = absurd (omega arith)
assigned_is (first ∷ rest) name value some =
    value_by first rest name value (bytes_eq first.0 name) refl some
    (λ h. assigned_is rest name value h)

-- the local variables are the innermost of the store's, each with a cell, inside the fields
abbrev pub Seen : (fields : ℕ) → Locals → Scope → Type 0
Seen fields [] scope = fields ≤ length scope
Seen fields (name ∷ locals) [] = ⊥
Seen fields (name ∷ locals) (first ∷ scope) =
    (first.0 ≡ name) × (1 ≤ first.1) × Seen fields locals scope

seen_by : (first : List ℕ × ℕ) (scope : Scope) (name other : List ℕ) (locals : Locals) (t : Bool)
    → 1 ≤ first.1 → t || has_name locals other ≡ true
    → (has_name locals other ≡ true → 1 ≤ size_of scope other)
    → 1 ≤ unwrap_or (cond t (Some first.1) (size_named scope other)) 0
seen_by first scope name other locals true some e inside = some
seen_by first scope name other locals false some e inside = inside e

-- a local variable has a cell
pub seen_sized : (fields : ℕ) (locals : Locals) (scope : Scope) (name : List ℕ)
    → Seen fields locals scope → has_name locals name ≡ true → 1 ≤ size_of scope name
seen_sized fields [] scope name seen e = absurd (cc)
seen_sized fields (local ∷ locals) [] name seen e = absurd seen
seen_sized fields (local ∷ locals) (first ∷ scope) name seen e =
    seen_by first scope local name locals (bytes_eq first.0 name) seen.1
    (ap (λ n. bytes_eq n name || has_name locals name) seen.0 ∙ e)
    (λ f. seen_sized fields locals scope name seen.2 f)

-- the fields are among the store's variables
pub seen_room : (fields : ℕ) (locals : Locals) (scope : Scope) → Seen fields locals scope
    → fields ≤ length scope
seen_room fields [] scope seen = seen
seen_room fields (local ∷ locals) [] seen = absurd seen
seen_room fields (local ∷ locals) (first ∷ scope) seen =
    omega (arith, seen_room fields locals scope seen.2)

inner_first : (first : List ℕ × ℕ) (shown : Scope) (local name : List ℕ) (locals : Locals)
    (t : Bool) → bytes_eq first.0 name ≡ t → first.0 ≡ local
    → bytes_eq local name || has_name locals name ≡ true
    → (has_name locals name ≡ true → is_declared shown name ≡ true)
    → t || is_declared shown name ≡ true
inner_first first shown local name locals true is same e inside = refl
inner_first first shown local name locals false is same e inside =
    let other : bytes_eq local name ≡ false = ap (λ n. bytes_eq n name) (sym same) ∙ is in
    inside (ap (λ t. t || has_name locals name) (sym other) ∙ e)

-- a local variable is no field
pub seen_inner : (fields : ℕ) (locals : Locals) (scope : Scope) (name : List ℕ)
    → Seen fields locals scope → has_name locals name ≡ true
    → is_declared (above fields scope) name ≡ true
seen_inner fields [] scope name seen e = absurd (cc)
seen_inner fields (local ∷ locals) [] name seen e = absurd seen
seen_inner fields (local ∷ locals) (first ∷ scope) name seen e =
    ap (λ s. is_declared s name)
    (above_more fields first scope (seen_room fields locals scope seen.2))
    ∙ inner_first first (above fields scope) local name locals (bytes_eq first.0 name) refl seen.0
    e (λ f. seen_inner fields locals scope name seen.2 f)

fits_some : (cells : ℕ) (initial : Option tree.Expr) → FitsInitial cells initial → 1 ≤ cells
fits_some cells None fits = fits
fits_some cells (Some initial) fits = omega arith

seen_declared : (fields : ℕ) (locals : Locals) (scope names : Scope) (cells : ℕ)
    (variables : List tree.Variable)
    → AreClosedVariables names cells variables → Seen fields locals scope
    → Seen fields (with_locals locals variables) (with_declared scope cells variables)
seen_declared fields locals scope names cells [] closed seen = seen
seen_declared fields locals scope names cells (first ∷ rest) closed seen =
    seen_declared fields (first.name ∷ locals) (record { 0 = first.name; 1 = cells } ∷ scope)
    (record { 0 = first.name; 1 = cells } ∷ names) cells rest closed.2
    (refl, fits_some cells first.initial closed.1, seen)

pub seen_after : (fields : ℕ) (s : tree.Stmt) (locals : Locals) (scope names : Scope)
    → IsClosedStmt names s → Seen fields locals scope
    → Seen fields (locals_after locals s) (names_after scope s)
seen_after fields (tree.Declare kind variables) locals scope names closed seen =
    seen_declared fields locals scope names (cells_of kind) variables closed seen
seen_after fields tree.Empty locals scope names closed seen = seen
seen_after fields (tree.Compose statement) locals scope names closed seen = seen
seen_after fields (tree.Block body) locals scope names closed seen = seen
seen_after fields (tree.Evaluate value) locals scope names closed seen = seen
seen_after fields (tree.Assign assigned operator value) locals scope names closed seen =
    seen
seen_after fields (tree.AssignElement array index operator value) locals scope names closed
    seen = seen
seen_after fields (tree.If condition chosen) locals scope names closed seen =
    seen
seen_after fields (tree.IfElse condition chosen other) locals scope names closed seen =
    seen
seen_after fields (tree.While condition body) locals scope names closed seen =
    seen
seen_after fields (tree.For first condition step body) locals scope names closed seen =
    seen
seen_after fields (tree.Push value) locals scope names closed seen = seen
seen_after fields (tree.Print value) locals scope names closed seen = seen
seen_after fields (tree.Println value) locals scope names closed seen = seen
seen_after fields (tree.Return value) locals scope names closed seen = seen

-- ---- the condition

-- an operator between values that are known
strict_value : (operator : BinaryOperator) (v l : ℤ) (store : Store)
    (right : Store → Result (ℤ × Store) Cause) → right store ≡ Ok (l, store)
    → result_and_then (right store) (λ second. result_and_then (binary_value operator v second.0)
    (λ value. Ok (value, second.1))) ≡ result_and_then {B = ℤ × Store} (binary_value operator v l)
    (λ value. Ok (value, store))
strict_value operator v l store right e =
    ap (λ r. result_and_then r (λ second. result_and_then (binary_value operator v second.0)
    (λ value. Ok (value, second.1)))) e

compared : (operator : BinaryOperator) (v l : ℤ) (store : Store)
    (right : Store → Result (ℤ × Store) Cause) → is_order operator ≡ true
    → right store ≡ Ok (l, store) → joined operator (v, store) right
    ≡ Ok (truth (compares operator v l), store)
compared binary.Less v l store right order e = strict_value binary.Less v l store right e
compared binary.LessOrEqual v l store right order e =
    strict_value binary.LessOrEqual v l store right e
compared binary.Greater v l store right order e = strict_value binary.Greater v l store right e
compared binary.GreaterOrEqual v l store right order e =
    strict_value binary.GreaterOrEqual v l store right e
compared _ v l store right order e = absurd (cc)

-- the variable's value
variable_done : (setting : Setting) (name : List ℕ) (e : tree.Expr) (store : Store)
    → is_variable name e ≡ true → value_of setting e store ≡ Ok (value_in store name, store)
variable_done setting name (tree.Read read) store is = let same : read ≡ name =
    same_name read name is in
    ap (λ n. Ok (value_in store n, store))
    same
variable_done setting name (tree.Number value) store is = absurd (cc)
variable_done setting name (tree.Truth value) store is = absurd (cc)
variable_done setting name (tree.Element array index) store is = absurd (cc)
variable_done setting name tree.Pop store is = absurd (cc)
variable_done setting name (tree.Peek index) store is = absurd (cc)
variable_done setting name (tree.Call called arguments) store is = absurd (cc)
variable_done setting name (tree.Group inner) store is = absurd (cc)
variable_done setting name (tree.Unary operator operand) store is = absurd (cc)
variable_done setting name (tree.Step operator stepped) store is = absurd (cc)
variable_done setting name (tree.StepElement operator array index) store is = absurd (cc)
variable_done setting name (tree.Binary operator left right) store is = absurd (cc)
variable_done setting name (tree.Conditional condition chosen other) store is = absurd (cc)

-- what a bound means: an order between the variable and the limit
abbrev pub Bounds : List ℕ → tree.Expr → Bound → Type 0
Bounds name e bound =
    (is_order bound.operator ≡ true) × ((setting : Setting) (store : Store)
    → value_of setting e store ≡ Ok (
      truth
          (compares bound.operator (value_in store name) bound.limit),
      store,
    ))

bounds_by : (name : List ℕ) (operator : BinaryOperator) (left right : tree.Expr) (t : Bool)
    (limit : Option ℤ) → is_order operator && is_variable name left ≡ t → constant right ≡ limit
    → IfSome (if t then option_map (λ l. record { operator = operator; limit = l }) limit else None)
    (Bounds name (tree.Binary operator left right))
bounds_by name operator left right false limit e f = tt
bounds_by name operator left right true None e f = tt
bounds_by name operator left right true (Some limit) e f = (
  and_first (is_order operator) (is_variable name left) e,
  λ setting store.
      ap (λ r. result_and_then r (λ first. joined operator first (value_of setting right)))
      (variable_done setting name left store
      (and_second (is_order operator) (is_variable name left) e))
      ∙ compared operator (value_in store name) limit store (value_of setting right)
      (and_first (is_order operator) (is_variable name left) e)
      (constant_done setting right store limit f),
)

pub bounds_sound : (name : List ℕ) (e : tree.Expr) → IfSome (bound_of name e) (Bounds name e)
bounds_sound name (tree.Binary operator left right) =
    bounds_by name operator left right (is_order operator && is_variable name left)
    (constant right) refl refl
bounds_sound name (tree.Number value) = tt
bounds_sound name (tree.Truth value) = tt
bounds_sound name (tree.Read read) = tt
bounds_sound name (tree.Element array index) = tt
bounds_sound name tree.Pop = tt
bounds_sound name (tree.Peek index) = tt
bounds_sound name (tree.Call called arguments) = tt
bounds_sound name (tree.Group inner) = tt
bounds_sound name (tree.Unary operator operand) = tt
bounds_sound name (tree.Step operator stepped) = tt
bounds_sound name (tree.StepElement operator array index) = tt
bounds_sound name (tree.Conditional condition chosen other) = tt

-- ---- the step

-- what a step does: the variable moves
abbrev pub Steps : List ℕ → tree.Stmt → ℤ → Type 0
Steps name s move =
    (setting : Setting) (store : Store) → stmt_done setting s store
    ≡ Ok (assigned store name (wrapped (value_in store name +ℤ move)))

stepped_by_one : (operator : StepOperator) (value : ℤ)
    → value_stepped operator value ≡ wrapped (value +ℤ step_move operator)
stepped_by_one step.IncrementFirst value = refl
stepped_by_one step.DecrementFirst value = refl
stepped_by_one step.IncrementAfter value = refl
stepped_by_one step.DecrementAfter value = refl

step_by : (name : List ℕ) (operator : StepOperator) (stepped : List ℕ) (t : Bool)
    → bytes_eq stepped name ≡ t → IfSome (if t then Some (step_move operator) else None)
    (Steps name (tree.Evaluate (tree.Step operator stepped)))
step_by name operator stepped false e = tt
step_by name operator stepped true e =
    λ setting store.
    let same : stepped ≡ name = same_name stepped name e in
    ap (λ n. Ok (assigned store n (value_stepped operator (value_in store n)))) same
    ∙ ap (λ v. Ok (assigned store name v)) (stepped_by_one operator (value_in store name))

evaluated_sound : (name : List ℕ) (e : tree.Expr)
    → IfSome (value_move name e) (Steps name (tree.Evaluate e))
evaluated_sound name (tree.Step operator stepped) =
    step_by name operator stepped (bytes_eq stepped name) refl
evaluated_sound name (tree.Number value) = tt
evaluated_sound name (tree.Truth value) = tt
evaluated_sound name (tree.Read read) = tt
evaluated_sound name (tree.Element array index) = tt
evaluated_sound name tree.Pop = tt
evaluated_sound name (tree.Peek index) = tt
evaluated_sound name (tree.Call called arguments) = tt
evaluated_sound name (tree.Group inner) = tt
evaluated_sound name (tree.Unary operator operand) = tt
evaluated_sound name (tree.StepElement operator array index) = tt
evaluated_sound name (tree.Binary operator left right) = tt
evaluated_sound name (tree.Conditional condition chosen other) = tt

-- the value of a sum or a difference with a constant
abbrev Sums : List ℕ → tree.Expr → ℤ → Type 0
Sums name e move =
    (setting : Setting) (store : Store) → value_of setting e store
    ≡ Ok (wrapped (value_in store name +ℤ move), store)

sum_by : (name : List ℕ) (left right : tree.Expr) (given : Option ℤ) → is_variable name left ≡ true
    → constant right ≡ given → IfSome given (Sums name (tree.Binary binary.Add left right))
    × IfSome (option_map neg_ℤ given) (Sums name (tree.Binary binary.Subtract left right))
sum_by name left right None is f = (tt, tt)
sum_by name left right (Some given) is f = (
  λ setting store.
      ap (λ r. result_and_then r (λ first. joined binary.Add first (value_of setting right)))
      (variable_done setting name left store is)
      ∙ strict_value binary.Add (value_in store name) given store (value_of setting right)
      (constant_done setting right store given f),
  λ setting store.
      ap (λ r. result_and_then r (λ first. joined binary.Subtract first (value_of setting right)))
      (variable_done setting name left store is)
      ∙ strict_value binary.Subtract (value_in store name) given store (value_of setting right)
      (constant_done setting right store given f),
)

moved_sound : (name : List ℕ) (operator : BinaryOperator) (left right : tree.Expr)
    → is_variable name left ≡ true → IfSome (moved_by operator right)
    (Sums name (tree.Binary operator left right))
moved_sound name binary.Add left right is = (sum_by name left right (constant right) is refl).0
moved_sound name binary.Subtract left right is = (sum_by name left right (constant right) is refl).1
moved_sound name binary.LogicalOr left right is = tt
moved_sound name binary.LogicalAnd left right is = tt
moved_sound name binary.Or left right is = tt
moved_sound name binary.ExclusiveOr left right is = tt
moved_sound name binary.And left right is = tt
moved_sound name binary.Equal left right is = tt
moved_sound name binary.NotEqual left right is = tt
moved_sound name binary.Less left right is = tt
moved_sound name binary.LessOrEqual left right is = tt
moved_sound name binary.Greater left right is = tt
moved_sound name binary.GreaterOrEqual left right is = tt
moved_sound name binary.ShiftLeft left right is = tt
moved_sound name binary.ShiftRight left right is = tt
moved_sound name binary.Multiply left right is = tt
moved_sound name binary.Divide left right is = tt
moved_sound name binary.Remainder left right is = tt

sum_sound_by : (name : List ℕ) (operator : BinaryOperator) (left right : tree.Expr) (t : Bool)
    → is_variable name left ≡ t → IfSome (if t then moved_by operator right else None)
    (Sums name (tree.Binary operator left right))
sum_sound_by name operator left right false is = tt
sum_sound_by name operator left right true is = moved_sound name operator left right is

sum_sound : (name : List ℕ) (e : tree.Expr) → IfSome (sum_move name e) (Sums name e)
sum_sound name (tree.Binary operator left right) =
    sum_sound_by name operator left right (is_variable name left) refl
sum_sound name (tree.Number value) = tt
sum_sound name (tree.Truth value) = tt
sum_sound name (tree.Read read) = tt
sum_sound name (tree.Element array index) = tt
sum_sound name tree.Pop = tt
sum_sound name (tree.Peek index) = tt
sum_sound name (tree.Call called arguments) = tt
sum_sound name (tree.Group inner) = tt
sum_sound name (tree.Unary operator operand) = tt
sum_sound name (tree.Step operator stepped) = tt
sum_sound name (tree.StepElement operator array index) = tt
sum_sound name (tree.Conditional condition chosen other) = tt

assign_sound : (name : List ℕ) (operator : AssignOperator) (value : tree.Expr)
    → IfSome (assign_move name operator value) (Sums name (assigned_value name operator value))
assign_sound name assign.Set value = sum_sound name value
assign_sound name assign.Add value = moved_sound name binary.Add (tree.Read name) value
    (one_name name name refl)
assign_sound name assign.Subtract value = moved_sound name binary.Subtract (tree.Read name) value
    (one_name name name refl)
assign_sound name assign.Multiply value = tt
assign_sound name assign.Divide value = tt
assign_sound name assign.Remainder value = tt

-- an assignment of a sum moves
sums_step : (name : List ℕ) (operator : AssignOperator) (value : tree.Expr) (move : Option ℤ)
    → IfSome move (Sums name (assigned_value name operator value))
    → IfSome move (Steps name (tree.Assign name operator value))
sums_step name operator value None sums = tt
sums_step name operator value (Some move) sums =
    λ setting store. ap (λ r. result_and_then r (λ given. Ok (assigned given.1 name given.0)))
    (sums setting store)

assigned_sound_by : (name assigned : List ℕ) (operator : AssignOperator) (value : tree.Expr)
    (t : Bool) → bytes_eq assigned name ≡ t
    → IfSome (if t then assign_move name operator value else None)
    (Steps name (tree.Assign assigned operator value))
assigned_sound_by name assigned operator value false e = tt
assigned_sound_by name assigned operator value true e =
    let same : assigned ≡ name = same_name assigned name e in
    subst (λ n. IfSome (assign_move name operator value)
    (Steps name (tree.Assign n operator value))) (sym same)
    (sums_step name operator value (assign_move name operator value)
    (assign_sound name operator value))

pub step_sound : (name : List ℕ) (s : tree.Stmt) → IfSome (move_of name s) (Steps name s)
step_sound name (tree.Evaluate value) = evaluated_sound name value
step_sound name (tree.Assign assigned operator value) =
    assigned_sound_by name assigned operator value (bytes_eq assigned name) refl
step_sound name tree.Empty = tt
step_sound name (tree.Compose statement) = tt
step_sound name (tree.Block body) = tt
step_sound name (tree.Declare kind variables) = tt
step_sound name (tree.AssignElement array index operator value) = tt
step_sound name (tree.If condition chosen) = tt
step_sound name (tree.IfElse condition chosen other) = tt
step_sound name (tree.While condition body) = tt
step_sound name (tree.For first condition step body) = tt
step_sound name (tree.Push value) = tt
step_sound name (tree.Print value) = tt
step_sound name (tree.Println value) = tt
step_sound name (tree.Return value) = tt
