-- The parts of a counted loop but for its body have no peeks.
use Rattle.std.proofs.Common.{◌≡◌, refl, ap, ◌∙◌, ℕ, ◌+◌, ℤ, Bool, true, false, ◌&&◌}
use Rattle.std.proofs.Common.{List, [], ◌∷◌, ◌++◌, length, neg_ℤ, Option, Some, None}
use Rattle.std.specs.Prelude.{bytes_eq, if◌then◌else◌}
use Rattle.std.specs.Option.{IfSome, option_and_then, option_map}
use Rattle.std.proofs.lemmas.Result.{IfOk-weaker}
use Rattle.strc_parse_tree.specs.Tree as tree
use Rattle.strc_parse_tree.specs.declared.tree.AssignOperator.{AssignOperator}
use Rattle.strc_parse_tree.specs.declared.tree.AssignOperator.TheVariants as assign
use Rattle.strc_parse_tree.specs.declared.tree.BinaryOperator.{BinaryOperator}
use Rattle.strc_parse_tree.specs.declared.tree.BinaryOperator.TheVariants as binary
use Rattle.strc_work_meaning.specs.Arithmetic.{is_true}
use Rattle.strc_work_meaning.specs.Constants.{decides, constant_value}
use Rattle.strc_work_meaning.specs.Firing.{Setting, Store, value_of}
use Rattle.strc_rate_intervals.specs.Constant.{is_constant, faultless, constant}
use Rattle.strc_rate_intervals.specs.declared.loops.Bound.{Bound}
use Rattle.strc_rate_intervals.specs.Loops.{First, Loop, is_order, is_variable}
use Rattle.strc_work_writes.specs.LocalWrites.{Locals, stmt_writes}
use Rattle.strc_rate_intervals.specs.Loops.{bound_of, step_move, moved_by, sum_move, assign_move}
use Rattle.strc_rate_intervals.specs.Loops.{value_move, move_of, first_of, loop_of, counted_from}
use Rattle.strc_rate_intervals.specs.Loops.{counted_loop}
use Rattle.strc_rate.specs.Entries.{peeks_of_expr, peeks_of_arguments, peeks_of_option}
use Rattle.strc_rate.specs.Entries.{peeks_of_stmt}
use Rattle.strc_rate.specs.PeeksSafe.{ExprIsSafe, ArgumentsAreSafe, OptionIsSafe, StmtIsSafe}
use Rattle.strc_rate.proofs.Results.{and_first, and_second, any_ok, match_by}

abbrev pub Peekless : List tree.Expr → Type 0
Peekless peeks = peeks ≡ []

both_peekless : (first second : List tree.Expr) → Peekless first → Peekless second
    → Peekless (first ++ second)
both_peekless first second e f = ap (λ l. l ++ second) e ∙ f

constant_form : (e : tree.Expr) → is_constant e ≡ true → Peekless (peeks_of_expr e)
constant_form (tree.Number value) h = refl
constant_form (tree.Truth value) h = refl
constant_form (tree.Read name) h = absurd (cc)
constant_form (tree.Element name index) h = absurd (cc)
constant_form tree.Pop h = absurd (cc)
constant_form (tree.Peek index) h = absurd (cc)
constant_form (tree.Call name arguments) h = absurd (cc)
constant_form (tree.Group inner) h = constant_form inner h
constant_form (tree.Unary operator operand) h = constant_form operand h
constant_form (tree.Step operator name) h = absurd (cc)
constant_form (tree.StepElement operator name index) h = absurd (cc)
constant_form (tree.Binary operator left right) h =
    both_peekless (peeks_of_expr left) (peeks_of_expr right)
    (constant_form left (and_first (is_constant left) _ h))
    (constant_form right (and_second (is_constant left) _ h))
constant_form (tree.Conditional condition chosen other) h =
    let sides = and_second (is_constant condition) (is_constant chosen && is_constant other) h in
    both_peekless (peeks_of_expr condition) (peeks_of_expr chosen ++ peeks_of_expr other)
    (constant_form condition (and_first (is_constant condition) _ h))
    (both_peekless (peeks_of_expr chosen) (peeks_of_expr other)
    (constant_form chosen (and_first (is_constant chosen) _ sides))
    (constant_form other (and_second (is_constant chosen) _ sides)))

constant_by : (e : tree.Expr) (v : ℤ) (t : Bool) → is_constant e ≡ t
    → (if t then faultless (constant_value e) else None) ≡ Some v → Peekless (peeks_of_expr e)
constant_by e v true is h = constant_form e is
constant_by e v false is h = absurd (cc)

constant_peekless : (e : tree.Expr) (v : ℤ) → constant e ≡ Some v → Peekless (peeks_of_expr e)
constant_peekless e v h = constant_by e v (is_constant e) refl h

variable_peekless : (name : List ℕ) (e : tree.Expr) → is_variable name e ≡ true
    → Peekless (peeks_of_expr e)
variable_peekless name (tree.Number value) is = refl
variable_peekless name (tree.Truth value) is = refl
variable_peekless name (tree.Read read) is = refl
variable_peekless name (tree.Element array index) is = absurd (cc)
variable_peekless name tree.Pop is = refl
variable_peekless name (tree.Peek index) is = absurd (cc)
variable_peekless name (tree.Call called arguments) is = absurd (cc)
variable_peekless name (tree.Group inner) is = absurd (cc)
variable_peekless name (tree.Unary operator operand) is = absurd (cc)
variable_peekless name (tree.Step operator stepped) is = refl
variable_peekless name (tree.StepElement operator array index) is = absurd (cc)
variable_peekless name (tree.Binary operator left right) is = absurd (cc)
variable_peekless name (tree.Conditional condition chosen other) is = absurd (cc)

-- ---- the condition

bound_by : (name : List ℕ) (operator : BinaryOperator) (left right : tree.Expr) (t : Bool)
    (limit : Option ℤ) → is_order operator && is_variable name left ≡ t → constant right ≡ limit
    → IfSome {T = Bound} (if t then
    option_map (λ l. record { operator = operator; limit = l }) limit else None)
    (λ bound. Peekless (peeks_of_expr (tree.Binary operator left right)))
bound_by name operator left right false limit e f = tt
bound_by name operator left right true None e f = tt
bound_by name operator left right true (Some limit) e f =
    both_peekless (peeks_of_expr left) (peeks_of_expr right)
    (variable_peekless name left (and_second (is_order operator) (is_variable name left) e))
    (constant_peekless right limit f)

bound_peekless : (name : List ℕ) (e : tree.Expr)
    → IfSome (bound_of name e) (λ bound. Peekless (peeks_of_expr e))
bound_peekless name (tree.Binary operator left right) =
    bound_by name operator left right (is_order operator && is_variable name left)
    (constant right) refl refl
bound_peekless name (tree.Number value) = tt
bound_peekless name (tree.Truth value) = tt
bound_peekless name (tree.Read read) = tt
bound_peekless name (tree.Element array index) = tt
bound_peekless name tree.Pop = tt
bound_peekless name (tree.Peek index) = tt
bound_peekless name (tree.Call called arguments) = tt
bound_peekless name (tree.Group inner) = tt
bound_peekless name (tree.Unary operator operand) = tt
bound_peekless name (tree.Step operator stepped) = tt
bound_peekless name (tree.StepElement operator array index) = tt
bound_peekless name (tree.Conditional condition chosen other) = tt

-- ---- the step

moved_peekless : (operator : BinaryOperator) (value : tree.Expr)
    → IfSome (moved_by operator value) (λ move. Peekless (peeks_of_expr value))
moved_peekless binary.Add value = known (constant value) refl
  where
    known : (v : Option ℤ) → constant value ≡ v
        → IfSome v (λ move. Peekless (peeks_of_expr value))
    known None e = tt
    known (Some v) e = constant_peekless value v e
moved_peekless binary.Subtract value = known (constant value) refl
  where
    known : (v : Option ℤ) → constant value ≡ v
        → IfSome (option_map neg_ℤ v) (λ move. Peekless (peeks_of_expr value))
    known None e = tt
    known (Some v) e = constant_peekless value v e
moved_peekless binary.LogicalOr value = tt
moved_peekless binary.LogicalAnd value = tt
moved_peekless binary.Or value = tt
moved_peekless binary.ExclusiveOr value = tt
moved_peekless binary.And value = tt
moved_peekless binary.Equal value = tt
moved_peekless binary.NotEqual value = tt
moved_peekless binary.Less value = tt
moved_peekless binary.LessOrEqual value = tt
moved_peekless binary.Greater value = tt
moved_peekless binary.GreaterOrEqual value = tt
moved_peekless binary.ShiftLeft value = tt
moved_peekless binary.ShiftRight value = tt
moved_peekless binary.Multiply value = tt
moved_peekless binary.Divide value = tt
moved_peekless binary.Remainder value = tt

sum_by : (name : List ℕ) (operator : BinaryOperator) (left right : tree.Expr) (t : Bool)
    (move : Option ℤ) → is_variable name left ≡ t
    → IfSome move (λ m. Peekless (peeks_of_expr right))
    → IfSome (if t then move else None)
    (λ m. Peekless (peeks_of_expr left ++ peeks_of_expr right))
sum_by name operator left right false move e h = tt
sum_by name operator left right true None e h = tt
sum_by name operator left right true (Some move) e h =
    both_peekless (peeks_of_expr left) (peeks_of_expr right) (variable_peekless name left e) h

sum_peekless : (name : List ℕ) (e : tree.Expr)
    → IfSome (sum_move name e) (λ move. Peekless (peeks_of_expr e))
sum_peekless name (tree.Binary operator left right) =
    sum_by name operator left right (is_variable name left) (moved_by operator right) refl
    (moved_peekless operator right)
sum_peekless name (tree.Number value) = tt
sum_peekless name (tree.Truth value) = tt
sum_peekless name (tree.Read read) = tt
sum_peekless name (tree.Element array index) = tt
sum_peekless name tree.Pop = tt
sum_peekless name (tree.Peek index) = tt
sum_peekless name (tree.Call called arguments) = tt
sum_peekless name (tree.Group inner) = tt
sum_peekless name (tree.Unary operator operand) = tt
sum_peekless name (tree.Step operator stepped) = tt
sum_peekless name (tree.StepElement operator array index) = tt
sum_peekless name (tree.Conditional condition chosen other) = tt

assign_peekless : (name : List ℕ) (operator : AssignOperator) (value : tree.Expr)
    → IfSome (assign_move name operator value) (λ move. Peekless (peeks_of_expr value))
assign_peekless name assign.Set value = sum_peekless name value
assign_peekless name assign.Add value = moved_peekless binary.Add value
assign_peekless name assign.Subtract value = moved_peekless binary.Subtract value
assign_peekless name assign.Multiply value = tt
assign_peekless name assign.Divide value = tt
assign_peekless name assign.Remainder value = tt

step_peekless : (name : List ℕ) (e : tree.Expr)
    → IfSome (value_move name e) (λ move. Peekless (peeks_of_expr e))
step_peekless name (tree.Step operator stepped) = by_test (bytes_eq stepped name)
  where
    by_test : (t : Bool) → IfSome (if t then Some (step_move operator) else None)
        (λ move. Peekless (peeks_of_expr (tree.Step operator stepped)))
    by_test true = refl
    by_test false = tt
step_peekless name (tree.Number value) = tt
step_peekless name (tree.Truth value) = tt
step_peekless name (tree.Read read) = tt
step_peekless name (tree.Element array index) = tt
step_peekless name tree.Pop = tt
step_peekless name (tree.Peek index) = tt
step_peekless name (tree.Call called arguments) = tt
step_peekless name (tree.Group inner) = tt
step_peekless name (tree.Unary operator operand) = tt
step_peekless name (tree.StepElement operator array index) = tt
step_peekless name (tree.Binary operator left right) = tt
step_peekless name (tree.Conditional condition chosen other) = tt

-- ---- what has no peeks is safe

empty_first : (first second : List tree.Expr) → Peekless (first ++ second) → Peekless first
empty_first [] second e = refl
empty_first (x ∷ rest) second e = absurd (cc)

empty_second : (first second : List tree.Expr) → Peekless (first ++ second) → Peekless second
empty_second [] second e = e
empty_second (x ∷ rest) second e = absurd (cc)

mutual
  pub expr_peekless : (setting : Setting) (entries : List Bool) (e : tree.Expr) (place : ℕ)
      (store : Store) → Peekless (peeks_of_expr e) → ExprIsSafe setting entries place e store
  expr_peekless setting entries (tree.Number value) place store none = tt
  expr_peekless setting entries (tree.Truth value) place store none = tt
  expr_peekless setting entries (tree.Read name) place store none = tt
  expr_peekless setting entries (tree.Element name index) place store none =
      expr_peekless setting entries index place store none
  expr_peekless setting entries tree.Pop place store none = tt
  expr_peekless setting entries (tree.Peek index) place store none =
      let one = empty_second (peeks_of_expr index) (index ∷ []) none in absurd (cc)
  expr_peekless setting entries (tree.Call name arguments) place store none =
      arguments_peekless setting entries arguments place store none
  expr_peekless setting entries (tree.Group inner) place store none =
      expr_peekless setting entries inner place store none
  expr_peekless setting entries (tree.Unary operator operand) place store none =
      expr_peekless setting entries operand place store none
  expr_peekless setting entries (tree.Step operator name) place store none = tt
  expr_peekless setting entries (tree.StepElement operator name index) place store none =
      expr_peekless setting entries index place store none
  expr_peekless setting entries (tree.Binary operator left right) place store none = (
    expr_peekless setting entries left place store
        (empty_first (peeks_of_expr left) (peeks_of_expr right) none),
    IfOk-weaker (value_of setting left store) (λ first. Unit {0}) _
        (λ first any. match_by (decides operator first.0) (Unit {0})
        (ExprIsSafe setting entries (place + length (peeks_of_expr left)) right first.1) (λ e. tt)
        (λ e. expr_peekless setting entries right (place + length (peeks_of_expr left)) first.1
        (empty_second (peeks_of_expr left) (peeks_of_expr right) none)))
        (any_ok (value_of setting left store)),
  )
  expr_peekless setting entries (tree.Conditional condition chosen other) place store none =
      let peeks_sides = peeks_of_expr chosen ++ peeks_of_expr other in
      let sides = empty_second (peeks_of_expr condition) peeks_sides none in
      let past = place + length (peeks_of_expr condition) in
      let last = past + length (peeks_of_expr chosen) in (
        expr_peekless setting entries condition place store
            (empty_first (peeks_of_expr condition) peeks_sides none),
        IfOk-weaker (value_of setting condition store) (λ test. Unit {0}) _
            (λ test any. match_by (is_true test.0) (ExprIsSafe setting entries past chosen test.1)
            (ExprIsSafe setting entries last other test.1)
            (λ e. expr_peekless setting entries chosen past test.1
            (empty_first (peeks_of_expr chosen) (peeks_of_expr other) sides))
            (λ e. expr_peekless setting entries other last test.1
            (empty_second (peeks_of_expr chosen) (peeks_of_expr other) sides)))
            (any_ok (value_of setting condition store)),
      )

  arguments_peekless : (setting : Setting) (entries : List Bool) (arguments : tree.Arguments)
      (place : ℕ) (store : Store) → Peekless (peeks_of_arguments arguments)
      → ArgumentsAreSafe setting entries place arguments store
  arguments_peekless setting entries tree.NoArgument place store none = tt
  arguments_peekless setting entries (tree.Argument first rest) place store none = (
    expr_peekless setting entries first place store
        (empty_first (peeks_of_expr first) (peeks_of_arguments rest) none),
    IfOk-weaker (value_of setting first store) (λ given. Unit {0}) _
        (λ given any. arguments_peekless setting entries rest
        (place + length (peeks_of_expr first)) given.1
        (empty_second (peeks_of_expr first) (peeks_of_arguments rest) none))
        (any_ok (value_of setting first store)),
  )

pub option_peekless : (setting : Setting) (entries : List Bool) (value : Option tree.Expr)
    (place : ℕ) (store : Store) → Peekless (peeks_of_option value)
    → OptionIsSafe setting entries place value store
option_peekless setting entries None place store none = tt
option_peekless setting entries (Some value) place store none =
    expr_peekless setting entries value place store none

-- a step without peeks
abbrev pub IsFree : tree.Stmt → Type 0
IsFree s = Peekless (peeks_of_stmt s) × ((setting : Setting) (entries : List Bool) (place : ℕ)
    (store : Store) → StmtIsSafe setting entries place s store)

freed_by : {A : Type 0} (move : Option A) (s : tree.Stmt) (e : tree.Expr)
    → IfSome move (λ m. Peekless (peeks_of_expr e)) → (Peekless (peeks_of_expr e) → IsFree s)
    → IfSome move (λ m. IsFree s)
freed_by None s e none go = tt
freed_by (Some m) s e none go = go none

assigned_free : (name assigned : List ℕ) (operator : AssignOperator) (value : tree.Expr) (t : Bool)
    → IfSome (if t then assign_move name operator value else None)
    (λ m. IsFree (tree.Assign assigned operator value))
assigned_free name assigned operator value false = tt
assigned_free name assigned operator value true =
    freed_by (assign_move name operator value) (tree.Assign assigned operator value) value
    (assign_peekless name operator value)
    (λ none. (
      none,
      λ setting entries place store. expr_peekless setting entries value place store
          none,
    ))

step_free : (name : List ℕ) (s : tree.Stmt) → IfSome (move_of name s) (λ move. IsFree s)
step_free name (tree.Evaluate value) =
    freed_by (value_move name value) (tree.Evaluate value) value (step_peekless name value)
    (λ none. (
      none,
      λ setting entries place store. expr_peekless setting entries value place store
          none,
    ))
step_free name (tree.Assign assigned operator value) =
    assigned_free name assigned operator value (bytes_eq assigned name)
step_free name tree.Empty = tt
step_free name (tree.Compose statement) = tt
step_free name (tree.Block body) = tt
step_free name (tree.Declare kind variables) = tt
step_free name (tree.AssignElement array index operator value) = tt
step_free name (tree.If condition chosen) = tt
step_free name (tree.IfElse condition chosen other) = tt
step_free name (tree.While condition body) = tt
step_free name (tree.For first condition step body) = tt
step_free name (tree.Push value) = tt
step_free name (tree.Print value) = tt
step_free name (tree.Println value) = tt
step_free name (tree.Return value) = tt

-- ---- the loop

-- the condition and the step of a loop have no peeks
abbrev pub HasFreeParts : Option tree.Expr → tree.Stmt → Type 0
HasFreeParts condition step = Peekless (peeks_of_option condition) × IsFree step

free_by_loop : (loop : Option Loop) (P : Type 0) → P → IfSome loop (λ l. P)
free_by_loop None P h = tt
free_by_loop (Some loop) P h = h

free_by_move : (first : First) (bound : Bound) (condition : tree.Expr) (step : tree.Stmt)
    (move : Option ℤ) → Peekless (peeks_of_expr condition) → IfSome move (λ m. IsFree step)
    → IfSome (option_and_then (loop_of first bound) move)
    (λ loop. HasFreeParts (Some condition) step)
free_by_move first bound condition step None none free = tt
free_by_move first bound condition step (Some move) none free =
    free_by_loop (loop_of first bound move) (HasFreeParts (Some condition) step) (none, free)

free_by_bound : (first : First) (condition : tree.Expr) (step : tree.Stmt) (bound : Option Bound)
    → IfSome bound (λ b. Peekless (peeks_of_expr condition))
    → IfSome (option_and_then (λ b. option_and_then (loop_of first b) (move_of first.name step))
    bound) (λ loop. HasFreeParts (Some condition) step)
free_by_bound first condition step None none = tt
free_by_bound first condition step (Some bound) none =
    free_by_move first bound condition step (move_of first.name step) none
    (step_free first.name step)

free_by_test : (first : First) (condition : Option tree.Expr) (step : tree.Stmt) (t : Bool)
    → IfSome (if t then None else
    option_and_then (λ bound. option_and_then (loop_of first bound) (move_of first.name step))
    (option_and_then (bound_of first.name) condition)) (λ loop. HasFreeParts condition step)
free_by_test first condition step true = tt
free_by_test first None step false = tt
free_by_test first (Some condition) step false =
    free_by_bound first condition step (bound_of first.name condition)
    (bound_peekless first.name condition)

free_by_first : (first : Option First) (condition : Option tree.Expr) (step body : tree.Stmt)
    → IfSome (counted_from first condition step body) (λ loop. HasFreeParts condition step)
free_by_first None condition step body = tt
free_by_first (Some first) condition step body =
    free_by_test first condition step (stmt_writes first.name body)

pub counted_free : (locals : Locals) (first : tree.Stmt) (condition : Option tree.Expr)
    (step body : tree.Stmt) → IfSome (counted_loop locals first condition step body)
    (λ loop. HasFreeParts condition step)
counted_free locals first condition step body =
    free_by_first (first_of locals first) condition step body
