-- Counted loops: `for` loops whose number of turns is known from their text.
use Rattle.std.specs.Prelude.{ℕ, zero, suc, ℤ, pos, negsuc, neg_ℤ, ◌+ℤ◌, ◌-ℤ◌, ◌*ℤ◌, Bool, true}
use Rattle.std.specs.Prelude.{false, ◌&&◌, List, [], ◌∷◌, Option, Some, None}
use Rattle.std.specs.Prelude.{if◌then◌else◌, bytes_eq}
use Rattle.std.specs.Option.{option_and_then, option_map}
use Rattle.std.specs.Int.{div_ceil}
use Rattle.std.specs.Ordering.{int_eq}
use Rattle.strc_parse_tree.specs.Tree as tree
use Rattle.strc_parse_tree.specs.declared.tree.AssignOperator.{AssignOperator}
use Rattle.strc_parse_tree.specs.declared.tree.AssignOperator.TheVariants as assign
use Rattle.strc_parse_tree.specs.declared.tree.StepOperator.{StepOperator}
use Rattle.strc_parse_tree.specs.declared.tree.StepOperator.TheVariants as step
use Rattle.strc_parse_tree.specs.declared.tree.BinaryOperator.{BinaryOperator}
use Rattle.strc_parse_tree.specs.declared.tree.BinaryOperator.TheVariants as binary
use Rattle.strc_lex_names.specs.Names.{has_name}
use Rattle.strc_work_meaning.specs.Arithmetic.{wrapped}
use Rattle.strc_rate_intervals.specs.Constant.{constant}
use Rattle.strc_work_writes.specs.LocalWrites.{Locals, stmt_writes}
-- a comparison of the loop's variable with its bound
pub use Rattle.strc_rate_intervals.specs.declared.loops.Bound.{Bound}

abbrev pub is_order : BinaryOperator → Bool
is_order binary.Less = true
is_order binary.LessOrEqual = true
is_order binary.Greater = true
is_order binary.GreaterOrEqual = true
is_order _ = false

-- whether an expression is the variable of a name
abbrev pub is_variable : List ℕ → tree.Expr → Bool
is_variable name (tree.Read read) = bytes_eq read name
is_variable name _ = false

-- `V < b`, `V <= b`, `V > b` or `V >= b` with a constant b
abbrev pub bound_of : List ℕ → tree.Expr → Option Bound
bound_of name (tree.Binary operator left right) =
    if is_order operator && is_variable name left
    then option_map (λ limit. record { operator = operator; limit = limit }) (constant right)
    else None
bound_of name _ = None

-- by how much a step by one moves
abbrev pub step_move : StepOperator → ℤ
step_move step.IncrementFirst = pos 1
step_move step.DecrementFirst = negsuc 0
step_move step.IncrementAfter = pos 1
step_move step.DecrementAfter = negsuc 0

-- by how much a sum or a difference with a constant moves, in whole numbers
abbrev pub moved_by : BinaryOperator → tree.Expr → Option ℤ
moved_by binary.Add value = constant value
moved_by binary.Subtract value = option_map neg_ℤ (constant value)
moved_by _ value = None

-- `V + c` or `V - c`
abbrev pub sum_move : List ℕ → tree.Expr → Option ℤ
sum_move name (tree.Binary operator left right) =
    if is_variable name left then moved_by operator right else None
sum_move name _ = None

-- `V += c`, `V -= c`, `V = V + c` or `V = V - c`
abbrev pub assign_move : List ℕ → AssignOperator → tree.Expr → Option ℤ
assign_move name assign.Set value = sum_move name value
assign_move name assign.Add value = moved_by binary.Add value
assign_move name assign.Subtract value = moved_by binary.Subtract value
assign_move name _ value = None

-- `V++`, `++V`, `V--` or `--V`
abbrev pub value_move : List ℕ → tree.Expr → Option ℤ
value_move name (tree.Step operator stepped) =
    if bytes_eq stepped name then Some (step_move operator) else None
value_move name _ = None

-- by how much the step of a loop moves its variable
abbrev pub move_of : List ℕ → tree.Stmt → Option ℤ
move_of name (tree.Evaluate value) = value_move name value
move_of name (tree.Assign assigned operator value) =
    if bytes_eq assigned name then assign_move name operator value else None
move_of name _ = None

-- a variable and its first value
pub record First : Type 0 where
  pub name : List ℕ
  pub value : ℤ

-- one variable that is declared with a constant
abbrev pub first_declared : tree.VariableType → List tree.Variable → Option First
first_declared tree.Int (only ∷ []) =
    option_map (λ value. record { name = only.name; value = value })
    (option_and_then constant only.initial)
first_declared _ _ = None

-- a local variable that is given a constant
abbrev pub first_assigned : Locals → List ℕ → AssignOperator → tree.Expr → Option First
first_assigned locals name assign.Set value =
    if has_name locals name then option_map (λ given. record { name = name; value = given })
    (constant value) else None
first_assigned locals name _ value = None

-- the first part of a loop: one local variable is given a constant, and nothing else
abbrev pub first_of : Locals → tree.Stmt → Option First
first_of locals (tree.Declare kind variables) = first_declared kind variables
first_of locals (tree.Assign name operator value) = first_assigned locals name operator value
first_of locals _ = None

-- how far it is from a value to the nearest one at which the condition is false; below 1 where it
-- is false already
abbrev pub distance : BinaryOperator → (value limit : ℤ) → ℤ
distance binary.Less value limit = limit -ℤ value
distance binary.LessOrEqual value limit = limit -ℤ value +ℤ pos 1
distance binary.Greater value limit = value -ℤ limit
distance binary.GreaterOrEqual value limit = value -ℤ limit +ℤ pos 1
distance _ value limit = pos 0

-- by how much a move comes nearer to where the condition is false
abbrev pub step_toward_bound : BinaryOperator → ℤ → ℤ
step_toward_bound binary.Less move = move
step_toward_bound binary.LessOrEqual move = move
step_toward_bound _ move = neg_ℤ move

-- the least number of moves after which a distance is gone
abbrev pub trip_count : (distance step_toward_bound : ℤ) → Option ℕ
trip_count (negsuc n) step_toward_bound = Some 0
trip_count (pos zero) step_toward_bound = Some 0
trip_count (pos (suc n)) (pos (suc m)) = Some (div_ceil (suc n) (suc m))
trip_count (pos (suc n)) _ = None

-- whether 32 bits hold a whole number: wrapping leaves it as it is
abbrev pub within_32_bits : ℤ → Bool
within_32_bits value = int_eq (wrapped value) value

-- a counted loop: its variable, the first value, the move of each turn, and the number of turns
pub record Loop : Type 0 where
  pub name : List ℕ
  pub start : ℤ
  pub move : ℤ
  pub turns : ℕ

-- the value after so many turns
abbrev pub value_after : Loop → ℕ → ℤ
value_after loop turns = loop.start +ℤ pos turns *ℤ loop.move

-- a loop that begins and ends within 32 bits
abbrev pub loop_within_i32 : Loop → Option Loop
loop_within_i32 loop =
    if within_32_bits loop.start && within_32_bits (value_after loop loop.turns) then Some loop
    else None

abbrev pub loop_of : First → Bound → ℤ → Option Loop
loop_of first bound move =
    option_and_then (λ turns. loop_within_i32
    (record { name = first.name; start = first.value; move = move; turns = turns }))
    (trip_count (distance bound.operator first.value bound.limit)
    (step_toward_bound bound.operator move))

-- the loop, where its first part, its condition and its step are of these forms, and its body
-- doesn't write its variable
abbrev pub counted_from : Option First → Option tree.Expr → (step body : tree.Stmt) → Option Loop
counted_from None condition step body = None
counted_from (Some first) condition step body =
    if stmt_writes first.name body then None else
    option_and_then (λ bound. option_and_then (loop_of first bound) (move_of first.name step))
    (option_and_then (bound_of first.name) condition)

abbrev pub counted_loop : Locals → tree.Stmt → Option tree.Expr → (step body : tree.Stmt)
    → Option Loop
counted_loop locals first condition step body =
    counted_from (first_of locals first) condition step body
