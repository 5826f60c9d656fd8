-- The text of C.
use Rattle.std.specs.Prelude.{ℕ, zero, suc, ◌+◌, ◌-◌, Bool, true, false, List, [], ◌∷◌}
use Rattle.std.specs.Prelude.{◌++◌, codes, decimal, nat_lt, nat_le, Option, Some, None}
use Rattle.std.specs.Prelude.{slice_index_or}
use Rattle.std.specs.Prelude.{if◌then◌else◌}
use Rattle.std.specs.Fmt.{signed_decimal}
use Rattle.strc_parse_tree.specs.declared.tree.UnaryOperator.{UnaryOperator}
use Rattle.strc_parse_tree.specs.declared.tree.UnaryOperator.TheVariants as unary
use Rattle.strc_parse_tree.specs.declared.tree.BinaryOperator.{BinaryOperator}
use Rattle.strc_parse_tree.specs.declared.tree.BinaryOperator.TheVariants as binary
use Rattle.strc_work_meaning.specs.declared.fault.Cause.{Cause}
use Rattle.strc_work_meaning.specs.declared.fault.Cause.TheVariants as cause
use Rattle.strc_emit_c.specs.declared.function.Function.{Function}
use Rattle.strc_emit_c.specs.declared.text.TheConstants.{DEPTH_LIMIT}
use Rattle.strc_emit_c.specs.C.{Counter, Popped, Pushed, Turns, Depth}
use Rattle.strc_emit_c.specs.C.{Expression, Number, Size, Slot, Count, Element, Input, Unary}
use Rattle.strc_emit_c.specs.C.{Binary, Sum, Difference, Test, IsZero, IsOutside, Reaches}
use Rattle.strc_emit_c.specs.C.{Statement, Assign, AssignElement, Output, Increase, Clear, Print}
use Rattle.strc_emit_c.specs.C.{LeaveIf, Leave, Call, Statements, End, Then, If, Loop}

-- the beginning of a line that is so many blocks deep
abbrev pub indent : (depth : ℕ) → List ℕ
indent zero = []
indent (suc depth) = codes "    " ++ indent depth

-- one block deeper; the lines of blocks in more than so many others begin where theirs do
abbrev pub deeper : (depth : ℕ) → ℕ
deeper depth = if nat_lt depth DEPTH_LIMIT then depth + 1 else depth

-- the C functions that operators are
abbrev pub unary_name : UnaryOperator → List ℕ
unary_name unary.Negate = codes "negate"
unary_name unary.Not = codes "flip"
unary_name unary.Complement = codes "complement"

abbrev pub binary_name : BinaryOperator → List ℕ
binary_name binary.LogicalOr = codes "second"
binary_name binary.LogicalAnd = codes "second"
binary_name binary.Or = codes "bit_or"
binary_name binary.ExclusiveOr = codes "exclusive_or"
binary_name binary.And = codes "bit_and"
binary_name binary.Equal = codes "equal"
binary_name binary.NotEqual = codes "not_equal"
binary_name binary.Less = codes "less"
binary_name binary.LessOrEqual = codes "less_or_equal"
binary_name binary.Greater = codes "greater"
binary_name binary.GreaterOrEqual = codes "greater_or_equal"
binary_name binary.ShiftLeft = codes "shift_left"
binary_name binary.ShiftRight = codes "shift_right"
binary_name binary.Add = codes "add"
binary_name binary.Subtract = codes "subtract"
binary_name binary.Multiply = codes "multiply"
binary_name binary.Divide = codes "quotient"
binary_name binary.Remainder = codes "remainder_of"

abbrev pub cause_name : Cause → List ℕ
cause_name cause.DivZero = codes "DIV_ZERO"
cause_name cause.Index = codes "INDEX"
cause_name cause.PeekRange = codes "PEEK_RANGE"
cause_name cause.Turns = codes "TURNS"
cause_name cause.Calls = codes "CALLS"

abbrev pub counter_name : Counter → List ℕ
counter_name Popped = codes "popped"
counter_name Pushed = codes "pushed"
counter_name Turns = codes "turns"
counter_name Depth = codes "depth"

-- an array doesn't begin after a slot that is in it
abbrev pub begun_by : (slot : ℕ) → Option ℕ → Option ℕ
begun_by slot None = None
begun_by slot (Some from) = if nat_le from slot then Some from else None

-- where the array begins that a slot is in, where a table has it for each slot
abbrev pub array_in : List (Option ℕ) → (slot : ℕ) → Option ℕ
array_in arrays slot = begun_by slot (slice_index_or arrays slot None)

-- the variable that begins at a slot: a field's is `f3_5` in node 3, a local's `v5`
abbrev pub name_text : Function → (slot : ℕ) → List ℕ
name_text function slot = (if nat_lt slot function.fields
    then codes "f" ++ decimal function.node ++ codes "_" else codes "v") ++ decimal slot

-- a slot, and one of an array: `v5`, `v4[1]`
abbrev pub place_text : Function → Option ℕ → (slot : ℕ) → List ℕ
place_text function None slot = name_text function slot
place_text function (Some from) slot =
    name_text function from ++ codes "[" ++ decimal (slot - from) ++ codes "]"

abbrev pub slot_text : Function → (slot : ℕ) → List ℕ
slot_text function slot = place_text function (array_in function.arrays.items slot) slot

-- where the array begins that a slot is in
abbrev pub beginning : Option ℕ → (slot : ℕ) → ℕ
beginning None slot = slot
beginning (Some from) slot = from

-- an element of the array at a slot, up to its index: `v4[2 + `
abbrev pub element_beginning : Function → (base : ℕ) → List ℕ
element_beginning function base =
    let from = beginning (array_in function.arrays.items base) base in
    name_text function from ++ codes "[" ++ decimal (base - from) ++ codes " + "

-- an element of the array at a slot: `v4[2 + v7]`
abbrev pub element_text : Function → (base : ℕ) → (index : List ℕ) → List ℕ
element_text function base index = element_beginning function base ++ index ++ codes "]"

abbrev pub expression_text : Function → Expression → List ℕ
expression_text function (Number value) = signed_decimal value
expression_text function (Size count) = decimal count
expression_text function (Slot slot) = slot_text function slot
expression_text function (Count counter) = counter_name counter
expression_text function (Element base length index) =
    element_text function base (expression_text function index)
expression_text function (Input place) = codes "in[" ++ expression_text function place ++ codes "]"
expression_text function (Unary operator operand) =
    unary_name operator ++ codes "(" ++ expression_text function operand ++ codes ")"
expression_text function (Binary operator left right) =
    binary_name operator ++ codes "(" ++ expression_text function left ++ codes ", "
    ++ expression_text function right ++ codes ")"
expression_text function (Sum left right) =
    expression_text function left ++ codes " + " ++ expression_text function right
expression_text function (Difference left right) =
    expression_text function left ++ codes " - " ++ expression_text function right

abbrev pub test_text : Function → Test → List ℕ
test_text function (IsZero value) = expression_text function value ++ codes " == 0"
test_text function (IsOutside index length) =
    codes "outside(" ++ expression_text function index ++ codes ", "
    ++ expression_text function length ++ codes ")"
test_text function (Reaches counter limit) = counter_name counter ++ codes " >= " ++ decimal limit

-- how a function leaves with a fault: a body returns it, a helper function ends the run
abbrev pub leave_text : Function → Cause → List ℕ
leave_text function why = if function.in_helper
    then codes "leave(" ++ cause_name why ++ codes ");\n"
    else codes "return " ++ cause_name why ++ codes ";\n"

-- the last number of a word's print
abbrev pub line_number : (ends_line : Bool) → List ℕ
line_number true = codes ", 1);\n"
line_number false = codes ", 0);\n"

-- so many arguments after the one in a slot, and arguments in so many slots from one on
abbrev pub more_arguments : Function → (slot count : ℕ) → List ℕ
more_arguments function slot zero = []
more_arguments function slot (suc count) =
    codes ", " ++ slot_text function (slot + 1) ++ more_arguments function (slot + 1) count

abbrev pub arguments_text : Function → (first count : ℕ) → List ℕ
arguments_text function first zero = []
arguments_text function first (suc count) =
    slot_text function first ++ more_arguments function first count

-- a helper function's name: `helper3_0`
abbrev pub helper_name : (node number : ℕ) → List ℕ
helper_name node number = codes "helper" ++ decimal node ++ codes "_" ++ decimal number

-- a statement without the beginning of its line
abbrev pub statement_text : Function → Statement → List ℕ
statement_text function (Assign slot value) =
    slot_text function slot ++ codes " = " ++ expression_text function value ++ codes ";\n"
statement_text function (AssignElement base length index value) =
    element_text function base (expression_text function index) ++ codes " = "
    ++ expression_text function value ++ codes ";\n"
statement_text function (Output place value) =
    codes "out[" ++ expression_text function place ++ codes "] = "
    ++ expression_text function value ++ codes ";\n"
statement_text function (Increase counter) =
    counter_name counter ++ codes " = " ++ counter_name counter ++ codes " + 1;\n"
statement_text function (Clear base length) =
    codes "clear(&" ++ slot_text function base ++ codes ", " ++ decimal length ++ codes ");\n"
statement_text function (Print value ends_line) =
    codes "print(" ++ decimal function.tape ++ codes ", " ++ expression_text function value
    ++ line_number ends_line
statement_text function (LeaveIf test why) =
    codes "if (" ++ test_text function test ++ codes ") " ++ leave_text function why
statement_text function (Leave why) = leave_text function why
statement_text function (Call helper first count into) =
    slot_text function into ++ codes " = " ++ helper_name function.node helper ++ codes "("
    ++ arguments_text function first count ++ codes ");\n"

-- the beginning of a call
abbrev pub call_head : Function → (depth helper into : ℕ) → List ℕ
call_head function depth helper into =
    indent depth ++ slot_text function into ++ codes " = " ++ helper_name function.node helper
    ++ codes "("

-- the beginning of an assignment
abbrev pub assign_head : Function → (depth slot : ℕ) → List ℕ
assign_head function depth slot = indent depth ++ slot_text function slot ++ codes " = "

-- a line with a statement
abbrev pub line_text : Function → (depth : ℕ) → Statement → List ℕ
line_text function depth statement = indent depth ++ statement_text function statement

-- lines one after another
abbrev pub lines_text : Function → (depth : ℕ) → List Statement → List ℕ
lines_text function depth [] = []
lines_text function depth (only ∷ []) = line_text function depth only
lines_text function depth (first ∷ second ∷ rest) =
    line_text function depth first ++ lines_text function depth (second ∷ rest)

-- the lines around the blocks of a choice and of a loop
abbrev pub if_line : Function → (depth slot : ℕ) → List ℕ
if_line function depth slot =
    indent depth ++ codes "if (" ++ slot_text function slot ++ codes " != 0) {\n"

abbrev pub else_line : (depth : ℕ) → List ℕ
else_line depth = indent depth ++ codes "} else {\n"

abbrev pub end_line : (depth : ℕ) → List ℕ
end_line depth = indent depth ++ codes "}\n"

abbrev pub loop_line : (depth : ℕ) → List ℕ
loop_line depth = indent depth ++ codes "for (;;) {\n"

abbrev pub break_line : Function → (depth slot : ℕ) → List ℕ
break_line function depth slot =
    indent depth ++ codes "if (" ++ slot_text function slot ++ codes " == 0) break;\n"

abbrev pub choice_text : Function → (depth slot : ℕ) → (chosen other : List ℕ) → List ℕ
choice_text function depth slot chosen other =
    if_line function depth slot ++ chosen ++ else_line depth ++ other ++ end_line depth

abbrev pub loop_text : Function → (depth slot : ℕ) → (first body : List ℕ) → List ℕ
loop_text function depth slot first body =
    loop_line depth ++ first ++ break_line function (deeper depth) slot ++ body ++ end_line depth

-- statements, each in its line, and the blocks of choices and loops one deeper
abbrev pub statements_text : Function → (depth : ℕ) → Statements → List ℕ
statements_text function depth End = []
statements_text function depth (Then first rest) =
    line_text function depth first ++ statements_text function depth rest
statements_text function depth (If slot chosen other rest) =
    choice_text function depth slot (statements_text function (deeper depth) chosen)
    (statements_text function (deeper depth) other) ++ statements_text function depth rest
statements_text function depth (Loop first slot body rest) =
    loop_text function depth slot (statements_text function (deeper depth) first)
    (statements_text function (deeper depth) body) ++ statements_text function depth rest
