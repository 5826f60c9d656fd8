-- The C of lowered code.
use Rattle.std.specs.Prelude.{ℕ, ℤ, pos, ◌+◌, true, false, List, [], ◌∷◌, Option, Some, None}
use Rattle.std.specs.Prelude.{if◌then◌else◌}
use Rattle.strc_parse_tree.specs.declared.tree.UnaryOperator.TheVariants as unary
use Rattle.strc_parse_tree.specs.declared.tree.BinaryOperator.{BinaryOperator}
use Rattle.strc_parse_tree.specs.declared.tree.BinaryOperator.TheVariants as binary
use Rattle.strc_work_meaning.specs.declared.fault.Cause.TheVariants as cause
use Rattle.strc_work_meaning.specs.declared.fault.TheConstants.{TURN_LIMIT}
use Rattle.strc_work_code.specs.declared.inst.Inst.{Inst}
use Rattle.strc_work_code.specs.declared.inst.Inst.TheVariants as act
use Rattle.strc_work_code.specs.declared.condition.Condition.{Condition}
use Rattle.strc_work_code.specs.declared.condition.Condition.TheVariants as test
use Rattle.strc_work_code.specs.Nodes.{Nodes, End, Act, Choice, Loop, Call}
use Rattle.strc_work_code.specs.Links.{place_of}
use Rattle.strc_emit_c.specs.declared.function.Function.{Function}
use Rattle.strc_emit_c.specs.C as c

-- an operator on two slots, and on a slot and a number that is put into a spare one
abbrev pub binary_lines : BinaryOperator → (into left right : ℕ) → List c.Statement
binary_lines operator into left right =
    c.Assign into (c.Binary operator (c.Slot left) (c.Slot right)) ∷ []

abbrev pub number_lines : BinaryOperator → (into left right spare : ℕ) → (number : ℤ)
    → List c.Statement
number_lines operator into left right spare number =
    c.Assign spare (c.Number number) ∷ binary_lines operator into left right

-- a division after its test
abbrev pub division_lines : BinaryOperator → (into left right : ℕ) → List c.Statement
division_lines operator into left right =
    c.LeaveIf (c.IsZero (c.Slot right)) cause.DivZero ∷ binary_lines operator into left right

-- the test of an index
abbrev pub index_line : (length index : ℕ) → c.Statement
index_line length index = c.LeaveIf (c.IsOutside (c.Slot index) (c.Size length)) cause.Index

-- the test of a place ahead
abbrev pub window_test : Function → (place : ℕ) → c.Test
window_test function place = c.IsOutside (c.Slot place)
    (c.Difference (c.Size function.peek) (c.Count c.Popped))

-- an item that is taken, looked at, or given
abbrev pub taken_lines : (into : ℕ) → List c.Statement
taken_lines into = c.Assign into (c.Input (c.Count c.Popped)) ∷ c.Increase c.Popped ∷ []

abbrev pub ahead_lines : (into from : ℕ) → List c.Statement
ahead_lines into from =
    c.Assign into (c.Input (c.Sum (c.Count c.Popped) (c.Slot from))) ∷ []

abbrev pub given_lines : (from : ℕ) → List c.Statement
given_lines from = c.Output (c.Count c.Pushed) (c.Slot from) ∷ c.Increase c.Pushed ∷ []

-- after a test of the rates or of the window, in a function that has these
abbrev pub tested_lines : Function → c.Test → List c.Statement → List c.Statement
tested_lines function test lines =
    if function.tests then c.LeaveIf test cause.PeekRange ∷ lines else lines

abbrev pub pop_lines : Function → (into : ℕ) → List c.Statement
pop_lines function into =
    tested_lines function (c.Reaches c.Popped function.pops) (taken_lines into)

abbrev pub peek_lines : Function → (into from : ℕ) → List c.Statement
peek_lines function into from =
    tested_lines function (window_test function from) (ahead_lines into from)

abbrev pub push_lines : Function → (from : ℕ) → List c.Statement
push_lines function from =
    tested_lines function (c.Reaches c.Pushed function.pushes) (given_lines from)

-- an element that is read or written, after the test of its index
abbrev pub load_lines : (into base length index : ℕ) → List c.Statement
load_lines into base length index = index_line length index
    ∷ c.Assign into (c.Element base length (c.Slot index)) ∷ []

abbrev pub store_lines : (base length index from : ℕ) → List c.Statement
store_lines base length index from = index_line length index
    ∷ c.AssignElement base length (c.Slot index) (c.Slot from) ∷ []

-- the statements of an instruction; lowered code has none of those that have no statements here
abbrev pub inst_lines : Function → Inst → List c.Statement
inst_lines function (act.Const into value) = c.Assign into (c.Number value) ∷ []
inst_lines function (act.Copy into from) = c.Assign into (c.Slot from) ∷ []
inst_lines function (act.Negate into from) = c.Assign into (c.Unary unary.Negate (c.Slot from)) ∷ []
inst_lines function (act.Not into from) = c.Assign into (c.Unary unary.Not (c.Slot from)) ∷ []
inst_lines function (act.Complement into from) =
    c.Assign into (c.Unary unary.Complement (c.Slot from)) ∷ []
inst_lines function (act.Or into left right) = binary_lines binary.Or into left right
inst_lines function (act.ExclusiveOr into left right) =
    binary_lines binary.ExclusiveOr into left right
inst_lines function (act.And into left right) = binary_lines binary.And into left right
inst_lines function (act.Equal into left right) = binary_lines binary.Equal into left right
inst_lines function (act.NotEqual into left right) = binary_lines binary.NotEqual into left right
inst_lines function (act.Less into left right) = binary_lines binary.Less into left right
inst_lines function (act.LessOrEqual into left right) =
    binary_lines binary.LessOrEqual into left right
inst_lines function (act.ShiftLeft into left right) = binary_lines binary.ShiftLeft into left right
inst_lines function (act.ShiftRight into left right) =
    binary_lines binary.ShiftRight into left right
inst_lines function (act.Add into left right) = binary_lines binary.Add into left right
inst_lines function (act.Subtract into left right) = binary_lines binary.Subtract into left right
inst_lines function (act.Multiply into left right) = binary_lines binary.Multiply into left right
inst_lines function (act.Divide into left right origin) = division_lines binary.Divide into left right
inst_lines function (act.Remainder into left right origin) =
    division_lines binary.Remainder into left right
inst_lines function (act.AddConst into from value) =
    c.Assign into (c.Binary binary.Add (c.Slot from) (c.Number value)) ∷ []
inst_lines function (act.OrNumber into left spare number) =
    number_lines binary.Or into left spare spare number
inst_lines function (act.ExclusiveOrNumber into left spare number) =
    number_lines binary.ExclusiveOr into left spare spare number
inst_lines function (act.AndNumber into left spare number) =
    number_lines binary.And into left spare spare number
inst_lines function (act.EqualNumber into left spare number) =
    number_lines binary.Equal into left spare spare number
inst_lines function (act.NotEqualNumber into left spare number) =
    number_lines binary.NotEqual into left spare spare number
inst_lines function (act.LessNumber into left spare number) =
    number_lines binary.Less into left spare spare number
inst_lines function (act.LessOrEqualNumber into left spare number) =
    number_lines binary.LessOrEqual into left spare spare number
inst_lines function (act.GreaterNumber into left spare number) =
    number_lines binary.Less into spare left spare number
inst_lines function (act.GreaterOrEqualNumber into left spare number) =
    number_lines binary.LessOrEqual into spare left spare number
inst_lines function (act.ShiftLeftNumber into left spare number) =
    number_lines binary.ShiftLeft into left spare spare number
inst_lines function (act.ShiftRightNumber into left spare number) =
    number_lines binary.ShiftRight into left spare spare number
inst_lines function (act.AddNumber into left spare number) =
    number_lines binary.Add into left spare spare number
inst_lines function (act.SubtractNumber into left spare number) =
    number_lines binary.Subtract into left spare spare number
inst_lines function (act.MultiplyNumber into left spare number) =
    number_lines binary.Multiply into left spare spare number
inst_lines function (act.Pop into) = pop_lines function into
inst_lines function (act.Peek into from origin) = peek_lines function into from
inst_lines function (act.Load into base length index origin) = load_lines into base length index
inst_lines function (act.Store base length index from origin) = store_lines base length index from
inst_lines function (act.Clear base length) = c.Clear base length ∷ []
inst_lines function (act.Push from) = push_lines function from
inst_lines function (act.Print from) = c.Print (c.Slot from) false ∷ []
inst_lines function (act.Println from) = c.Print (c.Slot from) true ∷ []
inst_lines function _ = []

-- bits of a slot that a number picks are compared with 0
abbrev pub compared_bits : BinaryOperator → (into left : ℕ) → (number : ℤ) → List c.Statement
compared_bits operator into left number = c.Assign (into + 3) (c.Number number)
    ∷ c.Assign (into + 1) (c.Binary binary.And (c.Slot left) (c.Slot (into + 3)))
    ∷ c.Assign (into + 2) (c.Number (pos 0))
    ∷ binary_lines operator into (into + 1) (into + 2)

-- the statements of a condition before its slot is tested
abbrev pub condition_lines : Condition → List c.Statement
condition_lines (test.Slot slot) = []
condition_lines (test.Equal into left right) = binary_lines binary.Equal into left right
condition_lines (test.NotEqual into left right) = binary_lines binary.NotEqual into left right
condition_lines (test.Less into left right) = binary_lines binary.Less into left right
condition_lines (test.LessOrEqual into left right) = binary_lines binary.LessOrEqual into left right
condition_lines (test.EqualNumber into left spare number) =
    number_lines binary.Equal into left spare spare number
condition_lines (test.NotEqualNumber into left spare number) =
    number_lines binary.NotEqual into left spare spare number
condition_lines (test.LessNumber into left spare number) =
    number_lines binary.Less into left spare spare number
condition_lines (test.LessOrEqualNumber into left spare number) =
    number_lines binary.LessOrEqual into left spare spare number
condition_lines (test.GreaterNumber into left spare number) =
    number_lines binary.Less into spare left spare number
condition_lines (test.GreaterOrEqualNumber into left spare number) =
    number_lines binary.LessOrEqual into spare left spare number
condition_lines (test.NoBits into left number) = compared_bits binary.Equal into left number
condition_lines (test.SomeBits into left number) = compared_bits binary.NotEqual into left number

-- one more turn of a loop, after its test
abbrev pub turn_lines : List c.Statement
turn_lines = c.LeaveIf (c.Reaches c.Turns TURN_LIMIT) cause.Turns ∷ c.Increase c.Turns ∷ []

-- a call of the first helper function of a name; where there is none it faults
abbrev pub call_line : Option ℕ → (first count into : ℕ) → c.Statement
call_line None first count into = c.Leave cause.Calls
call_line (Some helper) first count into = c.Call helper first count into

-- the C of code
abbrev pub emitted : Function → Nodes → c.Statements
emitted function End = c.End
emitted function (Act inst rest) = c.lines_before (inst_lines function inst) (emitted function rest)
emitted function (Choice slot chosen other rest) =
    c.If slot (emitted function chosen) (emitted function other) (emitted function rest)
emitted function (Loop condition slot body rest) =
    c.Loop (emitted function condition) slot (c.lines_before turn_lines (emitted function body))
    (emitted function rest)
emitted function (Call name first count into rest) =
    c.Then (call_line (place_of function.helpers name) first count into)
    (emitted function rest)
