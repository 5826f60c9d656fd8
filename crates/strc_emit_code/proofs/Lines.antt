-- Instructions and conditions as lines of C.
use Rattle.std.proofs.Common.{◌≡◌, refl}
use Rattle.strc_work_code.specs.declared.inst.Inst.{Inst}
use Rattle.strc_work_code.specs.declared.inst.Inst.TheVariants as act
use Rattle.strc_work_code.specs.declared.condition.Condition.{Condition}
use Rattle.strc_work_code.specs.declared.condition.Condition.TheVariants as test
use Rattle.strc_work_code.specs.Nodes.{Nodes}
use Rattle.strc_work_code.specs.Code.{spelled}
use Rattle.strc_work_code.specs.Conditions.{tested}
use Rattle.strc_emit_c.specs.declared.function.Function.{Function}
use Rattle.strc_emit_c.specs.C as c
use Rattle.strc_emit_code.specs.Emitted.{inst_lines, condition_lines, emitted}

-- an instruction before other code, one with a number of its own too
pub spelled_lines : (function : Function) (inst : Inst) (rest : Nodes)
    → emitted function (spelled inst rest)
    ≡ c.lines_before (inst_lines function inst) (emitted function rest)
spelled_lines function (act.Const into value) rest = refl
spelled_lines function (act.Copy into from) rest = refl
spelled_lines function (act.Negate into from) rest = refl
spelled_lines function (act.Not into from) rest = refl
spelled_lines function (act.Complement into from) rest = refl
spelled_lines function (act.Or into left right) rest = refl
spelled_lines function (act.ExclusiveOr into left right) rest = refl
spelled_lines function (act.And into left right) rest = refl
spelled_lines function (act.Equal into left right) rest = refl
spelled_lines function (act.NotEqual into left right) rest = refl
spelled_lines function (act.Less into left right) rest = refl
spelled_lines function (act.LessOrEqual into left right) rest = refl
spelled_lines function (act.ShiftLeft into left right) rest = refl
spelled_lines function (act.ShiftRight into left right) rest = refl
spelled_lines function (act.Add into left right) rest = refl
spelled_lines function (act.Subtract into left right) rest = refl
spelled_lines function (act.Multiply into left right) rest = refl
spelled_lines function (act.Divide into left right origin) rest = refl
spelled_lines function (act.Remainder into left right origin) rest = refl
spelled_lines function (act.AddConst into from value) rest = refl
spelled_lines function (act.OrNumber into left spare number) rest = refl
spelled_lines function (act.ExclusiveOrNumber into left spare number) rest = refl
spelled_lines function (act.AndNumber into left spare number) rest = refl
spelled_lines function (act.EqualNumber into left spare number) rest = refl
spelled_lines function (act.NotEqualNumber into left spare number) rest = refl
spelled_lines function (act.LessNumber into left spare number) rest = refl
spelled_lines function (act.LessOrEqualNumber into left spare number) rest = refl
spelled_lines function (act.GreaterNumber into left spare number) rest = refl
spelled_lines function (act.GreaterOrEqualNumber into left spare number) rest = refl
spelled_lines function (act.ShiftLeftNumber into left spare number) rest = refl
spelled_lines function (act.ShiftRightNumber into left spare number) rest = refl
spelled_lines function (act.AddNumber into left spare number) rest = refl
spelled_lines function (act.SubtractNumber into left spare number) rest = refl
spelled_lines function (act.MultiplyNumber into left spare number) rest = refl
spelled_lines function (act.MultiplyThenAdd a b x d e) rest = refl
spelled_lines function (act.ShiftLeftThenAdd a b x d e) rest = refl
spelled_lines function (act.ShiftRightThenExclusiveOr a b x d e) rest = refl
spelled_lines function (act.AndThenAdd a b x d e) rest = refl
spelled_lines function (act.AddThenAnd a b x d e) rest = refl
spelled_lines function (act.AddNumberThenAnd a b x d e) rest = refl
spelled_lines function (act.ExclusiveOrThenAnd a b x d e) rest = refl
spelled_lines function (act.SubtractThenAdd a b x d e) rest = refl
spelled_lines function (act.AndThenMultiply a b x d) rest = refl
spelled_lines function (act.AndThenMultiplyThenAdd a b x d e f) rest = refl
spelled_lines function (act.MultiplyTwoThenAdd a b x d e) rest = refl
spelled_lines function (act.MultiplyThenShiftRight a b x d e) rest = refl
spelled_lines function (act.ShiftRightThenAnd a b x d e) rest = refl
spelled_lines function (act.ExclusiveOrThenAdd a b x d e) rest = refl
spelled_lines function (act.MultiplyThenAddThenPeek a b x d e f) rest = refl
spelled_lines function (act.Pop into) rest = refl
spelled_lines function (act.Peek into from origin) rest = refl
spelled_lines function (act.Load into base length index origin) rest = refl
spelled_lines function (act.Store base length index from origin) rest = refl
spelled_lines function (act.Clear base length) rest = refl
spelled_lines function (act.Push from) rest = refl
spelled_lines function (act.Print from) rest = refl
spelled_lines function (act.Println from) rest = refl
spelled_lines function (act.Jump count) rest = refl
spelled_lines function (act.JumpUnless condition count) rest = refl
spelled_lines function (act.JumpUnlessNoBits into left number count) rest = refl
spelled_lines function (act.JumpUnlessSomeBits into left number count) rest = refl

-- a condition before other code
pub tested_lines : (function : Function) (condition : Condition) (rest : Nodes)
    → emitted function (tested condition rest)
    ≡ c.lines_before (condition_lines condition) (emitted function rest)
tested_lines function (test.Slot slot) rest = refl
tested_lines function (test.Equal into left right) rest = refl
tested_lines function (test.NotEqual into left right) rest = refl
tested_lines function (test.Less into left right) rest = refl
tested_lines function (test.LessOrEqual into left right) rest = refl
tested_lines function (test.EqualNumber into left spare number) rest = refl
tested_lines function (test.NotEqualNumber into left spare number) rest = refl
tested_lines function (test.LessNumber into left spare number) rest = refl
tested_lines function (test.LessOrEqualNumber into left spare number) rest = refl
tested_lines function (test.GreaterNumber into left spare number) rest = refl
tested_lines function (test.GreaterOrEqualNumber into left spare number) rest = refl
tested_lines function (test.NoBits into left number) rest = refl
tested_lines function (test.SomeBits into left number) rest = refl
