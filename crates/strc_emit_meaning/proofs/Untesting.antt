-- The C of a function without tests is that of one with tests, but for these.
use Rattle.std.proofs.Common.{◌≡◌, refl, sym, ap, ◌∙◌, ℕ, true, false, List, ◌∷◌, Option}
use Rattle.std.proofs.Common.{Some, None}
use Rattle.std.specs.Prelude.{if◌then◌else◌}
use Rattle.strc_work_meaning.specs.declared.fault.Cause.TheVariants as cause
use Rattle.strc_work_code.specs.declared.inst.Inst.{Inst}
use Rattle.strc_work_code.specs.declared.inst.Inst.TheVariants as act
use Rattle.strc_work_code.specs.Links.{place_of}
use Rattle.strc_work_code.specs.Nodes.{Nodes, End, Act, Choice, Loop, Call}
use Rattle.strc_emit_c.specs.declared.function.Function.{Function}
use Rattle.strc_emit_c.specs.C as c
use Rattle.strc_emit_code.specs.Emitted.{window_test, taken_lines, ahead_lines, given_lines}
use Rattle.strc_emit_code.specs.Emitted.{tested_lines, inst_lines, turn_lines, call_line}
use Rattle.strc_emit_code.specs.Emitted.{emitted}
use Rattle.strc_emit_meaning.specs.Untested.{untested, untested_line, UntestedAreEmitted}

-- the call of a helper function is no test
call_untested : (helper : Option ℕ) (first count into : ℕ) (rest : c.Statements)
    → untested_line (call_line helper first count into) rest
    ≡ c.Then (call_line helper first count into) rest
call_untested None first count into rest = refl
call_untested (Some helper) first count into rest = refl

module _ (function : Function) (none : function.tests ≡ false) where
  -- the same function with tests
  abbrev pub with_tests : Function
  with_tests = record function { tests = true }

  item_untested : (test : c.Test) (lines : List c.Statement) (rest : c.Statements)
      → untested (c.lines_before lines rest) ≡ c.lines_before lines (untested rest)
      → untested (c.lines_before (c.LeaveIf test cause.PeekRange ∷ lines) rest)
      ≡ c.lines_before (tested_lines function test lines) (untested rest)
  item_untested test lines rest same =
      same ∙ ap (λ t. c.lines_before (if t then c.LeaveIf test cause.PeekRange ∷ lines else lines)
      (untested rest)) (sym none)

  inst_untested : (inst : Inst) (rest : c.Statements)
      → untested (c.lines_before (inst_lines with_tests inst) rest)
      ≡ c.lines_before (inst_lines function inst) (untested rest)
  inst_untested (act.Const a b) rest = refl
  inst_untested (act.Copy a b) rest = refl
  inst_untested (act.Negate a b) rest = refl
  inst_untested (act.Not a b) rest = refl
  inst_untested (act.Complement a b) rest = refl
  inst_untested (act.Or a b c) rest = refl
  inst_untested (act.ExclusiveOr a b c) rest = refl
  inst_untested (act.And a b c) rest = refl
  inst_untested (act.Equal a b c) rest = refl
  inst_untested (act.NotEqual a b c) rest = refl
  inst_untested (act.Less a b c) rest = refl
  inst_untested (act.LessOrEqual a b c) rest = refl
  inst_untested (act.ShiftLeft a b c) rest = refl
  inst_untested (act.ShiftRight a b c) rest = refl
  inst_untested (act.Add a b c) rest = refl
  inst_untested (act.Subtract a b c) rest = refl
  inst_untested (act.Multiply a b c) rest = refl
  inst_untested (act.Divide a b c d) rest = refl
  inst_untested (act.Remainder a b c d) rest = refl
  inst_untested (act.AddConst a b c) rest = refl
  inst_untested (act.OrNumber a b c d) rest = refl
  inst_untested (act.ExclusiveOrNumber a b c d) rest = refl
  inst_untested (act.AndNumber a b c d) rest = refl
  inst_untested (act.EqualNumber a b c d) rest = refl
  inst_untested (act.NotEqualNumber a b c d) rest = refl
  inst_untested (act.LessNumber a b c d) rest = refl
  inst_untested (act.LessOrEqualNumber a b c d) rest = refl
  inst_untested (act.GreaterNumber a b c d) rest = refl
  inst_untested (act.GreaterOrEqualNumber a b c d) rest = refl
  inst_untested (act.ShiftLeftNumber a b c d) rest = refl
  inst_untested (act.ShiftRightNumber a b c d) rest = refl
  inst_untested (act.AddNumber a b c d) rest = refl
  inst_untested (act.SubtractNumber a b c d) rest = refl
  inst_untested (act.MultiplyNumber a b c d) rest = refl
  inst_untested (act.MultiplyThenAdd a b c d e) rest = refl
  inst_untested (act.ShiftLeftThenAdd a b c d e) rest = refl
  inst_untested (act.ShiftRightThenExclusiveOr a b c d e) rest = refl
  inst_untested (act.AndThenAdd a b c d e) rest = refl
  inst_untested (act.AddThenAnd a b c d e) rest = refl
  inst_untested (act.AddNumberThenAnd a b c d e) rest = refl
  inst_untested (act.ExclusiveOrThenAnd a b c d e) rest = refl
  inst_untested (act.SubtractThenAdd a b c d e) rest = refl
  inst_untested (act.AndThenMultiply a b c d) rest = refl
  inst_untested (act.AndThenMultiplyThenAdd a b c d e f) rest = refl
  inst_untested (act.MultiplyTwoThenAdd a b c d e) rest = refl
  inst_untested (act.MultiplyThenShiftRight a b c d e) rest = refl
  inst_untested (act.ShiftRightThenAnd a b c d e) rest = refl
  inst_untested (act.ExclusiveOrThenAdd a b c d e) rest = refl
  inst_untested (act.MultiplyThenAddThenPeek a b c d e f) rest = refl
  inst_untested (act.Pop a) rest =
      item_untested (c.Reaches c.Popped function.pops) (taken_lines a) rest refl
  inst_untested (act.Peek a b c) rest =
      item_untested (window_test function b) (ahead_lines a b) rest refl
  inst_untested (act.Load a b c d e) rest = refl
  inst_untested (act.Store a b c d e) rest = refl
  inst_untested (act.Clear a b) rest = refl
  inst_untested (act.Push a) rest =
      item_untested (c.Reaches c.Pushed function.pushes) (given_lines a) rest refl
  inst_untested (act.Print a) rest = refl
  inst_untested (act.Println a) rest = refl
  inst_untested (act.Jump a) rest = refl
  inst_untested (act.JumpUnless a b) rest = refl
  inst_untested (act.JumpUnlessNoBits a b c d) rest = refl
  inst_untested (act.JumpUnlessSomeBits a b c d) rest = refl

  pub emitted_untested : (code : Nodes) → untested (emitted with_tests code) ≡ emitted function code
  emitted_untested End = refl
  emitted_untested (Act inst rest) =
      inst_untested inst (emitted with_tests rest)
      ∙ ap (c.lines_before (inst_lines function inst)) (emitted_untested rest)
  emitted_untested (Choice slot chosen other rest) =
      ap (λ s. c.If slot s (untested (emitted with_tests other))
      (untested (emitted with_tests rest))) (emitted_untested chosen)
      ∙ ap (λ s. c.If slot (emitted function chosen) s (untested (emitted with_tests rest)))
      (emitted_untested other)
      ∙ ap (c.If slot (emitted function chosen) (emitted function other)) (emitted_untested rest)
  emitted_untested (Loop condition slot body rest) =
      ap (λ s. c.Loop s slot (c.lines_before turn_lines (untested (emitted with_tests body)))
      (untested (emitted with_tests rest))) (emitted_untested condition)
      ∙ ap (λ s. c.Loop (emitted function condition) slot (c.lines_before turn_lines s)
      (untested (emitted with_tests rest))) (emitted_untested body)
      ∙ ap (c.Loop (emitted function condition) slot
      (c.lines_before turn_lines (emitted function body))) (emitted_untested rest)
  emitted_untested (Call name first count into rest) =
      call_untested (place_of function.helpers name) first count into
      (untested (emitted with_tests rest))
      ∙ ap (c.Then (call_line (place_of function.helpers name) first count into))
      (emitted_untested rest)

pub untested_emitted : UntestedAreEmitted
untested_emitted function code none = emitted_untested function none code
