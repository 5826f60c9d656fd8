-- Each instruction of plain code does in C what it does in lowered code.
use Rattle.std.proofs.Common.{◌≡◌, ℕ, ◌≤◌, ℤ, ◌+ℤ◌, Bool, true, false}
use Rattle.std.proofs.Common.{refl, sym, ap, arith, true≢false}
use Rattle.strc_parse_tree.specs.declared.tree.UnaryOperator.TheVariants as unary
use Rattle.strc_parse_tree.specs.declared.tree.BinaryOperator.TheVariants as binary
use Rattle.strc_work_meaning.specs.Arithmetic.{wrapped, quotient, remainder}
use Rattle.strc_work_meaning.specs.declared.word.Word.{Word}
use Rattle.strc_work_meaning.specs.Firing.{Setting}
use Rattle.strc_work_code.specs.declared.inst.Inst.{Inst}
use Rattle.strc_work_code.specs.declared.inst.Inst.TheVariants as act
use Rattle.strc_work_code.specs.Machine.{Machine, slot_value, inst_done, inst_room}
use Rattle.strc_emit_c.specs.declared.function.Function.{Function}
use Rattle.strc_emit_c.specs.Meaning.{Memory, Standing, slot_cell, Calls}
use Rattle.strc_emit_code.specs.Emitted.{inst_lines}
use Rattle.strc_emit_meaning.specs.Refinement.{Refines, lines_done}
use Rattle.strc_emit_meaning.specs.Plain.{is_plain}
use Rattle.strc_emit_meaning.specs.Showing.{Stands, Shows}
use Rattle.strc_emit_meaning.proofs.Changes.{slot_put, words_on}
use Rattle.strc_emit_meaning.proofs.Steps as steps
use Rattle.strc_emit_meaning.proofs.Elements as elements

module _ (function : Function) (setting : Setting) (stand : Standing) (start : Memory)
    (size : ℕ) (calls : Calls) (stands : Stands function setting stand start size) (lower : ℕ) where
  abbrev Shown : Machine → Memory → Type 0
  Shown machine memory = Shows stand setting.port start size lower machine memory

  abbrev Does : Inst → Machine → Memory → Type 0
  Does inst machine memory = Refines Shown (inst_done setting.port inst machine)
      (lines_done calls stand (inst_lines function inst) memory)

  abbrev word : Bool → ℤ → Word
  word ends_line value = record { value = value; ends_line = ends_line }

  pub inst_does : (inst : Inst) (machine : Machine) (memory : Memory) → is_plain inst ≡ true
      → inst_room inst ≤ size → Shown machine memory → Does inst machine memory
  inst_does (act.Const into value) machine memory plain room shows =
      slot_put stand setting.port start size lower machine memory into value value (omega arith)
      refl shows
  inst_does (act.Copy into from) machine memory plain room shows =
      slot_put stand setting.port start size lower machine memory into (slot_value machine from)
      (memory.cells (slot_cell stand from)) (omega arith) (shows.slots from (omega arith)) shows
  inst_does (act.Negate into from) machine memory plain room shows =
      steps.unary_does function setting stand start size calls stands lower unary.Negate into
      from machine memory (omega arith) (omega arith) shows
  inst_does (act.Not into from) machine memory plain room shows =
      steps.unary_does function setting stand start size calls stands lower unary.Not into
      from machine memory (omega arith) (omega arith) shows
  inst_does (act.Complement into from) machine memory plain room shows =
      steps.unary_does function setting stand start size calls stands lower unary.Complement into
      from machine memory (omega arith) (omega arith) shows
  inst_does (act.Or into left right) machine memory plain room shows =
      steps.binary_does function setting stand start size calls stands lower binary.Or
      into left right machine memory (omega arith) (omega arith) (omega arith) refl shows
  inst_does (act.ExclusiveOr into left right) machine memory plain room shows =
      steps.binary_does function setting stand start size calls stands lower binary.ExclusiveOr
      into left right machine memory (omega arith) (omega arith) (omega arith) refl shows
  inst_does (act.And into left right) machine memory plain room shows =
      steps.binary_does function setting stand start size calls stands lower binary.And
      into left right machine memory (omega arith) (omega arith) (omega arith) refl shows
  inst_does (act.Equal into left right) machine memory plain room shows =
      steps.binary_does function setting stand start size calls stands lower binary.Equal
      into left right machine memory (omega arith) (omega arith) (omega arith) refl shows
  inst_does (act.NotEqual into left right) machine memory plain room shows =
      steps.binary_does function setting stand start size calls stands lower binary.NotEqual
      into left right machine memory (omega arith) (omega arith) (omega arith) refl shows
  inst_does (act.Less into left right) machine memory plain room shows =
      steps.binary_does function setting stand start size calls stands lower binary.Less
      into left right machine memory (omega arith) (omega arith) (omega arith) refl shows
  inst_does (act.LessOrEqual into left right) machine memory plain room shows =
      steps.binary_does function setting stand start size calls stands lower binary.LessOrEqual
      into left right machine memory (omega arith) (omega arith) (omega arith) refl shows
  inst_does (act.ShiftLeft into left right) machine memory plain room shows =
      steps.binary_does function setting stand start size calls stands lower binary.ShiftLeft
      into left right machine memory (omega arith) (omega arith) (omega arith) refl shows
  inst_does (act.ShiftRight into left right) machine memory plain room shows =
      steps.binary_does function setting stand start size calls stands lower binary.ShiftRight
      into left right machine memory (omega arith) (omega arith) (omega arith) refl shows
  inst_does (act.Add into left right) machine memory plain room shows =
      steps.binary_does function setting stand start size calls stands lower binary.Add
      into left right machine memory (omega arith) (omega arith) (omega arith) refl shows
  inst_does (act.Subtract into left right) machine memory plain room shows =
      steps.binary_does function setting stand start size calls stands lower binary.Subtract
      into left right machine memory (omega arith) (omega arith) (omega arith) refl shows
  inst_does (act.Multiply into left right) machine memory plain room shows =
      steps.binary_does function setting stand start size calls stands lower binary.Multiply
      into left right machine memory (omega arith) (omega arith) (omega arith) refl shows
  inst_does (act.Divide into left right origin) machine memory plain room shows =
      steps.division_does function setting stand start size calls stands lower binary.Divide
      quotient (λ a b. refl) into left right machine memory (omega arith) (omega arith)
      (omega arith) shows
  inst_does (act.Remainder into left right origin) machine memory plain room shows =
      steps.division_does function setting stand start size calls stands lower binary.Remainder
      remainder (λ a b. refl) into left right machine memory (omega arith) (omega arith)
      (omega arith) shows
  inst_does (act.AddConst into from value) machine memory plain room shows =
      slot_put stand setting.port start size lower machine memory into
      (wrapped (slot_value machine from +ℤ value))
      (wrapped (memory.cells (slot_cell stand from) +ℤ value)) (omega arith)
      (ap (λ x. wrapped (x +ℤ value)) (shows.slots from (omega arith))) shows
  inst_does (act.OrNumber into left spare number) machine memory plain room shows =
      steps.number_does function setting stand start size calls stands lower binary.Or
      (λ a b. refl) into left spare number machine memory (omega arith) (omega arith)
      (omega arith) shows
  inst_does (act.ExclusiveOrNumber into left spare number) machine memory plain room shows =
      steps.number_does function setting stand start size calls stands lower binary.ExclusiveOr
      (λ a b. refl) into left spare number machine memory (omega arith) (omega arith)
      (omega arith) shows
  inst_does (act.AndNumber into left spare number) machine memory plain room shows =
      steps.number_does function setting stand start size calls stands lower binary.And
      (λ a b. refl) into left spare number machine memory (omega arith) (omega arith)
      (omega arith) shows
  inst_does (act.EqualNumber into left spare number) machine memory plain room shows =
      steps.number_does function setting stand start size calls stands lower binary.Equal
      (λ a b. refl) into left spare number machine memory (omega arith) (omega arith)
      (omega arith) shows
  inst_does (act.NotEqualNumber into left spare number) machine memory plain room shows =
      steps.number_does function setting stand start size calls stands lower binary.NotEqual
      (λ a b. refl) into left spare number machine memory (omega arith) (omega arith)
      (omega arith) shows
  inst_does (act.LessNumber into left spare number) machine memory plain room shows =
      steps.number_does function setting stand start size calls stands lower binary.Less
      (λ a b. refl) into left spare number machine memory (omega arith) (omega arith)
      (omega arith) shows
  inst_does (act.LessOrEqualNumber into left spare number) machine memory plain room shows =
      steps.number_does function setting stand start size calls stands lower binary.LessOrEqual
      (λ a b. refl) into left spare number machine memory (omega arith) (omega arith)
      (omega arith) shows
  inst_does (act.GreaterNumber into left spare number) machine memory plain room shows =
      steps.number_first function setting stand start size calls stands lower binary.Less
      (λ a b. refl) into left spare number machine memory (omega arith) (omega arith)
      (omega arith) shows
  inst_does (act.GreaterOrEqualNumber into left spare number) machine memory plain room shows =
      steps.number_first function setting stand start size calls stands lower binary.LessOrEqual
      (λ a b. refl) into left spare number machine memory (omega arith) (omega arith)
      (omega arith) shows
  inst_does (act.ShiftLeftNumber into left spare number) machine memory plain room shows =
      steps.number_does function setting stand start size calls stands lower binary.ShiftLeft
      (λ a b. refl) into left spare number machine memory (omega arith) (omega arith)
      (omega arith) shows
  inst_does (act.ShiftRightNumber into left spare number) machine memory plain room shows =
      steps.number_does function setting stand start size calls stands lower binary.ShiftRight
      (λ a b. refl) into left spare number machine memory (omega arith) (omega arith)
      (omega arith) shows
  inst_does (act.AddNumber into left spare number) machine memory plain room shows =
      steps.number_does function setting stand start size calls stands lower binary.Add
      (λ a b. refl) into left spare number machine memory (omega arith) (omega arith)
      (omega arith) shows
  inst_does (act.SubtractNumber into left spare number) machine memory plain room shows =
      steps.number_does function setting stand start size calls stands lower binary.Subtract
      (λ a b. refl) into left spare number machine memory (omega arith) (omega arith)
      (omega arith) shows
  inst_does (act.MultiplyNumber into left spare number) machine memory plain room shows =
      steps.number_does function setting stand start size calls stands lower binary.Multiply
      (λ a b. refl) into left spare number machine memory (omega arith) (omega arith)
      (omega arith) shows
  inst_does (act.Pop into) machine memory plain room shows =
      steps.pop_does function setting stand start size calls stands lower into machine
      memory (omega arith) shows
  inst_does (act.Peek into from origin) machine memory plain room shows =
      steps.peek_does function setting stand start size calls stands lower into from
      machine memory (omega arith) (omega arith) shows
  inst_does (act.Load into base length index origin) machine memory plain room shows =
      elements.load_does function setting stand start size calls stands lower into base
      length index machine memory (omega arith) (omega arith) (omega arith) shows
  inst_does (act.Store base length index from origin) machine memory plain room shows =
      elements.store_does function setting stand start size calls stands lower base
      length index from machine memory (omega arith) (omega arith) (omega arith) shows
  inst_does (act.Clear base length) machine memory plain room shows =
      elements.clear_does function setting stand start size calls stands lower base
      length machine memory room shows
  inst_does (act.Push from) machine memory plain room shows =
      steps.push_does function setting stand start size calls stands lower from machine
      memory (omega arith) shows
  inst_does (act.Print from) machine memory plain room shows =
      words_on stand setting.port start size lower machine memory
      (word false (slot_value machine from)) (word false (memory.cells (slot_cell stand from)))
      (ap (word false) (shows.slots from (omega arith))) shows
  inst_does (act.Println from) machine memory plain room shows =
      words_on stand setting.port start size lower machine memory
      (word true (slot_value machine from)) (word true (memory.cells (slot_cell stand from)))
      (ap (word true) (shows.slots from (omega arith))) shows
  inst_does _ machine memory plain room shows = absurd (true≢false (sym plain))
