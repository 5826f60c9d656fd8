-- What single statements do, where the values of their expressions are known.
use Rattle.std.proofs.Common.{◌≡◌, ℕ, ◌+◌, ◌-◌, ◌<◌, ◌≤◌, ◌^◌, ℤ, pos, ◌+ℤ◌, ◌-ℤ◌}
use Rattle.std.proofs.Common.{not, ◌&&◌, ◌||◌, List, ◌∷◌, get_or, Ok}
use Rattle.std.proofs.Common.{ap, ◌∙◌, arith, int_lt, nat_lt, nat_le, ◌==◌}
use Rattle.std.proofs.lemmas.Bool.{and_left}
use Rattle.strc_lex_names.specs.Results.{result_and_then}
use Rattle.strc_work_meaning.specs.Firing.{Setting}
use Rattle.strc_work_code.specs.Machine.{Machine}
use Rattle.strc_emit_c.specs.declared.function.Function.{Function}
use Rattle.strc_emit_c.specs.C.{Counter, Expression, Size, Slot, Count, Input, Sum, Difference}
use Rattle.strc_emit_c.specs.C.{Popped, IsOutside, Reaches, Statement, Assign, Output, Increase}
use Rattle.strc_emit_c.specs.Meaning.{Item, Counted, Memory, written, Standing}
use Rattle.strc_emit_c.specs.Meaning.{slot_cell, Calls, value_of, holds, as_int, place_within}
use Rattle.strc_emit_meaning.specs.Refinement.{lines_done}
use Rattle.strc_emit_meaning.specs.Showing.{Stands, Shows}
use Rattle.strc_emit_meaning.proofs.Numbers.{small_int, less, place_is}
use Rattle.strc_emit_meaning.proofs.Places.{is_outside}

module _ (calls : Calls) (stand : Standing) where
  pub assigned : (slot : ℕ) (value : Expression) (rest : List Statement) (memory : Memory)
      (number : ℤ) → value_of stand value memory ≡ Ok number
      → lines_done calls stand (Assign slot value ∷ rest) memory
      ≡ lines_done calls stand rest (written (slot_cell stand slot) number memory)
  assigned slot value rest memory number e =
      ap (λ r. result_and_then (result_and_then r
      (λ n. Ok (written (slot_cell stand slot) n memory))) (lines_done calls stand rest)) e

  pub increased : (counter : Counter) (rest : List Statement) (memory : Memory) (n : ℕ)
      → memory.cells (Counted counter) ≡ pos n → n + 1 < 2 ^ 31
      → lines_done calls stand (Increase counter ∷ rest) memory
      ≡ lines_done calls stand rest (written (Counted counter) (pos (n + 1)) memory)
  increased counter rest memory n e small =
      ap (λ r. result_and_then (result_and_then r
      (λ next. Ok (written (Counted counter) next memory))) (lines_done calls stand rest))
      (ap (λ v. as_int (v +ℤ pos 1)) e ∙ small_int (n + 1) small)

  pub given_out : (place value : Expression) (rest : List Statement) (memory : Memory) (n : ℕ)
      (number : ℤ) → value_of stand place memory ≡ Ok (pos n)
      → stand.writes_from + n < stand.target_room → value_of stand value memory ≡ Ok number
      → lines_done calls stand (Output place value ∷ rest) memory
      ≡ lines_done calls stand rest (written (Item stand.target (stand.writes_from + n)) number
      memory)
  given_out place value rest memory n number at within is =
      ap (λ r. result_and_then (result_and_then r (λ at.
      result_and_then (place_within stand.target_room stand.writes_from at) (λ there.
      result_and_then (value_of stand value memory) (λ v.
      Ok (written (Item stand.target there) v memory))))) (lines_done calls stand rest)) at
      ∙ ap (λ r. result_and_then (result_and_then r (λ there.
      result_and_then (value_of stand value memory) (λ v.
      Ok (written (Item stand.target there) v memory)))) (lines_done calls stand rest))
      (place_is stand.target_room stand.writes_from n within)
      ∙ ap (λ r. result_and_then (result_and_then r (λ v.
      Ok (written (Item stand.target (stand.writes_from + n)) v memory)))
      (lines_done calls stand rest)) is

  pub reaches : (counter : Counter) (limit n : ℕ) (memory : Memory)
      → memory.cells (Counted counter) ≡ pos n → limit < 2 ^ 31
      → holds stand (Reaches counter limit) memory ≡ Ok (not (nat_lt n limit))
  reaches counter limit n memory e small =
      ap (λ r. result_and_then r (λ most. Ok (not (int_lt (memory.cells (Counted counter)) most))))
      (small_int limit small)
      ∙ ap (λ v. Ok (not (int_lt v (pos limit)))) e

  pub lies_outside : (index length : Expression) (at : ℤ) (room : ℕ) (memory : Memory)
      → value_of stand index memory ≡ Ok at → value_of stand length memory ≡ Ok (pos room)
      → holds stand (IsOutside index length) memory ≡ Ok (is_outside at room)
  lies_outside index length at room memory first second =
      ap (λ r. result_and_then r (λ at. result_and_then (value_of stand length memory) (λ room.
      Ok (int_lt at (pos 0) || not (int_lt at room))))) first
      ∙ ap (λ r. result_and_then r (λ room. Ok (int_lt at (pos 0) || not (int_lt at room)))) second

-- an item of the window, which no function writes
module _ (function : Function) (setting : Setting) (stand : Standing) (start : Memory)
    (size : ℕ) (stands : Stands function setting stand start size) where
  pub item_is : (lower : ℕ) (machine : Machine) (memory : Memory) (place : ℕ)
      → place < function.peek → Shows stand setting.port start size lower machine memory
      → memory.cells (Item stand.source (stand.reads_from + place))
      ≡ get_or setting.port.ahead place (pos 0)
  item_is lower machine memory place lt shows =
      let at : ℕ = stand.reads_from + place in
      shows.kept (Item stand.source at)
      (and_left ((stand.source == stand.target) && nat_le stand.writes_from at)
      (nat_lt at (stand.writes_from + setting.port.room))
      (and_left (stand.source == stand.target) (nat_le stand.writes_from at) stands.apart))
      ∙ stands.window place lt

  pub item_read : (lower : ℕ) (machine : Machine) (memory : Memory) (place : Expression) (n : ℕ)
      → value_of stand place memory ≡ Ok (pos n) → n < function.peek
      → Shows stand setting.port start size lower machine memory
      → value_of stand (Input place) memory ≡ Ok (get_or setting.port.ahead n (pos 0))
  item_read lower machine memory place n e lt shows =
      ap (λ r. result_and_then r (λ at.
      result_and_then (place_within stand.source_room stand.reads_from at) (λ there.
      Ok (memory.cells (Item stand.source there))))) e
      ∙ ap (λ r. result_and_then r (λ there. Ok (memory.cells (Item stand.source there))))
      (place_is stand.source_room stand.reads_from n (omega (arith, stands.reads)))
      ∙ ap Ok (item_is lower machine memory n lt shows)

  -- how many items are left of the window
  pub left_is : (lower : ℕ) (machine : Machine) (memory : Memory)
      → machine.traffic.popped ≤ function.peek
      → Shows stand setting.port start size lower machine memory
      → value_of stand (Difference (Size function.peek) (Count Popped)) memory
      ≡ Ok (pos (function.peek - machine.traffic.popped))
  left_is lower machine memory le shows =
      ap (λ r. result_and_then r (λ one. as_int (one -ℤ memory.cells (Counted Popped))))
      (small_int function.peek stands.few_read)
      ∙ ap (λ v. as_int (pos function.peek -ℤ v)) shows.popped
      ∙ ap as_int (less function.peek machine.traffic.popped le)
      ∙ small_int (function.peek - machine.traffic.popped) (omega (arith, stands.few_read))

  -- the place so many after those that were taken
  pub ahead_is : (lower : ℕ) (machine : Machine) (memory : Memory) (from n : ℕ)
      → memory.cells (slot_cell stand from) ≡ pos n
      → machine.traffic.popped + n < function.peek
      → Shows stand setting.port start size lower machine memory
      → value_of stand (Sum (Count Popped) (Slot from)) memory
      ≡ Ok (pos (machine.traffic.popped + n))
  ahead_is lower machine memory from n e lt shows =
      ap (λ v. as_int (v +ℤ memory.cells (slot_cell stand from))) shows.popped
      ∙ ap (λ v. as_int (pos machine.traffic.popped +ℤ v)) e
      ∙ small_int (machine.traffic.popped + n) (omega (arith, stands.few_read))
