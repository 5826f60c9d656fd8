-- Elements of arrays are read, written and cleared, and words printed, in C as in lowered code.
use Rattle.std.proofs.Common.{◌≡◌, ℕ, zero, suc, ◌+◌, ◌<◌, ◌≤◌, ◌^◌, ℤ, pos, Bool, true, false}
use Rattle.std.proofs.Common.{List, [], ◌∷◌, ◌++◌, length, take, drop, replicate, Result, Ok, Err}
use Rattle.std.proofs.Common.{Option, refl, sym, ap, ◌∙◌, subst, arith, ◌⊎◌, inl, inr}
use Rattle.std.proofs.Common.{zero-add, slice_set, append_assoc, take-append-drop}
use Rattle.std.proofs.Math.Seq.{take-suc-set, drop-set-lt}
use Rattle.strc_lex_names.specs.Results.{result_and_then}
use Rattle.strc_work_meaning.specs.declared.fault.Cause.{Cause}
use Rattle.strc_work_meaning.specs.declared.fault.Cause.TheVariants as cause
use Rattle.strc_work_meaning.specs.Firing.{Setting, place_in, tested_place}
use Rattle.strc_work_code.specs.declared.inst.Inst.TheVariants as act
use Rattle.strc_work_code.specs.Machine.{Machine, slot_value, slot_written, cleared, inst_done}
use Rattle.strc_emit_c.specs.declared.function.Function.{Function}
use Rattle.strc_emit_c.specs.C as c
use Rattle.strc_emit_c.specs.Meaning.{Memory, written, Stop, Faults, Standing, slot_cell, Calls}
use Rattle.strc_emit_c.specs.Meaning.{value_of, holds, place_within}
use Rattle.strc_emit_c.specs.Meaning as meaning
use Rattle.strc_emit_code.specs.Emitted.{load_lines, store_lines}
use Rattle.strc_emit_meaning.specs.Refinement.{Refines, lines_done}
use Rattle.strc_emit_meaning.specs.Showing.{Stands, Shows}
use Rattle.strc_emit_meaning.proofs.Numbers.{small_int, place_is}
use Rattle.strc_emit_meaning.proofs.Places.{is_outside, inside, IsPast, index_cases, place_in_past}
use Rattle.strc_emit_meaning.proofs.Places.{place_in_is}
use Rattle.strc_emit_meaning.proofs.Outcomes.{refines_as, leaves, goes_on}
use Rattle.strc_emit_meaning.proofs.Changes.{slot_put}
use Rattle.strc_emit_meaning.proofs.Lines.{assigned, lies_outside}

-- one more slot is cleared, and no slot
cleared_first : (base count : ℕ) (slots : List ℤ) → base + suc count ≤ length slots
    → cleared base (suc count) slots ≡ cleared (base + 1) count (slice_set slots base (pos 0))
cleared_first base count slots fits =
    let after : List ℤ = slice_set slots base (pos 0) in
    let zeros : List ℤ = replicate count (pos 0) in
    let next : base + 1 ≡ suc base = omega arith in
    let end : base + 1 + count ≡ base + suc count = omega arith in
    let front : take (base + 1) after ≡ take base slots ++ pos 0 ∷ [] =
    ap (λ n. take n after) next ∙ take-suc-set slots base (pos 0) (omega arith) in
    let back : drop (base + 1 + count) after ≡ drop (base + suc count) slots =
    drop-set-lt (base + 1 + count) slots base (pos 0) (omega arith)
    ∙ ap (λ n. drop n slots) end in
    sym (append_assoc (take base slots) (pos 0 ∷ []) (zeros ++ drop (base + suc count) slots))
    ∙ ap (λ l. l ++ (zeros ++ drop (base + suc count) slots)) (sym front)
    ∙ ap (λ l. take (base + 1) after ++ (zeros ++ l)) (sym back)

cleared_none : (base : ℕ) (slots : List ℤ) → cleared base 0 slots ≡ slots
cleared_none base slots =
    let end : base + 0 ≡ base = omega arith in
    ap (λ n. take base slots ++ drop n slots) end ∙ take-append-drop base slots

module _ (function : Function) (setting : Setting) (stand : Standing) (start : Memory)
    (size : ℕ) (calls : Calls) (stands : Stands function setting stand start size) (lower : ℕ) where
  abbrev Shown : Machine → Memory → Type 0
  Shown machine memory = Shows stand setting.port start size lower machine memory

  -- the test of an index
  tested : (machine : Machine) (memory : Memory) (length index : ℕ) (b : Bool) → length < 2 ^ 31
      → index < size → Shown machine memory → is_outside (slot_value machine index) length ≡ b
      → holds stand (c.IsOutside (c.Slot index) (c.Size length)) memory ≡ Ok b
  tested machine memory length index b small index_lt shows e =
      lies_outside calls stand (c.Slot index) (c.Size length) (slot_value machine index) length
      memory (ap Ok (shows.slots index index_lt)) (small_int length small)
      ∙ ap Ok e

  pub load_does : (into base length index : ℕ) (machine : Machine) (memory : Memory) → into < size
      → base + length ≤ size → index < size → Shown machine memory
      → Refines Shown (inst_done setting.port (act.Load into base length index 0) machine)
      (lines_done calls stand (load_lines into base length index) memory)
  load_does into base length index machine memory into_lt fits index_lt shows =
      by (index_cases at length)
    where
      at : ℤ
      at = slot_value machine index

      test : c.Test
      test = c.IsOutside (c.Slot index) (c.Size length)

      element : c.Expression
      element = c.Element base length (c.Slot index)

      lines : List c.Statement
      lines = c.Assign into element ∷ []

      small : length < 2 ^ 31
      small = omega (arith, stands.small)

      done : Option ℕ → Result Machine Cause
      done o = result_and_then (tested_place o)
          (λ place. Ok (slot_written machine into (slot_value machine (base + place))))

      by : ((place : ℕ) × (at ≡ pos place) × (place < length))
          ⊎ ((is_outside at length ≡ true) × IsPast at length)
          → Refines Shown (inst_done setting.port (act.Load into base length index 0) machine)
          (lines_done calls stand (load_lines into base length index) memory)
      by (inr past) =
          refines_as Shown (inst_done setting.port (act.Load into base length index 0) machine)
          (lines_done calls stand (load_lines into base length index) memory)
          (Err (Faults cause.Index))
          (leaves calls stand test cause.Index lines memory
          (tested machine memory length index true small index_lt shows past.0))
          (subst (λ r. Refines Shown r (Err (Faults cause.Index)))
          (sym (ap done (place_in_past at length past.1))) refl)
      by (inl found) =
          let m : ℕ = found.0 in
          let number : ℤ = memory.cells (slot_cell stand (base + (0 + m))) in
          let value : ℤ = slot_value machine (base + m) in
          let same : number ≡ value =
          shows.slots (base + (0 + m)) (omega (arith, found.2))
          ∙ ap (λ p. slot_value machine (base + p)) (zero-add m) in
          let read : value_of stand element memory ≡ Ok number =
          ap (λ z. result_and_then (place_within length 0 z) (λ place.
          Ok (memory.cells (slot_cell stand (base + place)))))
          (shows.slots index index_lt ∙ found.1)
          ∙ ap (λ r. result_and_then r (λ place.
          Ok (memory.cells (slot_cell stand (base + place)))))
          (place_is length 0 m (omega (arith, found.2))) in
          refines_as Shown (inst_done setting.port (act.Load into base length index 0) machine)
          (lines_done calls stand (load_lines into base length index) memory)
          (Ok (written (slot_cell stand into) number memory))
          (goes_on calls stand test cause.Index lines memory
          (tested machine memory length index false small index_lt shows
          (ap (λ z. is_outside z length) found.1 ∙ inside m length found.2))
          ∙ assigned calls stand into element [] memory number read)
          (subst (λ r. Refines Shown r (Ok (written (slot_cell stand into) number memory)))
          (sym (ap done (ap (place_in length) found.1 ∙ place_in_is m length found.2)))
          (slot_put stand setting.port start size lower machine memory into value number into_lt
          same shows))

  pub store_does : (base length index from : ℕ) (machine : Machine) (memory : Memory)
      → base + length ≤ size → index < size → from < size → Shown machine memory
      → Refines Shown (inst_done setting.port (act.Store base length index from 0) machine)
      (lines_done calls stand (store_lines base length index from) memory)
  store_does base length index from machine memory fits index_lt from_lt shows =
      by (index_cases at length)
    where
      at : ℤ
      at = slot_value machine index

      value : ℤ
      value = slot_value machine from

      given : ℤ
      given = memory.cells (slot_cell stand from)

      test : c.Test
      test = c.IsOutside (c.Slot index) (c.Size length)

      lines : List c.Statement
      lines = c.AssignElement base length (c.Slot index) (c.Slot from) ∷ []

      small : length < 2 ^ 31
      small = omega (arith, stands.small)

      done : Option ℕ → Result Machine Cause
      done o = result_and_then (tested_place o)
          (λ place. Ok (slot_written machine (base + place) value))

      by : ((place : ℕ) × (at ≡ pos place) × (place < length))
          ⊎ ((is_outside at length ≡ true) × IsPast at length)
          → Refines Shown (inst_done setting.port (act.Store base length index from 0) machine)
          (lines_done calls stand (store_lines base length index from) memory)
      by (inr past) =
          refines_as Shown (inst_done setting.port (act.Store base length index from 0) machine)
          (lines_done calls stand (store_lines base length index from) memory)
          (Err (Faults cause.Index))
          (leaves calls stand test cause.Index lines memory
          (tested machine memory length index true small index_lt shows past.0))
          (subst (λ r. Refines Shown r (Err (Faults cause.Index)))
          (sym (ap done (place_in_past at length past.1))) refl)
      by (inl found) =
          let m : ℕ = found.0 in
          let last : Memory = written (slot_cell stand (base + m)) given memory in
          let wrote : lines_done calls stand lines memory ≡ Ok last =
          ap (λ z. result_and_then (result_and_then (place_within length 0 z) (λ place.
          Ok (written (slot_cell stand (base + place)) given memory)))
          (lines_done calls stand [])) (shows.slots index index_lt ∙ found.1)
          ∙ ap (λ r. result_and_then (result_and_then r (λ place.
          Ok (written (slot_cell stand (base + place)) given memory)))
          (lines_done calls stand [])) (place_is length 0 m (omega (arith, found.2)))
          ∙ ap (λ p. Ok (written (slot_cell stand (base + p)) given memory)) (zero-add m) in
          refines_as Shown (inst_done setting.port (act.Store base length index from 0) machine)
          (lines_done calls stand (store_lines base length index from) memory) (Ok last)
          (goes_on calls stand test cause.Index lines memory
          (tested machine memory length index false small index_lt shows
          (ap (λ z. is_outside z length) found.1 ∙ inside m length found.2))
          ∙ wrote)
          (subst (λ r. Refines Shown r (Ok last))
          (sym (ap done (ap (place_in length) found.1 ∙ place_in_is m length found.2)))
          (slot_put stand setting.port start size lower machine memory (base + m) value given
          (omega (arith, found.2)) (shows.slots from from_lt) shows))

  cleared_shows : (base count : ℕ) (machine : Machine) (memory : Memory) → base + count ≤ size
      → Shown machine memory
      → Shown (record machine { slots = cleared base count machine.slots })
      (meaning.cleared stand base count memory)
  cleared_shows base zero machine memory fits shows =
      subst (λ l. Shown (record machine { slots = l }) memory)
      (sym (cleared_none base machine.slots)) shows
  cleared_shows base (suc count) machine memory fits shows =
      subst (λ l. Shown (record machine { slots = l })
      (meaning.cleared stand (base + 1) count (written (slot_cell stand base) (pos 0) memory)))
      (sym (cleared_first base count machine.slots (omega (arith, shows.count))))
      (cleared_shows (base + 1) count (slot_written machine base (pos 0))
      (written (slot_cell stand base) (pos 0) memory) (omega arith)
      (slot_put stand setting.port start size lower machine memory base (pos 0) (pos 0)
      (omega arith) refl shows))

  pub clear_does : (base count : ℕ) (machine : Machine) (memory : Memory) → base + count ≤ size
      → Shown machine memory
      → Refines Shown (inst_done setting.port (act.Clear base count) machine)
      (lines_done calls stand (c.Clear base count ∷ []) memory)
  clear_does base count machine memory fits shows =
      cleared_shows base count machine memory fits shows
