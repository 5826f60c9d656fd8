-- Operators, items that are taken, looked at and given: C does what lowered code does.
use Rattle.std.proofs.Common.{◌≡◌, ℕ, zero, suc, ◌+◌, ◌-◌, ◌<◌, ◌≤◌, ℤ, pos, negsuc}
use Rattle.std.proofs.Common.{Bool, true, false, not, cond, List, [], ◌∷◌, ◌++◌, length}
use Rattle.std.proofs.Common.{get_or, Result, Ok, Err, Option, Some, None, refl, sym, ap, ◌∙◌}
use Rattle.std.proofs.Common.{subst, subst₂, arith, true≢false, is_ok, ◌⊎◌, inl, inr, nat_lt}
use Rattle.std.proofs.Common.{length-take, slice_set}
use Rattle.std.specs.Prelude.{slice_get}
use Rattle.std.proofs.lemmas.Bool.{cases_lt, lt-ltb, le-ltb}
use Rattle.std.proofs.lemmas.List.{get_or-take}
use Rattle.std.proofs.lemmas.Option.{slice_get-get_or}
use Rattle.strc_lex_names.specs.Results.{result_and_then}
use Rattle.strc_parse_tree.specs.declared.tree.UnaryOperator.{UnaryOperator}
use Rattle.strc_parse_tree.specs.declared.tree.BinaryOperator.{BinaryOperator}
use Rattle.strc_work_meaning.specs.Arithmetic.{unary_value, binary_value, unless_zero, is_true}
use Rattle.strc_work_meaning.specs.declared.fault.Cause.{Cause}
use Rattle.strc_work_meaning.specs.declared.fault.Cause.TheVariants as cause
use Rattle.strc_work_meaning.specs.Firing.{Setting, Traffic, item_popped, looked_at}
use Rattle.strc_work_meaning.specs.Firing.{item_ahead}
use Rattle.strc_work_code.specs.declared.inst.Inst.TheVariants as act
use Rattle.strc_work_code.specs.Machine.{Machine, slot_value, slot_written, binary_done}
use Rattle.strc_work_code.specs.Machine.{number_done, unary_done, inst_done}
use Rattle.strc_emit_c.specs.declared.function.Function.{Function}
use Rattle.strc_emit_c.specs.C as c
use Rattle.strc_emit_c.specs.Meaning.{Item, Counted, Memory, written, Faults, Standing}
use Rattle.strc_emit_c.specs.Meaning.{slot_cell, Calls, value_of, holds, defined}
use Rattle.strc_emit_code.specs.Emitted.{binary_lines, number_lines, division_lines}
use Rattle.strc_emit_code.specs.Emitted.{pop_lines, peek_lines, push_lines}
use Rattle.std.specs.Prelude.{if◌then◌else◌}
use Rattle.strc_emit_meaning.specs.Refinement.{Refines, lines_done}
use Rattle.strc_emit_meaning.specs.Showing.{Stands, Shows}
use Rattle.strc_emit_meaning.proofs.Places.{is_outside, inside, IsPast, index_cases}
use Rattle.strc_emit_meaning.proofs.Places.{slice_get_past}
use Rattle.strc_emit_meaning.proofs.Outcomes.{refines_as, leaves, goes_on}
use Rattle.strc_emit_meaning.proofs.Changes.{slot_put, popped_on, pushed_on}
use Rattle.strc_emit_meaning.proofs.Lines.{assigned, increased, given_out, reaches, lies_outside}
use Rattle.strc_emit_meaning.proofs.Lines.{item_read, left_is, ahead_is}

zero_cases : (z : ℤ)
    → (z ≡ pos 0) ⊎ ((is_true z ≡ true) × ((x : ℤ) → unless_zero z x ≡ Ok x))
zero_cases (pos zero) = inl refl
zero_cases (pos (suc n)) = inr (refl, λ x. refl)
zero_cases (negsuc n) = inr (refl, λ x. refl)

module _ (function : Function) (setting : Setting) (stand : Standing) (start : Memory)
    (size : ℕ) (calls : Calls) (stands : Stands function setting stand start size) (lower : ℕ) where
  abbrev Shown : Machine → Memory → Type 0
  Shown machine memory = Shows stand setting.port start size lower machine memory

  abbrev put : (machine : Machine) (memory : Memory) (slot : ℕ) (value given : ℤ) → slot < size
      → given ≡ value → Shown machine memory
      → Shown (slot_written machine slot value) (written (slot_cell stand slot) given memory)
  put machine memory slot value given lt same shows =
      slot_put stand setting.port start size lower machine memory slot value given lt same shows

  pub binary_does : (operator : BinaryOperator) (into left right : ℕ) (machine : Machine)
      (memory : Memory) → into < size → left < size → right < size
      → is_ok (binary_value operator (slot_value machine left) (slot_value machine right)) ≡ true
      → Shown machine memory
      → Refines Shown (binary_done operator into left right machine)
      (lines_done calls stand (binary_lines operator into left right) memory)
  binary_does operator into left right machine memory into_lt left_lt right_lt ok shows =
      subst₂ (λ one other. Refines Shown (binary_done operator into left right machine)
      (result_and_then (result_and_then (defined (binary_value operator one other))
      (λ number. Ok (written (slot_cell stand into) number memory))) (lines_done calls stand [])))
      (sym (shows.slots left left_lt)) (sym (shows.slots right right_lt))
      (by (binary_value operator (slot_value machine left) (slot_value machine right)) ok)
    where
      by : (r : Result ℤ Cause) → is_ok r ≡ true
          → Refines Shown (result_and_then r (λ value. Ok (slot_written machine into value)))
          (result_and_then (result_and_then (defined r)
          (λ number. Ok (written (slot_cell stand into) number memory)))
          (lines_done calls stand []))
      by (Ok value) e = put machine memory into value value into_lt refl shows
      by (Err why) e = absurd (true≢false (sym e))

  pub number_does : (operator : BinaryOperator)
      → ((a b : ℤ) → is_ok (binary_value operator a b) ≡ true)
      → (into left spare : ℕ) (number : ℤ) (machine : Machine) (memory : Memory) → into < size
      → left < size → spare < size → Shown machine memory
      → Refines Shown (number_done operator into left spare number machine)
      (lines_done calls stand (number_lines operator into left spare spare number) memory)
  number_does operator ok into left spare number machine memory into_lt left_lt spare_lt shows =
      let after : Machine = slot_written machine spare number in
      binary_does operator into left spare after (written (slot_cell stand spare) number memory)
      into_lt left_lt spare_lt (ok (slot_value after left) (slot_value after spare))
      (put machine memory spare number number spare_lt refl shows)

  -- the number on the left
  pub number_first : (operator : BinaryOperator)
      → ((a b : ℤ) → is_ok (binary_value operator a b) ≡ true)
      → (into right spare : ℕ) (number : ℤ) (machine : Machine) (memory : Memory) → into < size
      → right < size → spare < size → Shown machine memory
      → Refines Shown
      (binary_done operator into spare right (slot_written machine spare number))
      (lines_done calls stand (number_lines operator into spare right spare number) memory)
  number_first operator ok into right spare number machine memory into_lt right_lt spare_lt shows =
      let after : Machine = slot_written machine spare number in
      binary_does operator into spare right after (written (slot_cell stand spare) number memory)
      into_lt spare_lt right_lt (ok (slot_value after spare) (slot_value after right))
      (put machine memory spare number number spare_lt refl shows)

  pub division_does : (operator : BinaryOperator) (value : ℤ → ℤ → ℤ)
      → ((a b : ℤ) → binary_value operator a b ≡ unless_zero b (value a b))
      → (into left right : ℕ) (machine : Machine) (memory : Memory) → into < size → left < size
      → right < size → Shown machine memory
      → Refines Shown (binary_done operator into left right machine)
      (lines_done calls stand (division_lines operator into left right) memory)
  division_does operator value is into left right machine memory into_lt left_lt right_lt shows =
      by (zero_cases (slot_value machine right))
    where
      test : c.Test
      test = c.IsZero (c.Slot right)

      lines : List c.Statement
      lines = binary_lines operator into left right

      one : ℤ
      one = slot_value machine left

      other : ℤ
      other = slot_value machine right

      tested : (b : Bool) → is_true other ≡ b → holds stand test memory ≡ Ok (not b)
      tested b e = ap (λ z. Ok (not (is_true z))) (shows.slots right right_lt)
          ∙ ap (λ t. Ok (not t)) e

      by : (other ≡ pos 0) ⊎ ((is_true other ≡ true) × ((x : ℤ) → unless_zero other x ≡ Ok x))
          → Refines Shown (binary_done operator into left right machine)
          (lines_done calls stand (division_lines operator into left right) memory)
      by (inl zero_is) =
          let faults : binary_done operator into left right machine ≡ Err cause.DivZero =
          ap (λ r. result_and_then r (λ v. Ok (slot_written machine into v)))
          (is one other ∙ ap (λ z. unless_zero z (value one other)) zero_is) in
          refines_as Shown (binary_done operator into left right machine)
          (lines_done calls stand (division_lines operator into left right) memory)
          (Err (Faults cause.DivZero))
          (leaves calls stand test cause.DivZero lines memory
          (tested false (ap is_true zero_is)))
          (subst (λ r. Refines Shown r (Err (Faults cause.DivZero))) (sym faults) refl)
      by (inr more) =
          refines_as Shown (binary_done operator into left right machine)
          (lines_done calls stand (division_lines operator into left right) memory)
          (lines_done calls stand lines memory)
          (goes_on calls stand test cause.DivZero lines memory (tested true more.0))
          (binary_does operator into left right machine memory into_lt left_lt right_lt
          (ap is_ok (is one other ∙ more.1 (value one other))) shows)

  pub unary_does : (operator : UnaryOperator) (into from : ℕ) (machine : Machine) (memory : Memory)
      → into < size → from < size → Shown machine memory
      → Refines Shown (unary_done operator into from machine)
      (lines_done calls stand (c.Assign into (c.Unary operator (c.Slot from)) ∷ []) memory)
  unary_does operator into from machine memory into_lt from_lt shows =
      put machine memory into (unary_value operator (slot_value machine from))
      (unary_value operator (memory.cells (slot_cell stand from))) into_lt
      (ap (unary_value operator) (shows.slots from from_lt)) shows

  few_pops : function.pops ≤ function.peek
  few_pops =
      omega (
        arith,
        stands.pops,
        stands.peek,
        ap length stands.front,
        length-take function.pops setting.port.ahead,
      )

  pub pop_does : (into : ℕ) (machine : Machine) (memory : Memory) → into < size
      → Shown machine memory
      → Refines Shown (inst_done setting.port (act.Pop into) machine)
      (lines_done calls stand (pop_lines function into) memory)
  pop_does into machine memory into_lt shows =
      subst (λ t. Refines Shown (inst_done setting.port (act.Pop into) machine)
      (lines_done calls stand (if t then c.LeaveIf test cause.PeekRange ∷ lines else lines)
      memory)) (sym stands.tests) (by (cases_lt machine.traffic.popped function.pops))
    where
      n : ℕ
      n = machine.traffic.popped

      test : c.Test
      test = c.Reaches c.Popped function.pops

      item : ℤ
      item = get_or setting.port.ahead n (pos 0)

      lines : List c.Statement
      lines = c.Assign into (c.Input (c.Count c.Popped)) ∷ c.Increase c.Popped ∷ []

      done : (o : Option ℤ) → Result Machine Cause
      done o = result_and_then (item_popped o machine.traffic)
          (λ taken. Ok (record {
            slots = slice_set machine.slots into taken.0;
            traffic = taken.1;
          }))

      tested : (b : Bool) → nat_lt n function.pops ≡ b → holds stand test memory ≡ Ok (not b)
      tested b e =
          reaches calls stand c.Popped function.pops n memory shows.popped
          (omega (arith, few_pops, stands.few_read))
          ∙ ap (λ t. Ok (not t)) e

      by : (n < function.pops) ⊎ (function.pops ≤ n)
          → Refines Shown (inst_done setting.port (act.Pop into) machine)
          (lines_done calls stand (c.LeaveIf test cause.PeekRange ∷ lines) memory)
      by (inr le) =
          let none : slice_get setting.port.front n ≡ None =
          slice_get_past setting.port.front n (omega (arith, stands.pops)) in
          refines_as Shown (inst_done setting.port (act.Pop into) machine)
          (lines_done calls stand (c.LeaveIf test cause.PeekRange ∷ lines) memory)
          (Err (Faults cause.PeekRange))
          (leaves calls stand test cause.PeekRange lines memory
          (tested false (le-ltb n function.pops le)))
          (subst (λ r. Refines Shown r (Err (Faults cause.PeekRange))) (sym (ap done none)) refl)
      by (inl lt) =
          let some : slice_get setting.port.front n ≡ Some item =
          slice_get-get_or setting.port.front n (pos 0) (omega (arith, stands.pops))
          ∙ ap (λ l. Some (get_or l n (pos 0))) stands.front
          ∙ ap Some (get_or-take function.pops setting.port.ahead n (pos 0) lt) in
          let first : Memory = written (slot_cell stand into) item memory in
          let shown : Shown (slot_written machine into item) first =
          put machine memory into item item into_lt refl shows in
          let read : value_of stand (c.Input (c.Count c.Popped)) memory ≡ Ok item =
          item_read function setting stand start size stands lower machine memory
          (c.Count c.Popped) n (ap Ok shows.popped) (omega (arith, few_pops)) shows in
          refines_as Shown (inst_done setting.port (act.Pop into) machine)
          (lines_done calls stand (c.LeaveIf test cause.PeekRange ∷ lines) memory)
          (Ok (written (Counted c.Popped) (pos (n + 1)) first))
          (goes_on calls stand test cause.PeekRange lines memory
          (tested true (lt-ltb n function.pops lt))
          ∙ assigned calls stand into (c.Input (c.Count c.Popped)) (c.Increase c.Popped ∷ [])
          memory item read
          ∙ increased calls stand c.Popped [] first n shown.popped
          (omega (arith, few_pops, stands.few_read)))
          (subst (λ r. Refines Shown r (Ok (written (Counted c.Popped) (pos (n + 1)) first)))
          (sym (ap done some))
          (popped_on stand setting.port start size lower (slot_written machine into item) first
          (omega (arith, stands.pops)) shown))

  pub peek_does : (into from : ℕ) (machine : Machine) (memory : Memory) → into < size → from < size
      → Shown machine memory
      → Refines Shown (inst_done setting.port (act.Peek into from 0) machine)
      (lines_done calls stand (peek_lines function into from) memory)
  peek_does into from machine memory into_lt from_lt shows =
      subst (λ t. Refines Shown (inst_done setting.port (act.Peek into from 0) machine)
      (lines_done calls stand (if t then c.LeaveIf test cause.PeekRange ∷ lines else lines)
      memory)) (sym stands.tests) (by (index_cases at (function.peek - n)))
    where
      n : ℕ
      n = machine.traffic.popped

      at : ℤ
      at = slot_value machine from

      length_is : c.Expression
      length_is = c.Difference (c.Size function.peek) (c.Count c.Popped)

      test : c.Test
      test = c.IsOutside (c.Slot from) length_is

      ahead : c.Expression
      ahead = c.Sum (c.Count c.Popped) (c.Slot from)

      lines : List c.Statement
      lines = c.Assign into (c.Input ahead) ∷ []

      le : n ≤ function.peek
      le = omega (arith, shows.few_popped, stands.pops, few_pops)

      done : (o : Option ℤ) → Result Machine Cause
      done o = result_and_then (looked_at o) (λ item. Ok (slot_written machine into item))

      tested : (b : Bool) → is_outside at (function.peek - n) ≡ b
          → holds stand test memory ≡ Ok b
      tested b e =
          lies_outside calls stand (c.Slot from) length_is at (function.peek - n) memory
          (ap Ok (shows.slots from from_lt))
          (left_is function setting stand start size stands lower machine memory le shows)
          ∙ ap Ok e

      none_ahead : (z : ℤ) → IsPast z (function.peek - n) → item_ahead setting.port n z ≡ None
      none_ahead (negsuc m) past = refl
      none_ahead (pos m) past =
          slice_get_past setting.port.ahead (n + m) (omega (arith, past m refl, stands.peek))

      by : ((place : ℕ) × (at ≡ pos place) × (place < function.peek - n))
          ⊎ ((is_outside at (function.peek - n) ≡ true) × IsPast at (function.peek - n))
          → Refines Shown (inst_done setting.port (act.Peek into from 0) machine)
          (lines_done calls stand (c.LeaveIf test cause.PeekRange ∷ lines) memory)
      by (inr past) =
          refines_as Shown (inst_done setting.port (act.Peek into from 0) machine)
          (lines_done calls stand (c.LeaveIf test cause.PeekRange ∷ lines) memory)
          (Err (Faults cause.PeekRange))
          (leaves calls stand test cause.PeekRange lines memory (tested true past.0))
          (subst (λ r. Refines Shown r (Err (Faults cause.PeekRange)))
          (sym (ap done (none_ahead at past.1))) refl)
      by (inl found) =
          let m : ℕ = found.0 in
          let lt : n + m < function.peek = omega (arith, found.2) in
          let item : ℤ = get_or setting.port.ahead (n + m) (pos 0) in
          let some : item_ahead setting.port n at ≡ Some item =
          ap (item_ahead setting.port n) found.1
          ∙ slice_get-get_or setting.port.ahead (n + m) (pos 0) (omega (arith, stands.peek)) in
          let place : value_of stand ahead memory ≡ Ok (pos (n + m)) =
          ahead_is function setting stand start size stands lower machine memory from m
          (shows.slots from from_lt ∙ found.1) lt shows in
          refines_as Shown (inst_done setting.port (act.Peek into from 0) machine)
          (lines_done calls stand (c.LeaveIf test cause.PeekRange ∷ lines) memory)
          (Ok (written (slot_cell stand into) item memory))
          (goes_on calls stand test cause.PeekRange lines memory
          (tested false (ap (λ z. is_outside z (function.peek - n)) found.1
          ∙ inside m (function.peek - n) found.2))
          ∙ assigned calls stand into (c.Input ahead) [] memory item
          (item_read function setting stand start size stands lower machine memory ahead (n + m)
          place lt shows))
          (subst (λ r. Refines Shown r (Ok (written (slot_cell stand into) item memory)))
          (sym (ap done some)) (put machine memory into item item into_lt refl shows))

  pub push_does : (from : ℕ) (machine : Machine) (memory : Memory) → from < size
      → Shown machine memory
      → Refines Shown (inst_done setting.port (act.Push from) machine)
      (lines_done calls stand (push_lines function from) memory)
  push_does from machine memory from_lt shows =
      subst (λ t. Refines Shown (inst_done setting.port (act.Push from) machine)
      (lines_done calls stand (if t then c.LeaveIf test cause.PeekRange ∷ lines else lines)
      memory)) (sym stands.tests) (by (cases_lt n function.pushes))
    where
      n : ℕ
      n = length machine.traffic.pushes

      value : ℤ
      value = slot_value machine from

      given : ℤ
      given = memory.cells (slot_cell stand from)

      test : c.Test
      test = c.Reaches c.Pushed function.pushes

      lines : List c.Statement
      lines = c.Output (c.Count c.Pushed) (c.Slot from) ∷ c.Increase c.Pushed ∷ []

      after : Traffic
      after = record machine.traffic { pushes = machine.traffic.pushes ++ value ∷ [] }

      done : Bool → Result Machine Cause
      done b = result_and_then (cond b (Ok after) (Err cause.PeekRange))
          (λ traffic. Ok (record machine { traffic = traffic }))

      room : ℕ → Result Machine Cause
      room r = done (nat_lt n r)

      tested : (b : Bool) → nat_lt n function.pushes ≡ b → holds stand test memory ≡ Ok (not b)
      tested b e =
          reaches calls stand c.Pushed function.pushes n memory shows.pushed stands.few_written
          ∙ ap (λ t. Ok (not t)) e

      by : (n < function.pushes) ⊎ (function.pushes ≤ n)
          → Refines Shown (inst_done setting.port (act.Push from) machine)
          (lines_done calls stand (c.LeaveIf test cause.PeekRange ∷ lines) memory)
      by (inr le) =
          let past : nat_lt n setting.port.room ≡ false =
          le-ltb n setting.port.room (omega (arith, stands.pushes)) in
          refines_as Shown (inst_done setting.port (act.Push from) machine)
          (lines_done calls stand (c.LeaveIf test cause.PeekRange ∷ lines) memory)
          (Err (Faults cause.PeekRange))
          (leaves calls stand test cause.PeekRange lines memory
          (tested false (le-ltb n function.pushes le)))
          (subst (λ r. Refines Shown r (Err (Faults cause.PeekRange))) (sym (ap done past)) refl)
      by (inl lt) =
          let within : nat_lt n setting.port.room ≡ true =
          lt-ltb n setting.port.room (omega (arith, stands.pushes)) in
          let place : ℕ = stand.writes_from + n in
          let first : Memory = written (Item stand.target place) given memory in
          let last : Memory = written (Counted c.Pushed) (pos (n + 1)) first in
          refines_as Shown (inst_done setting.port (act.Push from) machine)
          (lines_done calls stand (c.LeaveIf test cause.PeekRange ∷ lines) memory)
          (Ok last)
          (goes_on calls stand test cause.PeekRange lines memory
          (tested true (lt-ltb n function.pushes lt))
          ∙ given_out calls stand (c.Count c.Pushed) (c.Slot from) (c.Increase c.Pushed ∷ [])
          memory n given (ap Ok shows.pushed) (omega (arith, stands.writes)) refl
          ∙ increased calls stand c.Pushed [] first n shows.pushed
          (omega (arith, stands.few_written)))
          (subst (λ r. Refines Shown r (Ok last)) (sym (ap done within))
          (pushed_on stand setting.port start size lower machine memory value given
          (omega (arith, stands.pushes)) (shows.slots from from_lt) shows))
