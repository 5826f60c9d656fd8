-- Each expression's code does what it means.
use Rattle.std.proofs.Common.{◌≡◌, ◌≢◌, ℕ, ◌+◌, ◌<◌, ◌≤◌, true, cond, ℤ, pos, neg_ℤ, ◌+ℤ◌, List}
use Rattle.std.proofs.Common.{length, set, Option, Some, None, Result, Ok, Err, refl, sym, ap, ◌∙◌}
use Rattle.std.proofs.Common.{subst, arith}
use Rattle.std.specs.Prelude.{unwrap_or}
use Rattle.std.proofs.lemmas.List.{get_or-set_same, get_or-set_other, length-set}
use Rattle.strc_lex_names.specs.Results.{result_and_then}
use Rattle.strc_parse_tree.specs.Tree as tree
use Rattle.strc_parse_tree.specs.declared.tree.UnaryOperator.{UnaryOperator}
use Rattle.strc_parse_tree.specs.declared.tree.UnaryOperator.TheVariants as unary
use Rattle.strc_parse_tree.specs.declared.tree.BinaryOperator.{BinaryOperator}
use Rattle.strc_parse_tree.specs.declared.tree.BinaryOperator.TheVariants as binary
use Rattle.strc_parse_tree.specs.declared.tree.StepOperator.{StepOperator}
use Rattle.strc_parse_tree.specs.declared.tree.StepOperator.TheVariants as step
use Rattle.strc_work_meaning.specs.declared.fault.Cause.{Cause}
use Rattle.strc_work_code.specs.declared.inst.Inst.TheVariants as act
use Rattle.strc_work_meaning.specs.Arithmetic.{wrapped, truth, is_true, unary_value, binary_value}
use Rattle.strc_work_meaning.specs.Scoping.{Scope, total, slot_of}
use Rattle.strc_work_meaning.specs.Closed.{IsNamed, IsClosed}
use Rattle.strc_work_meaning.specs.Firing.{Port, Setting, Store, Traffic, value_in, joined}
use Rattle.strc_work_meaning.specs.Firing.{value_of}
use Rattle.strc_work_meaning.specs.Firing.{popped_from, peeked_from, assigned, with_cell}
use Rattle.strc_work_code.specs.Nodes.{Machine, Nodes, End, Choice, before, slot_value}
use Rattle.strc_work_code.specs.Nodes.{slot_written, inst_done, chosen_by, nodes_done, nodes_room}
use Rattle.strc_work_code.specs.Nodes.{unary_done, binary_done}
use Rattle.strc_work_code.specs.Lowering.{variable_slot, writes_no_variable, alias_slot, one}
use Rattle.strc_work_code.specs.Lowering.{unary_step}
use Rattle.strc_work_code.specs.Lowering.{binary_step, expr_nodes, operand_slot, operand_nodes}
use Rattle.strc_work.proofs.Variables.{scope_of, at, Holds, Holds-set_above, Holds-assigned}
use Rattle.strc_work.proofs.Variables.{scope_of-with_cell, same_slots}
use Rattle.strc_work.proofs.Related.{Related, then_related, weaker_related, chosen_related}
use Rattle.strc_work.proofs.Related.{nodes_done-before, then_end, then_last}
use Rattle.strc_work_code.proofs.Spelled.{nodes_room-before}
use Rattle.strc_work.proofs.Standing.{Stands}
use Rattle.strc_work.proofs.Expressions.{Arrives, IsInSlot, Ready, machine_at, Runs, Strict}
use Rattle.strc_work.proofs.Expressions.{by_operator, named_below, named_value, total-variables}
use Rattle.strc_work.proofs.Expressions.{variable_runs, Keeps, keeps, aliased_slot, operand_runs}
use Rattle.strc_work.proofs.Expressions.{machine_is, comes_to_free, in_slot_ready}
use Rattle.strc_work.proofs.Elements.{element_runs, step_element_runs}
use Rattle.strc_work.proofs.CallRuns.{RunsArguments, no_argument_runs, argument_runs, call_runs}

-- a value that needs no other step
pub arrives_at_once : (names : Scope) (into free : ℕ) (store : Store) (slots : List ℤ) (value : ℤ)
    → Ready names free store slots → Arrives names into free slots (value, store)
    (record { slots = set slots into value; traffic = store.traffic })
arrives_at_once names into free store slots value ready = record {
  slots = slots;
  written = refl;
  names_are = ready.names_are;
  holds = ready.holds;
  kept = λ k low high. refl;
  size = refl;
}

pop_runs : (setting : Setting) (names : Scope) (into free : ℕ) (store : Store) (slots : List ℤ)
    (r : Result (ℤ × Traffic) Cause) → Ready names free store slots
    → Related (Arrives names into free slots)
    (result_and_then r (λ taken. Ok (taken.0, record store { traffic = taken.1 })))
    (result_and_then (result_and_then r (λ taken. Ok
    (record { slots = set slots into taken.0; traffic = taken.1 }))) (nodes_done setting End))
pop_runs setting names into free store slots (Ok taken) ready = record {
  slots = slots;
  written = refl;
  names_are = ready.names_are;
  holds = ready.holds;
  kept = λ k low high. refl;
  size = refl;
}
pop_runs setting names into free store slots (Err cause) ready = refl

unary_step_done : (port : Port) (operator : UnaryOperator) (into from : ℕ) (m : Machine)
    → inst_done port (unary_step operator into from) m ≡ unary_done operator into from m
unary_step_done port unary.Negate into from m = refl
unary_step_done port unary.Not into from m = refl
unary_step_done port unary.Complement into from m = refl

pub binary_step_done : (port : Port) (operator : BinaryOperator) (into left right : ℕ) (m : Machine)
    → inst_done port (binary_step operator into left right) m
    ≡ binary_done operator into left right m
binary_step_done port binary.LogicalOr into left right m = refl
binary_step_done port binary.LogicalAnd into left right m = refl
binary_step_done port binary.Equal into left right m = refl
binary_step_done port binary.NotEqual into left right m = refl
binary_step_done port binary.Less into left right m = refl
binary_step_done port binary.LessOrEqual into left right m = refl
binary_step_done port binary.Greater into left right m = refl
binary_step_done port binary.GreaterOrEqual into left right m = refl
binary_step_done port binary.Or into left right m = refl
binary_step_done port binary.ExclusiveOr into left right m = refl
binary_step_done port binary.And into left right m = refl
binary_step_done port binary.ShiftLeft into left right m = refl
binary_step_done port binary.ShiftRight into left right m = refl
binary_step_done port binary.Add into left right m = refl
binary_step_done port binary.Subtract into left right m = refl
binary_step_done port binary.Multiply into left right m = refl
binary_step_done port binary.Divide into left right m = refl
binary_step_done port binary.Remainder into left right m = refl

-- the last step of an operator before its operand
unary_arrives : (names : Scope) (operator : UnaryOperator) (into from free : ℕ) (before : List ℤ)
    (given : ℤ × Store) (after : Machine) → IsInSlot names from free before given after
    → Arrives names into free before (unary_value operator given.0, given.1)
    (slot_written after into (unary_value operator (slot_value after from)))
unary_arrives names operator into from free before given after in_slot = record {
  slots = after.slots;
  written =
      ap (λ v. slot_written after into (unary_value operator v)) in_slot.value
      ∙ ap (λ t. record {
        slots = set after.slots into (unary_value operator given.0);
        traffic =
            t;
      }) in_slot.traffic;
  names_are = in_slot.names_are;
  holds = in_slot.holds;
  kept = in_slot.kept;
  size = in_slot.size;
}

-- the last step of code whose result may be a fault
binary_arrives : (names : Scope) (into free : ℕ) (before : List ℤ) (store : Store) (after : Machine)
    (r : Result ℤ Cause) → after.traffic ≡ store.traffic → scope_of store.variables ≡ names
    → Holds store.variables after.slots → ((k : ℕ) → total names ≤ k → k < free
    → at after.slots k ≡ at before k) → length after.slots ≡ length before
    → Related (Arrives names into free before) (result_and_then r (λ value. Ok (value, store)))
    (result_and_then r (λ value. Ok (slot_written after into value)))
binary_arrives names into free before store after (Ok value) traffic names_are holds kept size =
    record {
      slots = after.slots;
      written = ap (λ t. record { slots = set after.slots into value; traffic = t }) traffic;
      names_are = names_are;
      holds = holds;
      kept = kept;
      size = size;
    }
binary_arrives names into free before store after (Err cause) traffic names_are holds kept size =
    refl

-- the left operand's value is still there after the right operand's code
pub left_stays : (setting : Setting) (names : Scope) (left right : tree.Expr) (free : ℕ)
    (store : Store)
    (slots : List ℤ) (first second : ℤ × Store) (m1 m2 : Machine) → IsClosed names left
    → Ready names free store slots → value_of setting right first.1 ≡ Ok second
    → IsInSlot names (operand_slot names (writes_no_variable right) left free) free slots first m1
    → Holds second.1.variables m2.slots → ((k : ℕ) → total names ≤ k → k < free + 1
    → at m2.slots k ≡ at m1.slots k) → at m2.slots
    (operand_slot names (writes_no_variable right) left free) ≡ first.0
left_stays setting names left right free store slots first second m1 m2 closed ready is in_slot
    holds kept =
    by_place (alias_slot names (writes_no_variable right) left)
    (λ slot at_slot. aliased_slot names (writes_no_variable right) left slot at_slot)
    in_slot.value
  where
    by_place : (o : Option ℕ) → ((slot : ℕ) → o ≡ Some slot
        → (writes_no_variable right ≡ true) × (variable_slot names left ≡ Some slot))
        → at m1.slots (unwrap_or o free) ≡ first.0 → at m2.slots (unwrap_or o free) ≡ first.0
    by_place None place value =
        let above = ready.above in
        kept free above (omega arith) ∙ value
    by_place (Some slot) place value =
        let p = place slot refl in
        let below = (variable_runs setting left names free slot store slots p.1 closed ready).1 in
        let same : second.1.variables ≡ first.1.variables =
        subst (Keeps first.1.variables) is (keeps setting right p.0 first.1) in
        let few : total (scope_of first.1.variables) ≡ total names = ap total in_slot.names_are in
        let lt : slot < total (scope_of first.1.variables) = omega arith in
        same_slots first.1.variables m2.slots m1.slots slot
        (subst (λ v. Holds v m2.slots) same holds) in_slot.holds lt ∙ value

-- an operator between operands that are both evaluated
strict_runs : (setting : Setting) (operator : BinaryOperator) → Strict operator
    → (left right : tree.Expr)
    → Runs setting left → Runs setting right → Runs setting (tree.Binary operator left right)
strict_runs setting operator strict left right run_left run_right names into free store slots closed
    stands ready room =
    let may_alias = writes_no_variable right in
    let a = operand_nodes names may_alias left free in
    let b = operand_nodes names true right (free + 1) in
    let at_left = operand_slot names may_alias left free in
    let at_right = operand_slot names true right (free + 1) in
    let last = binary_step operator into at_left at_right in
    let code_is : expr_nodes names (tree.Binary operator left right) into free
    ≡ before a (before b (one last)) =
    strict.code (expr_nodes names left free (free + 1))
    (expr_nodes names right free (free + 1)) (before a (before b (one last))) into free in
    let room' : nodes_room (before a (before b (one last))) ≤ length slots =
    subst (λ n. nodes_room n ≤ length slots) code_is room in
    let room_a : nodes_room a ≤ length slots =
    omega (arith, nodes_room-before a (before b (one last))) in
    let room_b : nodes_room b ≤ length slots =
    omega (
      arith,
      nodes_room-before a (before b (one last)),
      nodes_room-before b (one last),
    ) in
    let above = ready.above in
    let meant_last : ℤ → ℤ × Store → Result (ℤ × Store) Cause =
    λ value second. result_and_then (binary_value operator value second.0)
    (λ v. Ok (v, second.1)) in
    let meant_right : ℤ × Store → Result (ℤ × Store) Cause =
    λ first. joined operator first (value_of setting right) in
    let goal_is : Result (ℤ × Store) Cause → Result Machine Cause → Type 0 =
    Related (Arrives names into free slots) in
    subst (λ n. goal_is (result_and_then (value_of setting left store) meant_right)
    (nodes_done setting n (machine_at slots store))) (sym code_is)
    (subst (goal_is (result_and_then (value_of setting left store) meant_right))
    (sym (nodes_done-before setting a (before b (one last)) (machine_at slots store)))
    (then_related (IsInSlot names at_left free slots) (Arrives names into free slots)
    (value_of setting left store) (nodes_done setting a (machine_at slots store)) meant_right
    (nodes_done setting (before b (one last)))
    (operand_runs setting left run_left names may_alias free store slots closed.0 stands ready
    room_a) (λ first m1 is_first in_slot1.
    let size1 = in_slot1.size in
    let roomy = ready.roomy in
    let ready1 : Ready names (free + 1) first.1 m1.slots =
    record {
      names_are = in_slot1.names_are;
      holds = in_slot1.holds;
      above =
          omega arith;
      roomy = omega arith;
    } in
    let room_b1 : nodes_room b ≤ length m1.slots = omega arith in
    let steps_are : nodes_done setting (before b (one last)) m1
    ≡ result_and_then (nodes_done setting b (machine_at m1.slots first.1))
    (inst_done setting.port last) = then_last setting b last m1 ∙ ap
    (λ m. result_and_then (nodes_done setting b m) (inst_done setting.port last))
    (machine_is m1 first.1 in_slot1.traffic) in
    subst (λ r. goal_is r (nodes_done setting (before b (one last)) m1))
    (sym (strict.value first (value_of setting right)))
    (subst (goal_is (result_and_then (value_of setting right first.1) (meant_last first.0)))
    (sym steps_are)
    (then_related (IsInSlot names at_right (free + 1) m1.slots) (Arrives names into free slots)
    (value_of setting right first.1) (nodes_done setting b (machine_at m1.slots first.1))
    (meant_last first.0) (inst_done setting.port last)
    (operand_runs setting right run_right names true
    (free + 1) first.1 m1.slots closed.1 stands ready1 room_b1) (λ second m2 is_second in_slot2.
    let value1 = left_stays setting names left right free store slots first second m1 m2 closed.0
    ready is_second in_slot1 in_slot2.holds in_slot2.kept in
    let done_is : inst_done setting.port last m2 ≡ result_and_then
    (binary_value operator first.0 second.0) (λ value. Ok (slot_written m2 into value)) =
    binary_step_done setting.port operator into at_left at_right m2
    ∙ ap (λ v. result_and_then (binary_value operator v (slot_value m2 at_right))
    (λ value. Ok (slot_written m2 into value))) value1
    ∙ ap (λ v. result_and_then (binary_value operator first.0 v)
    (λ value. Ok (slot_written m2 into value))) in_slot2.value in
    subst (goal_is (meant_last first.0 second)) (sym done_is)
    (binary_arrives names into free slots second.1 m2
    (binary_value operator first.0 second.0) in_slot2.traffic in_slot2.names_are in_slot2.holds
    (λ k low high. in_slot2.kept k low (omega arith) ∙ in_slot1.kept k low high)
    (in_slot2.size ∙ in_slot1.size))))))))

-- an operator before its operand
unary_runs : (setting : Setting) (operator : UnaryOperator) (operand : tree.Expr) → Runs setting
    operand
    → Runs setting (tree.Unary operator operand)
unary_runs setting operator operand run names into free store slots closed stands ready room =
    let a = operand_nodes names true operand free in
    let from = operand_slot names true operand free in
    let last = unary_step operator into from in
    let room_a : nodes_room a ≤ length slots = omega (arith, nodes_room-before a (one last)) in
    let meant_last : ℤ × Store → Result (ℤ × Store) Cause =
    λ right. Ok (unary_value operator right.0, right.1) in
    let goal_is : Result (ℤ × Store) Cause → Result Machine Cause → Type 0 =
    Related (Arrives names into free slots) in
    subst (goal_is (result_and_then (value_of setting operand store) meant_last))
    (sym (then_last setting a last (machine_at slots store)))
    (then_related (IsInSlot names from free slots) (Arrives names into free slots)
    (value_of setting operand store) (nodes_done setting a (machine_at slots store)) meant_last
    (inst_done setting.port last) (operand_runs setting operand run names true free store slots
    closed stands ready room_a) (λ given m is in_slot.
    subst (goal_is (meant_last given)) (sym (unary_step_done setting.port operator into from m))
    (unary_arrives names operator into from free slots given m in_slot)))

-- an item of the window that is looked at
peek_runs : (setting : Setting) (index : tree.Expr) → Runs setting index → Runs setting
    (tree.Peek index)
peek_runs setting index run names into free store slots closed stands ready room =
    let a = operand_nodes names true index free in
    let from = operand_slot names true index free in
    let last = act.Peek into from 0 in
    let room_a : nodes_room a ≤ length slots = omega (arith, nodes_room-before a (one last)) in
    let meant_last : ℤ × Store → Result (ℤ × Store) Cause =
    λ place. result_and_then (peeked_from setting.port place.0 place.1.traffic)
    (λ item. Ok (item, place.1)) in
    let goal_is : Result (ℤ × Store) Cause → Result Machine Cause → Type 0 =
    Related (Arrives names into free slots) in
    subst (goal_is (result_and_then (value_of setting index store) meant_last))
    (sym (then_last setting a last (machine_at slots store)))
    (then_related (IsInSlot names from free slots) (Arrives names into free slots)
    (value_of setting index store) (nodes_done setting a (machine_at slots store)) meant_last
    (inst_done setting.port last) (operand_runs setting index run names true free store slots closed
    stands ready room_a) (λ given m is in_slot.
    let done_is : inst_done setting.port last m ≡ result_and_then
    (peeked_from setting.port given.0 given.1.traffic) (λ item. Ok (slot_written m into item)) =
    ap (λ v. result_and_then (peeked_from setting.port v m.traffic)
    (λ item. Ok (slot_written m into item))) in_slot.value
    ∙ ap (λ t. result_and_then (peeked_from setting.port given.0 t)
    (λ item. Ok (slot_written m into item))) in_slot.traffic in
    subst (goal_is (meant_last given)) (sym done_is)
    (binary_arrives names into free slots given.1 m
    (peeked_from setting.port given.0 given.1.traffic) in_slot.traffic in_slot.names_are
    in_slot.holds in_slot.kept in_slot.size)))

-- a step of a variable, whose new value is the step's own
first_runs : (port : Port) (names : Scope) (name : List ℕ) (amount : ℤ) (into free : ℕ)
    (store : Store) (slots : List ℤ) → IsNamed names name → Ready names free store slots
    → total names ≤ length slots → let new = wrapped (value_in store name +ℤ amount) in
    Arrives names into free slots (new, assigned store name new)
    (slot_written (slot_written (machine_at slots store) (slot_of names name)
    (wrapped (at slots (slot_of names name) +ℤ amount))) into
    (slot_value (slot_written (machine_at slots store) (slot_of names name)
    (wrapped (at slots (slot_of names name) +ℤ amount))) (slot_of names name)))
first_runs port names name amount into free store slots named ready room =
    let slot = slot_of names name in
    let old = named_value names free store slots name ready named in
    let new = wrapped (value_in store name +ℤ amount) in
    let below = named_below names free store slots name ready named in
    let within : slot < length slots = omega arith in
    let few = total-variables names free store slots ready in
    let named' : IsNamed (scope_of store.variables) name =
    subst (λ n. IsNamed n name) (sym ready.names_are) named in
    let new_is : wrapped (at slots slot +ℤ amount) ≡ new = ap (λ v. wrapped (v +ℤ amount)) old in
    record {
      slots = set slots slot new;
      written =
          ap (λ v. slot_written (slot_written (machine_at slots store) slot v) into
          (slot_value (slot_written (machine_at slots store) slot v) slot)) new_is
          ∙ ap (λ v. record { slots = set (set slots slot new) into v; traffic = store.traffic })
          (get_or-set_same slots slot new (pos 0) within);
      names_are = scope_of-with_cell store.variables name 0 new ∙ ready.names_are;
      holds = subst (λ n. Holds (with_cell store.variables name 0 new)
          (set slots (slot_of n name) new)) ready.names_are
          (Holds-assigned store.variables slots name new (omega arith) ready.holds named');
      kept = λ k low high. let other : k ≢ slot = omega arith in
          get_or-set_other slots slot k new (pos 0) other;
      size = length-set slots slot new;
    }

-- a step of a variable, whose old value is the step's own and waits in the free slot
after_runs : (port : Port) (names : Scope) (name : List ℕ) (amount : ℤ) (into free : ℕ)
    (store : Store) (slots : List ℤ) → IsNamed names name → Ready names free store slots
    → free < length slots → let new = wrapped (value_in store name +ℤ amount) in let m1 =
    slot_written
    (machine_at
    slots store)
    free (at
    slots (slot_of names name)) in let m2 = slot_written m1 (slot_of names name)
    (wrapped (slot_value m1 (slot_of names name) +ℤ amount)) in Arrives names into free slots
    (value_in store name, assigned store name new)
    (slot_written m2 into (slot_value m2 free))
after_runs port names name amount into free store slots named ready room =
    let slot = slot_of names name in
    let old = value_in store name in
    let old_is : at slots slot ≡ old = named_value names free store slots name ready named in
    let new = wrapped (old +ℤ amount) in
    let above = ready.above in
    let roomy = ready.roomy in
    let below = named_below names free store slots name ready named in
    let few = total-variables names free store slots ready in
    let named' : IsNamed (scope_of store.variables) name =
    subst (λ n. IsNamed n name) (sym ready.names_are) named in
    let waiting = set slots free old in
    let apart : slot ≢ free = omega arith in
    let apart' : free ≢ slot = omega arith in
    let still : at waiting slot ≡ old = get_or-set_other slots free slot old (pos 0) apart
    ∙ old_is in
    let stepped = set waiting slot new in
    let waits : at stepped free ≡ old = get_or-set_other waiting slot free new (pos 0) apart'
    ∙ get_or-set_same slots free old (pos 0) room in
    let size1 = length-set slots free old in
    let m1 : ℤ → Machine = λ v. slot_written (machine_at slots store) free v in
    let m2 : Machine → ℤ → Machine = λ m v. slot_written m slot (wrapped (v +ℤ amount)) in
    record {
      slots = stepped;
      written =
          ap (λ v. slot_written (m2 (m1 v) (slot_value (m1 v) slot)) into
          (slot_value (m2 (m1 v) (slot_value (m1 v) slot)) free)) old_is
          ∙ ap (λ v. slot_written (m2 (m1 old) v) into (slot_value (m2 (m1 old) v) free)) still
          ∙ ap (λ v. record { slots = set stepped into v; traffic = store.traffic }) waits;
      names_are = scope_of-with_cell store.variables name 0 new ∙ ready.names_are;
      holds = subst (λ n. Holds (with_cell store.variables name 0 new)
          (set waiting (slot_of n name) new)) ready.names_are
          (Holds-assigned store.variables waiting name new (omega arith)
          (Holds-set_above store.variables slots free old (omega arith) ready.holds) named');
      kept = λ k low high.
          let other : k ≢ slot = omega arith in
          let other' : k ≢ free = omega arith in
          get_or-set_other waiting slot k new (pos 0) other
          ∙ get_or-set_other slots free k old (pos 0) other';
      size = length-set waiting slot new ∙ size1;
    }

step_runs : (setting : Setting) (operator : StepOperator) (name : List ℕ)
    → Runs setting (tree.Step operator name)
step_runs setting step.IncrementFirst name names into free store slots closed stands ready room =
    first_runs setting.port names name (pos 1) into free store slots closed ready ready.roomy
step_runs setting step.DecrementFirst name names into free store slots closed stands ready room =
    first_runs setting.port names name (neg_ℤ (pos 1)) into free store slots closed ready
    ready.roomy
step_runs setting step.IncrementAfter name names into free store slots closed stands ready room =
    let within : free < length slots = omega arith in
    after_runs setting.port names name (pos 1) into free store slots closed ready within
step_runs setting step.DecrementAfter name names into free store slots closed stands ready room =
    let within : free < length slots = omega arith in
    after_runs setting.port names name (neg_ℤ (pos 1)) into free store slots closed ready within

-- ---- choices

-- a value that is in a free slot, and is copied from there
copied_arrives : (names : Scope) (into slot free : ℕ) (before : List ℤ) (given : ℤ × Store)
    (m : Machine) → IsInSlot names slot free before given m
    → Arrives names into free before given (slot_written m into (slot_value m slot))
copied_arrives names into slot free before given m in_slot = record {
  slots = m.slots;
  written = ap (slot_written m into) in_slot.value
      ∙ ap (λ t. record { slots = set m.slots into given.0; traffic = t }) in_slot.traffic;
  names_are = in_slot.names_are;
  holds = in_slot.holds;
  kept = in_slot.kept;
  size = in_slot.size;
}

-- a value is where another was, if what is kept stays kept
in_slot_further : (names : Scope) (slot free : ℕ) (before between : List ℤ) (given : ℤ × Store)
    (m : Machine) → ((k : ℕ) → total names ≤ k → k < free → at between k ≡ at before k)
    → length between ≡ length before → IsInSlot names slot free between given m
    → IsInSlot names slot free before given m
in_slot_further names slot free before between given m kept size in_slot = record {
  traffic = in_slot.traffic;
  names_are = in_slot.names_are;
  holds = in_slot.holds;
  value = in_slot.value;
  kept = λ k low high. in_slot.kept k low high ∙ kept k low high;
  size = in_slot.size ∙ size;
}

arrives_further : (names : Scope) (into free : ℕ) (before between : List ℤ) (given : ℤ × Store)
    (m : Machine) → ((k : ℕ) → total names ≤ k → k < free → at between k ≡ at before k)
    → length between ≡ length before → Arrives names into free between given m
    → Arrives names into free before given m
arrives_further names into free before between given m kept size arrives = record {
  slots = arrives.slots;
  written = arrives.written;
  names_are = arrives.names_are;
  holds = arrives.holds;
  kept = λ k low high. arrives.kept k low high ∙ kept k low high;
  size = arrives.size ∙ size;
}

-- an expression's code, from where other code has led
runs_from : (setting : Setting) (e : tree.Expr) → Runs setting e
    → (names : Scope) (slot into free : ℕ) (before : List ℤ) (given : ℤ × Store) (m : Machine)
    → IsClosed names e → Stands setting names → total names ≤ free → total names ≤ length before
    → nodes_room (expr_nodes names e into free) ≤ length before
    → IsInSlot names slot free before given m
    → Related (Arrives names into free before) (value_of setting e given.1)
    (nodes_done setting (expr_nodes names e into free) m)
runs_from setting e run names slot into free before given m closed stands above roomy room in_slot =
    let size = in_slot.size in
    let fits : nodes_room (expr_nodes names e into free) ≤ length m.slots = omega arith in
    subst (λ n. Related (Arrives names into free before) (value_of setting e given.1)
    (nodes_done setting (expr_nodes names e into free) n))
    (sym (machine_is m given.1 in_slot.traffic))
    (weaker_related (Arrives names into free m.slots) (Arrives names into free before)
    (value_of setting e given.1) (nodes_done setting (expr_nodes names e into free)
    (machine_at m.slots given.1))
    (run names into free given.1 m.slots closed stands
    (in_slot_ready names slot free before given m above roomy in_slot) fits)
    (λ result after arrives. arrives_further names into free before m.slots result after
    in_slot.kept in_slot.size arrives))

-- a value that comes to a free slot, from where the left side's code has led
right_comes : (setting : Setting) (e : tree.Expr) → Runs setting e
    → (names : Scope) (free : ℕ) (before : List ℤ) (given : ℤ × Store) (m : Machine)
    → IsClosed names e → Stands setting names → total names ≤ free → total names ≤ length before
    → nodes_room (expr_nodes names e free (free + 1)) ≤ length before
    → IsInSlot names free free before given m
    → Related (IsInSlot names free free before) (value_of setting e given.1)
    (nodes_done setting (expr_nodes names e free (free + 1)) m)
right_comes setting e run names free before given m closed stands above roomy room in_slot =
    let size = in_slot.size in
    let fits : nodes_room (expr_nodes names e free (free + 1)) ≤ length m.slots = omega arith in
    subst (λ n. Related (IsInSlot names free free before) (value_of setting e given.1)
    (nodes_done setting (expr_nodes names e free (free + 1)) n))
    (sym (machine_is m given.1 in_slot.traffic))
    (weaker_related (IsInSlot names free free m.slots) (IsInSlot names free free before)
    (value_of setting e given.1) (nodes_done setting (expr_nodes names e free (free + 1))
    (machine_at m.slots given.1))
    (comes_to_free setting e run names free given.1 m.slots closed stands
    (in_slot_ready names free free before given m above roomy in_slot) fits)
    (λ result after there. in_slot_further names free free before m.slots result after in_slot.kept
    in_slot.size there))

-- the last step of a logical operator
logical_last : (setting : Setting) (names : Scope) (into free : ℕ) (slots : List ℤ)
    (x : Result (ℤ × Store) Cause) (y : Result Machine Cause)
    → Related (IsInSlot names free free slots) x y
    → Related (Arrives names into free slots) x
    (result_and_then y (nodes_done setting (one (act.Copy into free))))
logical_last setting names into free slots (Ok given) (Ok m) h =
    copied_arrives names into free free slots given m h
logical_last setting names into free slots (Ok given) (Err d) h = h
logical_last setting names into free slots (Err c) (Ok m) h = h
logical_last setting names into free slots (Err c) (Err d) h = h

-- a logical operator: the left side comes to a free slot, and where it is needed the right side
logical_runs : (setting : Setting) (left : tree.Expr) → Runs setting left
    → (meant : ℤ × Store → Result (ℤ × Store) Cause) (chosen other : Nodes) (names : Scope)
    (into free : ℕ) (store : Store) (slots : List ℤ) → IsClosed names left
    → Stands setting names → Ready names free store slots → nodes_room
    (before (expr_nodes names left free (free + 1))
    (Choice free chosen other (one (act.Copy into free)))) ≤ length slots
    → ((first : ℤ × Store) (m : Machine) → IsInSlot names free free slots first m
    → Related (IsInSlot names free free slots) (meant first)
    (chosen_by (is_true (slot_value m free)) (nodes_done setting chosen)
    (nodes_done setting other) m))
    → Related (Arrives names into free slots) (result_and_then (value_of setting left store) meant)
    (nodes_done setting (before (expr_nodes names left free (free + 1))
    (Choice free chosen other (one (act.Copy into free)))) (machine_at slots store))
logical_runs setting left run_left meant chosen other names into free store slots closed stands
    ready room go =
    let a = expr_nodes names left free (free + 1) in
    let b = Choice free chosen other (one (act.Copy into free)) in
    let room_a : nodes_room a ≤ length slots = omega (arith, nodes_room-before a b) in
    subst (Related (Arrives names into free slots)
    (result_and_then (value_of setting left store) meant))
    (sym (nodes_done-before setting a b (machine_at slots store)))
    (then_related (IsInSlot names free free slots) (Arrives names into free slots)
    (value_of setting left store) (nodes_done setting a (machine_at slots store)) meant
    (nodes_done setting b) (comes_to_free setting left run_left names free store slots closed
    stands ready room_a) (λ first m is in_slot.
    logical_last setting names into free slots (meant first)
    (chosen_by (is_true (slot_value m free)) (nodes_done setting chosen)
    (nodes_done setting other) m) (go first m in_slot)))

-- an operator between its operands
binary_runs : (setting : Setting) (operator : BinaryOperator) (left right : tree.Expr)
    → Runs setting left
    → Runs setting right → Runs setting (tree.Binary operator left right)
binary_runs setting operator left right run_left run_right =
    by_operator (λ o. Runs setting (tree.Binary o left right))
    (λ names into free store slots closed stands ready room.
    let a = expr_nodes names left free (free + 1) in
    let b = expr_nodes names right free (free + 1) in
    let room_b : nodes_room b ≤ length slots =
    omega (arith, nodes_room-before a (Choice free End b (one (act.Copy into free)))) in
    logical_runs setting left run_left
    (λ first. joined binary.LogicalOr first (value_of setting right))
    End b names into free store slots closed.0 stands ready room (λ first m in_slot.
    chosen_related (IsInSlot names free free slots) (is_true first.0) (is_true (slot_value m free))
    (Ok first) (value_of setting right first.1) (nodes_done setting End)
    (nodes_done setting b) m (ap is_true in_slot.value) in_slot
    (right_comes setting right run_right names free slots first m closed.1 stands ready.above
    ready.roomy room_b in_slot)))
    (λ names into free store slots closed stands ready room.
    let a = expr_nodes names left free (free + 1) in
    let b = expr_nodes names right free (free + 1) in
    let room_b : nodes_room b ≤ length slots =
    omega (arith, nodes_room-before a (Choice free b End (one (act.Copy into free)))) in
    logical_runs setting left run_left
    (λ first. joined binary.LogicalAnd first (value_of setting right))
    b End names into free store slots closed.0 stands ready room (λ first m in_slot.
    chosen_related (IsInSlot names free free slots) (is_true first.0) (is_true (slot_value m free))
    (value_of setting right first.1) (Ok first) (nodes_done setting b)
    (nodes_done setting End) m (ap is_true in_slot.value)
    (right_comes setting right run_right names free slots first m closed.1 stands ready.above
    ready.roomy room_b in_slot) in_slot))
    (λ o strict. strict_runs setting o strict left right run_left run_right)
    operator

-- one of two expressions
conditional_runs : (setting : Setting) (condition chosen other : tree.Expr) → Runs setting condition
    → Runs setting chosen → Runs setting other → Runs setting
    (tree.Conditional condition chosen other)
conditional_runs setting condition chosen other run run_chosen run_other names into free store slots
    closed stands ready room =
    let a = operand_nodes names true condition free in
    let slot = operand_slot names true condition free in
    let b = expr_nodes names chosen into free in
    let c = expr_nodes names other into free in
    let choice = Choice slot b c End in
    let room_a : nodes_room a ≤ length slots = omega (arith, nodes_room-before a choice) in
    let room_b : nodes_room b ≤ length slots = omega (arith, nodes_room-before a choice) in
    let room_c : nodes_room c ≤ length slots = omega (arith, nodes_room-before a choice) in
    let meant : ℤ × Store → Result (ℤ × Store) Cause =
    λ test. cond (is_true test.0) (value_of setting chosen test.1)
    (value_of setting other test.1) in
    subst (Related (Arrives names into free slots)
    (result_and_then (value_of setting condition store) meant))
    (sym (nodes_done-before setting a choice (machine_at slots store)))
    (then_related (IsInSlot names slot free slots) (Arrives names into free slots)
    (value_of setting condition store) (nodes_done setting a (machine_at slots store)) meant
    (nodes_done setting choice)
    (operand_runs setting condition run names true free store slots closed.0
    stands ready room_a) (λ test m is in_slot.
    subst (Related (Arrives names into free slots) (meant test))
    (sym (then_end setting (chosen_by (is_true (slot_value m slot)) (nodes_done setting b)
    (nodes_done setting c) m)))
    (chosen_related (Arrives names into free slots) (is_true test.0) (is_true (slot_value m slot))
    (value_of setting chosen test.1) (value_of setting other test.1) (nodes_done setting b)
    (nodes_done setting c) m (ap is_true in_slot.value)
    (runs_from setting chosen run_chosen names slot into free slots test m closed.1 stands
    ready.above ready.roomy room_b in_slot)
    (runs_from setting other run_other names slot into free slots test m closed.2 stands ready.above
    ready.roomy room_c in_slot))))

mutual
  -- every expression's code does what it means
  pub expr_runs : (setting : Setting) (e : tree.Expr) → Runs setting e
  expr_runs setting (tree.Number value) names into free store slots closed stands ready room =
      arrives_at_once names into free store slots value ready
  expr_runs setting (tree.Truth value) names into free store slots closed stands ready room =
      arrives_at_once names into free store slots (truth value) ready
  expr_runs setting (tree.Element name index) names into free store slots closed stands ready room =
      element_runs setting name index (expr_runs setting index) names into free store slots closed
      stands ready room
  expr_runs setting (tree.Peek index) names into free store slots closed stands ready room =
      peek_runs setting index (expr_runs setting index) names into free store slots closed stands
      ready room
  expr_runs setting (tree.Call name arguments) names into free store slots closed stands ready
      room =
      call_runs setting name arguments (arguments_run setting arguments) names into free store slots
      closed stands ready room
  expr_runs setting (tree.StepElement operator name index) names into free store slots closed stands
      ready room =
      step_element_runs setting operator name index
      (expr_runs setting index) names into free store slots closed stands ready room
  expr_runs setting (tree.Conditional condition chosen other) names into free store slots closed
      stands ready room =
      conditional_runs setting condition chosen other (expr_runs setting condition)
      (expr_runs setting chosen)
      (expr_runs setting other) names into free store slots closed stands ready room
  expr_runs setting (tree.Read name) names into free store slots closed stands ready room =
      subst (λ v. Related (Arrives names into free slots) (Ok (v, store))
      (Ok (slot_written (machine_at slots store) into (at slots (slot_of names name)))))
      (named_value names free store slots name ready closed)
      (arrives_at_once names into free store slots (at slots (slot_of names name)) ready)
  expr_runs setting tree.Pop names into free store slots closed stands ready room =
      pop_runs setting names into free store slots (popped_from setting.port store.traffic) ready
  expr_runs setting (tree.Group inner) names into free store slots closed stands ready room =
      expr_runs setting inner names into free store slots closed stands ready room
  expr_runs setting (tree.Unary operator operand) names into free store slots closed stands ready
      room =
      unary_runs setting operator operand (expr_runs setting operand) names into free store slots
      closed stands ready room
  expr_runs setting (tree.Step operator name) names into free store slots closed stands ready room =
      step_runs setting operator name names into free store slots closed stands ready room
  expr_runs setting (tree.Binary operator left right) names into free store slots closed stands
      ready room =
      binary_runs setting operator left right (expr_runs setting left)
      (expr_runs setting right) names into free store slots closed stands ready room

  -- and the code of arguments, one after another
  pub arguments_run : (setting : Setting) (arguments : tree.Arguments)
      → RunsArguments setting arguments
  arguments_run setting tree.NoArgument = no_argument_runs setting
  arguments_run setting (tree.Argument first rest) =
      argument_runs setting first rest (expr_runs setting first) (arguments_run setting rest)
