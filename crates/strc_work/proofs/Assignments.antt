-- The code of assignments.
use Rattle.std.proofs.Common.{◌≡◌, ◌≢◌, ℕ, ◌+◌, ◌<◌, ◌≤◌, true, ℤ, pos, ◌+ℤ◌, List, length, set}
use Rattle.std.proofs.Common.{Option, Some, None, Result, Ok, Err, refl, sym, ap, ◌∙◌, subst, arith}
use Rattle.std.proofs.lemmas.List.{get_or-set_same, get_or-set_other, length-set}
use Rattle.strc_lex_names.specs.Results.{result_and_then}
use Rattle.strc_parse_tree.specs.Tree as tree
use Rattle.strc_parse_tree.specs.declared.tree.AssignOperator.{AssignOperator}
use Rattle.strc_parse_tree.specs.declared.tree.AssignOperator.TheVariants as assign
use Rattle.strc_parse_tree.specs.declared.tree.BinaryOperator.{BinaryOperator}
use Rattle.strc_parse_tree.specs.declared.tree.BinaryOperator.TheVariants as binary
use Rattle.strc_work_meaning.specs.declared.fault.Cause.{Cause}
use Rattle.strc_work_meaning.specs.declared.fault.Cause.TheVariants.{Index}
use Rattle.strc_work_code.specs.declared.inst.Inst.TheVariants as act
use Rattle.strc_work_meaning.specs.Arithmetic.{wrapped, binary_value}
use Rattle.strc_work_meaning.specs.Scoping.{Scope, total, slot_of, size_of}
use Rattle.strc_work_meaning.specs.Closed.{IsNamed, IsClosed}
use Rattle.strc_work_meaning.specs.Firing.{Setting, Store, cells_named, cell_in, value_in}
use Rattle.strc_work_meaning.specs.Firing.{with_cell}
use Rattle.strc_work_meaning.specs.Firing.{cell_set, assigned, assigned_value, place_in}
use Rattle.strc_work_meaning.specs.Firing.{tested_place}
use Rattle.strc_work_meaning.specs.Firing.{place_of, element_joined, element_set, value_of}
use Rattle.strc_work_code.specs.Nodes.{Machine, Act, before, slot_value, slot_written, inst_done}
use Rattle.strc_work_code.specs.Nodes.{nodes_done, nodes_room}
use Rattle.strc_work_code.specs.Lowering.{writes_no_variable, one, binary_step, operand_slot}
use Rattle.strc_work_code.specs.Lowering.{operand_nodes, compound_nodes, element_nodes}
use Rattle.strc_work.proofs.Variables.{scope_of, at, Holds, Holds-set_above, Holds-assigned}
use Rattle.strc_work.proofs.Variables.{scope_of-with_cell}
use Rattle.strc_work.proofs.Related.{Related, then_related, nodes_done-before, then_last}
use Rattle.strc_work_code.proofs.Spelled.{nodes_room-before}
use Rattle.strc_work.proofs.Standing.{Stands}
use Rattle.strc_work.proofs.Expressions.{Arrives, IsInSlot, Ready, machine_at, named_size}
use Rattle.strc_work.proofs.Expressions.{machine_is, named_cell, named_value, operand_runs}
use Rattle.strc_work.proofs.Elements.{place_within, same_place, operand_low, stored_holds}
use Rattle.strc_work.proofs.ExpressionRuns.{expr_runs, left_stays, binary_step_done}
use Rattle.strc_work.proofs.Reaching.{Reaches, RunsStmt, few}

-- ---- variables

-- a value in its variable's slot
pub assigned_reaches : (names : Scope) (name : List ℕ) (slots : List ℤ) (given : ℤ × Store)
    (after : Machine) → IsNamed names name → total names ≤ length slots
    → Arrives names (slot_of names name) (total names) slots given after
    → Reaches names (length slots) (assigned given.1 name given.0) after
assigned_reaches names name slots given after named roomy arrives =
    let variables = given.1.variables in
    let top = few names variables arrives.names_are in
    let size = arrives.size in
    let le : total (scope_of variables) ≤ length arrives.slots = omega arith in
    let named' : IsNamed (scope_of variables) name =
    subst (λ n. IsNamed n name) (sym arrives.names_are) named in
    subst (Reaches names (length slots) (assigned given.1 name given.0)) (sym arrives.written)
    (record {
      traffic = refl;
      names_are = scope_of-with_cell variables name 0 given.0 ∙ arrives.names_are;
      holds = subst (λ n. Holds (with_cell variables name 0 given.0)
          (set arrives.slots (slot_of n name) given.0)) arrives.names_are
          (Holds-assigned variables arrives.slots name given.0 le arrives.holds named');
      same = length-set arrives.slots (slot_of names name) given.0 ∙ size;
      roomy = roomy;
    })

-- a step of a variable whose value isn't used
pub stepped_reaches : (names : Scope) (name : List ℕ) (amount : ℤ) (store : Store) (slots : List ℤ)
    → IsNamed names name → Ready names (total names) store slots
    → Reaches names (length slots) (assigned store name (wrapped (value_in store name +ℤ amount)))
    (slot_written (machine_at slots store) (slot_of names name)
    (wrapped (at slots (slot_of names name) +ℤ amount)))
stepped_reaches names name amount store slots named ready =
    let slot = slot_of names name in
    let new = wrapped (value_in store name +ℤ amount) in
    let new_is : wrapped (at slots slot +ℤ amount) ≡ new =
    ap (λ v. wrapped (v +ℤ amount))
    (named_value names (total names) store slots name ready named) in
    let top = few names store.variables ready.names_are in
    let roomy = ready.roomy in
    let le : total (scope_of store.variables) ≤ length slots = omega arith in
    let named' : IsNamed (scope_of store.variables) name =
    subst (λ n. IsNamed n name) (sym ready.names_are) named in
    subst (λ v. Reaches names (length slots) (assigned store name new)
    (slot_written (machine_at slots store) slot v)) (sym new_is)
    (record {
      traffic = refl;
      names_are = scope_of-with_cell store.variables name 0 new ∙ ready.names_are;
      holds = subst (λ n. Holds (with_cell store.variables name 0 new)
          (set slots (slot_of n name) new)) ready.names_are
          (Holds-assigned store.variables slots name new le ready.holds named');
      same = length-set slots slot new;
      roomy = roomy;
    })

pub assigned_closed : (names : Scope) (name : List ℕ) (operator : AssignOperator)
    (value : tree.Expr) → IsNamed names name → IsClosed names value
    → IsClosed names (assigned_value name operator value)
assigned_closed names name assign.Set value named closed = closed
assigned_closed names name assign.Add value named closed = (named, closed)
assigned_closed names name assign.Subtract value named closed = (named, closed)
assigned_closed names name assign.Multiply value named closed = (named, closed)
assigned_closed names name assign.Divide value named closed = (named, closed)
assigned_closed names name assign.Remainder value named closed = (named, closed)

-- ---- elements

-- a value in a cell's slot
stored_reaches : (names : Scope) (name : List ℕ) (size : ℕ) (store : Store) (m : Machine)
    (place : ℕ) (value : ℤ) → IsNamed names name → total names ≤ size → m.traffic ≡ store.traffic
    → scope_of store.variables ≡ names → Holds store.variables m.slots → length m.slots ≡ size
    → place < size_of names name → Reaches names size (cell_set store name place value)
    (slot_written m (slot_of names name + place) value)
stored_reaches names name size store m place value named roomy traffic names_are holds same within =
    record {
      traffic = traffic;
      names_are = scope_of-with_cell store.variables name place value ∙ names_are;
      holds = stored_holds names name store m.slots place value
          (omega arith) names_are holds named within;
      same = length-set m.slots (slot_of names name + place) value ∙ same;
      roomy = roomy;
    }

set_by_place : (names : Scope) (name : List ℕ) (size slot free : ℕ) (before : List ℤ)
    (given : ℤ × Store) (m : Machine) (o : Option ℕ) → IsNamed names name → total names ≤ size
    → length before ≡ size → ((place : ℕ) → o ≡ Some place → place < size_of names name)
    → IsInSlot names slot free before given m
    → Related (Reaches names size) (result_and_then (tested_place o)
    (λ place. Ok (cell_set given.1 name place given.0)))
    (result_and_then (tested_place o) (λ place. Ok
    (slot_written m (slot_of names name + place) (slot_value m slot))))
set_by_place names name size slot free before given m None named roomy same below in_slot = refl
set_by_place names name size slot free before given m (Some place) named roomy same below in_slot =
    subst (λ v. Reaches names size (cell_set given.1 name place given.0)
    (slot_written m (slot_of names name + place) v)) (sym in_slot.value)
    (stored_reaches names name size given.1 m place given.0 named roomy in_slot.traffic
    in_slot.names_are in_slot.holds (in_slot.size ∙ same) (below place refl))

-- an element that gets a value, from where the index's code has led
set_goes_on : (setting : Setting) (name : List ℕ) (index value : tree.Expr) (names : Scope)
    (store : Store) (slots : List ℤ) (first : ℤ × Store) (m1 : Machine) → let from =
    operand_slot names
    (writes_no_variable
    value) index
    (total names) in
    IsNamed names name
    → IsClosed names
    index → IsClosed
    names value
    → Stands setting names → Ready names
    (total names) store
    slots → nodes_room
    (element_nodes names
    name from assign.Set
    value (total names
    + 1)) ≤ length slots
    → IsInSlot names
    from (total names)
    slots first m1
    → Related
    (Reaches names
    (length slots))
    (element_set setting
    name assign.Set
    value first)
    (nodes_done setting
    (element_nodes names
    name from assign.Set
    value (total names
    + 1)) m1)
set_goes_on setting name index value names store slots first m1 named closed closed' stands ready
    room in_slot1
    =
    let free = total names + 1 in
    let from = operand_slot names (writes_no_variable value) index (total names) in
    let base = slot_of names name in
    let c = operand_nodes names true value free in
    let at_value = operand_slot names true value free in
    let last = act.Store base (size_of names name) from at_value 0 in
    let room_c : nodes_room c ≤ length slots = omega (arith, nodes_room-before c (one last)) in
    let size1 = in_slot1.size in
    let roomy = ready.roomy in
    let ready1 : Ready names free first.1 m1.slots =
    record {
      names_are = in_slot1.names_are;
      holds = in_slot1.holds;
      above =
          omega arith;
      roomy = omega arith;
    } in
    let goal_is : Result Store Cause → Result Machine Cause → Type 0 =
    Related (Reaches names (length slots)) in
    let meant : ℤ × Store → Result Store Cause =
    λ given. result_and_then (place_of given.1 name first.0)
    (λ place. Ok (cell_set given.1 name place given.0)) in
    let steps_are : nodes_done setting (before c (one last)) m1
    ≡ result_and_then (nodes_done setting c (machine_at m1.slots first.1))
    (inst_done setting.port last) = then_last setting c last m1 ∙ ap
    (λ m. result_and_then (nodes_done setting c m) (inst_done setting.port last))
    (machine_is m1 first.1 in_slot1.traffic) in
    subst (goal_is (result_and_then (value_of setting value first.1) meant)) (sym steps_are)
    (then_related (IsInSlot names at_value free m1.slots) (Reaches names (length slots))
    (value_of setting value first.1) (nodes_done setting c (machine_at m1.slots first.1)) meant
    (inst_done setting.port last) (operand_runs setting value
    (expr_runs setting value) names true free first.1 m1.slots closed' stands ready1 (omega arith))
    (λ second m2 is in_slot2.
    let index_is = left_stays setting names index value
    (total names) store slots first second m1 m2 closed ready is in_slot1 in_slot2.holds
    in_slot2.kept in
    let o = place_in (length (cells_named second.1.variables name)) first.0 in
    let place_is = same_place names name second.1 m2.slots first.0 m2 from in_slot2.names_are
    in_slot2.holds named index_is in
    let stores : Option ℕ → Result Machine Cause =
    λ p. result_and_then (tested_place p)
    (λ place. Ok (slot_written m2 (base + place) (slot_value m2 at_value))) in
    subst (goal_is (meant second)) (sym (ap stores place_is))
    (set_by_place names name (length slots) at_value free m1.slots second m2 o named roomy size1
    (λ place e. place_within names name second.1 m2.slots first.0 place in_slot2.names_are
    in_slot2.holds named e) in_slot2)))

-- the value of a compound assignment, and its store
joined_by_result : (setting : Setting) (names : Scope) (name : List ℕ) (size from free place : ℕ)
    (index : ℤ) (store : Store) (m : Machine) (r : Result ℤ Cause) → IsNamed names name
    → total names ≤ size → m.traffic ≡ store.traffic → scope_of store.variables ≡ names
    → Holds store.variables m.slots → length m.slots ≡ size → total names ≤ free → from < free
    → free < size → place < size_of names name → slot_value m from ≡ index
    → place_in (size_of names name) index ≡ Some place
    → Related (Reaches names size) (result_and_then r (λ new. Ok (cell_set store name place new)))
    (result_and_then (result_and_then r (λ value. Ok (slot_written m free value)))
    (nodes_done setting (one (act.Store (slot_of names name) (size_of names name) from free 0))))
joined_by_result setting names name size from free place index store m
    (Err cause) named roomy traffic names_are holds same above low within lt index_is place_is =
    refl
joined_by_result setting names name size from free place index store m
    (Ok new) named roomy traffic names_are holds same above low within lt index_is place_is =
    let base = slot_of names name in
    let m3 = slot_written m free new in
    let top = few names store.variables names_are in
    let size3 = length-set m.slots free new in
    let apart : from ≢ free = omega arith in
    let fits : free < length m.slots = omega arith in
    let index3 : slot_value m3 from ≡ index =
    get_or-set_other m.slots free from new (pos 0) apart ∙ index_is in
    let new3 : slot_value m3 free ≡ new = get_or-set_same m.slots free new (pos 0) fits in
    let stores : Option ℕ → Result Machine Cause =
    λ o. result_and_then (result_and_then (tested_place o)
    (λ p. Ok (slot_written m3 (base + p) (slot_value m3 free)))) (λ m. Ok m) in
    let place3 : place_in (size_of names name) (slot_value m3 from) ≡ Some place =
    ap (place_in (size_of names name)) index3 ∙ place_is in
    let holds3 : Holds store.variables m3.slots =
    Holds-set_above store.variables m.slots free new (omega arith) holds in
    subst (Related (Reaches names size) (Ok (cell_set store name place new)))
    (sym (ap stores place3))
    (subst (λ v. Reaches names size (cell_set store name place new)
    (slot_written m3 (base + place) v)) (sym new3)
    (stored_reaches names name size store m3 place new named roomy traffic names_are holds3
    (size3 ∙ same) lt))

-- the same value is where it was after a write of another slot above the variables
in_slot_beside : (names : Scope) (slot free other : ℕ) (before : List ℤ) (given : ℤ × Store)
    (m : Machine) (value : ℤ) → total names ≤ free → free < other → slot ≤ free
    → IsInSlot names slot free before given m
    → IsInSlot names slot free before given (slot_written m other value)
in_slot_beside names slot free other before given m value above more low in_slot =
    let top = few names given.1.variables in_slot.names_are in
    let apart : slot ≢ other = omega arith in
    record {
      traffic = in_slot.traffic;
      names_are = in_slot.names_are;
      holds = Holds-set_above given.1.variables m.slots other value (omega arith) in_slot.holds;
      value = get_or-set_other m.slots other slot value (pos 0) apart ∙ in_slot.value;
      kept = λ k bottom high.
          let apart' : k ≢ other = omega arith in
          get_or-set_other m.slots other k value (pos 0) apart' ∙ in_slot.kept k bottom high;
      size = length-set m.slots other value ∙ in_slot.size;
    }

-- a compound assignment, from where the old value is in a free slot
joined_goes_on : (setting : Setting) (name : List ℕ) (operator : BinaryOperator)
    (index value : tree.Expr)
    (names : Scope) (store : Store) (slots : List ℤ) (first : ℤ × Store) (m1 : Machine) (place : ℕ)
    (old : ℤ) → let from = operand_slot names (writes_no_variable value) index (total names) in
    let free = total names + 1 in let c = operand_nodes names true value (free + 1) in
    let at_value = operand_slot names true value (free + 1) in let base = slot_of names name in
    let size = size_of names name in IsNamed names name → IsClosed names index
    → IsClosed names value → Stands setting names → Ready names (total names) store slots
    → nodes_room c ≤ length slots
    → free < length slots → place < size → place_in size first.0 ≡ Some place
    → slot_value m1 free ≡ old → IsInSlot names from (total names) slots first m1
    → Related (Reaches names (length slots))
    (result_and_then (value_of setting value first.1)
    (λ given. result_and_then (binary_value operator old given.0)
    (λ new. Ok (cell_set given.1 name place new))))
    (nodes_done setting (before c (Act (binary_step operator free free at_value)
    (one (act.Store base size from free 0)))) m1)
joined_goes_on setting name operator index value names store slots first m1 place old named closed
    closed' stands ready room_c within lt place_is old_is in_slot1 =
    let free = total names + 1 in
    let from = operand_slot names (writes_no_variable value) index (total names) in
    let c = operand_nodes names true value (free + 1) in
    let at_value = operand_slot names true value (free + 1) in
    let store_code = one (act.Store (slot_of names name) (size_of names name) from free 0) in
    let rest = Act (binary_step operator free free at_value) store_code in
    let size1 = in_slot1.size in
    let roomy = ready.roomy in
    let low = operand_low setting index names (writes_no_variable value)
    (total names) store slots closed ready in
    let ready1 : Ready names (free + 1) first.1 m1.slots =
    record {
      names_are = in_slot1.names_are;
      holds = in_slot1.holds;
      above =
          omega arith;
      roomy = omega arith;
    } in
    let goal_is : Result Store Cause → Result Machine Cause → Type 0 =
    Related (Reaches names (length slots)) in
    let meant : ℤ × Store → Result Store Cause =
    λ given. result_and_then (binary_value operator old given.0)
    (λ new. Ok (cell_set given.1 name place new)) in
    let steps_are : nodes_done setting (before c rest) m1
    ≡ result_and_then (nodes_done setting c (machine_at m1.slots first.1))
    (nodes_done setting rest) = nodes_done-before setting c rest m1
    ∙ ap (λ m. result_and_then (nodes_done setting c m) (nodes_done setting rest))
    (machine_is m1 first.1 in_slot1.traffic) in
    subst (goal_is (result_and_then (value_of setting value first.1) meant)) (sym steps_are)
    (then_related (IsInSlot names at_value (free + 1) m1.slots) (Reaches names (length slots))
    (value_of setting value first.1) (nodes_done setting c (machine_at m1.slots first.1)) meant
    (nodes_done setting rest) (operand_runs setting value (expr_runs setting value) names true
    (free + 1) first.1 m1.slots closed' stands ready1 (omega arith)) (λ second m2 is in_slot2.
    let index_is = left_stays setting names index value
    (total names) store slots first second m1 m2 closed ready is in_slot1 in_slot2.holds
    (λ k bottom high. in_slot2.kept k bottom (omega arith)) in
    let old2 : slot_value m2 free ≡ old = in_slot2.kept free (omega arith) (omega arith) ∙ old_is in
    let done_is : inst_done setting.port (binary_step operator free free at_value) m2
    ≡ result_and_then (binary_value operator old second.0) (λ v. Ok (slot_written m2 free v))
    =
    binary_step_done setting.port operator free free at_value m2
    ∙ ap (λ v. result_and_then (binary_value operator v (slot_value m2 at_value))
    (λ w. Ok (slot_written m2 free w))) old2
    ∙ ap (λ v. result_and_then (binary_value operator old v) (λ w. Ok (slot_written m2 free w)))
    in_slot2.value in
    subst (goal_is (meant second)) (sym (ap
    (λ r. result_and_then r (nodes_done setting store_code)) done_is))
    (joined_by_result setting names name (length slots) from free place first.0 second.1 m2
    (binary_value operator old second.0) named roomy in_slot2.traffic in_slot2.names_are
    in_slot2.holds (in_slot2.size ∙ size1) (omega arith)
    (omega arith) within lt index_is place_is)))

-- a compound assignment, from where the index's code has led
compound_by_place : (setting : Setting) (name : List ℕ) (operator : BinaryOperator)
    (index value : tree.Expr) (names : Scope) (store : Store) (slots : List ℤ) (first : ℤ × Store)
    (m1 : Machine) (o : Option ℕ) → let from =
    operand_slot names (writes_no_variable value) index
    (total names) in
    IsNamed names name → IsClosed names index
    → IsClosed names value
    → Stands setting names → Ready names (total names) store slots
    → nodes_room
    (compound_nodes names name from operator value
    (total names + 1)) ≤ length slots
    → ((place : ℕ) → o ≡ Some place
    → place < size_of names name)
    → place_in (size_of names name) first.0 ≡ o
    → IsInSlot names from (total names) slots first m1
    → Related (Reaches names (length slots))
    (result_and_then (tested_place o)
    (λ place. let old = cell_in first.1 name place in
    result_and_then (value_of setting value first.1)
    (λ given. result_and_then
    (binary_value operator old given.0)
    (λ new. Ok (cell_set given.1 name place new)))))
    (nodes_done setting
    (compound_nodes names name from operator value
    (total names + 1)) m1)
compound_by_place setting name operator index value names store slots first m1 None named closed
    closed' stands ready room below place_is in_slot1 =
    let free = total names + 1 in
    let from = operand_slot names (writes_no_variable value) index (total names) in
    let base = slot_of names name in
    let c = operand_nodes names true value (free + 1) in
    let at_value = operand_slot names true value (free + 1) in
    let rest = before c (Act (binary_step operator free free at_value)
    (one (act.Store base (size_of names name) from free 0))) in
    let loads : Option ℕ → Result Machine Cause =
    λ p. result_and_then (result_and_then (tested_place p)
    (λ place. Ok (slot_written m1 free (slot_value m1 (base + place)))))
    (nodes_done setting rest) in
    let found : place_in (size_of names name) (slot_value m1 from) ≡ None =
    ap (place_in (size_of names name)) in_slot1.value ∙ place_is in
    subst (Related (Reaches names (length slots)) (Err Index)) (sym (ap loads found)) refl
compound_by_place setting name operator index value names store slots first m1
    (Some place) named closed closed' stands ready room below place_is in_slot1 =
    let free = total names + 1 in
    let from = operand_slot names (writes_no_variable value) index (total names) in
    let base = slot_of names name in
    let c = operand_nodes names true value (free + 1) in
    let at_value = operand_slot names true value (free + 1) in
    let last = Act (binary_step operator free free at_value)
    (one (act.Store base (size_of names name) from free 0)) in
    let rest = before c last in
    let size1 = in_slot1.size in
    let room_c : nodes_room c ≤ length slots = omega (arith, nodes_room-before c last) in
    let within : free < length slots = omega arith in
    let within1 : free < length m1.slots = omega arith in
    let lt = below place refl in
    let old = cell_in first.1 name place in
    let old_is =
    named_cell names first.1 m1.slots name place in_slot1.names_are in_slot1.holds named
    lt in
    let low = operand_low setting index names (writes_no_variable value)
    (total names) store slots closed ready in
    let loads : Option ℕ → Result Machine Cause =
    λ p. result_and_then (result_and_then (tested_place p)
    (λ place. Ok (slot_written m1 free (slot_value m1 (base + place)))))
    (nodes_done setting rest) in
    let found : place_in (size_of names name) (slot_value m1 from) ≡ Some place =
    ap (place_in (size_of names name)) in_slot1.value ∙ place_is in
    let loaded : loads (Some place) ≡ nodes_done setting rest (slot_written m1 free old) =
    ap (λ v. nodes_done setting rest (slot_written m1 free v)) old_is in
    let meant : Result Store Cause = result_and_then (value_of setting value first.1)
    (λ given. result_and_then (binary_value operator old given.0)
    (λ new. Ok (cell_set given.1 name place new))) in
    let in_slot2 : IsInSlot names from (total names) slots first (slot_written m1 free old) =
    in_slot_beside names from (total names) free slots first m1 old (omega arith)
    (omega arith) low in_slot1 in
    subst (Related (Reaches names (length slots)) meant) (sym (ap loads found ∙ loaded))
    (joined_goes_on setting name operator index value names store slots first
    (slot_written m1 free old) place old named closed closed' stands ready room_c within lt place_is
    (get_or-set_same m1.slots free old (pos 0) within1) in_slot2)

compound_goes_on : (setting : Setting) (name : List ℕ) (operator : BinaryOperator)
    (index value : tree.Expr) (names : Scope) (store : Store) (slots : List ℤ) (first : ℤ × Store)
    (m1 : Machine) → let from = operand_slot names (writes_no_variable value) index (total names) in
    IsNamed names name → IsClosed names index → IsClosed names value
    → Stands setting names → Ready names (total names) store slots
    → nodes_room (compound_nodes names name from operator value (total names + 1)) ≤ length slots
    → IsInSlot names from (total names) slots first m1
    → Related (Reaches names (length slots)) (element_joined setting name operator value first)
    (nodes_done setting (compound_nodes names name from operator value (total names + 1)) m1)
compound_goes_on setting name operator index value names store slots first m1 named closed closed'
    stands ready room in_slot1 =
    let variables = first.1.variables in
    let o = place_in (length (cells_named variables name)) first.0 in
    let place_is : place_in (size_of names name) first.0 ≡ o =
    ap (λ n. place_in n first.0) (sym
    (named_size names variables m1.slots name in_slot1.names_are in_slot1.holds named)) in
    compound_by_place setting name operator index value names store slots first m1 o named closed
    closed' stands ready room (λ place e. place_within names name first.1 m1.slots first.0 place
    in_slot1.names_are in_slot1.holds named e) place_is in_slot1

element_goes_on : (setting : Setting) (name : List ℕ) (operator : AssignOperator)
    (index value : tree.Expr) (names : Scope) (store : Store) (slots : List ℤ) (first : ℤ × Store)
    (m1 : Machine) → let from = operand_slot names (writes_no_variable value) index (total names) in
    IsNamed names name → IsClosed names index → IsClosed names value
    → Stands setting names → Ready names (total names) store slots
    → nodes_room (element_nodes names name from operator value (total names + 1)) ≤ length slots
    → IsInSlot names from (total names) slots first m1
    → Related (Reaches names (length slots)) (element_set setting name operator value first)
    (nodes_done setting (element_nodes names name from operator value (total names + 1)) m1)
element_goes_on setting name assign.Set index value names store slots first m1 named closed closed'
    stands ready room in_slot =
    set_goes_on setting name index value names store slots first m1 named closed closed' stands
    ready room in_slot
element_goes_on setting name assign.Add index value names store slots first m1 named closed closed'
    stands ready room in_slot =
    compound_goes_on setting name binary.Add index value names store slots first m1 named closed
    closed' stands ready room in_slot
element_goes_on setting name assign.Subtract index value names store slots first m1 named closed
    closed' stands ready room in_slot =
    compound_goes_on setting name binary.Subtract index value names store slots first m1 named
    closed closed' stands ready room in_slot
element_goes_on setting name assign.Multiply index value names store slots first m1 named closed
    closed' stands ready room in_slot =
    compound_goes_on setting name binary.Multiply index value names store slots first m1 named
    closed closed' stands ready room in_slot
element_goes_on setting name assign.Divide index value names store slots first m1 named closed
    closed' stands ready room in_slot =
    compound_goes_on setting name binary.Divide index value names store slots first m1 named closed
    closed' stands ready room in_slot
element_goes_on setting name assign.Remainder index value names store slots first m1 named closed
    closed' stands ready room in_slot =
    compound_goes_on setting name binary.Remainder index value names store slots first m1 named
    closed closed' stands ready room in_slot

-- an assignment to an element
pub element_assigned : (setting : Setting) (name : List ℕ) (index : tree.Expr)
    (operator : AssignOperator)
    (value : tree.Expr) → RunsStmt setting (tree.AssignElement name index operator value)
element_assigned setting name index operator value names store slots runnable stands ready room =
    let may_alias = writes_no_variable value in
    let a = operand_nodes names may_alias index (total names) in
    let from = operand_slot names may_alias index (total names) in
    let b = element_nodes names name from operator value (total names + 1) in
    let room_a : nodes_room a ≤ length slots = omega (arith, nodes_room-before a b) in
    let room_b : nodes_room b ≤ length slots = omega (arith, nodes_room-before a b) in
    subst (Related (Reaches names (length slots))
    (result_and_then (value_of setting index store) (element_set setting name operator value)))
    (sym (nodes_done-before setting a b (machine_at slots store)))
    (then_related (IsInSlot names from (total names) slots) (Reaches names (length slots))
    (value_of setting index store) (nodes_done setting a (machine_at slots store))
    (element_set setting name operator value) (nodes_done setting b)
    (operand_runs setting index (expr_runs setting index) names may_alias
    (total names) store slots runnable.0.1 stands ready room_a) (λ first m1 is in_slot.
    element_goes_on setting name operator index value names store slots first m1 runnable.0.0
    runnable.0.1 runnable.0.2 stands ready room_b in_slot))
