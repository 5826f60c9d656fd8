-- The code of elements of arrays.
use Rattle.std.proofs.Common.{◌≡◌, ◌≢◌, ℕ, ◌+◌, ◌<◌, ◌≤◌, Bool, true, false, cond, ℤ, pos, negsuc}
use Rattle.std.proofs.Common.{◌+ℤ◌, List, length, set, Option, Some, None, Result, Ok, Err, refl}
use Rattle.std.proofs.Common.{sym, ap, ◌∙◌, subst, arith}
use Rattle.std.specs.Prelude.{unwrap_or, nat_lt}
use Rattle.std.proofs.lemmas.List.{get_or-set_same, get_or-set_other, length-set}
use Rattle.std.proofs.lemmas.Bool.{ltb-true}
use Rattle.strc_lex_names.specs.Results.{result_and_then}
use Rattle.strc_parse_tree.specs.Tree as tree
use Rattle.strc_parse_tree.specs.declared.tree.StepOperator.{StepOperator}
use Rattle.strc_parse_tree.specs.declared.tree.StepOperator.TheVariants as step
use Rattle.strc_work_meaning.specs.declared.fault.Cause.{Cause}
use Rattle.strc_work_meaning.specs.declared.fault.Cause.TheVariants.{Index}
use Rattle.strc_work_code.specs.declared.inst.Inst.TheVariants as act
use Rattle.strc_work_meaning.specs.Arithmetic.{wrapped}
use Rattle.strc_work_meaning.specs.Scoping.{Scope, total, slot_of, size_of}
use Rattle.strc_work_meaning.specs.Closed.{IsNamed, IsClosed}
use Rattle.strc_work_meaning.specs.Firing.{Setting, Store, cells_named, cell_in, with_cell}
use Rattle.strc_work_meaning.specs.Firing.{cell_set}
use Rattle.strc_work_meaning.specs.Firing.{place_in, tested_place, place_of, value_stepped}
use Rattle.strc_work_meaning.specs.Firing.{step_value}
use Rattle.strc_work_meaning.specs.Firing.{value_of}
use Rattle.strc_work_code.specs.Nodes.{Machine, Act, before, slot_value, slot_written, inst_done}
use Rattle.strc_work_code.specs.Nodes.{nodes_done, nodes_room}
use Rattle.strc_work_code.specs.Lowering.{alias_slot, one, step_amount, step_result}
use Rattle.strc_work_code.specs.Lowering.{element_step_nodes}
use Rattle.strc_work_code.specs.Lowering.{operand_slot, operand_nodes}
use Rattle.strc_work.proofs.Variables.{scope_of, Holds, Holds-set_above, Holds-with_cell}
use Rattle.strc_work.proofs.Variables.{scope_of-with_cell}
use Rattle.strc_work.proofs.Related.{Related, then_related, nodes_done-before, then_last}
use Rattle.strc_work_code.proofs.Spelled.{nodes_room-before}
use Rattle.strc_work.proofs.Expressions.{Arrives, IsInSlot, Ready, machine_at, Runs, named_slots}
use Rattle.strc_work.proofs.Expressions.{named_size, named_cell, variable_runs, aliased_slot}
use Rattle.strc_work.proofs.Expressions.{operand_runs}

-- ---- places

by_place_test : (k n place : ℕ) (t : Bool) → nat_lt k n ≡ t → cond t (Some k) None ≡ Some place
    → place < n
by_place_test k n place true test e = let is : k ≡ place = cc in
    subst (λ m. m < n) is (ltb-true k n test)
by_place_test k n place false test e = absurd (cc)

-- a place in an array is below its length
place_below : (n : ℕ) (index : ℤ) (place : ℕ) → place_in n index ≡ Some place → place < n
place_below n (pos k) place e = by_place_test k n place (nat_lt k n) refl e
place_below n (negsuc k) place e = absurd (cc)

-- and below the number of the variable's slots
pub place_within : (names : Scope) (name : List ℕ) (store : Store) (slots : List ℤ) (index : ℤ)
    (place : ℕ) → scope_of store.variables ≡ names → Holds store.variables slots
    → IsNamed names name → place_in (length (cells_named store.variables name)) index ≡ Some place
    → place < size_of names name
place_within names name store slots index place names_are holds named e =
    let size = named_size names store.variables slots name names_are holds named in
    let lt = place_below (length (cells_named store.variables name)) index place e in
    omega arith

-- the place that the machine finds is that of the text
pub same_place : (names : Scope) (name : List ℕ) (store : Store) (slots : List ℤ) (index : ℤ)
    (m : Machine) (from : ℕ) → scope_of store.variables ≡ names → Holds store.variables slots
    → IsNamed names name → slot_value m from ≡ index
    → place_in (size_of names name) (slot_value m from)
    ≡ place_in (length (cells_named store.variables name)) index
same_place names name store slots index m from names_are holds named value =
    ap (place_in (size_of names name)) value
    ∙ ap (λ n. place_in n index) (sym
    (named_size names store.variables slots name names_are holds named))

-- an operand is at or below the first free slot
pub operand_low : (setting : Setting) (e : tree.Expr) (names : Scope) (may_alias : Bool) (free : ℕ)
    (store : Store) (slots : List ℤ) → IsClosed names e → Ready names free store slots
    → operand_slot names may_alias e free ≤ free
operand_low setting e names may_alias free store slots closed ready =
    by_place (alias_slot names may_alias e)
    (λ slot is. (variable_runs setting e names free slot store slots
    (aliased_slot names may_alias e slot is).1 closed ready).1)
  where
    by_place : (o : Option ℕ) → ((slot : ℕ) → o ≡ Some slot → slot < total names)
        → unwrap_or o free ≤ free
    by_place None below = omega arith
    by_place (Some slot) below =
        let lt = below slot refl in
        let above = ready.above in
        omega arith

-- a cell that is written is in its slot
pub stored_holds : (names : Scope) (name : List ℕ) (store : Store) (slots : List ℤ) (place : ℕ)
    (value : ℤ) → total names ≤ length slots → scope_of store.variables ≡ names
    → Holds store.variables slots → IsNamed names name → place < size_of names name
    → Holds (with_cell store.variables name place value)
    (set slots (slot_of names name + place) value)
stored_holds names name store slots place value roomy names_are holds named within =
    let variables = store.variables in
    let same = ap total names_are in
    let named' : IsNamed (scope_of variables) name =
    subst (λ n. IsNamed n name) (sym names_are) named in
    let within' : place < size_of (scope_of variables) name =
    subst (λ n. place < size_of n name) (sym names_are) within in
    subst (λ n. Holds (with_cell variables name place value)
    (set slots (slot_of n name + place) value)) names_are
    (Holds-with_cell variables slots name place value (omega arith) holds named' within')

-- ---- an element that is read

load_arrives : (names : Scope) (name : List ℕ) (into from free : ℕ) (before : List ℤ)
    (given : ℤ × Store) (m : Machine) (o : Option ℕ) → IsNamed names name
    → ((place : ℕ) → o ≡ Some place → place < size_of names name)
    → IsInSlot names from free before given m
    → Related (Arrives names into free before)
    (result_and_then (tested_place o) (λ place. Ok (cell_in given.1 name place, given.1)))
    (result_and_then (tested_place o) (λ place. Ok
    (slot_written m into (slot_value m (slot_of names name + place)))))
load_arrives names name into from free before given m None named below in_slot = refl
load_arrives names name into from free before given m (Some place) named below in_slot =
    let value = named_cell names given.1 m.slots name place in_slot.names_are in_slot.holds named
    (below place refl) in
    record {
      slots = m.slots;
      written =
          ap (slot_written m into) value
          ∙ ap (λ t. record { slots = set m.slots into (cell_in given.1 name place); traffic = t })
          in_slot.traffic;
      names_are = in_slot.names_are;
      holds = in_slot.holds;
      kept = in_slot.kept;
      size = in_slot.size;
    }

pub element_runs : (setting : Setting) (name : List ℕ) (index : tree.Expr) → Runs setting index
    → Runs setting (tree.Element name index)
element_runs setting name index run names into free store slots closed stands ready room =
    let a = operand_nodes names true index free in
    let from = operand_slot names true index free in
    let base = slot_of names name in
    let last = act.Load into base (size_of names name) from 0 in
    let room_a : nodes_room a ≤ length slots = omega (arith, nodes_room-before a (one last)) in
    let meant_last : ℤ × Store → Result (ℤ × Store) Cause =
    λ given. result_and_then (place_of given.1 name given.0)
    (λ place. Ok (cell_in given.1 name place, given.1)) in
    let goal_is : Result (ℤ × Store) Cause → Result Machine Cause → Type 0 =
    Related (Arrives names into free slots) in
    subst (goal_is (result_and_then (value_of setting index store) meant_last))
    (sym (then_last setting a last (machine_at slots store)))
    (then_related (IsInSlot names from free slots) (Arrives names into free slots)
    (value_of setting index store) (nodes_done setting a (machine_at slots store)) meant_last
    (inst_done setting.port last) (operand_runs setting index run names true free store slots
    closed.1 stands ready room_a) (λ given m is in_slot.
    let o = place_in (length (cells_named given.1.variables name)) given.0 in
    let place_is = same_place names name given.1 m.slots given.0 m from in_slot.names_are
    in_slot.holds closed.0 in_slot.value in
    let loads : Option ℕ → Result Machine Cause =
    λ p. result_and_then (tested_place p)
    (λ place. Ok (slot_written m into (slot_value m (base + place)))) in
    subst (goal_is (meant_last given)) (sym (ap loads place_is))
    (load_arrives names name into from free slots given m o closed.0
    (λ place e. place_within names name given.1 m.slots given.0 place in_slot.names_are
    in_slot.holds closed.0 e) in_slot)))

-- ---- a step of an element

stepped_is : (operator : StepOperator) (value : ℤ)
    → value_stepped operator value ≡ wrapped (value +ℤ step_amount operator)
stepped_is step.IncrementFirst value = refl
stepped_is step.DecrementFirst value = refl
stepped_is step.IncrementAfter value = refl
stepped_is step.DecrementAfter value = refl

step_result_is : (operator : StepOperator) (m : Machine) (first second : ℕ) (old new : ℤ)
    → slot_value m first ≡ old → slot_value m second ≡ new
    → slot_value m (step_result operator first second) ≡ step_value operator old new
step_result_is step.IncrementFirst m first second old new e e' = e'
step_result_is step.DecrementFirst m first second old new e e' = e'
step_result_is step.IncrementAfter m first second old new e e' = e
step_result_is step.DecrementAfter m first second old new e e' = e

-- the machine after the steps that read an element, add to it and write it
abbrev pub stepped_machine : (m : Machine) (f slot : ℕ) (old new : ℤ) → Machine
stepped_machine m f slot old new = slot_written
    (slot_written (slot_written m f old) (f + 1) new) slot new

stepped_code : (setting : Setting) (operator : StepOperator) (base size from into f place : ℕ)
    (old new : ℤ) (m : Machine) → place_in size (slot_value m from) ≡ Some place
    → slot_value m (base + place) ≡ old → wrapped (old +ℤ step_amount operator) ≡ new
    → base + place < f → from < f → f + 1 < length m.slots
    → nodes_done setting (element_step_nodes operator base size from into f) m
    ≡ Ok (slot_written (stepped_machine m f (base + place) old new) into
    (step_value operator old new))
stepped_code setting operator base size from into f place old new m place_is old_is new_is below low
    room =
    let slots = m.slots in
    let amount = step_amount operator in
    let rest3 = one (act.Copy into (step_result operator f (f + 1))) in
    let rest2 = Act (act.Store base size from (f + 1) 0) rest3 in
    let rest1 = Act (act.AddConst (f + 1) f amount) rest2 in
    let m1 = slot_written m f old in
    let m2 = slot_written m1 (f + 1) new in
    let m3 = slot_written m2 (base + place) new in
    let size1 = length-set slots f old in
    let size2 = length-set m1.slots (f + 1) new in
    let within1 : f < length slots = omega arith in
    let within2 : f + 1 < length m1.slots = omega arith in
    let f_apart : f ≢ f + 1 = omega arith in
    let from_apart : from ≢ f = omega arith in
    let from_apart' : from ≢ f + 1 = omega arith in
    let slot_apart : f ≢ base + place = omega arith in
    let slot_apart' : f + 1 ≢ base + place = omega arith in
    let old1 : slot_value m1 f ≡ old = get_or-set_same slots f old (pos 0) within1 in
    let new2 : slot_value m2 (f + 1) ≡ new = get_or-set_same m1.slots (f + 1) new (pos 0) within2 in
    let old3 : slot_value m3 f ≡ old = get_or-set_other m2.slots (base + place) f new
    (pos 0) slot_apart ∙ get_or-set_other m1.slots (f + 1) f new (pos 0) f_apart ∙ old1 in
    let new3 : slot_value m3 (f + 1) ≡ new =
    get_or-set_other m2.slots (base + place) (f + 1) new (pos 0) slot_apart' ∙ new2 in
    let from2 : slot_value m2 from ≡ slot_value m from =
    get_or-set_other m1.slots (f + 1) from new (pos 0) from_apart'
    ∙ get_or-set_other slots f from old (pos 0) from_apart in
    let loads : Option ℕ → Result Machine Cause =
    λ o. result_and_then (result_and_then (tested_place o)
    (λ p. Ok (slot_written m f (slot_value m (base + p))))) (nodes_done setting rest1) in
    let stores : Option ℕ → Result Machine Cause =
    λ o. result_and_then (result_and_then (tested_place o)
    (λ p. Ok (slot_written m2 (base + p) (slot_value m2 (f + 1))))) (nodes_done setting rest3) in
    let adds : ℤ → Result Machine Cause = λ v. nodes_done setting rest2
    (slot_written m1 (f + 1) v) in
    let copies : ℤ → Result Machine Cause = λ v. Ok (slot_written m3 into v) in
    let step1 : nodes_done setting (element_step_nodes operator base size from into f) m
    ≡ loads (Some place) = ap loads place_is in
    let step2 : loads (Some place) ≡ nodes_done setting rest1 m1 =
    ap (λ v. nodes_done setting rest1 (slot_written m f v)) old_is in
    let step3 : nodes_done setting rest1 m1 ≡ nodes_done setting rest2 m2 =
    ap (λ v. adds (wrapped (v +ℤ amount))) old1 ∙ ap adds new_is in
    let step4 : nodes_done setting rest2 m2 ≡ stores (Some place) =
    ap stores (ap (place_in size) from2 ∙ place_is) in
    let step5 : stores (Some place) ≡ nodes_done setting rest3 m3 =
    ap (λ v. nodes_done setting rest3 (slot_written m2 (base + place) v)) new2 in
    let step6 : nodes_done setting rest3 m3 ≡ copies (step_value operator old new) =
    ap copies (step_result_is operator m3 f (f + 1) old new old3 new3) in
    step1 ∙ step2 ∙ step3 ∙ step4 ∙ step5 ∙ step6

step_element_arrives : (setting : Setting) (operator : StepOperator) (names : Scope) (name : List ℕ)
    (into from free : ℕ) (before : List ℤ) (given : ℤ × Store) (m : Machine) (o : Option ℕ)
    → IsNamed names name → total names ≤ free → total names ≤ length before → from ≤ free
    → free + 1 + 1 < length before → ((place : ℕ) → o ≡ Some place → place < size_of names name)
    → place_in (size_of names name) (slot_value m from) ≡ o
    → IsInSlot names from free before given m
    → Related (Arrives names into free before)
    (result_and_then (tested_place o) (λ place. let old = cell_in given.1 name place in let new =
    value_stepped operator old in Ok
    (step_value operator old new, cell_set given.1 name place new)))
    (nodes_done setting (element_step_nodes operator (slot_of names name) (size_of names name)
    from into (free + 1)) m)
step_element_arrives setting operator names name into from free before given m None named above
    roomy low room below place_is in_slot =
    let rest = Act (act.AddConst (free + 1 + 1) (free + 1) (step_amount operator))
    (Act (act.Store (slot_of names name) (size_of names name) from (free + 1 + 1) 0)
    (one (act.Copy into (step_result operator (free + 1) (free + 1 + 1))))) in
    let loads : Option ℕ → Result Machine Cause =
    λ o. result_and_then (result_and_then (tested_place o)
    (λ p. Ok (slot_written m (free + 1) (slot_value m (slot_of names name + p)))))
    (nodes_done setting rest) in
    subst (Related (Arrives names into free before) (Err Index)) (sym (ap loads place_is)) refl
step_element_arrives setting operator names name into from free before given m
    (Some place) named above roomy low room below place_is in_slot =
    let f = free + 1 in
    let base = slot_of names name in
    let slots = m.slots in
    let old = cell_in given.1 name place in
    let new = value_stepped operator old in
    let lt = below place refl in
    let under = named_slots names given.1.variables slots name in_slot.names_are in_slot.holds
    named in
    let old_is =
    named_cell names given.1 slots name place in_slot.names_are in_slot.holds named lt in
    let size = in_slot.size in
    let few = ap total in_slot.names_are in
    let slots1 = set slots f old in
    let slots2 = set slots1 (f + 1) new in
    let size1 = length-set slots f old in
    let size2 = length-set slots1 (f + 1) new in
    let size3 = length-set slots2 (base + place) new in
    let holds1 : Holds given.1.variables slots1 =
    Holds-set_above given.1.variables slots f old (omega arith) in_slot.holds in
    let holds2 : Holds given.1.variables slots2 =
    Holds-set_above given.1.variables slots1 (f + 1) new (omega arith) holds1 in
    let code_is = stepped_code setting operator base
    (size_of names name) from into f place old new m place_is old_is
    (sym (stepped_is operator old)) (omega arith) (omega arith) (omega arith) in
    subst (Related (Arrives names into free before)
    (Ok (step_value operator old new, cell_set given.1 name place new))) (sym code_is)
    (record {
      slots = set slots2 (base + place) new;
      written = ap (λ t. record {
        slots =
            set (set slots2 (base + place) new) into (step_value operator old new);
        traffic = t;
      })
          in_slot.traffic;
      names_are = scope_of-with_cell given.1.variables name place new ∙ in_slot.names_are;
      holds = stored_holds names name given.1 slots2 place new
          (omega arith) in_slot.names_are holds2 named lt;
      kept = λ k bottom top.
          let other : k ≢ base + place = omega arith in
          let other' : k ≢ f + 1 = omega arith in
          let other'' : k ≢ f = omega arith in
          get_or-set_other slots2 (base + place) k new (pos 0) other
          ∙ get_or-set_other slots1 (f + 1) k new (pos 0) other'
          ∙ get_or-set_other slots f k old (pos 0) other'' ∙ in_slot.kept k bottom top;
      size = size3 ∙ size2 ∙ size1 ∙ size;
    })

pub step_element_runs : (setting : Setting) (operator : StepOperator) (name : List ℕ)
    (index : tree.Expr)
    → Runs setting index → Runs setting (tree.StepElement operator name index)
step_element_runs setting operator name index run names into free store slots closed stands ready
    room =
    let a = operand_nodes names true index free in
    let from = operand_slot names true index free in
    let base = slot_of names name in
    let last = element_step_nodes operator base (size_of names name) from into (free + 1) in
    let room_a : nodes_room a ≤ length slots = omega (arith, nodes_room-before a last) in
    let room_last : free + 1 + 1 < length slots = omega (arith, nodes_room-before a last) in
    let meant_last : ℤ × Store → Result (ℤ × Store) Cause =
    λ given. result_and_then (place_of given.1 name given.0)
    (λ place. let old = cell_in given.1 name place in let new = value_stepped operator old in
    Ok (step_value operator old new, cell_set given.1 name place new)) in
    let goal_is : Result (ℤ × Store) Cause → Result Machine Cause → Type 0 =
    Related (Arrives names into free slots) in
    let low = operand_low setting index names true free store slots closed.1 ready in
    subst (goal_is (result_and_then (value_of setting index store) meant_last))
    (sym (nodes_done-before setting a last (machine_at slots store)))
    (then_related (IsInSlot names from free slots) (Arrives names into free slots)
    (value_of setting index store) (nodes_done setting a (machine_at slots store)) meant_last
    (nodes_done setting last) (operand_runs setting index run names true free store slots
    closed.1 stands ready room_a) (λ given m is in_slot.
    let o = place_in (length (cells_named given.1.variables name)) given.0 in
    let place_is = same_place names name given.1 m.slots given.0 m from in_slot.names_are
    in_slot.holds closed.0 in_slot.value in
    step_element_arrives setting operator names name into from free slots given m o closed.0
    ready.above ready.roomy low room_last
    (λ place e. place_within names name given.1 m.slots given.0 place in_slot.names_are
    in_slot.holds closed.0 e) place_is in_slot))
