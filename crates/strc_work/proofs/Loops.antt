-- Choices between statements, and loops.
use Rattle.std.proofs.Common.{◌≡◌, ℕ, zero, suc, ◌+◌, ◌<◌, ◌≤◌, Bool, true, false, cond, ℤ, pos}
use Rattle.std.proofs.Common.{List}
use Rattle.std.proofs.Common.{length, set, Option, Some, None, Result, Ok, Err, refl, sym, ap}
use Rattle.std.proofs.Common.{◌∙◌, subst, arith}
use Rattle.std.proofs.lemmas.List.{get_or-set_same, length-set}
use Rattle.strc_lex_names.specs.Results.{result_and_then}
use Rattle.strc_parse_tree.specs.Tree as tree
use Rattle.strc_work_meaning.specs.declared.fault.Cause.{Cause}
use Rattle.strc_work_meaning.specs.Arithmetic.{is_true}
use Rattle.strc_work_code.specs.declared.inst.Inst.TheVariants as act
use Rattle.strc_work_meaning.specs.Scoping.{Scope, answer_name, total, slot_of}
use Rattle.strc_work_meaning.specs.Closed.{IsNamed, IsClosed, IsClosedInitial}
use Rattle.strc_work_meaning.specs.Firing.{Setting, Store, Traffic, value_of, one_more_turn, turned}
use Rattle.strc_work_meaning.specs.Firing.{turn_limit, looped, condition_value, has_returned}
use Rattle.strc_work_meaning.specs.Firing.{test_unless_returned}
use Rattle.strc_work_code.specs.Nodes.{Machine, Nodes, End, Choice, Loop, before, slot_value}
use Rattle.strc_work_code.specs.Nodes.{turned_on, chosen_by, cycled, nodes_done, nodes_room}
use Rattle.strc_work_code.specs.Lowering.{one, expr_nodes, operand_slot, operand_nodes}
use Rattle.strc_work_code.specs.Lowering.{condition_nodes}
use Rattle.strc_work_code.specs.Lowering.{condition_slot, held_nodes, loop_test, loop_slot}
use Rattle.strc_work.proofs.Variables.{scope_of, Holds-set_above}
use Rattle.strc_work.proofs.Related.{Related, then_related, weaker_related, chosen_related}
use Rattle.strc_work.proofs.Related.{nodes_done-before, then_end}
use Rattle.strc_work_code.proofs.Spelled.{nodes_room-before}
use Rattle.strc_work.proofs.Standing.{Stands}
use Rattle.strc_work.proofs.Expressions.{Arrives, IsInSlot, Ready, machine_at, operand_runs}
use Rattle.strc_work.proofs.ExpressionRuns.{expr_runs}
use Rattle.strc_work.proofs.Reaching.{Reaches, few, empty_reaches, in_slot_reaches, answer_tested}

-- ---- choices

-- one of two pieces of code, by a condition's value
pub choice_runs : (setting : Setting) (condition : tree.Expr) (chosen other : Nodes)
    (does does' : Store → Result Store Cause) (names : Scope) (store : Store) (slots : List ℤ)
    → IsClosed names condition → Stands setting names → Ready names (total names) store slots
    → nodes_room (before (operand_nodes names true condition (total names))
    (Choice (operand_slot names true condition (total names)) chosen other End)) ≤ length slots
    → ((given : Store) (m : Machine) → Reaches names (length slots) given m
    → Related (Reaches names (length slots)) (does given) (nodes_done setting chosen m))
    → ((given : Store) (m : Machine) → Reaches names (length slots) given m
    → Related (Reaches names (length slots)) (does' given) (nodes_done setting other m))
    → Related (Reaches names (length slots))
    (result_and_then (value_of setting condition store)
    (λ test. cond (is_true test.0) (does test.1) (does' test.1)))
    (nodes_done setting (before (operand_nodes names true condition (total names))
    (Choice (operand_slot names true condition (total names)) chosen other End))
    (machine_at slots store))
choice_runs setting condition chosen other does does' names store slots closed stands ready room go
    go' =
    let free = total names in
    let a = operand_nodes names true condition free in
    let slot = operand_slot names true condition free in
    let choice = Choice slot chosen other End in
    let room_a : nodes_room a ≤ length slots = omega (arith, nodes_room-before a choice) in
    let meant : ℤ × Store → Result Store Cause =
    λ test. cond (is_true test.0) (does test.1) (does' test.1) in
    subst (Related (Reaches names (length slots))
    (result_and_then (value_of setting condition store) meant))
    (sym (nodes_done-before setting a choice (machine_at slots store)))
    (then_related (IsInSlot names slot free slots) (Reaches names (length slots))
    (value_of setting condition store) (nodes_done setting a (machine_at slots store)) meant
    (nodes_done setting choice) (operand_runs setting condition
    (expr_runs setting condition) names true free store slots closed stands ready room_a)
    (λ test m is in_slot.
    let reaches = in_slot_reaches names slot slots test m ready.roomy in_slot in
    subst (Related (Reaches names (length slots)) (meant test))
    (sym (then_end setting (chosen_by (is_true (slot_value m slot))
    (nodes_done setting chosen) (nodes_done setting other) m)))
    (chosen_related (Reaches names (length slots)) (is_true test.0) (is_true (slot_value m slot))
    (does test.1) (does' test.1) (nodes_done setting chosen) (nodes_done setting other) m
    (ap is_true in_slot.value) (go test.1 m reaches) (go' test.1 m reaches))))

-- ---- loops

-- a condition's value is in its slot
pub record Tested (names : Scope) (size slot : ℕ) (given : ℤ × Store) (after : Machine) : Type 0
  where
    pub reaches : Reaches names size given.1 after
    pub value : slot_value after slot ≡ given.0

-- a value in the first free slot
constant_tested : (names : Scope) (size : ℕ) (value : ℤ) (given : Store) (m : Machine)
    → Reaches names size given m → total names < size
    → Tested names size (total names) (value, given)
    (record { slots = set m.slots (total names) value; traffic = m.traffic })
constant_tested names size value given m reaches within =
    let same = reaches.same in
    let few_cells = few names given.variables reaches.names_are in
    let le : total (scope_of given.variables) ≤ total names = omega arith in
    let within' : total names < length m.slots = omega arith in
    record {
      reaches = record {
        traffic = reaches.traffic;
        names_are = reaches.names_are;
        holds = Holds-set_above given.variables m.slots (total names) value le reaches.holds;
        same = length-set m.slots (total names) value ∙ same;
        roomy = reaches.roomy;
      };
      value = get_or-set_same m.slots (total names) value (pos 0) within';
    }

test_runs : (setting : Setting) (condition : Option tree.Expr) (names : Scope) (store : Store)
    (slots : List ℤ) → IsClosedInitial names condition → Stands setting names
    → Ready names (total names) store slots
    → nodes_room (condition_nodes names condition) ≤ length slots
    → Related (Tested names (length slots) (condition_slot names condition))
    (condition_value setting condition store)
    (nodes_done setting (condition_nodes names condition) (machine_at slots store))
test_runs setting None names store slots closed stands ready room =
    constant_tested names (length slots) (pos 1) store (machine_at slots store)
    (empty_reaches names store slots ready) (omega arith)
test_runs setting (Some condition) names store slots closed stands ready room =
    let free = total names in
    let slot = operand_slot names true condition free in
    weaker_related (IsInSlot names slot free slots) (Tested names (length slots) slot)
    (value_of setting condition store)
    (nodes_done setting (operand_nodes names true condition free)
    (machine_at slots store)) (operand_runs setting condition
    (expr_runs setting condition) names true free store slots closed stands ready room)
    (λ test m in_slot. record {
      reaches = in_slot_reaches names slot slots test m ready.roomy in_slot;
      value =
          in_slot.value;
    })

-- the same, from where other code has led
pub test_goes_on : (setting : Setting) (condition : Option tree.Expr) (names : Scope) (size : ℕ)
    → IsClosedInitial names condition → Stands setting names
    → nodes_room (condition_nodes names condition) ≤ size
    → (given : Store) (m : Machine) → Reaches names size given m
    → Related (Tested names size (condition_slot names condition))
    (condition_value setting condition given)
    (nodes_done setting (condition_nodes names condition) m)
test_goes_on setting condition names size closed stands room given m reaches =
    let same = reaches.same in
    let roomy = reaches.roomy in
    let ready : Ready names (total names) given m.slots =
    record {
      names_are = reaches.names_are;
      holds = reaches.holds;
      above =
          omega arith;
      roomy = omega arith;
    } in
    let m_is : m ≡ machine_at m.slots given =
    ap (λ t. record { slots = m.slots; traffic = t }) reaches.traffic in
    subst (λ n. Related (Tested names size (condition_slot names condition))
    (condition_value setting condition given)
    (nodes_done setting (condition_nodes names condition) n)) (sym m_is)
    (subst (λ n. Related (Tested names n (condition_slot names condition))
    (condition_value setting condition given)
    (nodes_done setting (condition_nodes names condition) (machine_at m.slots given))) same
    (test_runs setting condition names given m.slots closed stands ready (omega arith)))

-- a value that is computed into the first free slot
arrived_tested : (names : Scope) (slots : List ℤ) (given : ℤ × Store) (after : Machine)
    → total names < length slots → Arrives names (total names) (total names + 1) slots given after
    → Tested names (length slots) (total names) given after
arrived_tested names slots given after within arrives =
    let size = arrives.size in
    let few_cells = few names given.1.variables arrives.names_are in
    let reaches : Reaches names (length slots) given.1
    (record { slots = arrives.slots; traffic = given.1.traffic }) =
    record {
      traffic = refl;
      names_are = arrives.names_are;
      holds = arrives.holds;
      same = size;
      roomy = omega arith;
    } in
    subst (Tested names (length slots) (total names) given) (sym arrives.written)
    (constant_tested names (length slots) given.0 given.1
    (record { slots = arrives.slots; traffic = given.1.traffic }) reaches within)

held_runs : (setting : Setting) (condition : Option tree.Expr) (names : Scope) (store : Store)
    (slots : List ℤ) → IsClosedInitial names condition → Stands setting names
    → Ready names (total names) store slots → total names < length slots
    → nodes_room (held_nodes names condition) ≤ length slots
    → Related (Tested names (length slots) (total names)) (condition_value setting condition store)
    (nodes_done setting (held_nodes names condition) (machine_at slots store))
held_runs setting None names store slots closed stands ready within room =
    constant_tested names (length slots) (pos 1) store (machine_at slots store)
    (empty_reaches names store slots ready) within
held_runs setting (Some condition) names store slots closed stands ready within room =
    let free = total names in
    let ready' : Ready names (free + 1) store slots =
    record {
      names_are = ready.names_are;
      holds = ready.holds;
      above = omega arith;
      roomy = ready.roomy;
    } in
    weaker_related (Arrives names free (free + 1) slots) (Tested names (length slots) free)
    (value_of setting condition store)
    (nodes_done setting (expr_nodes names condition free (free + 1)) (machine_at slots store))
    (expr_runs setting condition names free (free + 1) store slots closed stands ready' room)
    (λ given after arrives. arrived_tested names slots given after within arrives)

held_goes_on : (setting : Setting) (condition : Option tree.Expr) (names : Scope) (size : ℕ)
    → IsClosedInitial names condition → Stands setting names → total names < size
    → nodes_room (held_nodes names condition) ≤ size
    → (given : Store) (m : Machine) → Reaches names size given m
    → Related (Tested names size (total names)) (condition_value setting condition given)
    (nodes_done setting (held_nodes names condition) m)
held_goes_on setting condition names size closed stands within room given m reaches =
    let same = reaches.same in
    let ready : Ready names (total names) given m.slots =
    record {
      names_are = reaches.names_are;
      holds = reaches.holds;
      above = omega arith;
      roomy = omega arith;
    } in
    let m_is : m ≡ machine_at m.slots given =
    ap (λ t. record { slots = m.slots; traffic = t }) reaches.traffic in
    subst (λ n. Related (Tested names size (total names)) (condition_value setting condition given)
    (nodes_done setting (held_nodes names condition) n)) (sym m_is)
    (subst (λ n. Related (Tested names n (total names)) (condition_value setting condition given)
    (nodes_done setting (held_nodes names condition) (machine_at m.slots given))) same
    (held_runs setting condition names given m.slots closed stands ready (omega arith)
    (omega arith)))

-- the test of a loop, in whose body a `return` may stand
loop_test_runs : (setting : Setting) (returns : Bool) (condition : Option tree.Expr)
    (names : Scope) (size : ℕ) → IsClosedInitial names condition → Stands setting names
    → (returns ≡ true → IsNamed names answer_name)
    → nodes_room (loop_test names returns condition) ≤ size
    → loop_slot names returns condition + 1 ≤ size
    → (given : Store) (m : Machine) → Reaches names size given m
    → Related (Tested names size (loop_slot names returns condition))
    (test_unless_returned returns (condition_value setting condition) given)
    (nodes_done setting (loop_test names returns condition) m)
loop_test_runs setting false condition names size closed stands named room slot given m reaches =
    test_goes_on setting condition names size closed stands room given m reaches
loop_test_runs setting true condition names size closed stands named room slot given m reaches =
    let free = total names in
    let answer = slot_of names answer_name in
    let done = one (act.Const free (pos 0)) in
    let held = held_nodes names condition in
    let test : Result (ℤ × Store) Cause =
    cond (has_returned given) (Ok (pos 0, given)) (condition_value setting condition given) in
    subst (Related (Tested names size free) test)
    (sym (then_end setting (chosen_by (is_true (slot_value m answer)) (nodes_done setting done)
    (nodes_done setting held) m)))
    (chosen_related (Tested names size free) (has_returned given) (is_true (slot_value m answer))
    (Ok (pos 0, given)) (condition_value setting condition given) (nodes_done setting done)
    (nodes_done setting held) m (answer_tested names size given m reaches (named refl))
    (constant_tested names size (pos 0) given m reaches (omega arith))
    (held_goes_on setting condition names size closed stands (omega arith) (omega arith) given m
    reaches))

-- one more turn, on both sides
turn_by_result : (names : Scope) (size : ℕ) (given : Store) (m : Machine) (r : Result Traffic Cause)
    → Reaches names size given m → Related (Reaches names size)
    (result_and_then r (λ traffic. Ok (record given { traffic = traffic })))
    (result_and_then r (λ traffic. Ok (record m { traffic = traffic })))
turn_by_result names size given m (Ok traffic) reaches = record {
  traffic = refl;
  names_are = reaches.names_are;
  holds = reaches.holds;
  same = reaches.same;
  roomy = reaches.roomy;
}
turn_by_result names size given m (Err cause) reaches = refl

turn_reaches : (names : Scope) (size : ℕ) (given : Store) (m : Machine) → Reaches names size given m
    → Related (Reaches names size) (turned given) (turned_on m)
turn_reaches names size given m reaches =
    subst (λ t. Related (Reaches names size) (turned given)
    (result_and_then (one_more_turn t) (λ traffic. Ok (record m { traffic = traffic }))))
    (sym reaches.traffic)
    (turn_by_result names size given m (one_more_turn given.traffic) reaches)

-- one more turn of a loop, or its end
turn_by_test : (names : Scope) (size : ℕ) (t t' : Bool) → t' ≡ t
    → (given : Store) (m : Machine) (turns : Store → Result Store Cause)
    (turns' : Machine → Result Machine Cause) → Reaches names size given m
    → Related (Reaches names size) (turns given) (turns' m)
    → Related (Reaches names size) (cond t (turns given) (Ok given)) (cond t' (turns' m) (Ok m))
turn_by_test names size true true e given m turns turns' reaches h = h
turn_by_test names size false false e given m turns turns' reaches h = reaches
turn_by_test names size true false e given m turns turns' reaches h = absurd (cc)
turn_by_test names size false true e given m turns turns' reaches h = absurd (cc)

-- a loop, whose condition and body lead where they mean
pub loop_runs : (names : Scope) (size slot fuel : ℕ) (test : Store → Result (ℤ × Store) Cause)
    (body : Store → Result Store Cause) (test' body' : Machine → Result Machine Cause)
    → ((given : Store) (m : Machine) → Reaches names size given m
    → Related (Tested names size slot) (test given) (test' m))
    → ((given : Store) (m : Machine) → Reaches names size given m
    → Related (Reaches names size) (body given) (body' m)) → (given : Store) (m : Machine)
    → Reaches names size given m → Related (Reaches names size) (looped fuel test body given)
    (cycled fuel test' slot body' m)
loop_runs names size slot zero test body test' body' tests turns given m reaches = refl
loop_runs names size slot (suc fuel) test body test' body' tests turns given m reaches =
    let again : Store → Result Store Cause =
    λ store. result_and_then (turned store)
    (λ turning. result_and_then (body turning) (looped fuel test body)) in
    let again' : Machine → Result Machine Cause =
    λ machine. result_and_then (turned_on machine)
    (λ turning. result_and_then (body' turning) (cycled fuel test' slot body')) in
    then_related (Tested names size slot) (Reaches names size) (test given) (test' m)
    (λ tested. cond (is_true tested.0) (again tested.1) (Ok tested.1))
    (λ tested. cond (is_true (slot_value tested slot)) (again' tested) (Ok tested))
    (tests given m reaches) (λ tested m1 is tested1.
    turn_by_test names size (is_true tested.0) (is_true (slot_value m1 slot))
    (ap is_true tested1.value) tested.1 m1 again again' tested1.reaches
    (then_related (Reaches names size) (Reaches names size) (turned tested.1) (turned_on m1)
    (λ turning. result_and_then (body turning) (looped fuel test body))
    (λ turning. result_and_then (body' turning) (cycled fuel test' slot body'))
    (turn_reaches names size tested.1 m1 tested1.reaches) (λ turning m2 is2 reaches2.
    then_related (Reaches names size) (Reaches names size) (body turning) (body' m2)
    (looped fuel test body) (cycled fuel test' slot body') (turns turning m2 reaches2)
    (λ next m3 is3 reaches3.
    loop_runs names size slot fuel test body test' body' tests turns next m3 reaches3))))

-- the code of a loop
pub loop_nodes_run : (setting : Setting) (returns : Bool) (condition : Option tree.Expr)
    (code : Nodes) (body : Store → Result Store Cause) (names : Scope) (size : ℕ)
    → IsClosedInitial names condition → Stands setting names
    → (returns ≡ true → IsNamed names answer_name)
    → nodes_room (loop_test names returns condition) ≤ size
    → loop_slot names returns condition + 1 ≤ size
    → ((given : Store) (m : Machine) → Reaches names size given m
    → Related (Reaches names size) (body given) (nodes_done setting code m))
    → (given : Store) (m : Machine) → Reaches names size given m
    → Related (Reaches names size) (looped (suc turn_limit)
    (test_unless_returned returns (condition_value setting condition)) body given)
    (nodes_done setting (Loop (loop_test names returns condition)
    (loop_slot names returns condition) code End) m)
loop_nodes_run setting returns condition code body names size closed stands named room slot_room
    turns given m reaches =
    let slot = loop_slot names returns condition in
    let test = test_unless_returned returns (condition_value setting condition) in
    let test' = nodes_done setting (loop_test names returns condition) in
    subst (Related (Reaches names size) (looped (suc turn_limit) test body given))
    (sym (then_end setting (cycled (suc turn_limit) test' slot (nodes_done setting code)
    m))) (loop_runs names size slot (suc turn_limit) test body test'
    (nodes_done setting code) (loop_test_runs setting returns condition names size closed stands
    named room slot_room) turns given m reaches)
