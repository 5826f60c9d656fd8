-- The code of a call does what it means.
use Rattle.std.proofs.Common.{◌≡◌, ℕ, zero, suc, ◌+◌, ◌-◌, ◌<◌, ◌≤◌, ℤ, pos, List, [], ◌∷◌, ◌++◌}
use Rattle.std.proofs.Common.{length, take, drop, set, Result, Ok, Err, refl, sym, ap, ◌∙◌, subst}
use Rattle.std.proofs.Common.{arith, length-append, append_assoc}
use Rattle.std.proofs.lemmas.List.{length-take-le, length-drop, get_or-drop}
use Rattle.std.proofs.lemmas.List.{get_or_append_left, get_or-append-add}
use Rattle.std.proofs.Math.Seq.{drop-cons}
use Rattle.strc_lex_names.specs.Results.{result_and_then}
use Rattle.strc_parse_tree.specs.Tree as tree
use Rattle.strc_work_meaning.specs.declared.fault.Cause.{Cause}
use Rattle.strc_work_meaning.specs.Scoping.{Scope, total}
use Rattle.strc_work_meaning.specs.Closed.{AreClosedArguments}
use Rattle.strc_work_meaning.specs.Firing.{Setting, Store, Called, Variables, value_of, values_of}
use Rattle.strc_work_meaning.specs.Firing.{arguments_given, fields_in, refilled, revalued}
use Rattle.strc_work_meaning.specs.Firing.{call_done}
use Rattle.strc_work_meaning.proofs.Calls.{length-refilled, scope_of-revalued, scope_of-outer}
use Rattle.strc_work_meaning.proofs.Calls.{scope_of-after_call}
use Rattle.strc_work_code.specs.Nodes.{Machine, End, Call, before, after_call, call_made}
use Rattle.strc_work_code.specs.Nodes.{nodes_done}
use Rattle.strc_work_code.specs.Nodes.{nodes_room}
use Rattle.strc_work_code.specs.Lowering.{expr_nodes, arguments_nodes}
use Rattle.strc_work_meaning.specs.Calls.{argument_count}
use Rattle.strc_work_code.proofs.Spelled.{nodes_room-before}
use Rattle.strc_work.proofs.Variables.{scope_of, at, Holds, Holds-drop, length-scope_of}
use Rattle.strc_work.proofs.Variables.{scope_of-drop, values-Holds}
use Rattle.strc_work.proofs.Standing.{Stands, total-drop, cells_below}
use Rattle.strc_work.proofs.Related.{Related, then_related, map_related}
use Rattle.strc_work.proofs.Related.{nodes_done-before, then_end}
use Rattle.strc_work.proofs.Expressions.{Arrives, IsInSlot, Ready, machine_at, machine_is, Runs}
use Rattle.strc_work.proofs.Expressions.{comes_to_free, expr_room}

-- ---- arguments

-- the machine is where the store is, with so many values in slots from `free` on
pub record AreInSlots (names : Scope) (free count : ℕ) (before : List ℤ) (given : List ℤ × Store)
    (after : Machine) : Type 0 where
  pub traffic : after.traffic ≡ given.1.traffic
  pub names_are : scope_of given.1.variables ≡ names
  pub holds : Holds given.1.variables after.slots
  pub values : take count (drop free after.slots) ≡ given.0
  pub kept : (k : ℕ) → total names ≤ k → k < free → at after.slots k ≡ at before k
  pub size : length after.slots ≡ length before

-- the code of arguments does what they mean
abbrev pub RunsArguments : Setting → tree.Arguments → Type 0
RunsArguments setting arguments = (names : Scope) (free : ℕ) (store : Store) (slots : List ℤ)
    → AreClosedArguments names arguments → Stands setting names → Ready names free store slots
    → nodes_room (arguments_nodes names arguments free) ≤ length slots
    → Related (AreInSlots names free (argument_count arguments) slots)
    (arguments_given setting arguments store)
    (nodes_done setting (arguments_nodes names arguments free) (machine_at slots store))

pub no_argument_runs : (setting : Setting) → RunsArguments setting tree.NoArgument
no_argument_runs setting names free store slots closed stands ready room = record {
  traffic = refl;
  names_are = ready.names_are;
  holds = ready.holds;
  values = refl;
  kept = λ k low high. refl;
  size = refl;
}

-- one value before others
more_in_slots : (names : Scope) (free count : ℕ) (before : List ℤ) (first : ℤ × Store)
    (m : Machine) (others : List ℤ × Store) (after : Machine) → total names ≤ free
    → free < length before → IsInSlot names free free before first m
    → AreInSlots names (free + 1) count m.slots others after
    → AreInSlots names free (suc count) before (first.0 ∷ others.0, others.1) after
more_in_slots names free count before first m others after above within one more =
    let size = one.size in
    let size' = more.size in
    let within' : free < length after.slots = omega (arith, size, size') in
    let next : suc free ≡ free + 1 = omega arith in
    record {
      traffic = more.traffic;
      names_are = more.names_are;
      holds = more.holds;
      values = ap (take (suc count)) (drop-cons after.slots free (pos 0) within')
          ∙ ap (λ v. v ∷ take count (drop (suc free) after.slots))
          (more.kept free above (omega arith) ∙ one.value)
          ∙ ap (λ n. first.0 ∷ take count (drop n after.slots)) next
          ∙ ap (λ l. first.0 ∷ l) more.values;
      kept = λ k low high. more.kept k low (omega arith) ∙ one.kept k low high;
      size = size' ∙ size;
    }

pub argument_runs : (setting : Setting) (first : tree.Expr) (rest : tree.Arguments)
    → Runs setting first → RunsArguments setting rest
    → RunsArguments setting (tree.Argument first rest)
argument_runs setting first rest run run_rest names free store slots closed stands ready room =
    let a = expr_nodes names first free (free + 1) in
    let b = arguments_nodes names rest (free + 1) in
    let count = argument_count rest in
    let room_a : nodes_room a ≤ length slots = omega (arith, nodes_room-before a b) in
    let room_b : nodes_room b ≤ length slots = omega (arith, nodes_room-before a b) in
    let within : free < length slots =
    omega (arith, expr_room names first free (free + 1) closed.0) in
    let above = ready.above in
    let roomy = ready.roomy in
    let meant : ℤ × Store → Result (List ℤ × Store) Cause =
    λ given. result_and_then (arguments_given setting rest given.1)
    (λ others. Ok (given.0 ∷ others.0, others.1)) in
    subst (Related (AreInSlots names free (suc count) slots)
    (result_and_then (value_of setting first store) meant))
    (sym (nodes_done-before setting a b (machine_at slots store)))
    (then_related (IsInSlot names free free slots) (AreInSlots names free (suc count) slots)
    (value_of setting first store) (nodes_done setting a (machine_at slots store)) meant
    (nodes_done setting b)
    (comes_to_free setting first run names free store slots closed.0 stands ready room_a)
    (λ given m is one.
    let size = one.size in
    let room_b' : nodes_room b ≤ length m.slots = omega (arith, size) in
    let ready' : Ready names (free + 1) given.1 m.slots =
    record {
      names_are = one.names_are;
      holds = one.holds;
      above = omega (arith, above);
      roomy = omega (arith, size, roomy);
    } in
    map_related (AreInSlots names (free + 1) count m.slots)
    (AreInSlots names free (suc count) slots) (λ others. (given.0 ∷ others.0, others.1))
    (arguments_given setting rest given.1) (nodes_done setting b m)
    (subst (λ n. Related (AreInSlots names (free + 1) count m.slots)
    (arguments_given setting rest given.1) (nodes_done setting b n))
    (sym (machine_is m given.1 one.traffic))
    (run_rest names (free + 1) given.1 m.slots closed.1 stands ready' room_b'))
    (λ others after more.
    more_in_slots names free count slots given m others after above within one more)))

-- ---- the fields' slots after a call

length-values_of : (variables : Variables)
    → length (values_of variables) ≡ total (scope_of variables)
length-values_of [] = refl
length-values_of (first ∷ rest) =
    omega (arith, length-append (values_of rest) first.1, length-values_of rest)

refilled-none : (cells : List ℤ) → refilled cells [] ≡ cells
refilled-none [] = refl
refilled-none (cell ∷ cells) = refl

refilled-append : (first second values : List ℤ) → refilled (first ++ second) values
    ≡ refilled first values ++ refilled second (drop (length first) values)
refilled-append [] second values = refl
refilled-append (cell ∷ cells) second [] =
    ap (λ l. cell ∷ cells ++ l) (sym (refilled-none second))
refilled-append (cell ∷ cells) second (value ∷ values) =
    ap (λ l. value ∷ l) (refilled-append cells second values)

-- variables with new values are in slots that begin with these
Holds-revalued : (variables : Variables) (values tail slots : List ℤ) → Holds variables slots
    → Holds (revalued variables values) (refilled (values_of variables) values ++ tail)
Holds-revalued [] values tail slots h = tt
Holds-revalued (first ∷ rest) values tail slots h =
    let outer = refilled (values_of rest) values in
    let inner = refilled first.1 (drop (length (values_of rest)) values) in
    let size = length-refilled first.1 (drop (length (values_of rest)) values) in
    let base_is : total (scope_of (revalued rest values)) ≡ length outer =
    ap total (scope_of-revalued rest values) ∙ sym (length-values_of rest)
    ∙ sym (length-refilled (values_of rest) values) in
    let slots_are : refilled (values_of rest ++ first.1) values ++ tail
    ≡ outer ++ (inner ++ tail) =
    ap (λ l. l ++ tail) (refilled-append (values_of rest) first.1 values)
    ∙ append_assoc outer inner tail in
    subst (Holds (revalued (first ∷ rest) values)) (sym slots_are) (
      omega (arith, size, h.0),
      λ k lt. ap (λ b. at (outer ++ (inner ++ tail)) (b + k)) base_is
          ∙ get_or-append-add outer (inner ++ tail) k (pos 0)
          ∙ get_or_append_left inner tail (pos 0) k lt,
      Holds-revalued rest values (inner ++ tail) slots h.2,
    )

-- where the outer variables alone get new values, the inner ones stay in their slots
Holds-outer : (n : ℕ) (variables : Variables) (values slots slots' : List ℤ)
    → Holds variables slots → Holds (revalued (drop n variables) values) slots'
    → ((k : ℕ) → total (scope_of (drop n variables)) ≤ k → at slots' k ≡ at slots k)
    → Holds (take n variables ++ revalued (drop n variables) values) slots'
Holds-outer zero variables values slots slots' h outer same = outer
Holds-outer (suc n) [] values slots slots' h outer same = outer
Holds-outer (suc n) (first ∷ rest) values slots slots' h outer same = (
  h.0,
  λ k lt. ap (λ b. at slots' (b + k)) (ap total (scope_of-outer n rest values))
      ∙ same (total (scope_of rest) + k)
      (omega (arith, ap total (scope_of-drop n rest), total-drop n (scope_of rest))) ∙ h.1 k lt,
  Holds-outer n rest values slots slots' h.2 outer same,
)

-- the slots of a machine after a call
abbrev refilled_slots : (cells : ℕ) (values slots : List ℤ) → List ℤ
refilled_slots cells values slots = refilled (take cells slots) values ++ drop cells slots

length-refilled_slots : (cells : ℕ) (values slots : List ℤ) → cells ≤ length slots
    → length (refilled_slots cells values slots) ≡ length slots
length-refilled_slots cells values slots room =
    omega (
      arith,
      length-append (refilled (take cells slots) values) (drop cells slots),
      length-refilled (take cells slots) values,
      length-take-le cells slots room,
      length-drop cells slots,
    )

-- those above the fields' stay
refilled_above : (cells : ℕ) (values slots : List ℤ) (k : ℕ) → cells ≤ length slots → cells ≤ k
    → at (refilled_slots cells values slots) k ≡ at slots k
refilled_above cells values slots k room above =
    let front = refilled (take cells slots) values in
    let j = k - cells in
    let size : length front ≡ cells =
    length-refilled (take cells slots) values ∙ length-take-le cells slots room in
    let k_is : cells + j ≡ k = omega (arith, above) in
    ap (at (refilled_slots cells values slots)) (sym k_is ∙ ap (λ n. n + j) (sym size))
    ∙ get_or-append-add front (drop cells slots) j (pos 0)
    ∙ get_or-drop cells slots j (pos 0) ∙ ap (at slots) k_is

-- ---- a call

-- the fields' variables have the setting's cells
pub fields_cells : (setting : Setting) (names : Scope) (variables : Variables)
    → scope_of variables ≡ names → Stands setting names
    → total (scope_of (fields_in setting variables)) ≡ setting.cells
fields_cells setting names variables names_are stands =
    let n = length variables - setting.fields in
    let n_is : n ≡ length names - setting.fields =
    ap (λ k. k - setting.fields) (sym (length-scope_of variables) ∙ ap length names_are) in
    ap total (scope_of-drop n variables)
    ∙ ap (λ l. total (drop n l)) names_are ∙ ap (λ k. total (drop k names)) n_is ∙ stands.cells

-- their values are the first slots
fields_held : (setting : Setting) (names : Scope) (variables : Variables) (slots : List ℤ)
    → scope_of variables ≡ names → Stands setting names → total names ≤ length slots
    → Holds variables slots
    → values_of (fields_in setting variables) ≡ take setting.cells slots
fields_held setting names variables slots names_are stands roomy h =
    let n = length variables - setting.fields in
    let few = fields_cells setting names variables names_are stands in
    let le = cells_below setting names stands in
    values-Holds (fields_in setting variables) slots (omega (arith, few, le))
    (Holds-drop variables slots n h) ∙ ap (λ k. take k slots) few

-- what a call gives leads the machine where it leads the store
call_arrives : (setting : Setting) (names : Scope) (into free count : ℕ) (before : List ℤ)
    (given : List ℤ × Store) (m : Machine) (r : Result Called Cause) → Stands setting names
    → total names ≤ length before → AreInSlots names free count before given m
    → Related (Arrives names into free before) (call_done setting r given.1)
    (result_and_then r (λ called. Ok (after_call setting into m called)))
call_arrives setting names into free count before given m (Ok called) stands roomy there =
    let variables = given.1.variables in
    let n = length variables - setting.fields in
    let slots = refilled_slots setting.cells called.fields m.slots in
    let size = there.size in
    let le = cells_below setting names stands in
    let room : setting.cells ≤ length m.slots = omega (arith, size, le, roomy) in
    let roomy' : total names ≤ length m.slots = omega (arith, size, roomy) in
    let held = fields_held setting names variables m.slots there.names_are stands roomy'
    there.holds in
    let few = fields_cells setting names variables there.names_are stands in
    let outer : Holds (revalued (drop n variables) called.fields) slots =
    subst (λ l. Holds (revalued (drop n variables) called.fields)
    (refilled l called.fields ++ drop setting.cells m.slots)) held
    (Holds-revalued (drop n variables) called.fields (drop setting.cells m.slots) m.slots
    (Holds-drop variables m.slots n there.holds)) in
    record {
      slots = slots;
      written = ap (λ t. record {
        slots = set slots into called.value;
        traffic = record t { turns = called.turns };
      }) there.traffic;
      names_are = scope_of-after_call setting given.1 called ∙ there.names_are;
      holds = Holds-outer n variables called.fields m.slots slots there.holds outer
          (λ k above. refilled_above setting.cells called.fields m.slots k room
          (omega (arith, above, few)));
      kept = λ k low high. refilled_above setting.cells called.fields m.slots k room
          (omega (arith, low, le)) ∙ there.kept k low high;
      size = length-refilled_slots setting.cells called.fields m.slots room ∙ size;
    }
call_arrives setting names into free count before given m (Err cause) stands roomy there = refl

-- a call, whose arguments are in slots
called_arrives : (setting : Setting) (name : List ℕ) (names : Scope) (into free count : ℕ)
    (before : List ℤ) (given : List ℤ × Store) (m : Machine) → Stands setting names
    → total names ≤ length before → AreInSlots names free count before given m
    → Related (Arrives names into free before)
    (call_done setting (setting.call name given.0
    (values_of (fields_in setting given.1.variables)) given.1.traffic.turns) given.1)
    (call_made setting name free count into m)
called_arrives setting name names into free count before given m stands roomy there =
    let size = there.size in
    let fields = values_of (fields_in setting given.1.variables) in
    let roomy' : total names ≤ length m.slots = omega (arith, size, roomy) in
    let held = fields_held setting names given.1.variables m.slots there.names_are stands roomy'
    there.holds in
    let call_is : setting.call name (take count (drop free m.slots)) (take setting.cells m.slots)
    m.traffic.turns ≡ setting.call name given.0 fields given.1.traffic.turns =
    ap (λ v. setting.call name v (take setting.cells m.slots) m.traffic.turns) there.values
    ∙ ap (λ l. setting.call name given.0 l m.traffic.turns) (sym held)
    ∙ ap (λ t. setting.call name given.0 fields t.turns) there.traffic in
    subst (λ r. Related (Arrives names into free before)
    (call_done setting (setting.call name given.0 fields given.1.traffic.turns) given.1)
    (result_and_then r (λ called. Ok (after_call setting into m called)))) (sym call_is)
    (call_arrives setting names into free count before given m
    (setting.call name given.0 fields given.1.traffic.turns) stands roomy there)

pub call_runs : (setting : Setting) (name : List ℕ) (arguments : tree.Arguments)
    → RunsArguments setting arguments → Runs setting (tree.Call name arguments)
call_runs setting name arguments run names into free store slots closed stands ready room =
    let a = arguments_nodes names arguments free in
    let count = argument_count arguments in
    let b = Call name free count into End in
    let room_a : nodes_room a ≤ length slots = omega (arith, nodes_room-before a b) in
    let meant : List ℤ × Store → Result (ℤ × Store) Cause =
    λ given. call_done setting (setting.call name given.0
    (values_of (fields_in setting given.1.variables)) given.1.traffic.turns) given.1 in
    subst (Related (Arrives names into free slots)
    (result_and_then (arguments_given setting arguments store) meant))
    (sym (nodes_done-before setting a b (machine_at slots store)))
    (then_related (AreInSlots names free count slots) (Arrives names into free slots)
    (arguments_given setting arguments store) (nodes_done setting a (machine_at slots store))
    meant (nodes_done setting b) (run names free store slots closed stands ready room_a)
    (λ given m is there.
    subst (Related (Arrives names into free slots) (meant given))
    (sym (then_end setting (call_made setting name free count into m)))
    (called_arrives setting name names into free count slots given m stands ready.roomy there)))
