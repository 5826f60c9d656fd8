-- The code of an expression puts its value into its slot.
use Rattle.std.proofs.Common.{◌≡◌, ◌≢◌, ℕ, ◌+◌, ◌<◌, ◌≤◌, Bool, true, false, ◌&&◌, cond, ℤ, pos}
use Rattle.std.proofs.Common.{List, length, set, Option, Some, None, Result, Ok, Err, refl, sym, ap}
use Rattle.std.proofs.Common.{◌∙◌, subst, arith}
use Rattle.std.specs.Prelude.{unwrap_or, if◌then◌else◌}
use Rattle.std.proofs.lemmas.List.{get_or-set_same, get_or-set_other, length-set}
use Rattle.std.proofs.lemmas.Bool.{false≢true}
use Rattle.strc_lex_names.specs.Results.{result_and_then}
use Rattle.strc_parse_tree.specs.Tree as tree
use Rattle.strc_parse_tree.specs.declared.tree.UnaryOperator.{UnaryOperator}
use Rattle.strc_parse_tree.specs.declared.tree.UnaryOperator.TheVariants as unary
use Rattle.strc_parse_tree.specs.declared.tree.BinaryOperator.{BinaryOperator}
use Rattle.strc_parse_tree.specs.declared.tree.BinaryOperator.TheVariants as binary
use Rattle.strc_parse_tree.specs.declared.tree.StepOperator.{StepOperator}
use Rattle.strc_parse_tree.specs.declared.tree.StepOperator.TheVariants as step
use Rattle.strc_work_meaning.specs.declared.fault.Cause.{Cause}
use Rattle.strc_work_code.specs.declared.inst.Inst.TheVariants as act
use Rattle.strc_work_meaning.specs.Arithmetic.{unary_value, binary_value, is_true}
use Rattle.strc_work_meaning.specs.Scoping.{Scope, total, slot_of, size_of}
use Rattle.strc_work_meaning.specs.Closed.{IsNamed, IsClosed}
use Rattle.strc_work_meaning.specs.Firing.{Port, Setting, Variables, Store, Traffic, cells_named}
use Rattle.strc_work_meaning.specs.Firing.{cell_in}
use Rattle.strc_work_meaning.specs.Firing.{value_in, place_in, tested_place, place_of, joined}
use Rattle.strc_work_meaning.specs.Firing.{value_of, popped_from, peeked_from}
use Rattle.strc_work_code.specs.Nodes.{Machine, Nodes, End, Choice, Call, before, nodes_done}
use Rattle.strc_work_code.specs.Nodes.{inst_room, nodes_room}
use Rattle.strc_work_code.specs.Lowering.{variable_slot, writes_no_variable, alias_slot}
use Rattle.strc_work_code.specs.Lowering.{unless_there}
use Rattle.strc_work_code.specs.Lowering.{one, unary_step, binary_step, step_nodes}
use Rattle.strc_work_code.specs.Lowering.{element_step_nodes}
use Rattle.strc_work_code.specs.Lowering.{binary_nodes, expr_nodes, arguments_nodes}
use Rattle.strc_work_meaning.specs.Calls.{argument_count}
use Rattle.strc_work_code.specs.Lowering.{operand_slot, operand_nodes}
use Rattle.strc_work.proofs.Variables.{scope_of, at, Holds, Holds-set_above, slot_of-below}
use Rattle.strc_work.proofs.Variables.{slot_of-value, size_of-some, size_of-is}
use Rattle.strc_work.proofs.Standing.{Stands}
use Rattle.strc_work.proofs.Related.{Related, weaker_related}
use Rattle.strc_work_code.proofs.Spelled.{nodes_room-before}

-- the machine is where the store is, with the value about to be written into a slot; the slots
-- from `total names` up to `free` are kept
pub record Arrives (names : Scope) (into free : ℕ) (before : List ℤ) (given : ℤ × Store)
    (after : Machine) : Type 0 where
  pub slots : List ℤ
  pub written : after ≡ record { slots = set slots into given.0; traffic = given.1.traffic }
  pub names_are : scope_of given.1.variables ≡ names
  pub holds : Holds given.1.variables slots
  pub kept : (k : ℕ) → total names ≤ k → k < free → at slots k ≡ at before k
  pub size : length slots ≡ length before

-- the machine is where the store is, with the value in a slot
pub record IsInSlot (names : Scope) (slot free : ℕ) (before : List ℤ) (given : ℤ × Store)
    (after : Machine) : Type 0 where
  pub traffic : after.traffic ≡ given.1.traffic
  pub names_are : scope_of given.1.variables ≡ names
  pub holds : Holds given.1.variables after.slots
  pub value : at after.slots slot ≡ given.0
  pub kept : (k : ℕ) → total names ≤ k → k < free → at after.slots k ≡ at before k
  pub size : length after.slots ≡ length before

-- the slots hold the store's variables, which have these names and are below the free ones
pub record Ready (names : Scope) (free : ℕ) (store : Store) (slots : List ℤ) : Type 0 where
  pub names_are : scope_of store.variables ≡ names
  pub holds : Holds store.variables slots
  pub above : total names ≤ free
  pub roomy : total names ≤ length slots

abbrev pub machine_at : List ℤ → Store → Machine
machine_at slots store = record { slots = slots; traffic = store.traffic }

-- an expression's code does what it means
abbrev pub Runs : Setting → tree.Expr → Type 0
Runs setting e = (names : Scope) (into free : ℕ) (store : Store) (slots : List ℤ) → IsClosed names e
    → Stands setting names → Ready names free store slots
    → nodes_room (expr_nodes names e into free) ≤ length slots
    → Related (Arrives names into free slots) (value_of setting e store)
    (nodes_done setting (expr_nodes names e into free) (machine_at slots store))

-- a named variable has a cell, and its slots are below the free ones
pub named_slots : (names : Scope) (variables : Variables) (slots : List ℤ) (name : List ℕ)
    → scope_of variables ≡ names → Holds variables slots → IsNamed names name
    → slot_of names name + size_of names name ≤ total names
named_slots names variables slots name names_are holds named =
    let named' : IsNamed (scope_of variables) name =
    subst (λ n. IsNamed n name) (sym names_are) named in
    subst (λ n. slot_of n name + size_of n name ≤ total n) names_are
    (slot_of-below variables slots name holds named')

pub named_some : (names : Scope) (variables : Variables) (slots : List ℤ) (name : List ℕ)
    → scope_of variables ≡ names → Holds variables slots → IsNamed names name
    → 1 ≤ size_of names name
named_some names variables slots name names_are holds named =
    let named' : IsNamed (scope_of variables) name =
    subst (λ n. IsNamed n name) (sym names_are) named in
    subst (λ n. 1 ≤ size_of n name) names_are (size_of-some variables slots name holds named')

-- as many slots as it has cells
pub named_size : (names : Scope) (variables : Variables) (slots : List ℤ) (name : List ℕ)
    → scope_of variables ≡ names → Holds variables slots → IsNamed names name
    → length (cells_named variables name) ≡ size_of names name
named_size names variables slots name names_are holds named =
    let named' : IsNamed (scope_of variables) name =
    subst (λ n. IsNamed n name) (sym names_are) named in
    subst (λ n. length (cells_named variables name) ≡ size_of n name) names_are
    (size_of-is variables slots name holds named')

-- the value of a cell
pub named_cell : (names : Scope) (store : Store) (slots : List ℤ) (name : List ℕ) (place : ℕ)
    → scope_of store.variables ≡ names → Holds store.variables slots → IsNamed names name
    → place < size_of names name → at slots (slot_of names name + place) ≡ cell_in store name place
named_cell names store slots name place names_are holds named within =
    let variables = store.variables in
    let named' : IsNamed (scope_of variables) name =
    subst (λ n. IsNamed n name) (sym names_are) named in
    let within' : place < size_of (scope_of variables) name =
    subst (λ n. place < size_of n name) (sym names_are) within in
    subst (λ n. at slots (slot_of n name + place) ≡ cell_in store name place) names_are
    (slot_of-value variables slots name place holds named' within')

-- a named variable's first slot
pub named_below : (names : Scope) (free : ℕ) (store : Store) (slots : List ℤ) (name : List ℕ)
    → Ready names free store slots → IsNamed names name → slot_of names name < total names
named_below names free store slots name ready named =
    let some = named_some names store.variables slots name ready.names_are ready.holds named in
    let below = named_slots names store.variables slots name ready.names_are ready.holds named in
    omega arith

pub named_value : (names : Scope) (free : ℕ) (store : Store) (slots : List ℤ) (name : List ℕ)
    → Ready names free store slots → IsNamed names name
    → at slots (slot_of names name) ≡ value_in store name
named_value names free store slots name ready named =
    let some = named_some names store.variables slots name ready.names_are ready.holds named in
    let e : slot_of names name ≡ slot_of names name + 0 = omega arith in
    ap (at slots) e ∙ named_cell names store slots name 0 ready.names_are ready.holds named
    (omega arith)

-- the variables have as many cells as their names say
pub total-variables : (names : Scope) (free : ℕ) (store : Store) (slots : List ℤ)
    → Ready names free store slots → total (scope_of store.variables) ≡ total names
total-variables names free store slots ready = ap total ready.names_are

-- an operator that evaluates both its sides
pub record Strict (operator : BinaryOperator) : Type 0 where
  pub code : (left right other : Nodes) (into free : ℕ)
      → binary_nodes operator left right other into free ≡ other
  pub value : (first : ℤ × Store) (right : Store → Result (ℤ × Store) Cause)
      → joined operator first right ≡ result_and_then (right first.1)
      (λ second. result_and_then (binary_value operator first.0 second.0) (λ v. Ok (v, second.1)))

-- an operator is a logical one, or evaluates both its sides
pub by_operator : (P : BinaryOperator → Type 0) → P binary.LogicalOr → P binary.LogicalAnd
    → ((operator : BinaryOperator) → Strict operator → P operator) → (operator : BinaryOperator)
    → P operator
by_operator P either both strict binary.LogicalOr = either
by_operator P either both strict binary.LogicalAnd = both
by_operator P either both strict binary.Or =
    strict binary.Or (record {
      code = λ left right other into free. refl;
      value =
          λ first right. refl;
    })
by_operator P either both strict binary.ExclusiveOr =
    strict binary.ExclusiveOr (record {
      code = λ left right other into free. refl;
      value =
          λ first right. refl;
    })
by_operator P either both strict binary.And =
    strict binary.And (record {
      code = λ left right other into free. refl;
      value =
          λ first right. refl;
    })
by_operator P either both strict binary.Equal =
    strict binary.Equal (record {
      code = λ left right other into free. refl;
      value =
          λ first right. refl;
    })
by_operator P either both strict binary.NotEqual =
    strict binary.NotEqual (record {
      code = λ left right other into free. refl;
      value =
          λ first right. refl;
    })
by_operator P either both strict binary.Less =
    strict binary.Less (record {
      code = λ left right other into free. refl;
      value =
          λ first right. refl;
    })
by_operator P either both strict binary.LessOrEqual =
    strict binary.LessOrEqual (record {
      code = λ left right other into free. refl;
      value =
          λ first right. refl;
    })
by_operator P either both strict binary.Greater =
    strict binary.Greater (record {
      code = λ left right other into free. refl;
      value =
          λ first right. refl;
    })
by_operator P either both strict binary.GreaterOrEqual =
    strict binary.GreaterOrEqual (record {
      code = λ left right other into free. refl;
      value =
          λ first right. refl;
    })
by_operator P either both strict binary.ShiftLeft =
    strict binary.ShiftLeft (record {
      code = λ left right other into free. refl;
      value =
          λ first right. refl;
    })
by_operator P either both strict binary.ShiftRight =
    strict binary.ShiftRight (record {
      code = λ left right other into free. refl;
      value =
          λ first right. refl;
    })
by_operator P either both strict binary.Add =
    strict binary.Add (record {
      code = λ left right other into free. refl;
      value =
          λ first right. refl;
    })
by_operator P either both strict binary.Subtract =
    strict binary.Subtract (record {
      code = λ left right other into free. refl;
      value =
          λ first right. refl;
    })
by_operator P either both strict binary.Multiply =
    strict binary.Multiply (record {
      code = λ left right other into free. refl;
      value =
          λ first right. refl;
    })
by_operator P either both strict binary.Divide =
    strict binary.Divide (record {
      code = λ left right other into free. refl;
      value =
          λ first right. refl;
    })
by_operator P either both strict binary.Remainder =
    strict binary.Remainder (record {
      code = λ left right other into free. refl;
      value =
          λ first right. refl;
    })

-- a variable, in brackets or not
pub variable_runs : (setting : Setting) (e : tree.Expr) (names : Scope) (free slot : ℕ)
    (store : Store) (slots : List ℤ) → variable_slot names e ≡ Some slot → IsClosed names e
    → Ready names free store slots → (value_of setting e store ≡ Ok (at slots slot, store))
    × (slot < total names)
variable_runs setting (tree.Number value) names free slot store slots is closed ready = absurd (cc)
variable_runs setting (tree.Read name) names free slot store slots is closed ready =
    let same : slot_of names name ≡ slot = cc in (
      ap (λ v. Ok (v, store)) (sym (named_value names free store slots name ready closed)
          ∙ ap (at slots) same),
      subst (λ n. n < total names) same (named_below names free store slots name ready closed),
    )
variable_runs setting tree.Pop names free slot store slots is closed ready = absurd (cc)
variable_runs setting (tree.Truth value) names free slot store slots is closed ready = absurd (cc)
variable_runs setting (tree.Element name index) names free slot store slots is closed ready =
    absurd (cc)
variable_runs setting (tree.Peek index) names free slot store slots is closed ready = absurd (cc)
variable_runs setting (tree.Call name arguments) names free slot store slots is closed ready =
    absurd (cc)
variable_runs setting (tree.StepElement operator name index) names free slot store slots is closed
    ready = absurd (cc)
variable_runs setting (tree.Conditional condition chosen other) names free slot store slots is
    closed
    ready = absurd (cc)
variable_runs setting (tree.Group inner) names free slot store slots is closed ready =
    variable_runs setting inner names free slot store slots is closed ready
variable_runs setting (tree.Unary operator operand) names free slot store slots is closed ready =
    absurd (cc)
variable_runs setting (tree.Step operator name) names free slot store slots is closed ready =
    absurd (cc)
variable_runs setting (tree.Binary operator left right) names free slot store slots is closed ready
    =
    absurd (cc)

-- a result that keeps the variables
abbrev pub Keeps : Variables → Result (ℤ × Store) Cause → Type 0
Keeps variables (Ok given) = given.1.variables ≡ variables
Keeps variables (Err cause) = Unit {0}

both_true : (a b : Bool) → a && b ≡ true → (a ≡ true) × (b ≡ true)
both_true true b e = (refl, e)
both_true false b e = absurd (false≢true e)

popped_keeps : (store : Store) (r : Result (ℤ × Traffic) Cause)
    → Keeps store.variables (result_and_then r
    (λ taken. Ok (taken.0, record store { traffic = taken.1 })))
popped_keeps store (Ok taken) = refl
popped_keeps store (Err cause) = tt

unary_keeps : (variables : Variables) (operator : UnaryOperator) (r : Result (ℤ × Store) Cause)
    → Keeps variables r → Keeps variables
    (result_and_then r (λ right. Ok (unary_value operator right.0, right.1)))
unary_keeps variables operator (Ok given) h = h
unary_keeps variables operator (Err cause) h = tt

last_keeps : (variables : Variables) (store : Store) (r : Result ℤ Cause)
    → store.variables ≡ variables → Keeps variables (result_and_then r (λ value. Ok (value, store)))
last_keeps variables store (Ok value) h = h
last_keeps variables store (Err cause) h = tt

right_keeps : (variables : Variables) (operator : BinaryOperator) (value : ℤ)
    (r : Result (ℤ × Store) Cause) → Keeps variables r
    → Keeps variables (result_and_then r (λ second. result_and_then
    (binary_value operator value second.0) (λ v. Ok (v, second.1))))
right_keeps variables operator value (Ok second) h =
    last_keeps variables second.1 (binary_value operator value second.0) h
right_keeps variables operator value (Err cause) h = tt

chosen_keeps : (variables : Variables) (t : Bool) (first second : Result (ℤ × Store) Cause)
    → Keeps variables first → Keeps variables second → Keeps variables (cond t first second)
chosen_keeps variables true first second h h' = h
chosen_keeps variables false first second h h' = h'

joined_keeps : (variables : Variables) (operator : BinaryOperator) (first : ℤ × Store)
    (right : Store → Result (ℤ × Store) Cause) → first.1.variables ≡ variables
    → Keeps variables (right first.1) → Keeps variables (joined operator first right)
joined_keeps variables operator first right h h' =
    by_operator (λ o. Keeps variables (joined o first right))
    (chosen_keeps variables (is_true first.0) (Ok first) (right first.1) h h')
    (chosen_keeps variables (is_true first.0) (right first.1) (Ok first) h' h) (λ o strict.
    subst (Keeps variables) (sym (strict.value first right))
    (right_keeps variables o first.0 (right first.1) h')) operator

left_keeps : (setting : Setting) (variables : Variables) (operator : BinaryOperator)
    (right : tree.Expr) (r : Result (ℤ × Store) Cause) → ((store : Store)
    → Keeps store.variables (value_of setting right store)) → Keeps variables r
    → Keeps variables (result_and_then r (λ first. joined operator first (value_of setting right)))
left_keeps setting variables operator right (Ok first) inside h =
    joined_keeps variables operator first (value_of setting right) h
    (subst (λ v. Keeps v (value_of setting right first.1)) h (inside first.1))
left_keeps setting variables operator right (Err cause) inside h = tt

test_keeps : (variables : Variables) (chosen other : Store → Result (ℤ × Store) Cause)
    (r : Result (ℤ × Store) Cause) → Keeps variables r
    → ((store : Store) → Keeps store.variables (chosen store))
    → ((store : Store) → Keeps store.variables (other store))
    → Keeps variables (result_and_then r (λ test. if is_true test.0 then chosen test.1
    else other test.1))
test_keeps variables chosen other (Ok test) h h' h'' =
    chosen_keeps variables (is_true test.0) (chosen test.1) (other test.1)
    (subst (λ v. Keeps v (chosen test.1)) h (h' test.1))
    (subst (λ v. Keeps v (other test.1)) h (h'' test.1))
test_keeps variables chosen other (Err cause) h h' h'' = tt

item_keeps : (variables : Variables) (store : Store) (r : Result ℤ Cause)
    → store.variables ≡ variables → Keeps variables (result_and_then r (λ item. Ok (item, store)))
item_keeps variables store (Ok item) h = h
item_keeps variables store (Err cause) h = tt

peek_keeps : (port : Port) (variables : Variables) (r : Result (ℤ × Store) Cause)
    → Keeps variables r → Keeps variables
    (result_and_then r (λ place. result_and_then (peeked_from port place.0 place.1.traffic)
    (λ item. Ok (item, place.1))))
peek_keeps port variables (Ok place) h = item_keeps variables place.1
    (peeked_from port place.0 place.1.traffic) h
peek_keeps port variables (Err cause) h = tt

element_by_place : (variables : Variables) (name : List ℕ) (given : ℤ × Store) (o : Option ℕ)
    → given.1.variables ≡ variables → Keeps variables
    (result_and_then (tested_place o) (λ place. Ok (cell_in given.1 name place, given.1)))
element_by_place variables name given None h = tt
element_by_place variables name given (Some place) h = h

element_keeps : (variables : Variables) (name : List ℕ) (r : Result (ℤ × Store) Cause)
    → Keeps variables r → Keeps variables
    (result_and_then r (λ given. result_and_then (place_of given.1 name given.0)
    (λ place. Ok (cell_in given.1 name place, given.1))))
element_keeps variables name (Ok given) h =
    element_by_place variables name given
    (place_in (length (cells_named given.1.variables name)) given.0) h
element_keeps variables name (Err cause) h = tt

pub keeps : (setting : Setting) (e : tree.Expr) → writes_no_variable e ≡ true → (store : Store)
    → Keeps store.variables (value_of setting e store)
keeps setting (tree.Number value) none store = refl
keeps setting (tree.Truth value) none store = refl
keeps setting (tree.Read name) none store = refl
keeps setting (tree.Element name index) none store =
    element_keeps store.variables name (value_of setting index store)
    (keeps setting index none store)
keeps setting (tree.Peek index) none store =
    peek_keeps setting.port store.variables (value_of setting index store)
    (keeps setting index none store)
keeps setting (tree.Call name arguments) none store = absurd (false≢true none)
keeps setting (tree.StepElement operator name index) none store = absurd (false≢true none)
keeps setting (tree.Conditional condition chosen other) none store =
    let both = both_true (writes_no_variable condition)
    (writes_no_variable chosen && writes_no_variable other) none in
    let sides = both_true (writes_no_variable chosen) (writes_no_variable other) both.1 in
    test_keeps store.variables (value_of setting chosen) (value_of setting other)
    (value_of setting condition store) (keeps setting condition both.0 store)
    (keeps setting chosen sides.0) (keeps setting other sides.1)
keeps setting tree.Pop none store = popped_keeps store (popped_from setting.port store.traffic)
keeps setting (tree.Group inner) none store = keeps setting inner none store
keeps setting (tree.Unary operator operand) none store =
    unary_keeps store.variables operator (value_of setting operand store)
    (keeps setting operand none store)
keeps setting (tree.Step operator name) none store = absurd (false≢true none)
keeps setting (tree.Binary operator left right) none store =
    let both = both_true (writes_no_variable left) (writes_no_variable right) none in
    left_keeps setting store.variables operator right (value_of setting left store)
    (keeps setting right both.1) (keeps setting left both.0 store)

-- the slot that an expression's code writes is one of those that it needs
pub unary_room : (operator : UnaryOperator) (into from : ℕ)
    → into + 1 ≤ inst_room (unary_step operator into from)
unary_room unary.Negate into from = omega arith
unary_room unary.Not into from = omega arith
unary_room unary.Complement into from = omega arith

pub binary_room : (operator : BinaryOperator) (into left right : ℕ)
    → into + 1 ≤ inst_room (binary_step operator into left right)
binary_room binary.LogicalOr into left right = omega arith
binary_room binary.LogicalAnd into left right = omega arith
binary_room binary.Equal into left right = omega arith
binary_room binary.NotEqual into left right = omega arith
binary_room binary.Less into left right = omega arith
binary_room binary.LessOrEqual into left right = omega arith
binary_room binary.Greater into left right = omega arith
binary_room binary.GreaterOrEqual into left right = omega arith
binary_room binary.Or into left right = omega arith
binary_room binary.ExclusiveOr into left right = omega arith
binary_room binary.And into left right = omega arith
binary_room binary.ShiftLeft into left right = omega arith
binary_room binary.ShiftRight into left right = omega arith
binary_room binary.Add into left right = omega arith
binary_room binary.Subtract into left right = omega arith
binary_room binary.Multiply into left right = omega arith
binary_room binary.Divide into left right = omega arith
binary_room binary.Remainder into left right = omega arith

step_room_into : (operator : StepOperator) (slot into free : ℕ)
    → into + 1 ≤ nodes_room (step_nodes operator slot into free)
step_room_into step.IncrementFirst slot into free = omega arith
step_room_into step.DecrementFirst slot into free = omega arith
step_room_into step.IncrementAfter slot into free = omega arith
step_room_into step.DecrementAfter slot into free = omega arith

binary_nodes_room : (operator : BinaryOperator) (left right first second : Nodes)
    (into free at_left at_right : ℕ) → into + 1
    ≤ nodes_room (binary_nodes operator left right
    (before first (before second (one (binary_step operator into at_left at_right)))) into free)
binary_nodes_room operator left right first second into free at_left at_right =
    by_operator (λ o. into + 1 ≤ nodes_room
    (binary_nodes o left right (before first
    (before second (one (binary_step o into at_left at_right)))) into free))
    (omega (arith, nodes_room-before left (Choice free End right (one (act.Copy into free)))))
    (omega (arith, nodes_room-before left (Choice free right End (one (act.Copy into free)))))
    (λ o strict.
    subst (λ n. into + 1 ≤ nodes_room n) (sym
    (strict.code left right (before first
    (before second (one (binary_step o into at_left at_right)))) into free))
    (omega (
      arith,
      nodes_room-before first
          (before second (one (binary_step o into at_left at_right))),
      nodes_room-before second (one (binary_step o into at_left at_right)),
      binary_room o into at_left at_right,
    )))
    operator

pub expr_room : (names : Scope) (e : tree.Expr) (into free : ℕ) → IsClosed names e
    → into + 1 ≤ nodes_room (expr_nodes names e into free)
expr_room names (tree.Number value) into free closed = omega arith
expr_room names (tree.Truth value) into free closed = omega arith
expr_room names (tree.Read name) into free closed = omega arith
expr_room names (tree.Element name index) into free closed =
    let slot = unwrap_or (variable_slot names index) free in
    let last = one (act.Load into (slot_of names name) (size_of names name) slot 0) in
    omega (
      arith,
      nodes_room-before (unless_there (variable_slot names index)
          (expr_nodes names index free (free + 1))) last,
    )
expr_room names tree.Pop into free closed = omega arith
expr_room names (tree.Call name arguments) into free closed =
    omega (
      arith,
      nodes_room-before (arguments_nodes names arguments free)
          (Call name free (argument_count arguments) into End),
    )
expr_room names (tree.Peek index) into free closed =
    let slot = unwrap_or (variable_slot names index) free in
    omega (
      arith,
      nodes_room-before (unless_there (variable_slot names index)
          (expr_nodes names index free (free + 1))) (one (act.Peek into slot 0)),
    )
expr_room names (tree.Group inner) into free closed = expr_room names inner into free closed
expr_room names (tree.Unary operator operand) into free closed =
    let slot = unwrap_or (variable_slot names operand) free in
    omega (
      arith,
      nodes_room-before (unless_there (variable_slot names operand)
          (expr_nodes names operand free (free + 1))) (one (unary_step operator into slot)),
      unary_room operator into slot,
    )
expr_room names (tree.Step operator name) into free closed =
    step_room_into operator (slot_of names name) into free
expr_room names (tree.StepElement operator name index) into free closed =
    let slot = unwrap_or (variable_slot names index) free in
    let last = element_step_nodes operator (slot_of names name) (size_of names name) slot into
    (free + 1) in
    omega (
      arith,
      nodes_room-before (unless_there (variable_slot names index)
          (expr_nodes names index free (free + 1))) last,
    )
expr_room names (tree.Binary operator left right) into free closed =
    binary_nodes_room operator (expr_nodes names left free (free + 1))
    (expr_nodes names right free (free + 1))
    (unless_there (alias_slot names (writes_no_variable right) left)
    (expr_nodes names left free (free + 1)))
    (unless_there (variable_slot names right) (expr_nodes names right (free + 1) (free + 1 + 1)))
    into free (unwrap_or (alias_slot names (writes_no_variable right) left) free)
    (unwrap_or (variable_slot names right) (free + 1))
expr_room names (tree.Conditional condition chosen other) into free closed =
    let a = unless_there (variable_slot names condition)
    (expr_nodes names condition free (free + 1)) in
    let slot = unwrap_or (variable_slot names condition) free in
    omega (
      arith,
      nodes_room-before a (Choice slot (expr_nodes names chosen into free)
          (expr_nodes names other into free) End),
      expr_room names chosen into free closed.1,
    )

-- an operand in its variable's slot
pub aliased_slot : (names : Scope) (may_alias : Bool) (e : tree.Expr) (slot : ℕ)
    → alias_slot names may_alias e ≡ Some slot
    → (may_alias ≡ true) × (variable_slot names e ≡ Some slot)
aliased_slot names true e slot is = (refl, is)
aliased_slot names false e slot is = absurd (cc)

-- a value that was written into a free slot is there
pub arrived_in_slot : (names : Scope) (slot : ℕ) (before : List ℤ) (given : ℤ × Store)
    (after : Machine) → total names ≤ slot → slot < length before
    → Arrives names slot (slot + 1) before given after → IsInSlot names slot slot before given after
arrived_in_slot names slot before given after above room arrives =
    let slots = arrives.slots in
    let value = given.0 in
    let size = arrives.size in
    let within : slot < length slots = omega arith in
    let few : total (scope_of given.1.variables) ≡ total names = ap total arrives.names_are in
    let is : after.slots ≡ set slots slot value = ap (λ (m : Machine). m.slots) arrives.written in
    record {
      traffic = ap (λ (m : Machine). m.traffic) arrives.written;
      names_are = arrives.names_are;
      holds = subst (Holds given.1.variables) (sym is)
          (Holds-set_above given.1.variables slots slot value (omega arith) arrives.holds);
      value = ap (λ l. at l slot) is ∙ get_or-set_same slots slot value (pos 0) within;
      kept = λ k low high.
          let other : k ≢ slot = omega arith in
          ap (λ l. at l k) is ∙ get_or-set_other slots slot k value (pos 0) other
          ∙ arrives.kept k low (omega arith);
      size = ap length is ∙ length-set slots slot value ∙ size;
    }

-- a machine whose traffic is a store's
pub machine_is : (m : Machine) (store : Store) → m.traffic ≡ store.traffic
    → m ≡ machine_at m.slots store
machine_is m store e = ap (λ t. record { slots = m.slots; traffic = t }) e

-- the slots are ready for more after a value has come to its slot
pub in_slot_ready : (names : Scope) (slot free : ℕ) (before : List ℤ) (given : ℤ × Store)
    (m : Machine)
    → total names ≤ free → total names ≤ length before → IsInSlot names slot free before given m
    → Ready names free given.1 m.slots
in_slot_ready names slot free before given m above roomy in_slot =
    let size = in_slot.size in
    record {
      names_are = in_slot.names_are;
      holds = in_slot.holds;
      above = above;
      roomy =
          omega arith;
    }

-- an expression's code puts its value into a free slot
pub comes_to_free : (setting : Setting) (e : tree.Expr) → Runs setting e
    → (names : Scope) (free : ℕ) (store : Store) (slots : List ℤ) → IsClosed names e
    → Stands setting names → Ready names free store slots
    → nodes_room (expr_nodes names e free (free + 1)) ≤ length slots
    → Related (IsInSlot names free free slots) (value_of setting e store)
    (nodes_done setting (expr_nodes names e free (free + 1)) (machine_at slots store))
comes_to_free setting e run names free store slots closed stands ready room =
    let above = ready.above in
    let within : free < length slots = omega (arith, expr_room names e free (free + 1) closed) in
    let ready' : Ready names (free + 1) store slots =
    record {
      names_are = ready.names_are;
      holds = ready.holds;
      above = omega arith;
      roomy =
          ready.roomy;
    } in
    weaker_related (Arrives names free (free + 1) slots) (IsInSlot names free free slots)
    (value_of setting e store) (nodes_done setting (expr_nodes names e free (free + 1))
    (machine_at slots store)) (run names free (free + 1) store slots closed stands ready' room)
    (λ given after arrives. arrived_in_slot names free slots given after above within arrives)

-- an operand's code brings its value to its slot
pub operand_runs : (setting : Setting) (e : tree.Expr) → Runs setting e
    → (names : Scope) (may_alias : Bool) (free : ℕ) (store : Store) (slots : List ℤ)
    → IsClosed names e → Stands setting names → Ready names free store slots
    → nodes_room (operand_nodes names may_alias e free) ≤ length slots
    → Related (IsInSlot names (operand_slot names may_alias e free) free slots)
    (value_of setting e store) (nodes_done setting (operand_nodes names may_alias e free)
    (machine_at slots store))
operand_runs setting e run names may_alias free store slots closed stands ready room =
    by_place (alias_slot names may_alias e)
    (λ slot is. variable_runs setting e names free slot store slots
    (aliased_slot names may_alias e slot is).1 closed ready) room
  where
    by_place : (o : Option ℕ) → ((slot : ℕ) → o ≡ Some slot
        → (value_of setting e store ≡ Ok (at slots slot, store)) × (slot < total names))
        → nodes_room (unless_there o (expr_nodes names e free (free + 1))) ≤ length slots
        → Related (IsInSlot names (unwrap_or o free) free slots) (value_of setting e store)
        (nodes_done setting (unless_there o (expr_nodes names e free (free + 1)))
        (machine_at slots store))
    by_place (Some slot) in_slot fits =
        subst (λ r. Related (IsInSlot names slot free slots) r (Ok (machine_at slots store)))
        (sym (in_slot slot refl).0)
        (record {
          traffic = refl;
          names_are = ready.names_are;
          holds = ready.holds;
          value =
              refl;
          kept = λ k low high. refl;
          size = refl;
        })
    by_place None in_slot fits =
        comes_to_free setting e run names free store slots closed stands ready fits
