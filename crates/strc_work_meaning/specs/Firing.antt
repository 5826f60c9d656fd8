-- What a filter's text does: its start and one firing.
use Rattle.std.specs.Prelude.{ℕ, zero, suc, ◌+◌, ◌-◌, ℤ, pos, negsuc, neg_ℤ, ◌+ℤ◌, List, [], ◌∷◌}
use Rattle.std.specs.Prelude.{◌++◌, length, take, drop, replicate, Option, Some, None, Result, Ok}
use Rattle.std.specs.Prelude.{Err, if◌then◌else◌, nat_lt, slice_get, slice_set, slice_index_or}
use Rattle.std.specs.Prelude.{bytes_eq, Bool, true, false, ◌==◌}
use Rattle.strc_lex_names.specs.Results.{result_and_then}
use Rattle.strc_parse_tree.specs.Tree as tree
use Rattle.strc_parse_tree.specs.declared.tree.AssignOperator.{AssignOperator}
use Rattle.strc_parse_tree.specs.declared.tree.AssignOperator.TheVariants as assign
use Rattle.strc_parse_tree.specs.declared.tree.StepOperator.{StepOperator}
use Rattle.strc_parse_tree.specs.declared.tree.StepOperator.TheVariants as step
use Rattle.strc_parse_tree.specs.declared.tree.BinaryOperator.{BinaryOperator}
use Rattle.strc_parse_tree.specs.declared.tree.BinaryOperator.TheVariants as binary
use Rattle.strc_work_meaning.specs.declared.fault.TheConstants.{TURN_LIMIT, CALL_LIMIT}
use Rattle.strc_work_meaning.specs.declared.fault.Cause.{Cause}
use Rattle.strc_work_meaning.specs.declared.fault.Cause.TheVariants.{Index, PeekRange, Turns, Calls}
use Rattle.strc_work_meaning.specs.declared.word.Word.{Word}
use Rattle.strc_work_meaning.specs.declared.body.Body.{Body}
use Rattle.strc_work_meaning.specs.Arithmetic.{wrapped, unary_value, binary_value, truth, is_true}
use Rattle.strc_work_meaning.specs.Scoping.{Scope, cells_of, total, answer_name, sized_parameters}
use Rattle.strc_work_meaning.specs.Returns.{stmt_returns}
use Rattle.strc_work_meaning.specs.Filters.{Filter, sized_fields, body_block, body_rates, push_rate}
use Rattle.strc_work_meaning.specs.Filters.{pop_rate, window_size, item_count, Helper, helper_named}

-- what a firing may take and give: the items at the front of its window that it may pop, as many as
-- the pop rate, those that it may look at, as many as its window has, and room for pushes
pub record Port : Type 0 where
  pub front : List ℤ
  pub ahead : List ℤ
  pub room : ℕ

-- what a firing has popped, pushed and printed so far, and how many turns its loops and its calls
-- have made
pub record Traffic : Type 0 where
  pub popped : ℕ
  pub pushes : List ℤ
  pub words : List Word
  pub turns : ℕ

-- how many turns the loops and the calls of one firing may make
unfoldable pub turn_limit : ℕ
turn_limit = TURN_LIMIT

-- how many calls may be running at once
unfoldable pub call_limit : ℕ
call_limit = CALL_LIMIT

-- variables with the values of their cells, the innermost first: a number or a truth value has one
-- cell, an array one for each element
abbrev pub Variables : Type 0
Variables = List (List ℕ × List ℤ)

-- the variables, and the traffic so far
pub record Store : Type 0 where
  pub variables : Variables
  pub traffic : Traffic

-- what a call of a helper gives: its value, the values of the fields' cells, and how many turns the
-- firing has made so far
pub record Called : Type 0 where
  pub value : ℤ
  pub fields : List ℤ
  pub turns : ℕ

-- where statements stand: what they may take and give, how many of the outermost variables are the
-- filter's fields, how many cells those have together, and what a call gives, from the helper's
-- name, its arguments, the values of the fields' cells and the turns so far
pub record Setting : Type 0 where
  pub port : Port
  pub fields : ℕ
  pub cells : ℕ
  pub call : List ℕ → List ℤ → List ℤ → ℕ → Result Called Cause

-- the cells of the innermost variable of a name
abbrev pub cells_named : Variables → List ℕ → List ℤ
cells_named [] name = []
cells_named (first ∷ rest) name = if bytes_eq first.0 name then first.1 else cells_named rest name

-- the value of a cell
abbrev pub cell_in : Store → List ℕ → ℕ → ℤ
cell_in store name place = slice_index_or (cells_named store.variables name) place (pos 0)

-- the value of a variable that is no array
abbrev pub value_in : Store → List ℕ → ℤ
value_in store name = cell_in store name 0

-- a cell of the innermost variable of a name gets a value
abbrev pub with_cell : Variables → List ℕ → ℕ → ℤ → Variables
with_cell [] name place value = []
with_cell (first ∷ rest) name place value =
    if bytes_eq first.0 name then record { 0 = first.0; 1 = slice_set first.1 place value }
    ∷ rest else first ∷ with_cell rest name place value

abbrev pub cell_set : Store → List ℕ → ℕ → ℤ → Store
cell_set store name place value = record store
    { variables = with_cell store.variables name place value }

abbrev pub assigned : Store → List ℕ → ℤ → Store
assigned store name value = cell_set store name 0 value

-- a new innermost variable
abbrev pub declared_in : Store → List ℕ → List ℤ → Store
declared_in store name cells = record store
    { variables = record { 0 = name; 1 = cells } ∷ store.variables }

-- the place of an index in an array of so many elements
abbrev pub place_in : ℕ → ℤ → Option ℕ
place_in length (pos n) = if nat_lt n length then Some n else None
place_in length (negsuc n) = None

-- an index that is tested
abbrev pub tested_place : Option ℕ → Result ℕ Cause
tested_place None = Err Index
tested_place (Some place) = Ok place

abbrev pub place_of : Store → List ℕ → ℤ → Result ℕ Cause
place_of store name index = tested_place (place_in
    (length (cells_named store.variables name)) index)

-- the next item of the window is taken; there is none past the pop rate
abbrev pub item_popped : Option ℤ → Traffic → Result (ℤ × Traffic) Cause
item_popped None traffic = Err PeekRange
item_popped (Some item) traffic = Ok (item, record traffic { popped = traffic.popped + 1 })

abbrev pub popped_from : Port → Traffic → Result (ℤ × Traffic) Cause
popped_from port traffic = item_popped (slice_get port.front traffic.popped) traffic

-- the item so many places after the next one that is popped, where it is in the window
abbrev pub item_ahead : Port → ℕ → ℤ → Option ℤ
item_ahead port popped (pos place) = slice_get port.ahead (popped + place)
item_ahead port popped (negsuc place) = None

-- an item that is looked at, or none past the window
abbrev pub looked_at : Option ℤ → Result ℤ Cause
looked_at None = Err PeekRange
looked_at (Some item) = Ok item

abbrev pub peeked_from : Port → ℤ → Traffic → Result ℤ Cause
peeked_from port place traffic = looked_at (item_ahead port traffic.popped place)

-- one more item is given, unless the push rate is reached
abbrev pub pushed_to : Port → ℤ → Traffic → Result Traffic Cause
pushed_to port item traffic =
    if nat_lt (length traffic.pushes) port.room then Ok
    (record traffic { pushes = traffic.pushes ++ item ∷ [] }) else Err PeekRange

-- one more word is printed
abbrev pub printed : Word → Traffic → Traffic
printed word traffic = record traffic { words = traffic.words ++ word ∷ [] }

-- the value of a variable after a step by one
abbrev pub value_stepped : StepOperator → ℤ → ℤ
value_stepped step.IncrementFirst value = wrapped (value +ℤ pos 1)
value_stepped step.DecrementFirst value = wrapped (value +ℤ neg_ℤ (pos 1))
value_stepped step.IncrementAfter value = wrapped (value +ℤ pos 1)
value_stepped step.DecrementAfter value = wrapped (value +ℤ neg_ℤ (pos 1))

-- the value of the step itself: the new one where the operator comes first, else the old one
abbrev pub step_value : StepOperator → (old new : ℤ) → ℤ
step_value step.IncrementFirst old new = new
step_value step.DecrementFirst old new = new
step_value step.IncrementAfter old new = old
step_value step.DecrementAfter old new = old

-- one more turn of a loop or one more call, unless the limit is reached
abbrev pub one_more_turn : Traffic → Result Traffic Cause
one_more_turn traffic =
    if nat_lt traffic.turns turn_limit then Ok (record traffic { turns = traffic.turns + 1 })
    else Err Turns

abbrev pub turned : Store → Result Store Cause
turned store = result_and_then (one_more_turn store.traffic)
    (λ traffic. Ok (record store { traffic = traffic }))

-- the values of variables' cells, the outermost variable first
abbrev pub values_of : Variables → List ℤ
values_of [] = []
values_of (first ∷ rest) = values_of rest ++ first.1

-- the outermost variables, those of the fields, and the variables inside them
abbrev pub fields_in : Setting → Variables → Variables
fields_in setting variables = drop (length variables - setting.fields) variables

abbrev pub locals_in : Setting → Variables → Variables
locals_in setting variables = take (length variables - setting.fields) variables

-- cells with new values, as far as there are any
abbrev pub refilled : List ℤ → List ℤ → List ℤ
refilled [] values = []
refilled (cell ∷ cells) [] = cell ∷ cells
refilled (cell ∷ cells) (value ∷ values) = value ∷ refilled cells values

-- variables with new values of their cells, the outermost variable first
abbrev pub revalued : Variables → List ℤ → Variables
revalued [] values = []
revalued (first ∷ rest) values =
    record { 0 = first.0; 1 = refilled first.1 (drop (length (values_of rest)) values) }
    ∷ revalued rest values

-- after a call the fields and the turns are those that it gives; all else is as it was
abbrev pub after_call : Setting → Store → Called → Store
after_call setting store called = record {
  variables = locals_in setting store.variables
      ++ revalued (fields_in setting store.variables) called.fields;
  traffic = record store.traffic { turns = called.turns };
}

-- the value of a call, and the store after it
abbrev pub call_done : Setting → Result Called Cause → Store → Result (ℤ × Store) Cause
call_done setting call store =
    result_and_then call (λ called. Ok (called.value, after_call setting store called))

-- the value of an operator, whose right side is evaluated only where it is needed
abbrev pub joined : BinaryOperator → ℤ × Store → (Store → Result (ℤ × Store) Cause)
    → Result (ℤ × Store) Cause
joined binary.LogicalOr first right = if is_true first.0 then Ok first else right first.1
joined binary.LogicalAnd first right = if is_true first.0 then right first.1 else Ok first
joined operator first right =
    result_and_then (right first.1) (λ second.
    result_and_then (binary_value operator first.0 second.0) (λ value. Ok (value, second.1)))

abbrev mutual
  -- the value of an expression, from left to right, and the store after it
  pub value_of : Setting → tree.Expr → Store → Result (ℤ × Store) Cause
  value_of setting (tree.Number value) store = Ok (value, store)
  value_of setting (tree.Truth value) store = Ok (truth value, store)
  value_of setting (tree.Read name) store = Ok (value_in store name, store)
  value_of setting (tree.Element name index) store =
      result_and_then (value_of setting index store) (λ at.
      result_and_then (place_of at.1 name at.0) (λ place. Ok (cell_in at.1 name place, at.1)))
  value_of setting tree.Pop store =
      result_and_then (popped_from setting.port store.traffic)
      (λ taken. Ok (taken.0, record store { traffic = taken.1 }))
  value_of setting (tree.Peek index) store =
      result_and_then (value_of setting index store) (λ place.
      result_and_then (peeked_from setting.port place.0 place.1.traffic)
      (λ item. Ok (item, place.1)))
  value_of setting (tree.Call name arguments) store =
      result_and_then (arguments_given setting arguments store) (λ given.
      call_done setting (setting.call name given.0 (values_of (fields_in setting given.1.variables))
      given.1.traffic.turns) given.1)
  value_of setting (tree.Group inner) store = value_of setting inner store
  value_of setting (tree.Unary operator operand) store =
      result_and_then (value_of setting operand store)
      (λ right. Ok (unary_value operator right.0, right.1))
  value_of setting (tree.Step operator name) store =
      let old = value_in store name in
      let new = value_stepped operator old in
      Ok (step_value operator old new, assigned store name new)
  value_of setting (tree.StepElement operator name index) store =
      result_and_then (value_of setting index store) (λ at.
      result_and_then (place_of at.1 name at.0) (λ place.
      let old = cell_in at.1 name place in
      let new = value_stepped operator old in
      Ok (step_value operator old new, cell_set at.1 name place new)))
  value_of setting (tree.Binary operator left right) store =
      result_and_then (value_of setting left store)
      (λ first. joined operator first (value_of setting right))
  value_of setting (tree.Conditional condition chosen other) store =
      result_and_then (value_of setting condition store) (λ test.
      if is_true test.0 then value_of setting chosen test.1 else value_of setting other test.1)

  -- the values of arguments, from left to right, and the store after them
  pub arguments_given : Setting → tree.Arguments → Store → Result (List ℤ × Store) Cause
  arguments_given setting tree.NoArgument store = Ok ([], store)
  arguments_given setting (tree.Argument first rest) store =
      result_and_then (value_of setting first store) (λ given.
      result_and_then (arguments_given setting rest given.1)
      (λ others. Ok (given.0 ∷ others.0, others.1)))

-- the value that is assigned: `x += e` is `x = x + e`, so x is read first
abbrev pub assigned_value : List ℕ → AssignOperator → tree.Expr → tree.Expr
assigned_value name assign.Set value = value
assigned_value name assign.Add value = tree.Binary binary.Add (tree.Read name) value
assigned_value name assign.Subtract value = tree.Binary binary.Subtract (tree.Read name) value
assigned_value name assign.Multiply value = tree.Binary binary.Multiply (tree.Read name) value
assigned_value name assign.Divide value = tree.Binary binary.Divide (tree.Read name) value
assigned_value name assign.Remainder value = tree.Binary binary.Remainder (tree.Read name) value

-- an operator between an element of an array and a value
abbrev pub element_joined : Setting → List ℕ → BinaryOperator → tree.Expr → ℤ × Store
    → Result Store Cause
element_joined setting name operator value at =
    result_and_then (place_of at.1 name at.0) (λ place.
    let old = cell_in at.1 name place in
    result_and_then (value_of setting value at.1) (λ given.
    result_and_then (binary_value operator old given.0)
    (λ new. Ok (cell_set given.1 name place new))))

-- an element of an array is assigned: the index, then the value, then the test and the store; a
-- compound assignment tests the index and reads the element before the value
abbrev pub element_set : Setting → List ℕ → AssignOperator → tree.Expr → ℤ × Store
    → Result Store Cause
element_set setting name assign.Set value at =
    result_and_then (value_of setting value at.1) (λ given.
    result_and_then (place_of given.1 name at.0)
    (λ place. Ok (cell_set given.1 name place given.0)))
element_set setting name assign.Add value at =
    element_joined setting name binary.Add value at
element_set setting name assign.Subtract value at =
    element_joined setting name binary.Subtract value at
element_set setting name assign.Multiply value at =
    element_joined setting name binary.Multiply value at
element_set setting name assign.Divide value at =
    element_joined setting name binary.Divide value at
element_set setting name assign.Remainder value at =
    element_joined setting name binary.Remainder value at

-- the cells of a new variable: its initialiser's value, or zeros
abbrev pub initial_cells : Setting → (cells : ℕ) → Option tree.Expr → Store
    → Result (List ℤ × Store) Cause
initial_cells setting cells None store = Ok (replicate cells (pos 0), store)
initial_cells setting cells (Some initial) store =
    result_and_then (value_of setting initial store) (λ given. Ok (given.0 ∷ [], given.1))

-- the variables of a block are forgotten at its end
abbrev pub block_left : Store → Store → Store
block_left outer inner =
    record inner {
      variables = drop (length inner.variables - length outer.variables)
          inner.variables;
    }

-- each variable of a declaration in turn, at its initialiser's value or at 0
abbrev pub variables_declared : Setting → (cells : ℕ) → List tree.Variable → Store
    → Result Store Cause
variables_declared setting cells [] store = Ok store
variables_declared setting cells (first ∷ rest) store =
    result_and_then (initial_cells setting cells first.initial store) (λ given.
    variables_declared setting cells rest (declared_in given.1 first.name given.0))

-- a condition, which holds where there is none
abbrev pub condition_value : Setting → Option tree.Expr → Store → Result (ℤ × Store) Cause
condition_value setting None store = Ok (pos 1, store)
condition_value setting (Some condition) store = value_of setting condition store

-- whether the helper has returned
abbrev pub has_returned : Store → Bool
has_returned store = is_true (cell_in store answer_name 0)

-- what is returned becomes the answer's second cell, and its first one says that there is an answer
abbrev pub returned : Setting → Option tree.Expr → Store → Result Store Cause
returned setting None store = Ok (cell_set store answer_name 0 (pos 1))
returned setting (Some value) store =
    result_and_then (value_of setting value store) (λ given.
    Ok (cell_set (cell_set given.1 answer_name 1 given.0) answer_name 0 (pos 1)))

-- what comes after a part in which a `return` may stand: nothing is done once it has returned
abbrev pub unless_returned : (returns : Bool) → (Store → Result Store Cause) → Store
    → Result Store Cause
unless_returned false does store = does store
unless_returned true does store = if has_returned store then Ok store else does store

-- the condition of a loop in whose body a `return` may stand: it doesn't hold once it has returned
abbrev pub test_unless_returned : (returns : Bool) → (Store → Result (ℤ × Store) Cause) → Store
    → Result (ℤ × Store) Cause
test_unless_returned false test store = test store
test_unless_returned true test store =
    if has_returned store then Ok (pos 0, store) else test store

-- a loop: as long as the test holds, one more turn; `fuel` is more than the turns that a firing may
-- make
abbrev pub looped : (fuel : ℕ) → (test : Store → Result (ℤ × Store) Cause)
    → (body : Store → Result Store Cause) → Store → Result Store Cause
looped zero test body store = Err Turns
looped (suc fuel) test body store =
    result_and_then (test store) (λ tested.
    if is_true tested.0
    then result_and_then (turned tested.1)
    (λ turning. result_and_then (body turning) (looped fuel test body))
    else Ok tested.1)

-- a statement in a scope of its own
abbrev pub inside : (Store → Result Store Cause) → Store → Result Store Cause
inside does store = result_and_then (does store) (λ inner. Ok (block_left store inner))

abbrev mutual
  -- what a statement does
  pub stmt_done : Setting → tree.Stmt → Store → Result Store Cause
  stmt_done setting tree.Empty store = Ok store
  stmt_done setting (tree.Compose statement) store = Ok store
  stmt_done setting (tree.Block body) store = inside (stmts_done setting body) store
  stmt_done setting (tree.Declare kind variables) store =
      variables_declared setting (cells_of kind) variables store
  stmt_done setting (tree.Evaluate value) store =
      result_and_then (value_of setting value store) (λ given. Ok given.1)
  stmt_done setting (tree.Assign name operator value) store =
      result_and_then (value_of setting (assigned_value name operator value) store)
      (λ given. Ok (assigned given.1 name given.0))
  stmt_done setting (tree.AssignElement name index operator value) store =
      result_and_then (value_of setting index store) (element_set setting name operator value)
  stmt_done setting (tree.If condition chosen) store =
      result_and_then (value_of setting condition store) (λ test.
      if is_true test.0 then inside (stmt_done setting chosen) test.1 else Ok test.1)
  stmt_done setting (tree.IfElse condition chosen other) store =
      result_and_then (value_of setting condition store) (λ test.
      if is_true test.0 then inside (stmt_done setting chosen) test.1 else inside
      (stmt_done setting other) test.1)
  stmt_done setting (tree.While condition body) store =
      looped (suc turn_limit)
      (test_unless_returned (stmt_returns body) (value_of setting condition))
      (inside (stmt_done setting body)) store
  stmt_done setting (tree.For first condition step body) store =
      inside (λ outer.
      result_and_then (stmt_done setting first outer) (λ begun.
      looped (suc turn_limit)
      (test_unless_returned (stmt_returns body) (condition_value setting condition))
      (λ turn. result_and_then (inside (stmt_done setting body) turn)
      (unless_returned (stmt_returns body) (inside (stmt_done setting step))))
      begun)) store
  stmt_done setting (tree.Push value) store =
      result_and_then (value_of setting value store) (λ given.
      result_and_then (pushed_to setting.port given.0 given.1.traffic)
      (λ traffic. Ok (record given.1 { traffic = traffic })))
  stmt_done setting (tree.Print value) store =
      result_and_then (value_of setting value store) (λ given.
      Ok (record given.1 {
        traffic = printed
            (record { value = given.0; ends_line = false }) given.1.traffic;
      }))
  stmt_done setting (tree.Println value) store =
      result_and_then (value_of setting value store) (λ given.
      Ok (record given.1 {
        traffic = printed
            (record { value = given.0; ends_line = true }) given.1.traffic;
      }))
  stmt_done setting (tree.Return value) store = returned setting value store

  -- what statements do, one after another
  pub stmts_done : Setting → tree.Stmts → Store → Result Store Cause
  stmts_done setting tree.Done store = Ok store
  stmts_done setting (tree.Then first rest) store =
      result_and_then (stmt_done setting first store)
      (unless_returned (stmt_returns first) (stmts_done setting rest))

-- the fields with the values of their cells, each inside those before it
abbrev pub bound_onto : Variables → Scope → List ℤ → Variables
bound_onto variables [] values = variables
bound_onto variables (field ∷ fields) values =
    bound_onto (record { 0 = field.0; 1 = take field.1 values } ∷ variables) fields
    (drop field.1 values)

-- no traffic
abbrev pub no_traffic : Traffic
no_traffic = record { popped = 0; pushes = []; words = []; turns = 0 }

-- a filter's fields with these values, before any traffic
abbrev pub store_at : Filter → List ℤ → Store
store_at filter values =
    record { variables = bound_onto [] (sized_fields filter.members) values; traffic = no_traffic }

-- the values of the fields' cells, in order
abbrev pub field_values : Store → List ℤ
field_values store = values_of store.variables

-- a place without items
abbrev pub no_io : Port
no_io = record { front = []; ahead = []; room = 0 }

-- where there are neither items nor helper functions
abbrev pub no_helper : List ℕ → (values held : List ℤ) → (turns : ℕ) → Result Called Cause
no_helper name values held turns = Err Calls

abbrev pub alone : Setting
alone = record { port = no_io; fields = 0; cells = 0; call = no_helper }

-- a helper's parameters at these values, inside its answer, which is 0 and not returned yet, and
-- the fields at theirs; of the firing's traffic it has the turns alone
abbrev pub helper_store : (fields : Scope) → (parameters : List (List ℕ)) → (values held : List ℤ)
    → (turns : ℕ) → Store
helper_store fields parameters values held turns = record {
  variables = bound_onto
      (record { 0 = answer_name; 1 = pos 0 ∷ pos 0 ∷ [] } ∷ bound_onto [] fields held)
      (sized_parameters parameters) values;
  traffic = record no_traffic { turns = turns };
}

-- what a helper gives at its end
abbrev pub call_ended : Setting → Store → Called
call_ended setting store = record {
  value = cell_in store answer_name 1;
  fields = values_of (fields_in setting store.variables);
  turns = store.traffic.turns;
}

-- a helper's call: one more turn, then its block; checks exclude that there is no such helper, or
-- that it takes another number of arguments
abbrev pub helper_called : Setting → (fields : Scope) → Option Helper → (values held : List ℤ)
    → (turns : ℕ) → Result Called Cause
helper_called setting fields None values held turns = Err Calls
helper_called setting fields (Some helper) values held turns =
    if length values == length helper.parameters
    then result_and_then (turned (helper_store fields helper.parameters values held turns))
    (λ begun. result_and_then (stmts_done setting helper.block begun)
    (λ ended. Ok (call_ended setting ended)))
    else Err Calls

-- a call of the helper of a name, where so many more calls may be running at once
abbrev pub called : List tree.Member → (levels : ℕ) → List ℕ → (values held : List ℤ)
    → (turns : ℕ) → Result Called Cause
called members zero name values held turns = Err Calls
called members (suc levels) name values held turns =
    helper_called (record {
      port = no_io;
      fields = length (sized_fields members);
      cells = total (sized_fields members);
      call = called members levels;
    }) (sized_fields members) (helper_named members name) values held turns

-- where the statements of a filter of these members stand
abbrev pub setting_at : List tree.Member → Port → Setting
setting_at members port = record {
  port = port;
  fields = length (sized_fields members);
  cells = total (sized_fields members);
  call = called members call_limit;
}

-- a field gets its initialiser's value, where it has one
abbrev pub initial_given : Setting → List ℕ → Option tree.Expr → Store → Result Store Cause
initial_given setting name None store = Ok store
initial_given setting name (Some initial) store =
    result_and_then (value_of setting initial store) (λ given. Ok (assigned given.1 name given.0))

-- the initialisers of fields that are declared together, in order
abbrev pub fields_started : Setting → List tree.Variable → Store → Result Store Cause
fields_started setting [] store = Ok store
fields_started setting (first ∷ rest) store =
    result_and_then (initial_given setting first.name first.initial store)
    (fields_started setting rest)

-- the initialisers of the fields, in order
abbrev pub members_started : Setting → List tree.Member → Store → Result Store Cause
members_started setting [] store = Ok store
members_started setting (tree.Fields kind variables ∷ rest) store =
    result_and_then (fields_started setting variables store) (members_started setting rest)
members_started setting (tree.Init block ∷ rest) store = members_started setting rest store
members_started setting (tree.Prework rates block ∷ rest) store = members_started setting rest store
members_started setting (tree.Work rates block ∷ rest) store = members_started setting rest store
members_started setting (tree.Helper kind name parameters block ∷ rest) store =
    members_started setting rest store

-- the blocks of `init`, each in a scope of its own
abbrev pub inits_done : Setting → List tree.Member → Store → Result Store Cause
inits_done setting [] store = Ok store
inits_done setting (tree.Fields kind variables ∷ rest) store = inits_done setting rest store
inits_done setting (tree.Init block ∷ rest) store =
    result_and_then (inside (stmts_done setting block) store) (inits_done setting rest)
inits_done setting (tree.Prework rates block ∷ rest) store = inits_done setting rest store
inits_done setting (tree.Work rates block ∷ rest) store = inits_done setting rest store
inits_done setting (tree.Helper kind name parameters block ∷ rest) store =
    inits_done setting rest store

-- the values of the fields' cells after their initialisers and `init`
abbrev pub started : Filter → Result (List ℤ) Cause
started filter =
    let setting = setting_at filter.members no_io in
    result_and_then (members_started setting filter.members
    (store_at filter (replicate (total (sized_fields filter.members)) (pos 0)))) (λ initialised.
    result_and_then (inits_done setting filter.members initialised)
    (λ store. Ok (field_values store)))

-- what a firing gives
pub record Fired : Type 0 where
  pub fields : List ℤ
  pub pushes : List ℤ
  pub words : List Word

-- what a body of these rates may take from this window, and give
abbrev pub port_at_rates : List tree.Rate → List ℤ → Port
port_at_rates rates window = record {
  front = take (item_count (pop_rate rates)) window;
  ahead = take (window_size rates) window;
  room = item_count (push_rate rates);
}

abbrev pub port_of : Filter → Body → List ℤ → Port
port_of filter body window = port_at_rates (body_rates body filter.members) window

-- where a body of a filter stands, before this window
abbrev pub setting_of : Filter → Body → List ℤ → Setting
setting_of filter body window = setting_at filter.members (port_of filter body window)

-- one firing, from these values of the fields; without a prework each body is the work
abbrev pub fired : Filter → Body → List ℤ → List ℤ → Result Fired Cause
fired filter body fields window =
    result_and_then (stmts_done (setting_of filter body window) (body_block body filter.members)
    (store_at filter fields)) (λ store.
    let left = block_left (store_at filter fields) store in
    Ok (record {
      fields = field_values left;
      pushes = left.traffic.pushes;
      words =
          left.traffic.words;
    }))
