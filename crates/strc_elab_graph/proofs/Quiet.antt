-- A firing of a filter prints only where its text does, and one of a node only where the node can
-- write words.
use Rattle.std.proofs.Common.{◌≡◌, refl, subst, ◌∙◌, ℕ, zero, suc, ◌+◌, ℤ, pos, Bool, true, false}
use Rattle.std.proofs.Common.{◌||◌}
use Rattle.std.proofs.Common.{List, [], ◌∷◌, ◌++◌, length, Option, Some, None, Result, Ok, Err}
use Rattle.std.specs.Prelude.{nat_lt, slice_get, if◌then◌else◌}
use Rattle.std.specs.Result.{IfOk}
use Rattle.strc_lex_names.specs.Results.{result_and_then}
use Rattle.strc_lex_names.proofs.Results.{then_ok}
use Rattle.strc_parse_tree.specs.Tree as tree
use Rattle.strc_parse_tree.specs.declared.tree.AssignOperator.{AssignOperator}
use Rattle.strc_parse_tree.specs.declared.tree.AssignOperator.TheVariants as assign
use Rattle.strc_parse_tree.specs.declared.tree.BinaryOperator.{BinaryOperator}
use Rattle.strc_parse_tree.specs.declared.tree.BinaryOperator.TheVariants as binary
use Rattle.strc_work_meaning.specs.declared.fault.Cause.{Cause}
use Rattle.strc_work_meaning.specs.declared.fault.Cause.TheVariants.{PeekRange, Turns}
use Rattle.strc_work_meaning.specs.declared.word.Word.{Word}
use Rattle.strc_work_meaning.specs.Arithmetic.{is_true, binary_value}
use Rattle.strc_work_meaning.specs.declared.body.Body.{Body}
use Rattle.strc_work_meaning.specs.declared.body.Body.TheVariants as body
use Rattle.strc_work_meaning.specs.Filters.{Filter, work_block, body_block, stmt_prints}
use Rattle.strc_work_meaning.specs.Filters.{stmts_print}
use Rattle.strc_work_meaning.specs.Filters.{filter_prints}
use Rattle.strc_work_meaning.specs.Scoping.{cells_of}
use Rattle.strc_work_meaning.specs.Firing.{Port, Traffic, Store, item_popped, looked_at, item_ahead}
use Rattle.strc_work_meaning.specs.Firing.{pushed_to, joined, value_of, assigned_value, place_of}
use Rattle.strc_work_meaning.specs.Firing.{cell_in, cell_set, declared_in, element_joined}
use Rattle.strc_work_meaning.specs.Firing.{element_set}
use Rattle.strc_work_meaning.specs.Firing.{initial_cells, variables_declared, condition_value}
use Rattle.strc_work_meaning.specs.Firing.{turned}
use Rattle.strc_work_meaning.specs.Firing.{turn_limit, looped, inside, stmt_done, stmts_done}
use Rattle.strc_work_meaning.specs.Firing.{store_at}
use Rattle.strc_work_meaning.specs.Firing.{setting_of, Fired, fired, Setting, arguments_given}
use Rattle.strc_work_meaning.specs.Firing.{values_of, fields_in, after_call, has_returned, returned}
use Rattle.strc_work_meaning.specs.Firing.{unless_returned, test_unless_returned}
use Rattle.strc_work_meaning.specs.Returns.{stmt_returns}
use Rattle.strc_elab_dataflow.specs.Node.{ByPort, Fired.Fires, Fired.Faults}
use Rattle.strc_elab_dataflow.specs.Node as generic
use Rattle.strc_elab_graph.specs.Graphs as graphs
use Rattle.strc_elab_graph.specs.Graphs.{NodeCode, gives_words}
use Rattle.strc_elab_graph.specs.Rates.{body_at}
use Rattle.strc_elab_graph.specs.Meaning.{node_fired, as_fired}

or_first : (a b : Bool) → (a || b) ≡ false → a ≡ false
or_first true b e = e
or_first false b e = refl

or_second : (a b : Bool) → (a || b) ≡ false → b ≡ false
or_second true b e = absurd (cc)
or_second false b e = e

-- an expression that prints nothing more than these words
abbrev GivesQuietly : List Word → Result (ℤ × Store) Cause → Type 0
GivesQuietly words result = IfOk result (λ given. given.1.traffic.words ≡ words)

-- and a statement
abbrev IsQuiet : List Word → Result Store Cause → Type 0
IsQuiet words result = IfOk result (λ after. after.traffic.words ≡ words)

-- what can fail, and then a store
any_quiet : {A : Type 0} (result : Result A Cause) (go : A → Store) (words : List Word)
    → ((a : A) → (go a).traffic.words ≡ words)
    → IsQuiet words (result_and_then result (λ a. Ok (go a)))
any_quiet (Ok a) go words h = h a
any_quiet (Err cause) go words h = tt

any_given : {A : Type 0} (result : Result A Cause) (go : A → ℤ × Store) (words : List Word)
    → ((a : A) → (go a).1.traffic.words ≡ words)
    → GivesQuietly words (result_and_then result (λ a. Ok (go a)))
any_given (Ok a) go words h = h a
any_given (Err cause) go words h = tt

-- ---- expressions

pop_quiet : (traffic : Traffic) (item : Option ℤ)
    → IfOk (item_popped item traffic) (λ taken. taken.1.words ≡ traffic.words)
pop_quiet traffic None = tt
pop_quiet traffic (Some item) = refl

strict_quiet : (operator : BinaryOperator) (words : List Word) (first : ℤ × Store)
    (right : Result (ℤ × Store) Cause) → GivesQuietly words right
    → GivesQuietly words (result_and_then right
    (λ second. result_and_then (binary_value operator first.0 second.0)
    (λ value. Ok (value, second.1))))
strict_quiet operator words first right k =
    then_ok right _ (λ given. given.1.traffic.words ≡ words)
    (λ given. given.1.traffic.words ≡ words) k
    (λ second l. any_given (binary_value operator first.0 second.0)
    (λ value. (value, second.1)) words (λ value. l))

-- one of two
side_quiet : (test : Bool) (words : List Word) (one other : Result (ℤ × Store) Cause)
    → GivesQuietly words one → GivesQuietly words other
    → GivesQuietly words (if test then one else other)
side_quiet true words one other h k = h
side_quiet false words one other h k = k

joined_quiet : (operator : BinaryOperator) (words : List Word) (first : ℤ × Store)
    (right : Store → Result (ℤ × Store) Cause) → first.1.traffic.words ≡ words
    → GivesQuietly words (right first.1) → GivesQuietly words (joined operator first right)
joined_quiet binary.LogicalOr words first right h k =
    side_quiet (is_true first.0) words (Ok first) (right first.1) h k
joined_quiet binary.LogicalAnd words first right h k =
    side_quiet (is_true first.0) words (right first.1) (Ok first) k h
joined_quiet binary.Or words first right h k = strict_quiet binary.Or words first (right first.1) k
joined_quiet binary.ExclusiveOr words first right h k =
    strict_quiet binary.ExclusiveOr words first (right first.1) k
joined_quiet binary.And words first right h k =
    strict_quiet binary.And words first (right first.1) k
joined_quiet binary.Equal words first right h k =
    strict_quiet binary.Equal words first (right first.1) k
joined_quiet binary.NotEqual words first right h k =
    strict_quiet binary.NotEqual words first (right first.1) k
joined_quiet binary.Less words first right h k =
    strict_quiet binary.Less words first (right first.1) k
joined_quiet binary.LessOrEqual words first right h k =
    strict_quiet binary.LessOrEqual words first (right first.1) k
joined_quiet binary.Greater words first right h k =
    strict_quiet binary.Greater words first (right first.1) k
joined_quiet binary.GreaterOrEqual words first right h k =
    strict_quiet binary.GreaterOrEqual words first (right first.1) k
joined_quiet binary.ShiftLeft words first right h k =
    strict_quiet binary.ShiftLeft words first (right first.1) k
joined_quiet binary.ShiftRight words first right h k =
    strict_quiet binary.ShiftRight words first (right first.1) k
joined_quiet binary.Add words first right h k =
    strict_quiet binary.Add words first (right first.1) k
joined_quiet binary.Subtract words first right h k =
    strict_quiet binary.Subtract words first (right first.1) k
joined_quiet binary.Multiply words first right h k =
    strict_quiet binary.Multiply words first (right first.1) k
joined_quiet binary.Divide words first right h k =
    strict_quiet binary.Divide words first (right first.1) k
joined_quiet binary.Remainder words first right h k =
    strict_quiet binary.Remainder words first (right first.1) k

-- an expression prints nothing
mutual
  value_quiet : (setting : Setting) (e : tree.Expr) (store : Store) (words : List Word)
      → store.traffic.words ≡ words → GivesQuietly words (value_of setting e store)
  value_quiet setting (tree.Number value) store words h = h
  value_quiet setting (tree.Truth value) store words h = h
  value_quiet setting (tree.Read name) store words h = h
  value_quiet setting (tree.Element name index) store words h =
      then_ok (value_of setting index store) _ (λ given. given.1.traffic.words ≡ words)
      (λ given. given.1.traffic.words ≡ words)
      (value_quiet setting index store words h)
      (λ at k. any_given (place_of at.1 name at.0) (λ place. (cell_in at.1 name place, at.1)) words
      (λ place. k))
  value_quiet setting tree.Pop store words h =
      then_ok (item_popped (slice_get setting.port.front store.traffic.popped) store.traffic) _
      (λ taken. taken.1.words ≡ store.traffic.words) (λ given. given.1.traffic.words ≡ words)
      (pop_quiet store.traffic (slice_get setting.port.front store.traffic.popped))
      (λ taken k. k ∙ h)
  value_quiet setting (tree.Peek index) store words h =
      then_ok (value_of setting index store) _ (λ given. given.1.traffic.words ≡ words)
      (λ given. given.1.traffic.words ≡ words)
      (value_quiet setting index store words h)
      (λ place k. any_given (looked_at (item_ahead setting.port place.1.traffic.popped place.0))
      (λ item. (item, place.1)) words (λ item. k))
  value_quiet setting (tree.Call name arguments) store words h =
      then_ok (arguments_given setting arguments store) _ (λ given. given.1.traffic.words ≡ words)
      (λ given. given.1.traffic.words ≡ words)
      (arguments_quiet setting arguments store words h)
      (λ given k. any_given (setting.call name given.0
      (values_of (fields_in setting given.1.variables)) given.1.traffic.turns)
      (λ called. (called.value, after_call setting given.1 called)) words (λ called. k))
  value_quiet setting (tree.Group inner) store words h = value_quiet setting inner store words h
  value_quiet setting (tree.Unary operator operand) store words h =
      then_ok (value_of setting operand store) _ (λ given. given.1.traffic.words ≡ words)
      (λ given. given.1.traffic.words ≡ words)
      (value_quiet setting operand store words h) (λ given k. k)
  value_quiet setting (tree.Step operator name) store words h = h
  value_quiet setting (tree.StepElement operator name index) store words h =
      then_ok (value_of setting index store) _ (λ given. given.1.traffic.words ≡ words)
      (λ given. given.1.traffic.words ≡ words)
      (value_quiet setting index store words h)
      (λ at k. any_given (place_of at.1 name at.0) _ words (λ place. k))
  value_quiet setting (tree.Binary operator left right) store words h =
      then_ok (value_of setting left store) _ (λ given. given.1.traffic.words ≡ words)
      (λ given. given.1.traffic.words ≡ words)
      (value_quiet setting left store words h)
      (λ first k. joined_quiet operator words first (value_of setting right) k
      (value_quiet setting right first.1 words k))
  value_quiet setting (tree.Conditional condition chosen other) store words h =
      then_ok (value_of setting condition store) _ (λ given. given.1.traffic.words ≡ words)
      (λ given. given.1.traffic.words ≡ words)
      (value_quiet setting condition store words h)
      (λ test k. side_quiet (is_true test.0) words (value_of setting chosen test.1)
      (value_of setting other test.1)
      (value_quiet setting chosen test.1 words k) (value_quiet setting other test.1 words k))

  -- and so do arguments
  arguments_quiet : (setting : Setting) (e : tree.Arguments) (store : Store) (words : List Word)
      → store.traffic.words ≡ words
      → IfOk (arguments_given setting e store) (λ given. given.1.traffic.words ≡ words)
  arguments_quiet setting tree.NoArgument store words h = h
  arguments_quiet setting (tree.Argument first rest) store words h =
      then_ok (value_of setting first store) _ (λ given. given.1.traffic.words ≡ words)
      (λ given. given.1.traffic.words ≡ words)
      (value_quiet setting first store words h)
      (λ given k. then_ok (arguments_given setting rest given.1) _
      (λ others. others.1.traffic.words ≡ words) (λ others. others.1.traffic.words ≡ words)
      (arguments_quiet setting rest given.1 words k) (λ others l. l))

condition_quiet : (setting : Setting) (condition : Option tree.Expr) (store : Store)
    (words : List Word) → store.traffic.words ≡ words → GivesQuietly words
    (condition_value setting condition store)
condition_quiet setting None store words h = h
condition_quiet setting (Some condition) store words h = value_quiet setting condition store words h

-- ---- statements

-- a value, and then something that prints nothing
then_quiet : (setting : Setting) (e : tree.Expr) (store : Store) (go : ℤ × Store → Store)
    (words : List Word) → store.traffic.words ≡ words
    → ((given : ℤ × Store) → (go given).traffic.words ≡ given.1.traffic.words)
    → IsQuiet words (result_and_then (value_of setting e store) (λ given. Ok (go given)))
then_quiet setting e store go words h still =
    then_ok (value_of setting e store) _ (λ given. given.1.traffic.words ≡ words)
    (λ after. after.traffic.words ≡ words)
    (value_quiet setting e store words h) (λ given k. still given ∙ k)

initial_quiet : (setting : Setting) (cells : ℕ) (initial : Option tree.Expr) (store : Store)
    (words : List Word) → store.traffic.words ≡ words
    → IfOk (initial_cells setting cells initial store) (λ given. given.1.traffic.words ≡ words)
initial_quiet setting cells None store words h = h
initial_quiet setting cells (Some initial) store words h =
    then_ok (value_of setting initial store) _ (λ given. given.1.traffic.words ≡ words)
    (λ given. given.1.traffic.words ≡ words)
    (value_quiet setting initial store words h) (λ given k. k)

variables_quiet : (setting : Setting) (cells : ℕ) (variables : List tree.Variable) (store : Store)
    (words : List Word) → store.traffic.words ≡ words
    → IsQuiet words (variables_declared setting cells variables store)
variables_quiet setting cells [] store words h = h
variables_quiet setting cells (first ∷ rest) store words h =
    then_ok (initial_cells setting cells first.initial store) _
    (λ given. given.1.traffic.words ≡ words) (λ after. after.traffic.words ≡ words)
    (initial_quiet setting cells first.initial store words h)
    (λ given k. variables_quiet setting cells rest (declared_in given.1 first.name given.0) words k)

push_quiet : (port : Port) (item : ℤ) (traffic : Traffic)
    → IfOk (pushed_to port item traffic) (λ after. after.words ≡ traffic.words)
push_quiet port item traffic = by_test (nat_lt (length traffic.pushes) port.room)
  where
    by_test : (test : Bool) → IfOk (if test then Ok
        (record traffic { pushes = traffic.pushes ++ item ∷ [] }) else Err PeekRange)
        (λ after. after.words ≡ traffic.words)
    by_test true = refl
    by_test false = tt

-- a statement in a scope of its own
inside_quiet : (does : Store → Result Store Cause) (store : Store) (words : List Word)
    → IsQuiet words (does store) → IsQuiet words (inside does store)
inside_quiet does store words h = then_ok (does store) _ (λ after. after.traffic.words ≡ words)
    (λ after. after.traffic.words ≡ words) h (λ inner k. k)

branch_quiet : (test : Bool) (words : List Word) (one other : Result Store Cause)
    → IsQuiet words one → IsQuiet words other → IsQuiet words (if test then one else other)
branch_quiet true words one other h k = h
branch_quiet false words one other h k = k

-- what comes after a part in which a `return` may stand
unless_quiet : (returns : Bool) (does : Store → Result Store Cause) (store : Store)
    (words : List Word) → store.traffic.words ≡ words → IsQuiet words (does store)
    → IsQuiet words (unless_returned returns does store)
unless_quiet false does store words h k = k
unless_quiet true does store words h k =
    branch_quiet (has_returned store) words (Ok store) (does store) h k

test_quiet : (returns : Bool) (test : Store → Result (ℤ × Store) Cause) (store : Store)
    (words : List Word) → store.traffic.words ≡ words → GivesQuietly words (test store)
    → GivesQuietly words (test_unless_returned returns test store)
test_quiet false test store words h k = k
test_quiet true test store words h k =
    side_quiet (has_returned store) words (Ok (pos 0, store)) (test store) h k

return_quiet : (setting : Setting) (value : Option tree.Expr) (store : Store) (words : List Word)
    → store.traffic.words ≡ words → IsQuiet words (returned setting value store)
return_quiet setting None store words h = h
return_quiet setting (Some value) store words h =
    then_quiet setting value store _ words h (λ given. refl)

turned_quiet : (store : Store) → IsQuiet store.traffic.words (turned store)
turned_quiet store = by_test (nat_lt store.traffic.turns turn_limit)
  where
    by_test : (test : Bool) → IsQuiet store.traffic.words
        (result_and_then (if test then Ok (record store.traffic { turns = store.traffic.turns + 1 })
        else Err Turns) (λ traffic. Ok (record store { traffic = traffic })))
    by_test true = refl
    by_test false = tt

-- a loop whose condition and body print nothing
loop_quiet : (fuel : ℕ) (test : Store → Result (ℤ × Store) Cause)
    (does : Store → Result Store Cause) (words : List Word)
    → ((store : Store) → store.traffic.words ≡ words → GivesQuietly words (test store))
    → ((store : Store) → store.traffic.words ≡ words → IsQuiet words (does store))
    → (store : Store) → store.traffic.words ≡ words → IsQuiet words (looped fuel test does store)
loop_quiet zero test does words tests moves store h = tt
loop_quiet (suc fuel) test does words tests moves store h =
    then_ok (test store) _ (λ given. given.1.traffic.words ≡ words)
    (λ after. after.traffic.words ≡ words) (tests store h)
    (λ tested k. branch_quiet (is_true tested.0) words
    (result_and_then (turned tested.1) (λ turning. result_and_then (does turning)
    (looped fuel test does))) (Ok tested.1)
    (then_ok (turned tested.1) _ (λ after. after.traffic.words ≡ tested.1.traffic.words)
    (λ after. after.traffic.words ≡ words) (turned_quiet tested.1)
    (λ turning l. then_ok (does turning) _ (λ after. after.traffic.words ≡ words)
    (λ after. after.traffic.words ≡ words) (moves turning (l ∙ k))
    (λ done m. loop_quiet fuel test does words tests moves done m))) k)

-- an assignment to an element, after its index
joined_element_quiet : (setting : Setting) (name : List ℕ) (operator : BinaryOperator)
    (value : tree.Expr) (at : ℤ × Store) (words : List Word) → at.1.traffic.words ≡ words
    → IsQuiet words (element_joined setting name operator value at)
joined_element_quiet setting name operator value at words h = by_place (place_of at.1 name at.0)
  where
    by_place : (found : Result ℕ Cause) → IsQuiet words
        (result_and_then found (λ place. result_and_then (value_of setting value at.1)
        (λ given. result_and_then (binary_value operator (cell_in at.1 name place) given.0)
        (λ new. Ok (cell_set given.1 name place new)))))
    by_place (Ok place) =
        then_ok (value_of setting value at.1) _ (λ given. given.1.traffic.words ≡ words)
        (λ after. after.traffic.words ≡ words)
        (value_quiet setting value at.1 words h)
        (λ given k. any_quiet (binary_value operator (cell_in at.1 name place) given.0)
        (λ new. cell_set given.1 name place new) words (λ new. k))
    by_place (Err cause) = tt

element_quiet : (setting : Setting) (name : List ℕ) (operator : AssignOperator) (value : tree.Expr)
    (at : ℤ × Store) (words : List Word) → at.1.traffic.words ≡ words
    → IsQuiet words (element_set setting name operator value at)
element_quiet setting name assign.Set value at words h =
    then_ok (value_of setting value at.1) _ (λ given. given.1.traffic.words ≡ words)
    (λ after. after.traffic.words ≡ words)
    (value_quiet setting value at.1 words h)
    (λ given k. any_quiet (place_of given.1 name at.0)
    (λ place. cell_set given.1 name place given.0) words (λ place. k))
element_quiet setting name assign.Add value at words h =
    joined_element_quiet setting name binary.Add value at words h
element_quiet setting name assign.Subtract value at words h =
    joined_element_quiet setting name binary.Subtract value at words h
element_quiet setting name assign.Multiply value at words h =
    joined_element_quiet setting name binary.Multiply value at words h
element_quiet setting name assign.Divide value at words h =
    joined_element_quiet setting name binary.Divide value at words h
element_quiet setting name assign.Remainder value at words h =
    joined_element_quiet setting name binary.Remainder value at words h

mutual
  stmt_quiet : (setting : Setting) (s : tree.Stmt) (store : Store) (words : List Word)
      → stmt_prints s ≡ false → store.traffic.words ≡ words
      → IsQuiet words (stmt_done setting s store)
  stmt_quiet setting tree.Empty store words none h = h
  stmt_quiet setting (tree.Return value) store words none h =
      return_quiet setting value store words h
  stmt_quiet setting (tree.Block body) store words none h =
      inside_quiet (stmts_done setting body) store words
      (stmts_quiet setting body store words none h)
  stmt_quiet setting (tree.Declare kind variables) store words none h =
      variables_quiet setting (cells_of kind) variables store words h
  stmt_quiet setting (tree.Evaluate value) store words none h =
      then_quiet setting value store _ words h (λ given. refl)
  stmt_quiet setting (tree.Assign name operator value) store words none h =
      then_quiet setting (assigned_value name operator value) store _ words h (λ given. refl)
  stmt_quiet setting (tree.AssignElement name index operator value) store words none h =
      then_ok (value_of setting index store) _ (λ given. given.1.traffic.words ≡ words)
      (λ after. after.traffic.words ≡ words)
      (value_quiet setting index store words h)
      (λ at k. element_quiet setting name operator value at words k)
  stmt_quiet setting (tree.If condition chosen) store words none h =
      then_ok (value_of setting condition store) _ (λ given. given.1.traffic.words ≡ words)
      (λ after. after.traffic.words ≡ words)
      (value_quiet setting condition store words h)
      (λ test k. branch_quiet (is_true test.0) words (inside (stmt_done setting chosen) test.1)
      (Ok test.1)
      (inside_quiet (stmt_done setting chosen) test.1 words
      (stmt_quiet setting chosen test.1 words none k)) k)
  stmt_quiet setting (tree.IfElse condition chosen other) store words none h =
      then_ok (value_of setting condition store) _ (λ given. given.1.traffic.words ≡ words)
      (λ after. after.traffic.words ≡ words)
      (value_quiet setting condition store words h)
      (λ test k. branch_quiet (is_true test.0) words (inside (stmt_done setting chosen) test.1)
      (inside (stmt_done setting other) test.1)
      (inside_quiet (stmt_done setting chosen) test.1 words
      (stmt_quiet setting chosen test.1 words
      (or_first (stmt_prints chosen) (stmt_prints other) none) k))
      (inside_quiet (stmt_done setting other) test.1 words
      (stmt_quiet setting other test.1 words
      (or_second (stmt_prints chosen) (stmt_prints other) none) k)))
  stmt_quiet setting (tree.While condition body) store words none h =
      loop_quiet (suc turn_limit)
      (test_unless_returned (stmt_returns body) (value_of setting condition))
      (inside (stmt_done setting body)) words
      (λ s k. test_quiet (stmt_returns body) (value_of setting condition) s words k
      (value_quiet setting condition s words k))
      (λ s k. inside_quiet (stmt_done setting body) s words
      (stmt_quiet setting body s words none k)) store h
  stmt_quiet setting (tree.For first condition step body) store words none h =
      let rest = or_second (stmt_prints first) (stmt_prints step || stmt_prints body) none in
      inside_quiet (λ outer. result_and_then (stmt_done setting first outer)
      (λ begun. looped (suc turn_limit)
      (test_unless_returned (stmt_returns body) (condition_value setting condition))
      (λ turn. result_and_then (inside (stmt_done setting body) turn)
      (unless_returned (stmt_returns body) (inside (stmt_done setting step)))) begun)) store words
      (then_ok (stmt_done setting first store) _ (λ after. after.traffic.words ≡ words)
      (λ after. after.traffic.words ≡ words)
      (stmt_quiet setting first store words (or_first (stmt_prints first)
      (stmt_prints step || stmt_prints body) none) h)
      (λ begun k.
      loop_quiet (suc turn_limit)
      (test_unless_returned (stmt_returns body) (condition_value setting condition))
      (λ turn. result_and_then (inside (stmt_done setting body) turn)
      (unless_returned (stmt_returns body) (inside (stmt_done setting step)))) words
      (λ s l. test_quiet (stmt_returns body) (condition_value setting condition) s words l
      (condition_quiet setting condition s words l))
      (λ s l.
      then_ok (inside (stmt_done setting body) s) _ (λ after. after.traffic.words ≡ words)
      (λ after. after.traffic.words ≡ words)
      (inside_quiet (stmt_done setting body) s words
      (stmt_quiet setting body s words (or_second (stmt_prints step) (stmt_prints body) rest) l))
      (λ done m. unless_quiet (stmt_returns body) (inside (stmt_done setting step)) done words m
      (inside_quiet (stmt_done setting step) done words (stmt_quiet setting step done words
      (or_first (stmt_prints step) (stmt_prints body) rest) m))))
      begun k))
  stmt_quiet setting (tree.Push value) store words none h =
      then_ok (value_of setting value store) _ (λ given. given.1.traffic.words ≡ words)
      (λ after. after.traffic.words ≡ words)
      (value_quiet setting value store words h)
      (λ given k.
      then_ok (pushed_to setting.port given.0 given.1.traffic) _
      (λ traffic. traffic.words ≡ given.1.traffic.words) (λ after. after.traffic.words ≡ words)
      (push_quiet setting.port given.0 given.1.traffic) (λ traffic l. l ∙ k))
  stmt_quiet setting (tree.Print value) store words none h = absurd (cc)
  stmt_quiet setting (tree.Println value) store words none h = absurd (cc)
  stmt_quiet setting (tree.Compose statement) store words none h = h

  stmts_quiet : (setting : Setting) (s : tree.Stmts) (store : Store) (words : List Word)
      → stmts_print s ≡ false → store.traffic.words ≡ words
      → IsQuiet words (stmts_done setting s store)
  stmts_quiet setting tree.Done store words none h = h
  stmts_quiet setting (tree.Then first rest) store words none h =
      then_ok (stmt_done setting first store)
      (unless_returned (stmt_returns first) (stmts_done setting rest))
      (λ after. after.traffic.words ≡ words) (λ after. after.traffic.words ≡ words)
      (stmt_quiet setting first store words
      (or_first (stmt_prints first) (stmts_print rest) none) h)
      (λ middle k. unless_quiet (stmt_returns first) (stmts_done setting rest) middle words k
      (stmts_quiet setting rest middle words
      (or_second (stmt_prints first) (stmts_print rest) none) k))

-- a body of a filter that doesn't print
body_silent : (fires : Body) (filter : Filter) → filter_prints filter ≡ false
    → stmts_print (body_block fires filter.members) ≡ false
body_silent body.Prework filter silent =
    or_second (stmts_print (work_block filter.members))
    (stmts_print (body_block body.Prework filter.members)) silent
body_silent body.Work filter silent =
    or_first (stmts_print (work_block filter.members))
    (stmts_print (body_block body.Prework filter.members)) silent

-- a firing of a filter that doesn't print has no words
pub firing_quiet : (filter : Filter) (fires : Body) (fields window : List ℤ)
    → filter_prints filter ≡ false
    → IfOk (fired filter fires fields window) (λ done. done.words ≡ [])
firing_quiet filter fires fields window silent =
    then_ok (stmts_done (setting_of filter fires window) (body_block fires filter.members)
    (store_at filter fields)) _ (λ after. after.traffic.words ≡ []) (λ done. done.words ≡ [])
    (stmts_quiet (setting_of filter fires window) (body_block fires filter.members)
    (store_at filter fields) [] (body_silent fires filter silent) refl)
    (λ store h. h)

-- an outcome without words
abbrev IsSilent : generic.Fired (List ℤ) Cause Word → Type 0
IsSilent (Fires next pushes words) = words ≡ []
IsSilent (Faults cause) = Unit {0}

fired_silent : (result : Result Fired Cause) → IfOk result (λ done. done.words ≡ [])
    → IsSilent (as_fired result)
fired_silent (Ok done) h = h
fired_silent (Err cause) h = tt

node_silent : (code : NodeCode) (firing : ℕ) (fields : List ℤ) (seen : ByPort)
    → gives_words code ≡ false → IsSilent (node_fired code firing fields seen)
node_silent (graphs.Filter name filter) firing fields seen silent =
    fired_silent (fired filter (body_at firing) fields (seen 0))
    (firing_quiet filter (body_at firing) fields (seen 0) silent)
node_silent graphs.Identity firing fields seen silent = refl
node_silent (graphs.FileReader text) firing fields seen silent = refl
node_silent (graphs.FileWriter text) firing fields seen silent = absurd (cc)
node_silent (graphs.Splitter splitter) firing fields seen silent = refl
node_silent (graphs.Joiner weights) firing fields seen silent = refl
node_silent (graphs.Scatter fission) firing fields seen silent = refl
node_silent (graphs.Copy (graphs.OfFilter name filter) fission) firing fields seen silent =
    fired_silent (fired filter (body_at firing) fields (seen 0))
    (firing_quiet filter (body_at firing) fields (seen 0) silent)
node_silent (graphs.Copy graphs.OfIdentity fission) firing fields seen silent = refl
node_silent (graphs.Gather fission) firing fields seen silent = refl

-- a firing of a node that can't write words has none
pub node_quiet : (code : NodeCode) (firing : ℕ) (fields : List ℤ) (seen : ByPort)
    (next : List ℤ) (pushes : ByPort) (words : List Word) → gives_words code ≡ false
    → node_fired code firing fields seen ≡ Fires next pushes words → words ≡ []
node_quiet code firing fields seen next pushes words silent fires =
    subst IsSilent fires (node_silent code firing fields seen silent)
