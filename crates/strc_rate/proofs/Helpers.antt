-- A helper function, whose text moves nothing, stays in range, whatever it calls and returns.
use Rattle.std.proofs.Common.{◌≡◌, ℕ, zero, suc, ℤ, pos, Bool, true, false, List, [], ◌∷◌}
use Rattle.std.proofs.Common.{length, Option, Some, None, Result, Ok, Err}
use Rattle.std.specs.Prelude.{◌==◌, bytes_eq, if◌then◌else◌}
use Rattle.std.specs.Option.{IfSome}
use Rattle.strc_lex_names.specs.Results.{result_and_then}
use Rattle.strc_parse_tree.specs.Tree as tree
use Rattle.strc_work_meaning.specs.declared.fault.Cause.{Cause}
use Rattle.strc_work_meaning.specs.declared.fault.Cause.TheVariants.{Calls}
use Rattle.strc_work_meaning.specs.Arithmetic.{is_true}
use Rattle.strc_work_meaning.specs.Scoping.{Scope, cells_of, total}
use Rattle.strc_work_meaning.specs.Filters.{Helper, helper_named, sized_fields}
use Rattle.strc_work_meaning.specs.Closed.{AreClosedMembers}
use Rattle.strc_work_meaning.specs.Returns.{stmt_returns}
use Rattle.strc_work_meaning.specs.Firing.{Setting, Store, place_of, values_of, fields_in}
use Rattle.strc_work_meaning.specs.Firing.{value_of, arguments_given, initial_cells, declared_in}
use Rattle.strc_work_meaning.specs.Firing.{variables_declared, condition_value, has_returned}
use Rattle.strc_work_meaning.specs.Firing.{returned, unless_returned, test_unless_returned, turned}
use Rattle.strc_work_meaning.specs.Firing.{turn_limit, looped, inside, stmt_done, stmts_done, no_io}
use Rattle.strc_work_meaning.specs.Firing.{helper_store, helper_called, call_ended, called}
use Rattle.strc_work_meaning.specs.Firing.{element_set}
use Rattle.strc_work_meaning.specs.Still.{expr_moves, arguments_move, option_moves, variables_move}
use Rattle.strc_work_meaning.specs.Still.{stmt_moves, stmts_move}
use Rattle.strc_rate.specs.Ranges.{IsInRange}
use Rattle.strc_rate.proofs.Results.{or_first, or_second}
use Rattle.strc_rate.proofs.Reaching.{in_plain, in_side}
use Rattle.strc_rate.proofs.Values.{CallsStay, place_stays, joined_stays, turned_stays}
use Rattle.strc_rate.proofs.Parts.{assigned_stays, element_stays}
use Rattle.strc_rate.proofs.Loops.{inside_stays}

-- ---- parts that stay in range from any store

abbrev AlwaysStays : {A : Type 0} → (Store → Result A Cause) → Type 0
AlwaysStays does = (store : Store) → IsInRange (does store)

-- a loop of such parts
any_loop : (fuel : ℕ) (test : Store → Result (ℤ × Store) Cause) (body : Store → Result Store Cause)
    → AlwaysStays test → AlwaysStays body → AlwaysStays (looped fuel test body)
any_loop zero test body tests turns store = tt
any_loop (suc fuel) test body tests turns store =
    in_plain (test store) _ (tests store)
    (λ tested. in_side (is_true tested.0) (result_and_then (turned tested.1)
    (λ turning. result_and_then (body turning) (looped fuel test body))) (Ok tested.1)
    (λ e. in_plain (turned tested.1) _ (turned_stays tested.1)
    (λ turning. in_plain (body turning) (looped fuel test body) (turns turning)
    (any_loop fuel test body tests turns)))
    (λ e. tt))

-- a part that is left out once the helper has returned
unless_stays : (returns : Bool) (does : Store → Result Store Cause) → AlwaysStays does
    → AlwaysStays (unless_returned returns does)
unless_stays false does stays store = stays store
unless_stays true does stays store =
    in_side (has_returned store) (Ok store) (does store) (λ e. tt) (λ e. stays store)

test_stays : (returns : Bool) (test : Store → Result (ℤ × Store) Cause) → AlwaysStays test
    → AlwaysStays (test_unless_returned returns test)
test_stays false test stays store = stays store
test_stays true test stays store =
    in_side (has_returned store) (Ok (pos 0, store)) (test store) (λ e. tt) (λ e. stays store)

-- ---- texts that move nothing

module _ (setting : Setting) (calls : CallsStay setting) where
  mutual
    still_value : (e : tree.Expr) → expr_moves e ≡ false → AlwaysStays (value_of setting e)
    still_value (tree.Number value) still store = tt
    still_value (tree.Truth value) still store = tt
    still_value (tree.Read name) still store = tt
    still_value (tree.Element name index) still store =
        in_plain (value_of setting index store) _ (still_value index still store)
        (λ at. in_plain (place_of at.1 name at.0) _ (place_stays at.1 name at.0) (λ found. tt))
    still_value tree.Pop still store = absurd (cc)
    still_value (tree.Peek index) still store = absurd (cc)
    still_value (tree.Call name arguments) still store =
        in_plain (arguments_given setting arguments store) _ (still_arguments arguments still store)
        (λ given.
        let held = values_of (fields_in setting given.1.variables) in
        in_plain (setting.call name given.0 held given.1.traffic.turns) _
        (calls name given.0 held given.1.traffic.turns) (λ called. tt))
    still_value (tree.Group inner) still store = still_value inner still store
    still_value (tree.Unary operator operand) still store =
        in_plain (value_of setting operand store) _ (still_value operand still store) (λ right. tt)
    still_value (tree.Step operator name) still store = tt
    still_value (tree.StepElement operator name index) still store =
        in_plain (value_of setting index store) _ (still_value index still store)
        (λ at. in_plain (place_of at.1 name at.0) _ (place_stays at.1 name at.0) (λ found. tt))
    still_value (tree.Binary operator left right) still store =
        in_plain (value_of setting left store) _
        (still_value left (or_first (expr_moves left) (expr_moves right) still) store)
        (λ first. joined_stays operator first (value_of setting right)
        (λ e. still_value right (or_second (expr_moves left) (expr_moves right) still) first.1))
    still_value (tree.Conditional condition chosen other) still store =
        let sides = or_second (expr_moves condition) _ still in
        in_plain (value_of setting condition store) _
        (still_value condition (or_first (expr_moves condition) _ still) store)
        (λ test. in_side (is_true test.0) (value_of setting chosen test.1)
        (value_of setting other test.1)
        (λ e. still_value chosen (or_first (expr_moves chosen) (expr_moves other) sides) test.1)
        (λ e. still_value other (or_second (expr_moves chosen) (expr_moves other) sides) test.1))

    still_arguments : (arguments : tree.Arguments) → arguments_move arguments ≡ false
        → AlwaysStays (arguments_given setting arguments)
    still_arguments tree.NoArgument still store = tt
    still_arguments (tree.Argument first rest) still store =
        in_plain (value_of setting first store) _
        (still_value first (or_first (expr_moves first) (arguments_move rest) still) store)
        (λ given. in_plain (arguments_given setting rest given.1) _
        (still_arguments rest (or_second (expr_moves first) (arguments_move rest) still) given.1)
        (λ others. tt))

  still_initial : (cells : ℕ) (initial : Option tree.Expr) → option_moves initial ≡ false
      → AlwaysStays (initial_cells setting cells initial)
  still_initial cells None still store = tt
  still_initial cells (Some initial) still store =
      in_plain (value_of setting initial store) _ (still_value initial still store) (λ given. tt)

  still_variables : (cells : ℕ) (variables : List tree.Variable)
      → variables_move variables ≡ false
      → AlwaysStays (variables_declared setting cells variables)
  still_variables cells [] still store = tt
  still_variables cells (first ∷ rest) still store =
      in_plain (initial_cells setting cells first.initial store) _
      (still_initial cells first.initial
      (or_first (option_moves first.initial) (variables_move rest) still) store)
      (λ given. still_variables cells rest
      (or_second (option_moves first.initial) (variables_move rest) still)
      (declared_in given.1 first.name given.0))

  still_condition : (condition : Option tree.Expr) → option_moves condition ≡ false
      → AlwaysStays (condition_value setting condition)
  still_condition None still store = tt
  still_condition (Some condition) still store = still_value condition still store

  still_return : (value : Option tree.Expr) → option_moves value ≡ false
      → AlwaysStays (returned setting value)
  still_return None still store = tt
  still_return (Some value) still store =
      in_plain (value_of setting value store) _ (still_value value still store) (λ given. tt)

  mutual
    still_stmt : (s : tree.Stmt) → stmt_moves s ≡ false → AlwaysStays (stmt_done setting s)
    still_stmt tree.Empty still store = tt
    still_stmt (tree.Compose statement) still store = tt
    still_stmt (tree.Block body) still store =
        inside_stays (stmts_done setting body) store (still_stmts body still store)
    still_stmt (tree.Declare kind variables) still store =
        still_variables (cells_of kind) variables still store
    still_stmt (tree.Evaluate value) still store =
        in_plain (value_of setting value store) _ (still_value value still store) (λ given. tt)
    still_stmt (tree.Assign name operator value) still store =
        assigned_stays setting name operator value store (still_value value still store)
    still_stmt (tree.AssignElement name index operator value) still store =
        in_plain (value_of setting index store) (element_set setting name operator value)
        (still_value index (or_first (expr_moves index) (expr_moves value) still) store)
        (λ at. element_stays setting name operator value at
        (still_value value (or_second (expr_moves index) (expr_moves value) still) at.1))
    still_stmt (tree.If condition chosen) still store =
        in_plain (value_of setting condition store) _
        (still_value condition (or_first (expr_moves condition) (stmt_moves chosen) still) store)
        (λ test. in_side (is_true test.0) (inside (stmt_done setting chosen) test.1) (Ok test.1)
        (λ e. inside_stays (stmt_done setting chosen) test.1
        (still_stmt chosen (or_second (expr_moves condition) (stmt_moves chosen) still) test.1))
        (λ e. tt))
    still_stmt (tree.IfElse condition chosen other) still store =
        let sides = or_second (expr_moves condition) _ still in
        in_plain (value_of setting condition store) _
        (still_value condition (or_first (expr_moves condition) _ still) store)
        (λ test. in_side (is_true test.0) (inside (stmt_done setting chosen) test.1)
        (inside (stmt_done setting other) test.1)
        (λ e. inside_stays (stmt_done setting chosen) test.1
        (still_stmt chosen (or_first (stmt_moves chosen) (stmt_moves other) sides) test.1))
        (λ e. inside_stays (stmt_done setting other) test.1
        (still_stmt other (or_second (stmt_moves chosen) (stmt_moves other) sides) test.1)))
    still_stmt (tree.While condition body) still store =
        any_loop (suc turn_limit)
        (test_unless_returned (stmt_returns body) (value_of setting condition))
        (inside (stmt_done setting body))
        (test_stays (stmt_returns body) (value_of setting condition)
        (still_value condition (or_first (expr_moves condition) (stmt_moves body) still)))
        (λ turn. inside_stays (stmt_done setting body) turn
        (still_stmt body (or_second (expr_moves condition) (stmt_moves body) still) turn)) store
    still_stmt (tree.For first condition step body) still store =
        let rest = or_second (stmt_moves first) _ still in
        let turns = or_second (option_moves condition) _ rest in
        let loop : Store → Result Store Cause = looped (suc turn_limit)
        (test_unless_returned (stmt_returns body) (condition_value setting condition))
        (λ turn. result_and_then (inside (stmt_done setting body) turn)
        (unless_returned (stmt_returns body) (inside (stmt_done setting step)))) in
        inside_stays (λ outer. result_and_then (stmt_done setting first outer) loop) store
        (in_plain (stmt_done setting first store) loop
        (still_stmt first (or_first (stmt_moves first) _ still) store)
        (any_loop (suc turn_limit)
        (test_unless_returned (stmt_returns body) (condition_value setting condition))
        (λ turn. result_and_then (inside (stmt_done setting body) turn)
        (unless_returned (stmt_returns body) (inside (stmt_done setting step))))
        (test_stays (stmt_returns body) (condition_value setting condition)
        (still_condition condition (or_first (option_moves condition) _ rest)))
        (λ turn. in_plain (inside (stmt_done setting body) turn)
        (unless_returned (stmt_returns body) (inside (stmt_done setting step)))
        (inside_stays (stmt_done setting body) turn
        (still_stmt body (or_second (stmt_moves step) (stmt_moves body) turns) turn))
        (unless_stays (stmt_returns body) (inside (stmt_done setting step))
        (λ middle. inside_stays (stmt_done setting step) middle
        (still_stmt step (or_first (stmt_moves step) (stmt_moves body) turns) middle))))))
    still_stmt (tree.Push value) still store = absurd (cc)
    still_stmt (tree.Print value) still store =
        in_plain (value_of setting value store) _ (still_value value still store) (λ given. tt)
    still_stmt (tree.Println value) still store =
        in_plain (value_of setting value store) _ (still_value value still store) (λ given. tt)
    still_stmt (tree.Return value) still store = still_return value still store

    still_stmts : (block : tree.Stmts) → stmts_move block ≡ false
        → AlwaysStays (stmts_done setting block)
    still_stmts tree.Done still store = tt
    still_stmts (tree.Then first rest) still store =
        in_plain (stmt_done setting first store)
        (unless_returned (stmt_returns first) (stmts_done setting rest))
        (still_stmt first (or_first (stmt_moves first) (stmts_move rest) still) store)
        (unless_stays (stmt_returns first) (stmts_done setting rest)
        (still_stmts rest (or_second (stmt_moves first) (stmts_move rest) still)))

  -- a call of a helper function, where there is one
  helper_stays : (fields : Scope) (helper : Option Helper)
      → IfSome helper (λ h. stmts_move h.block ≡ false) → (values held : List ℤ) (turns : ℕ)
      → IsInRange (helper_called setting fields helper values held turns)
  helper_stays fields None still values held turns = tt
  helper_stays fields (Some helper) still values held turns =
      let begun = helper_store fields helper.parameters values held turns in
      in_side (length values == length helper.parameters) (result_and_then (turned begun)
      (λ store. result_and_then (stmts_done setting helper.block store)
      (λ ended. Ok (call_ended setting ended)))) (Err Calls)
      (λ e. in_plain (turned begun) _ (turned_stays begun)
      (λ store. in_plain (stmts_done setting helper.block store) _
      (still_stmts helper.block still store) (λ ended. tt)))
      (λ e. tt)

-- ---- calls

-- the text of each helper function moves nothing
abbrev HelpersAreStill : List tree.Member → Type 0
HelpersAreStill members =
    (name : List ℕ) → IfSome (helper_named members name)
    (λ helper. stmts_move helper.block ≡ false)

still_by : (found : Bool) (helper : Helper) (others : Option Helper)
    → stmts_move helper.block ≡ false → IfSome others (λ h. stmts_move h.block ≡ false)
    → IfSome (if found then Some helper else others) (λ h. stmts_move h.block ≡ false)
still_by true helper others still rest = still
still_by false helper others still rest = rest

helpers_still : (names : Scope) (members : List tree.Member) → AreClosedMembers names members
    → HelpersAreStill members
helpers_still names [] closed name = tt
helpers_still names (tree.Fields kind variables ∷ rest) closed name =
    helpers_still names rest closed.1 name
helpers_still names (tree.Init block ∷ rest) closed name = helpers_still names rest closed.1 name
helpers_still names (tree.Prework rates block ∷ rest) closed name =
    helpers_still names rest closed.1 name
helpers_still names (tree.Work rates block ∷ rest) closed name =
    helpers_still names rest closed.1 name
helpers_still names (tree.Helper kind own parameters block ∷ rest) closed name =
    still_by (bytes_eq own name) (record { kind = kind; parameters = parameters; block = block })
    (helper_named rest name) closed.0.5 (helpers_still names rest closed.1 name)

still_calls : (members : List tree.Member) → HelpersAreStill members → (levels : ℕ)
    (name : List ℕ) (values held : List ℤ) (turns : ℕ)
    → IsInRange (called members levels name values held turns)
still_calls members still zero name values held turns = tt
still_calls members still (suc levels) name values held turns =
    helper_stays (record {
      port = no_io;
      fields = length (sized_fields members);
      cells = total (sized_fields members);
      call = called members levels;
    }) (still_calls members still levels) (sized_fields members) (helper_named members name)
    (still name) values held turns

-- the helper functions among members of known names, at any level
pub called_stays : (names : Scope) (members : List tree.Member) → AreClosedMembers names members
    → (levels : ℕ) (name : List ℕ) (values held : List ℤ) (turns : ℕ)
    → IsInRange (called members levels name values held turns)
called_stays names members closed = still_calls members (helpers_still names members closed)
