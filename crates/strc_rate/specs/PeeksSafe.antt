-- What a closed peek promises: in each run its item is in the window. A walk over the text goes as
-- its meaning does, keeps the number of the next peek among those of the text, and asks this of
-- each peek that is run.
use Rattle.std.specs.Prelude.{◌≡◌, ℕ, zero, suc, ◌+◌, ℤ, Bool, true, false, List, [], ◌∷◌, length}
use Rattle.std.specs.Prelude.{get_or, Option, Some, None, Result, IfOk, IsSome}
use Rattle.std.specs.Bool.{MatchBool}
use Rattle.strc_lex_names.specs.Results.{result_and_then}
use Rattle.strc_parse_tree.specs.Tree as tree
use Rattle.strc_work_meaning.specs.declared.fault.Cause.{Cause}
use Rattle.strc_work_meaning.specs.Arithmetic.{is_true}
use Rattle.strc_work_meaning.specs.Constants.{decides}
use Rattle.strc_work_meaning.specs.Scoping.{cells_of}
use Rattle.strc_work_meaning.specs.Returns.{stmt_returns}
use Rattle.strc_work_meaning.specs.Firing.{Setting, Store, item_ahead, value_of, initial_cells}
use Rattle.strc_work_meaning.specs.Firing.{declared_in, condition_value, turned, turn_limit, inside}
use Rattle.strc_work_meaning.specs.Firing.{stmt_done, unless_returned, test_unless_returned}
use Rattle.strc_rate.specs.Entries.{peeks_of_expr, peeks_of_option, peeks_of_stmt}

-- the item of a peek whose entry is closed is in the window, where the index has a value
abbrev pub PeekIsSafe : Setting → (closed : List Bool) → (place : ℕ) → (index : tree.Expr) → Store
    → Type 0
PeekIsSafe setting closed place index store =
    get_or closed place false ≡ true → IfOk (value_of setting index store)
    (λ given. IsSome (item_ahead setting.port given.1.traffic.popped given.0))

abbrev mutual
  -- each closed peek of an expression that is run in this store; the first has this number
  pub ExprIsSafe : Setting → (closed : List Bool) → (place : ℕ) → tree.Expr → Store → Type 0
  ExprIsSafe setting closed place (tree.Number value) store = Unit {0}
  ExprIsSafe setting closed place (tree.Truth value) store = Unit {0}
  ExprIsSafe setting closed place (tree.Read name) store = Unit {0}
  ExprIsSafe setting closed place (tree.Element name index) store =
      ExprIsSafe setting closed place index store
  ExprIsSafe setting closed place tree.Pop store = Unit {0}
  ExprIsSafe setting closed place (tree.Peek index) store =
      ExprIsSafe setting closed place index store
      × PeekIsSafe setting closed (place + length (peeks_of_expr index)) index store
  ExprIsSafe setting closed place (tree.Call name arguments) store =
      ArgumentsAreSafe setting closed place arguments store
  ExprIsSafe setting closed place (tree.Group inner) store =
      ExprIsSafe setting closed place inner store
  ExprIsSafe setting closed place (tree.Unary operator operand) store =
      ExprIsSafe setting closed place operand store
  ExprIsSafe setting closed place (tree.Step operator name) store = Unit {0}
  ExprIsSafe setting closed place (tree.StepElement operator name index) store =
      ExprIsSafe setting closed place index store
  ExprIsSafe setting closed place (tree.Binary operator left right) store =
      ExprIsSafe setting closed place left store
      × IfOk (value_of setting left store) (λ first.
      MatchBool (decides operator first.0) (Unit {0})
      (ExprIsSafe setting closed (place + length (peeks_of_expr left)) right first.1))
  ExprIsSafe setting closed place (tree.Conditional condition chosen other) store =
      let past = place + length (peeks_of_expr condition) in
      ExprIsSafe setting closed place condition store
      × IfOk (value_of setting condition store) (λ test.
      MatchBool (is_true test.0) (ExprIsSafe setting closed past chosen test.1)
      (ExprIsSafe setting closed (past + length (peeks_of_expr chosen)) other test.1))

  -- each closed peek of arguments, each of them in the store that those before leave
  pub ArgumentsAreSafe : Setting → (closed : List Bool) → (place : ℕ) → tree.Arguments → Store
      → Type 0
  ArgumentsAreSafe setting closed place tree.NoArgument store = Unit {0}
  ArgumentsAreSafe setting closed place (tree.Argument first rest) store =
      ExprIsSafe setting closed place first store
      × IfOk (value_of setting first store) (λ given.
      ArgumentsAreSafe setting closed (place + length (peeks_of_expr first)) rest given.1)

abbrev pub OptionIsSafe : Setting → (closed : List Bool) → (place : ℕ) → Option tree.Expr → Store
    → Type 0
OptionIsSafe setting closed place None store = Unit {0}
OptionIsSafe setting closed place (Some value) store = ExprIsSafe setting closed place value store

abbrev pub VariablesAreSafe : Setting → (closed : List Bool) → (place : ℕ) → (cells : ℕ)
    → List tree.Variable → Store → Type 0
VariablesAreSafe setting closed place cells [] store = Unit {0}
VariablesAreSafe setting closed place cells (first ∷ rest) store =
    OptionIsSafe setting closed place first.initial store
    × IfOk (initial_cells setting cells first.initial store) (λ given.
    VariablesAreSafe setting closed (place + length (peeks_of_option first.initial)) cells rest
    (declared_in given.1 first.name given.0))

-- each turn of a loop
abbrev pub LoopIsSafe : (fuel : ℕ) → (test_safe turn_safe : Store → Type 0)
    → (test : Store → Result (ℤ × Store) Cause) → (body : Store → Result Store Cause) → Store
    → Type 0
LoopIsSafe zero test_safe turn_safe test body store = Unit {0}
LoopIsSafe (suc fuel) test_safe turn_safe test body store =
    test_safe store
    × IfOk (test store) (λ tested.
    MatchBool (is_true tested.0)
    (IfOk (turned tested.1) (λ turning. turn_safe turning
    × IfOk (body turning) (LoopIsSafe fuel test_safe turn_safe test body)))
    (Unit {0}))

abbrev mutual
  -- each closed peek of a statement that is run from this store
  pub StmtIsSafe : Setting → (closed : List Bool) → (place : ℕ) → tree.Stmt → Store → Type 0
  StmtIsSafe setting closed place tree.Empty store = Unit {0}
  StmtIsSafe setting closed place (tree.Compose statement) store = Unit {0}
  StmtIsSafe setting closed place (tree.Return value) store = Unit {0}
  StmtIsSafe setting closed place (tree.Block body) store =
      StmtsAreSafe setting closed place body store
  StmtIsSafe setting closed place (tree.Declare kind variables) store =
      VariablesAreSafe setting closed place (cells_of kind) variables store
  StmtIsSafe setting closed place (tree.Evaluate value) store =
      ExprIsSafe setting closed place value store
  StmtIsSafe setting closed place (tree.Assign name operator value) store =
      ExprIsSafe setting closed place value store
  StmtIsSafe setting closed place (tree.AssignElement name index operator value) store =
      ExprIsSafe setting closed place index store
      × IfOk (value_of setting index store) (λ at.
      ExprIsSafe setting closed (place + length (peeks_of_expr index)) value at.1)
  StmtIsSafe setting closed place (tree.If condition chosen) store =
      ExprIsSafe setting closed place condition store
      × IfOk (value_of setting condition store) (λ test.
      MatchBool (is_true test.0)
      (StmtIsSafe setting closed (place + length (peeks_of_expr condition)) chosen test.1)
      (Unit {0}))
  StmtIsSafe setting closed place (tree.IfElse condition chosen other) store =
      let past = place + length (peeks_of_expr condition) in
      ExprIsSafe setting closed place condition store
      × IfOk (value_of setting condition store) (λ test.
      MatchBool (is_true test.0) (StmtIsSafe setting closed past chosen test.1)
      (StmtIsSafe setting closed (past + length (peeks_of_stmt chosen)) other test.1))
  StmtIsSafe setting closed place (tree.While condition body) store =
      LoopIsSafe (suc turn_limit) (λ s. ExprIsSafe setting closed place condition s)
      (λ s. StmtIsSafe setting closed (place + length (peeks_of_expr condition)) body s)
      (test_unless_returned (stmt_returns body) (value_of setting condition))
      (inside (stmt_done setting body)) store
  StmtIsSafe setting closed place (tree.For first condition step body) store =
      let test_place = place + length (peeks_of_stmt first) in
      let step_place = test_place + length (peeks_of_option condition) in
      let body_place = step_place + length (peeks_of_stmt step) in
      StmtIsSafe setting closed place first store
      × IfOk (stmt_done setting first store) (LoopIsSafe (suc turn_limit)
      (λ s. OptionIsSafe setting closed test_place condition s)
      (λ s. StmtIsSafe setting closed body_place body s
      × IfOk (inside (stmt_done setting body) s)
      (λ after. StmtIsSafe setting closed step_place step after))
      (test_unless_returned (stmt_returns body) (condition_value setting condition))
      (λ turn. result_and_then (inside (stmt_done setting body) turn)
      (unless_returned (stmt_returns body) (inside (stmt_done setting step)))))
  StmtIsSafe setting closed place (tree.Push value) store =
      ExprIsSafe setting closed place value store
  StmtIsSafe setting closed place (tree.Print value) store =
      ExprIsSafe setting closed place value store
  StmtIsSafe setting closed place (tree.Println value) store =
      ExprIsSafe setting closed place value store

  -- each closed peek of statements in a row that is run from this store
  pub StmtsAreSafe : Setting → (closed : List Bool) → (place : ℕ) → tree.Stmts → Store → Type 0
  StmtsAreSafe setting closed place tree.Done store = Unit {0}
  StmtsAreSafe setting closed place (tree.Then first rest) store =
      StmtIsSafe setting closed place first store
      × IfOk (stmt_done setting first store) (λ middle.
      StmtsAreSafe setting closed (place + length (peeks_of_stmt first)) rest middle)
