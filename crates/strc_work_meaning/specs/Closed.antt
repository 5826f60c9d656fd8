-- Texts in which each name of a variable is declared, and each variable has its cells.
use Rattle.std.specs.Prelude.{ℕ, ◌≡◌, ◌≤◌, true, false, List, [], ◌∷◌, reverse, Option, Some, None}
use Rattle.strc_parse_tree.specs.Tree as tree
use Rattle.strc_work_meaning.specs.Filters.{Filter, sized_fields, stmts_print}
use Rattle.strc_work_meaning.specs.Returns.{stmts_return, names_shadow, stmts_shadow, stmts_answer}
use Rattle.strc_work_meaning.specs.Still.{stmts_move}
use Rattle.strc_work_meaning.specs.Scoping.{Scope, cells_of, names_after, is_declared, answer_name}
use Rattle.strc_work_meaning.specs.Scoping.{helper_scope}

-- a name is one of these
abbrev pub IsNamed : Scope → List ℕ → Type 0
IsNamed names name = is_declared names name ≡ true

abbrev mutual
  pub IsClosed : Scope → tree.Expr → Type 0
  IsClosed names (tree.Number value) = Unit {0}
  IsClosed names (tree.Truth value) = Unit {0}
  IsClosed names (tree.Read name) = IsNamed names name
  IsClosed names (tree.Element name index) = IsNamed names name × IsClosed names index
  IsClosed names tree.Pop = Unit {0}
  IsClosed names (tree.Peek index) = IsClosed names index
  IsClosed names (tree.Call name arguments) = AreClosedArguments names arguments
  IsClosed names (tree.Group inner) = IsClosed names inner
  IsClosed names (tree.Unary operator operand) = IsClosed names operand
  IsClosed names (tree.Step operator name) = IsNamed names name
  IsClosed names (tree.StepElement operator name index) = IsNamed names name × IsClosed names index
  IsClosed names (tree.Binary operator left right) = IsClosed names left × IsClosed names right
  IsClosed names (tree.Conditional condition chosen other) =
      IsClosed names condition × IsClosed names chosen × IsClosed names other

  pub AreClosedArguments : Scope → tree.Arguments → Type 0
  AreClosedArguments names tree.NoArgument = Unit {0}
  AreClosedArguments names (tree.Argument first rest) =
      IsClosed names first × AreClosedArguments names rest

-- an initialiser or a condition, where there is one
abbrev pub IsClosedInitial : Scope → Option tree.Expr → Type 0
IsClosedInitial names None = Unit {0}
IsClosedInitial names (Some initial) = IsClosed names initial

-- a variable has a cell, and where it has an initialiser it has no other one
abbrev pub FitsInitial : (cells : ℕ) → Option tree.Expr → Type 0
FitsInitial cells None = 1 ≤ cells
FitsInitial cells (Some initial) = cells ≡ 1

-- variables that are declared one after another
abbrev pub AreClosedVariables : Scope → (cells : ℕ) → List tree.Variable → Type 0
AreClosedVariables names cells [] = Unit {0}
AreClosedVariables names cells (first ∷ rest) =
    IsClosedInitial names first.initial × FitsInitial cells first.initial
    × AreClosedVariables (record { 0 = first.name; 1 = cells } ∷ names) cells rest

abbrev mutual
  pub IsClosedStmt : Scope → tree.Stmt → Type 0
  IsClosedStmt names tree.Empty = Unit {0}
  IsClosedStmt names (tree.Compose statement) = Unit {0}
  IsClosedStmt names (tree.Block body) = AreClosed names body
  IsClosedStmt names (tree.Declare kind variables) =
      AreClosedVariables names (cells_of kind) variables
  IsClosedStmt names (tree.Evaluate value) = IsClosed names value
  IsClosedStmt names (tree.Assign name operator value) = IsNamed names name × IsClosed names value
  IsClosedStmt names (tree.AssignElement name index operator value) =
      IsNamed names name × IsClosed names index × IsClosed names value
  IsClosedStmt names (tree.If condition chosen) =
      IsClosed names condition × IsClosedStmt names chosen
  IsClosedStmt names (tree.IfElse condition chosen other) =
      IsClosed names condition × IsClosedStmt names chosen × IsClosedStmt names other
  IsClosedStmt names (tree.While condition body) =
      IsClosed names condition × IsClosedStmt names body
  IsClosedStmt names (tree.For first condition step body) =
      IsClosedStmt names first × IsClosedInitial (names_after names first) condition
      × IsClosedStmt (names_after names first) step
      × IsClosedStmt (names_after names first) body
  IsClosedStmt names (tree.Push value) = IsClosed names value
  IsClosedStmt names (tree.Print value) = IsClosed names value
  IsClosedStmt names (tree.Println value) = IsClosed names value
  IsClosedStmt names (tree.Return value) =
      IsNamed names answer_name × IsClosedInitial names value

  pub AreClosed : Scope → tree.Stmts → Type 0
  AreClosed names tree.Done = Unit {0}
  AreClosed names (tree.Then first rest) =
      IsClosedStmt names first × AreClosed (names_after names first) rest

-- fields, among all fields
abbrev pub AreClosedFields : Scope → (cells : ℕ) → List tree.Variable → Type 0
AreClosedFields names cells [] = Unit {0}
AreClosedFields names cells (first ∷ rest) =
    (IsNamed names first.name × IsClosedInitial names first.initial
    × FitsInitial cells first.initial) × AreClosedFields names cells rest

-- a block that isn't a helper function's: it doesn't return
abbrev pub IsClosedBody : Scope → tree.Stmts → Type 0
IsClosedBody names block =
    AreClosed names block × (stmts_return block ≡ false) × (stmts_shadow block ≡ false)

-- a helper function's block, inside its parameters: it doesn't print, nothing shadows its answer,
-- nothing but a `return` writes that, and it doesn't pop, peek or push
abbrev pub IsClosedHelper : Scope → (parameters : List (List ℕ)) → tree.Stmts → Type 0
IsClosedHelper names parameters block =
    AreClosed (helper_scope names parameters) block × (stmts_print block ≡ false)
    × (names_shadow parameters ≡ false) × (stmts_shadow block ≡ false)
    × (stmts_answer block ≡ false) × (stmts_move block ≡ false)

-- a member, among the fields
abbrev pub IsClosedMember : Scope → tree.Member → Type 0
IsClosedMember names (tree.Fields kind variables) = AreClosedFields names (cells_of kind) variables
IsClosedMember names (tree.Init block) = IsClosedBody names block
IsClosedMember names (tree.Prework rates block) = IsClosedBody names block
IsClosedMember names (tree.Work rates block) = IsClosedBody names block
IsClosedMember names (tree.Helper kind name parameters block) =
    IsClosedHelper names parameters block

abbrev pub AreClosedMembers : Scope → List tree.Member → Type 0
AreClosedMembers names [] = Unit {0}
AreClosedMembers names (first ∷ rest) = IsClosedMember names first × AreClosedMembers names rest

-- a filter, whose members see all its fields
abbrev pub IsClosedFilter : Filter → Type 0
IsClosedFilter filter = AreClosedMembers (reverse (sized_fields filter.members)) filter.members
