-- Texts whose calls are known, by the name of the helper function and how many arguments it takes;
-- rules exclude other ones before a program is emitted.
use Rattle.std.specs.Prelude.{◌≡◌, ℕ, Bool, true, List, [], ◌∷◌, Option, Some, None}
use Rattle.strc_parse_tree.specs.Tree as tree
use Rattle.strc_work_meaning.specs.Calls.{argument_count}
use Rattle.strc_work_meaning.specs.Filters.{Filter, body_block}
use Rattle.strc_work_meaning.specs.declared.body.Body.{Body}
use Rattle.strc_work_meaning.specs.Scoping.{Scope}
use Rattle.strc_work_code.specs.Lowering.{stmts_nodes, body_nodes}
use Rattle.strc_emit_meaning.specs.Plain.{IsPlain}

abbrev mutual
  pub IsKnown : (known : List ℕ → ℕ → Bool) → tree.Expr → Type 0
  IsKnown known (tree.Number value) = Unit {0}
  IsKnown known (tree.Truth value) = Unit {0}
  IsKnown known (tree.Read name) = Unit {0}
  IsKnown known (tree.Element name index) = IsKnown known index
  IsKnown known tree.Pop = Unit {0}
  IsKnown known (tree.Peek index) = IsKnown known index
  IsKnown known (tree.Call name arguments) =
      (known name (argument_count arguments) ≡ true) × AreKnownArguments known arguments
  IsKnown known (tree.Group inner) = IsKnown known inner
  IsKnown known (tree.Unary operator operand) = IsKnown known operand
  IsKnown known (tree.Step operator name) = Unit {0}
  IsKnown known (tree.StepElement operator name index) = IsKnown known index
  IsKnown known (tree.Binary operator left right) = IsKnown known left × IsKnown known right
  IsKnown known (tree.Conditional condition chosen other) =
      IsKnown known condition × IsKnown known chosen × IsKnown known other

  pub AreKnownArguments : (known : List ℕ → ℕ → Bool) → tree.Arguments → Type 0
  AreKnownArguments known tree.NoArgument = Unit {0}
  AreKnownArguments known (tree.Argument first rest) =
      IsKnown known first × AreKnownArguments known rest

-- an initialiser, a condition or a value, where there is one
abbrev pub IsKnownOption : (known : List ℕ → ℕ → Bool) → Option tree.Expr → Type 0
IsKnownOption known None = Unit {0}
IsKnownOption known (Some value) = IsKnown known value

abbrev pub AreKnownVariables : (known : List ℕ → ℕ → Bool) → List tree.Variable → Type 0
AreKnownVariables known [] = Unit {0}
AreKnownVariables known (first ∷ rest) =
    IsKnownOption known first.initial × AreKnownVariables known rest

abbrev mutual
  pub IsKnownStmt : (known : List ℕ → ℕ → Bool) → tree.Stmt → Type 0
  IsKnownStmt known tree.Empty = Unit {0}
  IsKnownStmt known (tree.Compose statement) = Unit {0}
  IsKnownStmt known (tree.Block body) = AreKnown known body
  IsKnownStmt known (tree.Declare kind variables) = AreKnownVariables known variables
  IsKnownStmt known (tree.Evaluate value) = IsKnown known value
  IsKnownStmt known (tree.Assign name operator value) = IsKnown known value
  IsKnownStmt known (tree.AssignElement name index operator value) =
      IsKnown known index × IsKnown known value
  IsKnownStmt known (tree.If condition chosen) =
      IsKnown known condition × IsKnownStmt known chosen
  IsKnownStmt known (tree.IfElse condition chosen other) =
      IsKnown known condition × IsKnownStmt known chosen × IsKnownStmt known other
  IsKnownStmt known (tree.While condition body) =
      IsKnown known condition × IsKnownStmt known body
  IsKnownStmt known (tree.For first condition step body) =
      IsKnownStmt known first × IsKnownOption known condition × IsKnownStmt known step
      × IsKnownStmt known body
  IsKnownStmt known (tree.Push value) = IsKnown known value
  IsKnownStmt known (tree.Print value) = IsKnown known value
  IsKnownStmt known (tree.Println value) = IsKnown known value
  IsKnownStmt known (tree.Return value) = IsKnownOption known value

  pub AreKnown : (known : List ℕ → ℕ → Bool) → tree.Stmts → Type 0
  AreKnown known tree.Done = Unit {0}
  AreKnown known (tree.Then first rest) = IsKnownStmt known first × AreKnown known rest

-- lowered code is plain where the calls of its text are known
abbrev pub LoweredIsPlain : Type 0
LoweredIsPlain =
    (known : List ℕ → ℕ → Bool) (names : Scope) (returns : Bool) (block : tree.Stmts)
    → AreKnown known block → IsPlain known (stmts_nodes names returns block)

abbrev pub BodiesArePlain : Type 0
BodiesArePlain =
    (known : List ℕ → ℕ → Bool) (body : Body) (filter : Filter)
    → AreKnown known (body_block body filter.members) → IsPlain known (body_nodes body filter)
