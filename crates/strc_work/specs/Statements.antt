-- Which declared types, declarations, statements and blocks are well formed.
use Rattle.std.specs.Prelude.{◌≡◌, ℕ, ℤ, pos, ◌≤ℤ◌, List, [], ◌∷◌, length, IsTrue, IsFalse, Option}
use Rattle.std.specs.Prelude.{Some, None}
use Rattle.strc_parse_tree.specs.Tree as tree
use Rattle.strc_parse_tree.specs.declared.tree.AssignOperator.{AssignOperator}
use Rattle.strc_parse_tree.specs.declared.tree.AssignOperator.TheVariants as assign
use Rattle.strc_work_rules.specs.declared.type_rules.TheConstants.{LENGTH_LIMIT}
use Rattle.strc_work_meaning.specs.declared.types.ValueType.{ValueType}
use Rattle.strc_work_meaning.specs.declared.types.ValueType.TheVariants.{Int, Boolean, Array}
use Rattle.strc_work_meaning.specs.Typing.{TypedNames, type_of, names_after}
use Rattle.strc_work_rules.specs.Resolution.{Context, is_taken}
use Rattle.strc_work_rules.specs.Signatures.{given_type}
use Rattle.strc_work_meaning.specs.Calls.{argument_count}
use Rattle.strc_parse_tree.specs.declared.tree.HelperType.{HelperType}
use Rattle.strc_work.specs.Expressions.{IsVariable, SeesVariable, HasType, InitialHasType, Calls}
use Rattle.strc_work.specs.Expressions.{AreNumbers}
use Rattle.strc_work.specs.Numbers.{HasNumber}

-- an array of this length has an element, and no more than an array may have
abbrev pub IsLength : ℤ → Type 0
IsLength number = (pos 1 ≤ℤ number) × (number ≤ℤ LENGTH_LIMIT)

-- a declared type; the length of an array is a constant expression
abbrev pub IsDeclarable : List (List ℕ × ℤ) → TypedNames → tree.VariableType → Type 0
IsDeclarable constants names tree.Boolean = Unit {0}
IsDeclarable constants names tree.Int = Unit {0}
IsDeclarable constants names (tree.Array length) =
    (number : ℤ) × (HasNumber constants names length number × IsLength number)

-- variables of this type, each seen by those after it: none has a name that is taken in its block,
-- and an initialiser has their type
abbrev pub AreDeclared : Context → TypedNames → (outer : ℕ) → ValueType → List tree.Variable
    → Type 0
AreDeclared context names outer kind [] = Unit {0}
AreDeclared context names outer kind (first ∷ rest) =
    IsFalse (is_taken names outer first.name)
    × InitialHasType context names first.initial kind
    × AreDeclared context (record { 0 = first.name; 1 = kind } ∷ names) outer kind rest

-- a variable of this type may be assigned so: a compound assignment is one of numbers
abbrev pub IsAssignable : AssignOperator → ValueType → Type 0
IsAssignable assign.Set kind = Unit {0}
IsAssignable assign.Add kind = kind ≡ Int
IsAssignable assign.Subtract kind = kind ≡ Int
IsAssignable assign.Multiply kind = kind ≡ Int
IsAssignable assign.Divide kind = kind ≡ Int
IsAssignable assign.Remainder kind = kind ≡ Int

-- an expression that is a statement: a call may give nothing there
abbrev pub IsEvaluated : Context → TypedNames → tree.Expr → Type 0
IsEvaluated context names (tree.Call name arguments) =
    ((given : HelperType) × Calls context name (argument_count arguments) given)
    × AreNumbers context names arguments
IsEvaluated context names value = (kind : ValueType) × HasType context names value kind

-- what is returned where this type is wanted, if a value is
abbrev pub IsAnswer : Context → TypedNames → Option ValueType → Option tree.Expr → Type 0
IsAnswer context names None None = Unit {0}
IsAnswer context names None (Some value) = ⊥
IsAnswer context names (Some kind) None = ⊥
IsAnswer context names (Some kind) (Some value) = HasType context names value kind

-- what is returned from a helper function, if this is in one
abbrev pub IsReturned : Context → TypedNames → Option HelperType → Option tree.Expr → Type 0
IsReturned context names None value = ⊥
IsReturned context names (Some kind) value = IsAnswer context names (given_type kind) value

abbrev mutual
  -- a statement, among the names that can be seen, of which so many are outside its block
  pub IsWellFormed : Context → TypedNames → (outer : ℕ) → tree.Stmt → Type 0
  IsWellFormed context names outer tree.Empty = Unit {0}
  IsWellFormed context names outer (tree.Compose statement) = ⊥
  IsWellFormed context names outer (tree.Block body) =
      AreWellFormed context names (length names) body
  IsWellFormed context names outer (tree.Declare kind variables) =
      IsDeclarable context.constants names kind
      × AreDeclared context names outer (type_of kind) variables
  IsWellFormed context names outer (tree.Evaluate value) =
      IsEvaluated context names value
  IsWellFormed context names outer (tree.Assign name operator value) =
      (kind : ValueType) × (IsVariable names name kind × IsAssignable operator kind
      × HasType context names value kind)
  IsWellFormed context names outer (tree.AssignElement name index operator value) =
      SeesVariable context names name Array × HasType context names index Int
      × HasType context names value Int
  IsWellFormed context names outer (tree.If condition chosen) =
      HasType context names condition Boolean × IsWellFormed context names (length names) chosen
  IsWellFormed context names outer (tree.IfElse condition chosen other) =
      HasType context names condition Boolean × IsWellFormed context names (length names) chosen
      × IsWellFormed context names (length names) other
  IsWellFormed context names outer (tree.While condition body) =
      HasType context names condition Boolean × IsWellFormed context names (length names) body
  IsWellFormed context names outer (tree.For first condition step body) =
      let inner = names_after names first in
      IsWellFormed context names (length names) first
      × InitialHasType context inner condition Boolean
      × IsWellFormed context inner (length inner) step
      × IsWellFormed context inner (length inner) body
  IsWellFormed context names outer (tree.Push value) =
      IsTrue context.pushes × HasType context names value Int
  IsWellFormed context names outer (tree.Print value) =
      IsTrue context.prints × HasType context names value Int
  IsWellFormed context names outer (tree.Println value) =
      IsTrue context.prints × HasType context names value Int
  IsWellFormed context names outer (tree.Return value) =
      IsReturned context names context.returns value

  -- the statements of a block, each among the names that are declared before it
  pub AreWellFormed : Context → TypedNames → (outer : ℕ) → tree.Stmts → Type 0
  AreWellFormed context names outer tree.Done = Unit {0}
  AreWellFormed context names outer (tree.Then first rest) =
      IsWellFormed context names outer first
      × AreWellFormed context (names_after names first) outer rest
