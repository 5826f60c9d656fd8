-- Which expressions have a type, and which one.
use Rattle.std.specs.Prelude.{◌≡◌, ◌⊎◌, ℕ, List, Option, Some, None, IsTrue, IsFalse, IsNone}
use Rattle.std.specs.Prelude.{IsSome}
use Rattle.strc_lex_names.specs.Names.{value_named}
use Rattle.strc_parse_tree.specs.Tree as tree
use Rattle.strc_parse_tree.specs.declared.tree.HelperType.{HelperType}
use Rattle.strc_work_rules.specs.Signatures.{Signatures, given_type}
use Rattle.strc_work_meaning.specs.Calls.{argument_count}
use Rattle.strc_work_meaning.specs.declared.types.ValueType.{ValueType}
use Rattle.strc_work_meaning.specs.declared.types.ValueType.TheVariants.{Int, Boolean, Array}
use Rattle.strc_work_meaning.specs.Typing.{TypedNames, is_array}
use Rattle.strc_work_rules.specs.Resolution.{Context, operand_type, sides_type, binary_type}

-- the innermost variable of this name has this type
abbrev pub IsVariable : TypedNames → List ℕ → ValueType → Type 0
IsVariable names name kind = value_named names name ≡ Some kind

-- it can be seen: the text isn't one that is over constants alone
abbrev pub SeesVariable : Context → TypedNames → List ℕ → ValueType → Type 0
SeesVariable context names name kind =
    IsFalse context.constants_only × IsVariable names name kind

-- the name is that of a constant, which no variable shadows
abbrev pub SeesConstant : Context → TypedNames → List ℕ → Type 0
SeesConstant context names name =
    IsNone (value_named names name) × IsSome (value_named context.constants name)

-- the type of a name that is read: its variable's, which is no array, or Int for a constant
abbrev pub NameHasType : Context → TypedNames → List ℕ → ValueType → Type 0
NameHasType context names name kind =
    (SeesVariable context names name kind × IsFalse (is_array kind))
    ⊎ (SeesConstant context names name × (kind ≡ Int))

-- where calls may stand, a helper function of this name is called with so many arguments, and
-- gives this
abbrev pub Calls : Context → List ℕ → (count : ℕ) → HelperType → Type 0
Calls context name count kind =
    (helpers : Signatures) × ((context.helpers ≡ Some helpers)
    × (value_named helpers name ≡ Some (record { kind = kind; parameters = count })))

abbrev mutual
  -- the expression has this type: an item and an element are numbers, both sides of an operator
  -- have one type that the operator takes, and the arguments of a call are numbers
  pub HasType : Context → TypedNames → tree.Expr → ValueType → Type 0
  HasType context names (tree.Number value) kind = kind ≡ Int
  HasType context names (tree.Truth value) kind = kind ≡ Boolean
  HasType context names (tree.Read name) kind = NameHasType context names name kind
  HasType context names (tree.Element name index) kind =
      SeesVariable context names name Array × HasType context names index Int × (kind ≡ Int)
  HasType context names tree.Pop kind = IsTrue context.pops × (kind ≡ Int)
  HasType context names (tree.Peek index) kind =
      IsTrue context.pops × HasType context names index Int × (kind ≡ Int)
  HasType context names (tree.Call name arguments) kind =
      ((given : HelperType) × (Calls context name (argument_count arguments) given
      × (given_type given ≡ Some kind))) × AreNumbers context names arguments
  HasType context names (tree.Group inner) kind = HasType context names inner kind
  HasType context names (tree.Unary operator operand) kind =
      HasType context names operand (operand_type operator) × (kind ≡ operand_type operator)
  HasType context names (tree.Step operator name) kind =
      SeesVariable context names name Int × (kind ≡ Int)
  HasType context names (tree.StepElement operator name index) kind =
      SeesVariable context names name Array × HasType context names index Int × (kind ≡ Int)
  HasType context names (tree.Binary operator left right) kind =
      ((sides : ValueType) × (HasType context names left sides × HasType context names right sides
      × (sides_type operator sides ≡ sides))) × (kind ≡ binary_type operator)
  HasType context names (tree.Conditional condition chosen other) kind =
      HasType context names condition Boolean × HasType context names chosen kind
      × HasType context names other kind

  -- the arguments of a call, which are numbers
  pub AreNumbers : Context → TypedNames → tree.Arguments → Type 0
  AreNumbers context names tree.NoArgument = Unit {0}
  AreNumbers context names (tree.Argument first rest) =
      HasType context names first Int × AreNumbers context names rest

-- an initialiser or a condition has this type, where there is one
abbrev pub InitialHasType : Context → TypedNames → Option tree.Expr → ValueType → Type 0
InitialHasType context names None kind = Unit {0}
InitialHasType context names (Some value) kind = HasType context names value kind
