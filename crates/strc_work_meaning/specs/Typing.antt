-- Names of variables with their types.
use Rattle.std.specs.Prelude.{ℕ, ◌-◌, Bool, true, false, List, [], ◌∷◌, length, take}
use Rattle.strc_parse_tree.specs.Tree as tree
use Rattle.strc_lex_names.specs.Names.{plain_names}
use Rattle.strc_work_meaning.specs.declared.types.ValueType.{ValueType}
use Rattle.strc_work_meaning.specs.declared.types.ValueType.TheVariants.{Int, Boolean, Array}

-- the names that can be seen, each with its type, the innermost first
abbrev pub TypedNames : Type 0
TypedNames = List (List ℕ × ValueType)

-- whether two values have one type; the name of an array stands for no value
abbrev pub same_type : ValueType → ValueType → Bool
same_type Int Int = true
same_type Boolean Boolean = true
same_type _ _ = false

-- whether a name stands for an array
abbrev pub is_array : ValueType → Bool
is_array Array = true
is_array _ = false

-- the type of variables
abbrev pub type_of : tree.VariableType → ValueType
type_of tree.Boolean = Boolean
type_of tree.Int = Int
type_of (tree.Array length) = Array

-- the names alone after a declaration, the last one innermost
abbrev pub names_with : List (List ℕ) → List tree.Variable → List (List ℕ)
names_with names [] = names
names_with names (first ∷ rest) = names_with (first.name ∷ names) rest

-- the names that can be seen after a declaration, the last one innermost
abbrev pub with_declared : TypedNames → ValueType → List tree.Variable → TypedNames
with_declared names kind [] = names
with_declared names kind (first ∷ rest) =
    with_declared (record { 0 = first.name; 1 = kind } ∷ names) kind rest

-- the names that can be seen after a statement
abbrev pub names_after : TypedNames → tree.Stmt → TypedNames
names_after names (tree.Declare kind variables) = with_declared names (type_of kind) variables
names_after names _ = names

-- the names of the innermost block, where this many are outside it
abbrev pub block_names : (outer : ℕ) → TypedNames → List (List ℕ)
block_names outer names = take (length names - outer) (plain_names names)

-- the fields after these members, with those before them
abbrev pub names_after_fields : TypedNames → List tree.Member → TypedNames
names_after_fields names [] = names
names_after_fields names (tree.Fields kind variables ∷ rest) =
    names_after_fields (with_declared names (type_of kind) variables) rest
names_after_fields names (tree.Init block ∷ rest) = names_after_fields names rest
names_after_fields names (tree.Prework rates block ∷ rest) = names_after_fields names rest
names_after_fields names (tree.Work rates block ∷ rest) = names_after_fields names rest
names_after_fields names (tree.Helper kind name parameters block ∷ rest) =
    names_after_fields names rest
