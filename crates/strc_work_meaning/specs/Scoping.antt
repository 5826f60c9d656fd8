-- Which variables can be seen after a statement, with how many cells each has: one for a number or
-- a truth value, and one for each element of an array.
use Rattle.std.specs.Prelude.{ℕ, ◌+◌, pos, List, [], ◌∷◌, Bool, false, ◌||◌, Option, Some, None}
use Rattle.std.specs.Prelude.{map, unwrap_or, if◌then◌else◌, bytes_eq}
use Rattle.strc_parse_tree.specs.Tree as tree

-- names of variables with their cells, the innermost first
abbrev pub Scope : Type 0
Scope = List (List ℕ × ℕ)

-- the number of an expression that is one
abbrev pub number_in : tree.Expr → ℕ
number_in (tree.Number (pos n)) = n
number_in _ = 0

-- how many cells a variable of a type has; the length of an array is a number: constants are
-- substituted
abbrev pub cells_of : tree.VariableType → ℕ
cells_of tree.Boolean = 1
cells_of tree.Int = 1
cells_of (tree.Array length) = number_in length

-- the variables that can be seen after a declaration, the last one innermost
abbrev pub with_declared : Scope → (cells : ℕ) → List tree.Variable → Scope
with_declared scope cells [] = scope
with_declared scope cells (first ∷ rest) =
    with_declared (record { 0 = first.name; 1 = cells } ∷ scope) cells rest

-- the variables that can be seen after a statement
abbrev pub names_after : Scope → tree.Stmt → Scope
names_after scope (tree.Declare kind variables) = with_declared scope (cells_of kind) variables
names_after scope _ = scope

-- the variable in which a helper's call keeps whether it has returned, and its value: no NAME is
-- empty, so that no other variable has its name
abbrev pub answer_name : List ℕ
answer_name = []

-- parameters with their cells, in order
abbrev pub sized_parameters : List (List ℕ) → Scope
sized_parameters parameters = map (λ name. record { 0 = name; 1 = 1 }) parameters

-- the variables that can be seen after parameters, the last one innermost
abbrev pub with_parameters : Scope → List (List ℕ) → Scope
with_parameters scope [] = scope
with_parameters scope (first ∷ rest) =
    with_parameters (record { 0 = first; 1 = 1 } ∷ scope) rest

-- the variables of a helper's block, among the fields
abbrev pub helper_scope : Scope → List (List ℕ) → Scope
helper_scope fields parameters =
    with_parameters (record { 0 = answer_name; 1 = 2 } ∷ fields) parameters

-- how many cells variables have together
abbrev pub total : Scope → ℕ
total [] = 0
total (first ∷ rest) = first.1 + total rest

-- whether a variable of this name can be seen
abbrev pub is_declared : Scope → List ℕ → Bool
is_declared [] name = false
is_declared (first ∷ rest) name = bytes_eq first.0 name || is_declared rest name

-- the first slot of the innermost variable of a name: the cells of the variables outside it are
-- before its own
abbrev pub slot_named : Scope → List ℕ → Option ℕ
slot_named [] name = None
slot_named (first ∷ rest) name = if bytes_eq first.0 name then Some (total rest)
    else slot_named rest name

abbrev pub slot_of : Scope → List ℕ → ℕ
slot_of scope name = unwrap_or (slot_named scope name) 0

-- how many cells the innermost variable of a name has
abbrev pub size_named : Scope → List ℕ → Option ℕ
size_named [] name = None
size_named (first ∷ rest) name = if bytes_eq first.0 name then Some first.1
    else size_named rest name

abbrev pub size_of : Scope → List ℕ → ℕ
size_of scope name = unwrap_or (size_named scope name) 0
