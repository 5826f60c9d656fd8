-- What a scope keeps beside its names, the innermost first, so that a look-up needs no walk.
use Rattle.std.specs.Prelude.{◌≡◌, ℕ, List, [], ◌∷◌, Option, reverse}
use Rattle.strc_lex_names.specs.declared.scope.Declared.{Declared}
use Rattle.strc_lex_names.specs.Names.{number_named}

-- the names alone
abbrev pub names_in : List Declared → List (List ℕ)
names_in [] = []
names_in (first ∷ rest) = first.name.items ∷ names_in rest

-- the names of what is listed in order of declaration, the innermost first
unfoldable pub names_of : List Declared → List (List ℕ)
names_of declared = names_in (reverse declared)

-- whether each is beside the slot of the variable that it shadows
abbrev pub KeepShadowed : List Declared → Type 0
KeepShadowed [] = Unit {0}
KeepShadowed (first ∷ rest) = (first.shadows ≡ number_named (names_in rest) first.name.items)
    × KeepShadowed rest

-- what is true of a scope: each of its names keeps what it shadows, and the table has the slot of
-- each name's innermost variable
pub record KeepsSlots (seen : List Declared) (table : List ℕ → Option ℕ) : Type 0 where
  pub shadowed : KeepShadowed seen
  pub innermost : (name : List ℕ) → table name ≡ number_named (names_in seen) name

-- what is true of a scope, as one fact to those who only use it
unfoldable pub IsScope : List Declared → (List ℕ → Option ℕ) → Type 0
IsScope seen table = KeepsSlots seen table
