-- The variables of a body: their names with their types, and their values.
use Rattle.std.specs.Prelude.{ℕ, zero, suc, ℤ, List, [], ◌∷◌, length, Vec, nat_eq, if◌then◌else◌}
use Rattle.std.specs.declared.alloc.Global.{Global}
use Rattle.strc_work_meaning.specs.Firing.{Variables}
use Rattle.strc_work_meaning.specs.Typing.{TypedNames}

-- the names with their types, and the variables with the values of their cells, both the innermost
-- first
pub record Bindings : Type 0 where
  pub names : TypedNames
  pub variables : Variables

-- the cells of the variable of a number, the outermost one having 0
abbrev pub row_at : List (Vec ℤ Global) → ℕ → List ℤ
row_at [] number = []
row_at (first ∷ rest) zero = first.items
row_at (first ∷ rest) (suc number) = row_at rest number

-- names beside the cells of their variables: the number of a variable is how many are outside it
abbrev pub with_cells : TypedNames → List (Vec ℤ Global) → Variables
with_cells [] cells = []
with_cells (name ∷ names) cells = record { 0 = name.0; 1 = row_at cells (length names) }
    ∷ with_cells names cells

-- the cells of the variable outside which so many are
abbrev pub cells_of : Variables → ℕ → List ℤ
cells_of [] number = []
cells_of (first ∷ rest) number = if nat_eq (length rest) number then first.1
    else cells_of rest number
