-- Variables with the places of their cells.
use Rattle.std.specs.Prelude.{ℕ, ◌≡◌, ◌+◌, ◌<◌, ◌^◌, List, [], ◌∷◌}
use Rattle.strc_work_lowering.specs.declared.layout.Place.{Place}
use Rattle.strc_work_meaning.specs.Scoping.{Scope, total}

-- names beside the numbers of their cells
abbrev pub with_cells : List (List ℕ × Place) → Scope
with_cells [] = []
with_cells (first ∷ rest) = record { 0 = first.0; 1 = first.1.cells } ∷ with_cells rest

-- each variable's cells are after those of the variables outside it, and are few
abbrev pub AreLaid : List (List ℕ × Place) → Type 0
AreLaid [] = Unit {0}
AreLaid (first ∷ rest) =
    (first.1.slot ≡ total (with_cells rest)) × (first.1.slot + first.1.cells < 2 ^ 32)
    × AreLaid rest
