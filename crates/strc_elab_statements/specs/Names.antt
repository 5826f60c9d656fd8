-- Names found by a table.
use Rattle.std.specs.Prelude.{ℕ, ◌+◌, nat_eq, List, [], ◌∷◌, Option, Some, None, if◌then◌else◌}
use Rattle.std.specs.Cmp.Lexicographic.{pointwise}

-- the place of the first of these names that is this one, counted from a number on
abbrev pub place_from : ℕ → List (List ℕ) → List ℕ → Option ℕ
place_from number [] name = None
place_from number (first ∷ others) name =
    if pointwise nat_eq name first then Some number else place_from (number + 1) others name
