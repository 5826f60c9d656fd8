-- Bounds of stages, in a list: that of each stage, and the last one's end.
use Rattle.std.specs.Prelude.{ℕ, ◌-◌, List, length, slice_index}

abbrev pub bound_in : List ℕ → (stage : ℕ) → ℕ
bound_in bounds stage = slice_index bounds stage

-- The last stage.
abbrev pub last_of : List ℕ → ℕ
last_of bounds = length bounds - 2
