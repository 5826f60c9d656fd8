-- A part of a window.
use Rattle.std.specs.Prelude.{ℕ, ◌-◌, ◌^◌, List, take, drop}

-- items from a place on, up to the last place that 32 bits can name
abbrev pub items_from : {A : Type 0} → (first : ℕ) → List A → List A
items_from first items = take (2 ^ 32 - first) (drop first items)
