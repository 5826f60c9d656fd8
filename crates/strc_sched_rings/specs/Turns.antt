-- Turns of a splitter or a joiner, all at once.
use Rattle.std.specs.Prelude.{◌≡◌, ℕ, zero, suc, ◌*◌, ◌≤◌, ℤ, List, [], ◌∷◌, ◌++◌}
use Rattle.std.specs.Prelude.{length, take, drop, Bool, true, false, Option, slice_index}
use Rattle.strc_sched_laws.specs.Rings.{Ring, at_port, items_at, given}

-- a change of rings, so often
abbrev pub times : (count : ℕ) → (List Ring → List Ring) → List Ring → List Ring
times zero change rings = rings
times (suc count) change rings = times count change (change rings)

-- an answer tells whether all turns of a change were made, as only where the rings were ready
abbrev pub HasTurned : (ready : Type 0) → (turns : ℕ) → (change : List Ring → List Ring) → Bool
    → (before after : List Ring) → Type 0
HasTurned ready turns change true before after = ready × (after ≡ times turns change before)
HasTurned ready turns change false before after = after ≡ before

-- each port holds the items of so many cycles
abbrev pub FindsCycles : (count : ℕ) → (weights : List ℕ) → (inputs : List (Option ℕ)) → List Ring
    → Type 0
FindsCycles count weights inputs rings = (port : ℕ)
    → count * slice_index weights port ≤ length (items_at rings (at_port inputs port))

-- of each of so many cycles of items the first ones
abbrev pub firsts : (count weight cycle : ℕ) → List ℤ → List ℤ
firsts zero weight cycle items = []
firsts (suc count) weight cycle items = take weight items
    ++ firsts count weight cycle (drop cycle items)

-- each port gets its span of each of so many cycles of items; ports are numbered from one on
abbrev pub spread_out : (weights : List ℕ) → (outputs : List (Option ℕ)) → (count cycle : ℕ)
    → List ℤ → (port : ℕ) → List Ring → List Ring
spread_out [] outputs count cycle items port rings = rings
spread_out (weight ∷ weights) outputs count cycle items port rings =
    spread_out weights outputs count cycle (drop weight items) (suc port)
    (given (at_port outputs port) (firsts count weight cycle items) rings)
