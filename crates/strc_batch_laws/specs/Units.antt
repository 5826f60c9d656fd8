-- Batches of a round's units: the units are in groups, and each group is fired so many times over
-- before the next one.
use Rattle.std.specs.Prelude.{◌≡◌, ℕ, zero, suc, ◌*◌, ◌<◌, List, [], ◌∷◌, ◌++◌}
use Rattle.strc_elab_dataflow.specs.FusedUnits.{RoundUnit, firings_of}
use Rattle.strc_batch_laws.specs.Batches.{batch_order}

-- A group's units b times over, as one unit. Of a group of one unit it has the turns b times; of a
-- group of several, those of a feedback loop, it has b turns, each with the firings of them all.
abbrev pub batch_units : (b : ℕ) → List RoundUnit → List RoundUnit
batch_units b [] = []
batch_units b (unit ∷ []) = record { turns = b * unit.turns; nodes = unit.nodes } ∷ []
batch_units b (unit ∷ (next ∷ rest)) =
    record { turns = b; nodes = firings_of (unit ∷ (next ∷ rest)) } ∷ []

-- The units of the first so many groups.
abbrev pub joined_units : (group : ℕ → List RoundUnit) → ℕ → List RoundUnit
joined_units group zero = []
joined_units group (suc a) = joined_units group a ++ group a

-- The units of a batch of b rounds.
abbrev pub batch_units_of : (b : ℕ) → (group : ℕ → List RoundUnit) → (groups : ℕ) → List RoundUnit
batch_units_of b group groups = joined_units (λ a. batch_units b (group a)) groups

-- Where each group's units fire its segment of the round, the batch's units fire the batch's order.
abbrev pub BatchUnitsAreBatch : Type 0
BatchUnitsAreBatch =
    (group : ℕ → List RoundUnit) (segment : ℕ → List ℕ) (groups b : ℕ)
    → ((a : ℕ) → a < groups → firings_of (group a) ≡ segment a)
    → firings_of (batch_units_of b group groups) ≡ batch_order b segment groups
