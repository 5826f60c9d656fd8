-- The tapes of a stage's nodes.
use Rattle.std.specs.Prelude.{ℕ, suc, List, [], ◌∷◌, if◌then◌else◌}
use Rattle.strc_sched_rings.specs.Parts.{is_within}
use Rattle.strc_stage_steps.specs.declared.crossing_items.TapeOf.{TapeOf}

-- Of these nodes, which have a tape each, those from the first up to the next one; the first of
-- these tapes has this number.
abbrev pub tapes_in : (first next tape : ℕ) → (nodes : List ℕ) → List TapeOf
tapes_in first next tape [] = []
tapes_in first next tape (node ∷ nodes) =
    if is_within first next node then
    record { tape = tape; node = node } ∷ tapes_in first next (suc tape) nodes
    else tapes_in first next (suc tape) nodes
