-- Tapes in order of their nodes.
use Rattle.std.specs.Prelude.{ℕ, suc, ◌≤◌, List, [], ◌∷◌}
use Rattle.strc_stage_steps.specs.declared.crossing_items.TapeOf.{TapeOf}

-- Each tape's node has this number or a later one, and comes after that of the tape before it.
abbrev pub AreAfter : (node : ℕ) → List TapeOf → Type 0
AreAfter node [] = Unit {0}
AreAfter node (own ∷ others) = (node ≤ own.node) × AreAfter (suc own.node) others
