-- Stages that are ranges of node numbers, as a cut of nodes in preorder gives them.
use Rattle.std.specs.Prelude.{◌≡◌, ℕ, zero, suc, ◌<◌, ◌≤◌, cond, leb, List, [], ◌∷◌}
use Rattle.strc_elab_dataflow.specs.Flat.{Origin, Origin.Nowhere, Origin.Input, Origin.Port, Graph}
use Rattle.strc_elab_dataflow.specs.Staging.{joined}

-- The last of the ranges, up to this one, that begins at a number or below it; the first, if none
-- does.
unfoldable pub stage_within : (bound : ℕ → ℕ) → (last : ℕ) → ℕ → ℕ
stage_within bound zero node = 0
stage_within bound (suc a) node = cond (leb (bound (suc a)) node) (suc a)
    (stage_within bound a node)

-- Each node of an order is at this number or after it, and before an end.
abbrev pub AllWithin : (from : ℕ) → (ends_after : ℕ → Type 0) → List ℕ → Type 0
AllWithin from ends_after [] = Unit {0}
AllWithin from ends_after (node ∷ order) = (from ≤ node) × ends_after node
    × AllWithin from ends_after order

-- An origin that is no node from this number on.
abbrev pub IsBelow : ℕ → Origin → Type 0
IsBelow bound Nowhere = Unit {0}
IsBelow bound Input = Unit {0}
IsBelow bound (Port node port) = node < bound

-- Range a goes from bound a to bound (a + 1), the last one on and on; a round's order is the
-- segments of the ranges in turn, each over its own nodes; and no channel goes from a range to one
-- before it.
pub record IsRanged {Code : Type 0} (graph : Graph Code) (bound : ℕ → ℕ) (segment : ℕ → List ℕ)
    (last : ℕ) (round_order : List ℕ) : Type 0 where
  pub rising : (a : ℕ) → a < last → bound a ≤ bound (suc a)
  pub own : (a : ℕ) → a ≤ last
      → AllWithin (bound a) (λ node. a < last → node < bound (suc a)) (segment a)
  pub order : round_order ≡ joined segment (suc last)
  pub forward : (a node port : ℕ) → a < last → node < bound (suc a)
      → IsBelow (bound (suc a)) (graph.source node port).origin
