-- The lowest and the highest node of a list.
use Rattle.std.specs.Prelude.{◌≡◌, ℕ, ◌<◌, ◌≤◌, nat_lt, nat_le, List, All}
use Rattle.std.specs.List.{list_any}
use Rattle.strc_stage_plan.specs.declared.unit_span.Span.{Span}

-- some node is below a number just where the lowest is, and some isn't below it just where the
-- highest isn't
pub record IsSpanOf (nodes : List ℕ) (span : Span) : Type 0 where
  pub below : (number : ℕ)
      → list_any (λ node. nat_lt node number) nodes ≡ nat_lt span.least number
  pub from : (number : ℕ)
      → list_any (λ node. nat_le number node) nodes ≡ nat_le number span.greatest
  pub rising : span.least ≤ span.greatest
  pub within : (size : ℕ) → All (λ node. node < size) nodes → span.greatest < size
