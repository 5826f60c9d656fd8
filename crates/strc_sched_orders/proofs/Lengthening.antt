-- Counts of more nodes, which don't fire.
use Rattle.std.proofs.Common.{◌≡◌, ◌∙◌, sym, ap, subst, ℕ, ◌≤◌, ◌++◌, List, replicate, inl, inr}
use Rattle.std.proofs.Common.{length, refl, ◌-◌}
use mathlib.Core.Path.{fun_ext}
use Rattle.std.proofs.lemmas.Bool.{cases_lt}
use Rattle.std.proofs.lemmas.List.{get_or_append_left, get_or-append_right, get_or_past}
use Rattle.strc_balance.specs.Balance.{count_at, count_limit, IsWithinLimit}
use Rattle.strc_sched_orders.proofs.Buffering.{zero_counts}

pub padded_counts : (counts : List ℕ) (more : ℕ)
    → count_at (counts ++ replicate more 0) ≡ count_at counts
padded_counts counts more = fun_ext (λ node.
    elim (cases_lt node (length counts)) [
      | inl within ↦ get_or_append_left counts (replicate more 0) 0 node within
      | inr past ↦ get_or-append_right counts (replicate more 0) (length counts) node 0 refl past
          ∙ ap (λ k. k (node - length counts)) (zero_counts more)
          ∙ sym (get_or_past counts node 0 past)
    ])

-- counts that are the same at each node are within the limit together
pub same_within : (counts other : List ℕ) → count_at counts ≡ count_at other
    → IsWithinLimit other → IsWithinLimit counts
same_within counts other same within =
    subst (λ k. (node : ℕ) → k node ≤ count_limit) (sym same) within
