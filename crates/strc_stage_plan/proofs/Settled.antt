-- Firings of a node that have the same rates.
use Rattle.std.proofs.Common.{◌≡◌, refl, ap, ◌∙◌, ℕ, zero, suc, ◌+◌, ◌*◌, ◌≤◌}
use Rattle.std.proofs.Common.{arith, Bool, true, false, cond, is_some}
use Rattle.std.specs.Prelude.{unwrap_or}
use Rattle.strc_work_meaning.specs.Filters.{prework_block, work_rates, push_rate, pop_rate}
use Rattle.strc_work_meaning.specs.Filters.{item_count, window_size}
use Rattle.strc_elab_graph.specs.Graphs.{NodeCode, Filter, Identity, FileReader}
use Rattle.strc_elab_graph.specs.Graphs.{FileWriter, Splitter, Joiner, Scatter, Copy, Gather}
use Rattle.strc_elab_graph.specs.Graphs.{CopiedCode}
use Rattle.strc_elab_graph.specs.Rates.{fires_by_rounds, window_at, pops_at, pushes_at, rate_at_0}
use Rattle.strc_elab_graph.specs.declared.graph.Fission.{Fission}
use Rattle.strc_startup.specs.Rates.{first_count}
use Rattle.strc_sched_laws.specs.Repeats.{HaveSameRates}
use Rattle.strc_sched_laws.proofs.Repeats.{nodes_repeat_by_rounds}
use Rattle.strc_elab_graph.proofs.Works.{no_rates}

pub at_same : (code : NodeCode) (a b : ℕ) → a ≡ b → HaveSameRates code a b
at_same code a b e port = (
  ap (λ (n : ℕ). window_at code n port) e,
  ap (λ (n : ℕ). pops_at code n port) e,
  ap (λ (n : ℕ). pushes_at code n port) e,
)

pub by_both : (code : NodeCode) (a b c : ℕ) → HaveSameRates code a b → HaveSameRates code b c
    → HaveSameRates code a c
by_both code a b c one two port = (
  (one port).0 ∙ (two port).0,
  (one port).1 ∙ (two port).1,
  (one port).2 ∙ (two port).2,
)

-- after as many firings as start-up has at least, the rates are settled
first_settled : (code : NodeCode) → fires_by_rounds code ≡ false → (first : ℕ)
    → first_count code ≤ first → HaveSameRates code first (suc first)
first_settled (Filter name filter) alone (suc n) least port = (refl, refl, refl)
first_settled (Filter name filter) alone zero least port =
    by_test (is_some (prework_block filter.members)) refl least
  where
    by_test : (t : Bool) → is_some (prework_block filter.members) ≡ t → cond t 1 0 ≤ 0
        → (window_at (Filter name filter) 0 port ≡ window_at (Filter name filter) 1 port)
        × (pops_at (Filter name filter) 0 port ≡ pops_at (Filter name filter) 1 port)
        × (pushes_at (Filter name filter) 0 port ≡ pushes_at (Filter name filter) 1 port)
    by_test true e less = absurd (omega (arith, less))
    by_test false e less =
        let none = no_rates filter.members e in (
          ap (λ r. rate_at_0 (window_size (unwrap_or r (work_rates filter.members))) port) none,
          ap (λ r. rate_at_0 (item_count (pop_rate (unwrap_or r (work_rates filter.members))))
              port) none,
          ap (λ r. rate_at_0 (item_count (push_rate (unwrap_or r (work_rates filter.members))))
              port) none,
        )
first_settled Identity alone first least port = (refl, refl, refl)
first_settled (FileReader text) alone first least port = (refl, refl, refl)
first_settled (FileWriter text) alone first least port = (refl, refl, refl)
first_settled (Splitter splitter) alone first least port = (refl, refl, refl)
first_settled (Joiner weights) alone first least port = (refl, refl, refl)
first_settled (Scatter fission) alone first least port = absurd (cc)
first_settled (Copy copied fission) alone first least port = absurd (cc)
first_settled (Gather fission) alone first least port = absurd (cc)

-- then so are those of all later firings
pub all_settled : (code : NodeCode) → fires_by_rounds code ≡ false → (first round firing : ℕ)
    → first_count code ≤ first → first ≤ firing → HaveSameRates code (firing + round) firing
all_settled (Filter name filter) alone first round firing least after port =
    nodes_repeat_by_rounds (Filter name filter) first round firing
    (first_settled (Filter name filter) alone first least) after port
all_settled Identity alone first round firing least after port = (refl, refl, refl)
all_settled (FileReader text) alone first round firing least after port = (refl, refl, refl)
all_settled (FileWriter text) alone first round firing least after port = (refl, refl, refl)
all_settled (Splitter splitter) alone first round firing least after port = (refl, refl, refl)
all_settled (Joiner weights) alone first round firing least after port = (refl, refl, refl)
all_settled (Scatter fission) alone first round firing least after port = absurd (cc)
all_settled (Copy copied fission) alone first round firing least after port = absurd (cc)
all_settled (Gather fission) alone first round firing least after port = absurd (cc)

-- they are those of firing 1
pub as_later : (code : NodeCode) → fires_by_rounds code ≡ false → (firing : ℕ)
    → first_count code ≤ firing → HaveSameRates code firing 1
as_later (Filter name filter) alone zero least port =
    first_settled (Filter name filter) alone 0 least port
as_later (Filter name filter) alone (suc n) least port = (refl, refl, refl)
as_later Identity alone firing least port = (refl, refl, refl)
as_later (FileReader text) alone firing least port = (refl, refl, refl)
as_later (FileWriter text) alone firing least port = (refl, refl, refl)
as_later (Splitter splitter) alone firing least port = (refl, refl, refl)
as_later (Joiner weights) alone firing least port = (refl, refl, refl)
as_later (Scatter fission) alone firing least port = absurd (cc)
as_later (Copy copied fission) alone firing least port = absurd (cc)
as_later (Gather fission) alone firing least port = absurd (cc)

-- a copy's firings of a round are so many times those of its share
pub copy_repeats : (copied : CopiedCode) (fission : Fission) (m firing : ℕ)
    → HaveSameRates (Copy copied fission) (firing + m * fission.firings) firing
copy_repeats copied fission zero firing =
    at_same (Copy copied fission) (firing + 0 * fission.firings) firing
    (let e : firing + 0 * fission.firings ≡ firing = omega arith in e)
copy_repeats copied fission (suc m) firing =
    by_both (Copy copied fission) (firing + suc m * fission.firings)
    ((firing + m * fission.firings) + fission.firings) firing
    (at_same (Copy copied fission) (firing + suc m * fission.firings)
    ((firing + m * fission.firings) + fission.firings)
    (let e : firing + suc m * fission.firings
    ≡ (firing + m * fission.firings) + fission.firings = omega arith in e))
    (by_both (Copy copied fission) ((firing + m * fission.firings) + fission.firings)
    (firing + m * fission.firings) firing
    (nodes_repeat_by_rounds (Copy copied fission) 0 fission.firings
    (firing + m * fission.firings) refl (omega arith))
    (copy_repeats copied fission m firing))
