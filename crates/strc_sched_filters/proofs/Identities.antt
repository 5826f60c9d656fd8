-- A filter that pushes what it pops does what an identity does.
use Rattle.std.proofs.Common.{◌≡◌, ap, ◌∙◌, ℕ, ◌≤◌, ℤ, arith}
use Rattle.std.proofs.Common.{List, [], ◌∷◌, length, take, Ok}
use Rattle.std.specs.Prelude.{Some, nat_le}
use Rattle.std.proofs.lemmas.Bool.{le-leb}
use Rattle.strc_work_meaning.specs.Filters.{Filter}
use Rattle.strc_work_meaning.specs.Firing.{fired}
use Rattle.strc_elab_graph.specs.Rates.{body_at, filter_pops}
use Rattle.strc_sched_laws.specs.Rings.{Ring, items_at, moved}
use Rattle.strc_sched_laws.specs.Steps.{Goes, if_found, filter_after, filter_step}
use Rattle.strc_sched_filters.specs.Identities.{IsIdentity}

-- over rings, too
pub filter_passes : (filter : Filter) → IsIdentity filter → (firing from to : ℕ)
    (rings : List Ring) → 1 ≤ length (items_at rings (Some from))
    → filter_step filter firing [] (Some from) (Some to) rings
    ≡ Goes [] (moved (Some from) (Some to) 1 rings) []
filter_passes filter is firing from to rings some =
    let items : List ℤ = items_at rings (Some from) in
    let done = fired filter (body_at firing) [] items in
    ap (λ n. if_found (nat_le n (length items))
    (filter_after (filter_pops filter firing) (Some from) (Some to) rings done)) (is.looks firing)
    ∙ ap (λ found. if_found found
    (filter_after (filter_pops filter firing) (Some from) (Some to) rings done))
    (le-leb 1 (length items) some)
    ∙ ap (λ n. filter_after n (Some from) (Some to) rings done) (is.pops firing)
    ∙ ap (filter_after 1 (Some from) (Some to) rings) (first_given items some)
  where
    first_given : (items : List ℤ) → 1 ≤ length items
        → fired filter (body_at firing) [] items
        ≡ Ok (record { fields = []; pushes = take 1 items; words = [] })
    first_given [] some = absurd (omega arith)
    first_given (item ∷ items) some = is.gives firing item items
