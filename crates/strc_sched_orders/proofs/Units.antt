-- The firings of the first so many units.
use Rattle.std.proofs.Common.{◌≡◌, ◌∙◌, refl, sym, ap, ℕ, zero, suc, ◌+◌, ◌<◌, ◌≤◌, List, [], ◌∷◌}
use Rattle.std.proofs.Common.{◌++◌}
use Rattle.std.proofs.Common.{length, take, get_or, arith}
use Rattle.std.proofs.lemmas.List.{take_more}
use Rattle.strc_sched_orders.specs.declared.unit as units
use Rattle.strc_sched_orders.specs.Firings.{Firings, fired}
use Rattle.strc_sched_orders.specs.Greedy.{firings_of}
use Rattle.strc_sched_orders.specs.Order.{after, firing_count, repeated}
use Rattle.strc_sched_orders.proofs.Greedily.{firings_push}
use Rattle.strc_sched_orders.proofs.FiringCounts.{firing_count_append, firing_count_repeated}
use Rattle.strc_sched_orders.proofs.FiringCounts.{after_append}
use Rattle.strc_sched_orders.proofs.FiringCounts.{after_repeated}
use Rattle.strc_sched_orders.proofs.FiringCounts.{turns_same}

-- no node fires more often in some of the units than in all
pub firing_count_take : (order : List units.Unit.Unit) (i node : ℕ)
    → firing_count (firings_of (take i order)) node ≤ firing_count (firings_of order) node
firing_count_take order zero node = omega arith
firing_count_take [] (suc i) node = omega arith
firing_count_take (unit ∷ order) (suc i) node =
    let own = repeated unit.turns unit.nodes.items in
    let more = firing_count_take order i node in
    omega (
      arith,
      more,
      firing_count_append own (firings_of (take i order)) node,
      firing_count_append own (firings_of order) node,
    )

module _ (order : List units.Unit.Unit) (i : ℕ) (within : i < length order)
    (unit : units.Unit.Unit) (is : unit ≡ get_or order i unit) (node : ℕ)
    (single : unit.nodes.items ≡ node ∷ []) where
  -- one more unit
  pub firings_take : firings_of (take (i + 1) order)
      ≡ firings_of (take i order) ++ repeated unit.turns (node ∷ [])
  firings_take =
      ap firings_of (take_more order i unit within)
      ∙ ap (λ u. firings_of (take i order ++ u ∷ [])) (sym is)
      ∙ firings_push (take i order) unit
      ∙ ap (λ l. firings_of (take i order) ++ repeated unit.turns l) single

  pub after_take : (counts : Firings)
      → fired (after counts (firings_of (take i order))) unit.turns node
      ≡ after counts (firings_of (take (i + 1) order))
  after_take counts =
      sym (after_repeated (after counts (firings_of (take i order))) unit.turns node)
      ∙ sym (after_append counts (firings_of (take i order)) (repeated unit.turns (node ∷ [])))
      ∙ ap (after counts) (sym firings_take)

  -- the unit's turns are among the firings of its node
  pub turns_within : firing_count (firings_of (take i order)) node + unit.turns
      ≤ firing_count (firings_of order) node
  turns_within =
      let e = ap (λ l. firing_count l node) firings_take in
      let a =
      firing_count_append (firings_of (take i order)) (repeated unit.turns (node ∷ [])) node in
      let t = firing_count_repeated unit.turns node node in
      let s = turns_same unit.turns node node refl in
      omega (arith, e, a, t, s, firing_count_take order (i + 1) node)
