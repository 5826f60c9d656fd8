-- An order is valid where it passes each channel by itself.
use Rattle.std.proofs.Common.{◌≡◌, refl, sym, ap, ◌∙◌, ℕ, zero, suc, ◌+◌, ◌*◌, ◌<◌}
use Rattle.std.proofs.Common.{Bool, true, false, cond, eqb, List, [], ◌∷◌}
use Rattle.std.proofs.Common.{All, arith, inl, inr, ◌⊎◌, eq-eqb, eqb-true}
use Rattle.strc_startup.specs.Startup.{popped, supply}
use Rattle.strc_startup.specs.declared.channel_rates.ChannelRates.{ChannelRates}
use Rattle.strc_sched_orders.specs.Firings.{Firings, turns_of, fired, reach, HasWindow}
use Rattle.strc_sched_orders.specs.Order.{firing_count, IsOrder}
use Rattle.strc_sched_orders.specs.Rounds.{IsPastPrework}
use Rattle.strc_sched_orders.proofs.Repeating.{supply_more, popped_more, pops_alike}
use Rattle.strc_sched_orders.proofs.Repeating.{past_prework_after}
use Rattle.strc_elab_dataflow.proofs.Diamond.{apart_other}
use Rattle.strc_elab_dataflow.proofs.Links.{Link, takes, sum_of, sum_takes, Passes, easier}
use Rattle.strc_sched_laws.proofs.Orders.{firing_count_is}

-- a channel as its source gives to it
abbrev pub gift : ChannelRates → Link
gift rates = record { target = rates.source; pop = rates.push; window = 0; gives = λ node. 0 }

-- a channel whose first firings are done, or like all others
abbrev pub link_of : ChannelRates → Link
link_of rates = record {
  target = rates.target;
  pop = rates.pop;
  window = rates.window;
  gives = takes (gift rates);
}

-- on one channel each firing of an order finds its window
abbrev pub IsOrderOn : ChannelRates → Firings → List ℕ → Type 0
IsOrderOn rates counts [] = Unit {0}
IsOrderOn rates counts (node ∷ order) =
    (rates.target ≡ node → HasWindow counts rates) × IsOrderOn rates (fired counts 1 node) order

pub order_on : (channels : List ChannelRates) (order : List ℕ) (counts : Firings)
    → IsOrder channels counts order → All (λ rates. IsOrderOn rates counts order) channels
order_on channels [] counts is k d within = tt
order_on channels (node ∷ order) counts (finds, later) k d within = (
  finds k d within,
  order_on channels order (fired counts 1 node) later k d within,
)

pub order_from : (channels : List ChannelRates) (order : List ℕ) (counts : Firings)
    → All (λ rates. IsOrderOn rates counts order) channels → IsOrder channels counts order
order_from channels [] counts all = tt
order_from channels (node ∷ order) counts all = (
  λ k d within. (all k d within).0,
  order_from channels order (fired counts 1 node) (λ k d within. (all k d within).1),
)

-- the next firing's window
reach_is : (rates : ChannelRates) (n : ℕ)
    → (0 < n) ⊎ ((rates.first_pop ≡ rates.pop) × (rates.first_window ≡ rates.window))
    → reach rates n ≡ popped rates n + rates.window
reach_is rates zero (inl some) = absurd (omega (arith, some))
reach_is rates zero (inr same) = omega (arith, same.1)
reach_is rates (suc n) past = refl

same_other : (a b : ℕ) → eqb a b ≡ true → eqb b a ≡ true
same_other a b e = eq-eqb b a (sym (eqb-true a b e))

-- what a firing adds
unit_times : (rate node end : ℕ) → rate * turns_of 1 node end ≡ cond (eqb node end) rate 0
unit_times rate node end = by_test (eqb end node) refl
  where
    by_test : (test : Bool) → eqb end node ≡ test
        → rate * cond (eqb end node) 1 0 ≡ cond (eqb node end) rate 0
    by_test true e = ap (λ (t : Bool). rate * cond t 1 0) e
        ∙ (let f : rate * 1 ≡ rate = omega arith in f)
        ∙ sym (ap (λ (t : Bool). cond t rate 0) (same_other end node e))
    by_test false e = ap (λ (t : Bool). rate * cond t 1 0) e
        ∙ (let f : rate * 0 ≡ 0 = omega arith in f)
        ∙ sym (ap (λ (t : Bool). cond t rate 0) (apart_other end node e))

module _ (rates : ChannelRates) where
  supply_next : (counts : Firings) (node : ℕ) → IsPastPrework counts rates
      → supply rates (fired counts 1 node rates.source)
      ≡ supply rates (counts rates.source) + takes (gift rates) node
  unfolding takes
  supply_next counts node past = omega (
    arith,
    supply_more rates (counts rates.source) (turns_of 1 node rates.source) past.source,
    unit_times rates.push node rates.source,
  )

  popped_next : (counts : Firings) (node : ℕ) → IsPastPrework counts rates
      → popped rates (fired counts 1 node rates.target)
      ≡ popped rates (counts rates.target) + takes (link_of rates) node
  unfolding takes
  popped_next counts node past = omega (
    arith,
    popped_more rates (counts rates.target) (turns_of 1 node rates.target)
        (pops_alike rates (counts rates.target) past.target),
    unit_times rates.pop node rates.target,
  )

  pub passes_from : (order : List ℕ) (counts : Firings) → IsPastPrework counts rates
      → IsOrderOn rates counts order
      → Passes (link_of rates) (supply rates (counts rates.source))
      (popped rates (counts rates.target)) order
  passes_from [] counts past is = tt
  passes_from (node ∷ order) counts past (finds, later) = (
    λ e. omega (arith, finds (sym e), reach_is rates (counts rates.target) past.target),
    easier (link_of rates) order _ _ _ _ (omega (
      arith,
      supply_next counts node past,
      popped_next counts node past,
    )) (passes_from order (fired counts 1 node) (past_prework_after counts node rates past) later),
  )

  pub from_passes : (order : List ℕ) (counts : Firings) → IsPastPrework counts rates
      → Passes (link_of rates) (supply rates (counts rates.source))
      (popped rates (counts rates.target)) order
      → IsOrderOn rates counts order
  from_passes [] counts past passes = tt
  from_passes (node ∷ order) counts past (finds, later) = (
    λ e. omega (arith, finds (sym e), reach_is rates (counts rates.target) past.target),
    from_passes order (fired counts 1 node) (past_prework_after counts node rates past)
        (easier (link_of rates) order _ _ _ _ (omega (
          arith,
          supply_next counts node past,
          popped_next counts node past,
        )) later),
  )

  -- what a list gives and takes, by how often the ends occur in it
  pub sum_gives : (nodes : List ℕ)
      → sum_of (takes (gift rates)) nodes ≡ firing_count nodes rates.source * rates.push
  sum_gives nodes =
      sum_takes (gift rates) nodes
      ∙ ap (λ (n : ℕ). n * rates.push) (firing_count_is nodes rates.source)

  pub sum_taken : (nodes : List ℕ)
      → sum_of (takes (link_of rates)) nodes ≡ firing_count nodes rates.target * rates.pop
  sum_taken nodes =
      sum_takes (link_of rates) nodes
      ∙ ap (λ (n : ℕ). n * rates.pop) (firing_count_is nodes rates.target)
