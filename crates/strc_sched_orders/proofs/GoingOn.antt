-- Orders from some counts on, seen as from the beginning on.
use Rattle.std.proofs.Common.{◌≡◌, ◌∙◌, refl, sym, ap, subst, ℕ, zero, suc, ◌+◌, ◌*◌, ◌<◌}
use Rattle.std.proofs.Common.{List, [], ◌∷◌, length, map, get_or, All, ◌⊎◌, inl, inr, arith}
use mathlib.Core.Path.{fun_ext}
use Rattle.std.proofs.lemmas.List.{length-map}
use Rattle.strc_startup.specs.Startup.{popped}
use Rattle.strc_startup.specs.declared.channel_rates.ChannelRates.{ChannelRates}
use Rattle.strc_sched_orders.specs.Firings.{Firings, none_fired, fired, fill, reach, HasWindow}
use Rattle.strc_sched_orders.specs.Firings.{FindsWindows}
use Rattle.strc_sched_orders.specs.Order.{IsOrder}
use Rattle.strc_sched_orders.specs.Rounds.{IsPastPrework}
use Rattle.strc_sched_orders.specs.Sizing.{rates_on, all_rates_on, IsCovered}
use Rattle.strc_sched_orders.specs.Sizing.{OrdersGoOn, LimitsGoOn}
use Rattle.strc_sched_orders.proofs.Continuing.{more, supply_by_work, passes_on}
use Rattle.strc_sched_orders.proofs.Repeating.{supply_more, reach_more}

reach_by_work : (rates : ChannelRates) (items n : ℕ)
    → reach (rates_on rates items) n ≡ rates.pop * n + rates.window
reach_by_work rates items zero = omega arith
reach_by_work rates items (suc n) = omega arith

reach_now : (rates : ChannelRates) (counts : Firings) → IsPastPrework counts rates
    → reach rates (counts rates.target) ≡ popped rates (counts rates.target) + rates.window
reach_now rates counts past = by_count (counts rates.target) past.target
  where
    by_count : (n : ℕ)
        → (0 < n) ⊎ ((rates.first_pop ≡ rates.pop) × (rates.first_window ≡ rates.window))
        → reach rates n ≡ popped rates n + rates.window
    by_count zero (inl some) = absurd (omega (arith, some))
    by_count zero (inr same) = omega (arith, same.1)
    by_count (suc n) past = refl

-- the window is found at counts where it is found by items
window_on : (rates : ChannelRates) (counts later : Firings) → IsPastPrework counts rates
    → IsCovered counts rates → HasWindow (more counts later) rates
    → HasWindow later (rates_on rates (fill rates counts))
window_on rates counts later past covered has =
    let s = supply_more rates (counts rates.source) (later rates.source) past.source in
    let r = reach_more rates (counts rates.target) (later rates.target) past.target in
    let n = reach_now rates counts past in
    let t = supply_by_work rates (fill rates counts) (later rates.source) in
    let q = reach_by_work rates (fill rates counts) (later rates.target) in
    omega (arith, s, r, n, t, q, covered, has)

-- each channel with its own items
same_on : (channels : List ChannelRates) (counts : Firings) (k : ℕ) (d : ChannelRates)
    → k < length channels
    → get_or (all_rates_on channels (map (λ rates. fill rates counts) channels)) k d
    ≡ rates_on (get_or channels k d) (fill (get_or channels k d) counts)
same_on [] counts k d within = absurd (omega (arith, within))
same_on (rates ∷ channels) counts zero d within = refl
same_on (rates ∷ channels) counts (suc k) d within =
    same_on channels counts k d (omega (arith, within))

finds_on : (channels : List ChannelRates) (counts later : Firings) (node : ℕ)
    → All (IsPastPrework counts) channels → All (IsCovered counts) channels
    → FindsWindows channels (more counts later) node
    → FindsWindows (all_rates_on channels (map (λ rates. fill rates counts) channels)) later node
finds_on channels counts later node past covered finds k d within =
    let short = short_on channels counts k within in
    let own = get_or channels k d in
    subst (λ (r : ChannelRates). r.target ≡ node → HasWindow later r)
    (sym (same_on channels counts k d short))
    (λ target. window_on own counts later (past k d short) (covered k d short)
    (finds k d short target))
  where
    short_on : (channels : List ChannelRates) (counts : Firings) (k : ℕ)
        → k < length (all_rates_on channels (map (λ rates. fill rates counts) channels))
        → k < length channels
    short_on [] counts k within = within
    short_on (rates ∷ channels) counts zero within = omega arith
    short_on (rates ∷ channels) counts (suc k) within =
        omega (arith, short_on channels counts k (omega (arith, within)))

module _ (channels : List ChannelRates) (counts : Firings)
    (past : All (IsPastPrework counts) channels) (covered : All (IsCovered counts) channels) where
  order_on : (later : Firings) (order : List ℕ) → IsOrder channels (more counts later) order
      → IsOrder (all_rates_on channels (map (λ rates. fill rates counts) channels)) later order
  order_on later [] is = is
  order_on later (node ∷ order) (finds, rest) =
      let next : fired (more counts later) 1 node ≡ more counts (fired later 1 node) =
      fun_ext (λ other. omega arith) in (
        finds_on channels counts later node past covered finds,
        order_on (fired later 1 node) order (subst (λ k. IsOrder channels k order) next rest),
      )

pub orders_go_on : OrdersGoOn
orders_go_on channels counts fills order has is =
    let none : counts ≡ more counts none_fired = fun_ext (λ node. omega arith) in
    subst (λ l. IsOrder (all_rates_on channels l) none_fired order) (sym has.items)
    (order_on channels counts has.past_prework has.covered none_fired order
    (subst (λ k. IsOrder channels k order) none is))

pub limits_go_on : LimitsGoOn
limits_go_on channels counts fills order before channel has passes =
    passes_on channels counts fills order before channel
    (ap length has.items ∙ length-map channels (λ rates. fill rates counts)) has passes
