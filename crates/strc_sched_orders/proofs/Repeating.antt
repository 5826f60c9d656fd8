-- Each round is like the first one.
use Rattle.std.proofs.Common.{◌≡◌, ◌∙◌, sym, ap, subst, ℕ, zero, suc, ◌+◌, ◌*◌, ◌<◌}
use Rattle.std.proofs.Common.{List}
use Rattle.std.proofs.Common.{[], ◌∷◌, All, get_or, inl, inr, arith, slice_get, slice_index, Some}
use Rattle.std.proofs.Common.{map, ◌≤◌}
use Rattle.std.proofs.Common.{◌⊎◌}
use Rattle.std.proofs.Common.{mul_left_comm}
use mathlib.Core.Path.{fun_ext}
use Rattle.strc_startup.specs.Startup.{popped, supply}
use Rattle.strc_startup.specs.declared.channel_rates.ChannelRates.{ChannelRates}
use Rattle.strc_sched_orders.specs.Buffers.{peak_fill, buffer_size}
use Rattle.strc_sched_orders.specs.Firings.{Firings, turns_of, fired, reach, fill, HasWindow}
use Rattle.strc_sched_orders.specs.Greedy.{firings_of}
use Rattle.strc_sched_orders.specs.Order.{IsOrder}
use Rattle.strc_sched_orders.specs.Rounds.{rounds_on, RoundBalances, IsPastPrework, OrderRepeats}
use Rattle.strc_sched_orders.specs.Rounds.{FillsRepeat}
use Rattle.strc_sched_orders.specs.Rounds.{NoBufferOverflows}
use Rattle.strc_sched_orders.specs.Schedules.{ScheduleParts}
use Rattle.strc_sched_orders.proofs.Buffering.{at_channel}
use Rattle.std.proofs.lemmas.Option.{same_Some, slice_get-get_or, slice_get_within}

-- more firings push, pop and see so much more, where the first one is done or like all others

pub supply_more : (rates : ChannelRates) (n more : ℕ) → (0 < n) ⊎ (rates.first_push ≡ rates.push)
    → supply rates (n + more) ≡ supply rates n + rates.push * more
supply_more rates zero zero past_prework = omega arith
supply_more rates zero (suc more) (inl some) = absurd (omega (arith, some))
supply_more rates zero (suc more) (inr same) =
    let e : zero + suc more ≡ suc more = omega arith in
    omega (arith, ap (supply rates) e, same)
supply_more rates (suc n) more past_prework =
    let e : suc n + more ≡ suc (n + more) = omega arith in
    omega (arith, ap (supply rates) e)

pub popped_more : (rates : ChannelRates) (n more : ℕ) → (0 < n) ⊎ (rates.first_pop ≡ rates.pop)
    → popped rates (n + more) ≡ popped rates n + rates.pop * more
popped_more rates zero zero past_prework = omega arith
popped_more rates zero (suc more) (inl some) = absurd (omega (arith, some))
popped_more rates zero (suc more) (inr same) =
    let e : zero + suc more ≡ suc more = omega arith in
    omega (arith, ap (popped rates) e, same)
popped_more rates (suc n) more past_prework =
    let e : suc n + more ≡ suc (n + more) = omega arith in
    omega (arith, ap (popped rates) e)

pub reach_more : (rates : ChannelRates) (n more : ℕ)
    → (0 < n) ⊎ ((rates.first_pop ≡ rates.pop) × (rates.first_window ≡ rates.window))
    → reach rates (n + more) ≡ reach rates n + rates.pop * more
reach_more rates zero zero past_prework = omega arith
reach_more rates zero (suc more) (inl some) = absurd (omega (arith, some))
reach_more rates zero (suc more) (inr same) =
    let e : zero + suc more ≡ suc more = omega arith in
    omega (arith, ap (reach rates) e, same.0, same.1)
reach_more rates (suc n) more past_prework =
    let e : suc n + more ≡ suc (n + more) = omega arith in
    omega (arith, ap (reach rates) e)

pub pops_alike : (rates : ChannelRates) (n : ℕ)
    → (0 < n) ⊎ ((rates.first_pop ≡ rates.pop) × (rates.first_window ≡ rates.window))
    → (0 < n) ⊎ (rates.first_pop ≡ rates.pop)
pops_alike rates n (inl some) = inl some
pops_alike rates n (inr same) = inr same.0

module _ (rates : ChannelRates) (round : Firings) (rounds : ℕ)
    (balances : RoundBalances round rates) where
  -- all rounds push as much as they pop
  all_balance : rates.push * (rounds * round rates.source)
      ≡ rates.pop * (rounds * round rates.target)
  all_balance =
      mul_left_comm rates.push rounds (round rates.source)
      ∙ ap (λ n. rounds * n) balances
      ∙ sym (mul_left_comm rates.pop rounds (round rates.target))

  fill_again : (counts : Firings) → IsPastPrework counts rates
      → fill rates (rounds_on counts rounds round) ≡ fill rates counts
  fill_again counts past_prework =
      let s = supply_more rates (counts rates.source) (rounds * round rates.source)
      past_prework.source in
      let p = popped_more rates (counts rates.target) (rounds * round rates.target)
      (pops_alike rates (counts rates.target) past_prework.target) in
      omega (arith, s, p, all_balance)

  window_again : (counts : Firings) → IsPastPrework counts rates → HasWindow counts rates
      → HasWindow (rounds_on counts rounds round) rates
  window_again counts past_prework has =
      let s = supply_more rates (counts rates.source) (rounds * round rates.source)
      past_prework.source in
      let r = reach_more rates (counts rates.target) (rounds * round rates.target)
      past_prework.target in
      omega (arith, s, r, all_balance, has)

fired_again : (counts round : Firings) (rounds node : ℕ)
    → fired (rounds_on counts rounds round) 1 node ≡ rounds_on (fired counts 1 node) rounds round
fired_again counts round rounds node = fun_ext (λ other. omega arith)

more_past_prework : (a b : ℕ) (P : Type 0) → (0 < a) ⊎ P → (0 < a + b) ⊎ P
more_past_prework a b P (inl some) = inl (omega (arith, some))
more_past_prework a b P (inr same) = inr same

pub past_prework_after : (counts : Firings) (node : ℕ) (rates : ChannelRates)
    → IsPastPrework counts rates
    → IsPastPrework (fired counts 1 node) rates
past_prework_after counts node rates past_prework = record {
  source = more_past_prework (counts rates.source) (turns_of 1 node rates.source)
      (rates.first_push ≡ rates.push) past_prework.source;
  target = more_past_prework (counts rates.target) (turns_of 1 node rates.target)
      ((rates.first_pop ≡ rates.pop) × (rates.first_window ≡ rates.window)) past_prework.target;
}

pub fills_repeat : FillsRepeat
fills_repeat rates counts round rounds [] past_prework balances =
    fill_again rates round rounds balances counts past_prework
fills_repeat rates counts round rounds (node ∷ order) past_prework balances =
    let now = fill_again rates round rounds balances counts past_prework in
    let later = fills_repeat rates (fired counts 1 node) round rounds order
    (past_prework_after counts node rates past_prework) balances in
    let e = ap (λ k. peak_fill rates k order) (fired_again counts round rounds node) in
    omega (arith, now, later, e)

pub order_repeats : OrderRepeats
order_repeats channels counts round rounds [] past_prework balances is = is
order_repeats channels counts round rounds (node ∷ order) past_prework balances (finds, later) = (
  λ k d within target. window_again (get_or channels k d) round rounds (balances k d within) counts
      (past_prework k d within) (finds k d within target),
  subst (λ n. IsOrder channels n order) (sym (fired_again counts round rounds node))
      (order_repeats channels (fired counts 1 node) round rounds order
      (λ k d within. past_prework_after counts node (get_or channels k d) (past_prework k d within))
      balances
      later),
)

-- what holds of all channels holds of one
pub rates_there : (P : ChannelRates → Type 0) (channels : List ChannelRates) (number : ℕ)
    (rates : ChannelRates) → All P channels → slice_get channels number ≡ Some rates → P rates
rates_there P channels number rates all there =
    let within = slice_get_within channels number rates there in
    subst P (same_Some (get_or channels number rates) rates
    (sym (slice_get-get_or channels number rates within) ∙ there)) (all number rates within)

-- where sizes are those of an order, greedy or not, no round needs more
module _ (channels : List ChannelRates) (startup round : Firings) (schedule : ScheduleParts)
    (sizes : schedule.sizes ≡ map (buffer_size startup schedule.startup schedule.round) channels)
    (past_prework : All (IsPastPrework startup) channels)
    (balances : All (RoundBalances round) channels) where
  within_sizes : (rounds number : ℕ) (rates : ChannelRates) → slice_get channels number ≡ Some rates
      → peak_fill rates (rounds_on startup rounds round) (firings_of schedule.round)
      ≤ slice_index schedule.sizes number
  within_sizes rounds number rates there =
      let own = rates_there (IsPastPrework startup) channels number rates past_prework there in
      let even = rates_there (RoundBalances round) channels number rates balances there in
      let same = fills_repeat rates startup round rounds (firings_of schedule.round) own even in
      let size = ap (λ l. slice_index l number) sizes
      ∙ at_channel (buffer_size startup schedule.startup schedule.round) channels number rates
      there in
      omega (arith, same, size)

pub no_buffer_overflows : NoBufferOverflows
no_buffer_overflows channels startup round schedule is =
    within_sizes channels startup round schedule is.sizes
