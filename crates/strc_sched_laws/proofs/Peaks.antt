-- Start-up and all rounds are one order, in which no channel holds more items than its buffer.
use Rattle.std.proofs.Common.{◌≡◌, sym, ap, ◌∙◌, subst, ℕ, zero, suc, ◌*◌, ◌≤◌, List}
use Rattle.std.proofs.Common.{[], ◌∷◌, ◌++◌, Some, slice_get, slice_index, arith}
use mathlib.Core.Path.{fun_ext}
use Rattle.strc_elab_graph.specs.Graphs.{Graph}
use Rattle.strc_startup.specs.Rates.{rates_of}
use Rattle.strc_startup.specs.declared.channel_rates.ChannelRates.{ChannelRates}
use Rattle.strc_sched_orders.specs.Buffers.{peak_fill, buffer_size}
use Rattle.strc_sched_orders.specs.Firings.{Firings, none_fired, fired, fill}
use Rattle.strc_sched_orders.specs.Order.{firing_count, after, repeated, IsOrder}
use Rattle.strc_sched_orders.specs.Rounds.{rounds_on}
use Rattle.strc_sched_orders.specs.Schedules.{ScheduleParts}
use Rattle.strc_sched_orders.proofs.Buffering.{at_channel}
use Rattle.strc_sched_orders.proofs.Fills.{peak_first, peak_last, peak_append}
use Rattle.strc_sched_orders.proofs.Repeating.{no_buffer_overflows}
use Rattle.strc_sched_orders.proofs.FiringCounts.{after_none, after_cons, firing_count_append}
use Rattle.strc_sched_laws.specs.Planned.{IsPlanned}
use Rattle.strc_sched_laws.specs.Laws.{startup_order, round_order}
use Rattle.strc_sched_laws.proofs.Rounds.{at_startup, in_round, past_prework, balances}
use Rattle.strc_sched_laws.proofs.Rounds.{startup_finds, round_finds}

-- an order, and after it another one
order_append : (on : List ChannelRates) (counts : Firings) (a b : List ℕ)
    → IsOrder on counts a → IsOrder on (after counts a) b → IsOrder on counts (a ++ b)
order_append on counts [] b is then_is =
    subst (λ (now : Firings). IsOrder on now b) (after_none counts) then_is
order_append on counts (node ∷ a) b (finds, later) then_is = (
  finds,
  order_append on (fired counts 1 node) a b later
      (subst (λ (now : Firings). IsOrder on now b) (after_cons counts node a) then_is),
)

-- no more items are on a channel after the front of an order than at its peak
pub front_fill : (rates : ChannelRates) (counts : Firings) (front back order : List ℕ)
    → front ++ back ≡ order → fill rates (after counts front) ≤ peak_fill rates counts order
front_fill rates counts front back order is =
    let parts = peak_append rates counts front back in
    let whole = ap (peak_fill rates counts) is in
    omega (arith, parts, whole, peak_last rates counts front)

module _ (graph : Graph) (schedule : ScheduleParts) (planned : IsPlanned graph schedule) where
  abbrev pub run_order : (rounds : ℕ) → List ℕ
  run_order rounds = startup_order schedule ++ repeated rounds (round_order schedule)

  abbrev after_rounds : (rounds : ℕ) → Firings
  after_rounds rounds =
      rounds_on (at_startup graph schedule planned) rounds (in_round graph schedule planned)

  firing_count_rounds : (rounds node : ℕ)
      → firing_count (repeated rounds (round_order schedule)) node
      ≡ rounds * in_round graph schedule planned node
  firing_count_rounds zero node = omega arith
  firing_count_rounds (suc rounds) node =
      omega (
        arith,
        firing_count_append (round_order schedule) (repeated rounds (round_order schedule)) node,
        firing_count_rounds rounds node,
        planned.schedule.round_order.all node,
      )

  -- how often each node fires in all
  pub firing_count_run : (rounds node : ℕ) → firing_count (run_order rounds) node
      ≡ after_rounds rounds node
  firing_count_run rounds node =
      omega (
        arith,
        firing_count_append (startup_order schedule) (repeated rounds (round_order schedule)) node,
        firing_count_rounds rounds node,
        planned.schedule.startup_order.all node,
      )

  after_startup : after none_fired (startup_order schedule) ≡ after_rounds 0
  after_startup = fun_ext (λ node. omega (arith, planned.schedule.startup_order.all node))

  after_round : (q : ℕ) → after (after_rounds q) (round_order schedule) ≡ after_rounds (suc q)
  after_round q = fun_ext (λ node. omega (arith, planned.schedule.round_order.all node))

  rounds_find : (left q : ℕ) → IsOrder (rates_of graph) (after_rounds q)
      (repeated left (round_order schedule))
  rounds_find zero q = tt
  rounds_find (suc left) q =
      order_append (rates_of graph) (after_rounds q) (round_order schedule)
      (repeated left (round_order schedule)) (round_finds graph schedule planned q)
      (subst (λ (now : Firings). IsOrder (rates_of graph) now
      (repeated left (round_order schedule))) (sym (after_round q)) (rounds_find left (suc q)))

  -- each firing of all finds its windows
  pub run_finds : (rounds : ℕ)
      → IsOrder (rates_of graph) none_fired (run_order rounds)
  run_finds rounds =
      order_append (rates_of graph) none_fired (startup_order schedule)
      (repeated rounds (round_order schedule)) (startup_finds graph schedule planned)
      (subst (λ (now : Firings). IsOrder (rates_of graph) now
      (repeated rounds (round_order schedule))) (sym after_startup) (rounds_find rounds 0))

  module _ (number : ℕ) (rates : ChannelRates)
      (there : slice_get (rates_of graph) number ≡ Some rates) where
    round_peak : (q : ℕ) → peak_fill rates (after_rounds q) (round_order schedule)
        ≤ slice_index schedule.sizes number
    round_peak q =
        no_buffer_overflows (rates_of graph) (at_startup graph schedule planned)
        (in_round graph schedule planned) schedule planned.schedule
        (past_prework graph schedule planned) (balances graph schedule planned) q number rates there

    rounds_peak : (left q : ℕ)
        → peak_fill rates (after_rounds q) (repeated left (round_order schedule))
        ≤ slice_index schedule.sizes number
    rounds_peak zero q =
        omega (arith, peak_first rates (after_rounds q) (round_order schedule), round_peak q)
    rounds_peak (suc left) q =
        let parts = peak_append rates (after_rounds q) (round_order schedule)
        (repeated left (round_order schedule)) in
        let later = ap (λ (now : Firings). peak_fill rates now
        (repeated left (round_order schedule))) (after_round q) in
        omega (arith, parts, later, round_peak q, rounds_peak left (suc q))

    -- a channel's buffer has room for all
    pub run_peak : (rounds : ℕ) → peak_fill rates none_fired (run_order rounds)
        ≤ slice_index schedule.sizes number
    run_peak rounds =
        let own = buffer_size (at_startup graph schedule planned) schedule.startup
        schedule.round in
        let holds = ap (λ (sizes : List ℕ). slice_index sizes number) planned.schedule.sizes
        ∙ at_channel own (rates_of graph) number rates there in
        let parts = peak_append rates none_fired (startup_order schedule)
        (repeated rounds (round_order schedule)) in
        let later = ap (λ (now : Firings). peak_fill rates now
        (repeated rounds (round_order schedule))) after_startup in
        omega (arith, holds, parts, later, rounds_peak rounds 0)
