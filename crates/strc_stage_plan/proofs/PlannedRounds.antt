-- Orders of the firings of a planned round: in each round each firing finds its windows.
use Rattle.std.proofs.Common.{◌≡◌, sym, ◌∙◌, subst, ℕ, suc, ◌*◌, ◌<◌, ◌≤◌, arith, ℤ, List, length}
use Rattle.std.proofs.Common.{mul-le-mul_right}
use Rattle.strc_elab_dataflow.specs.Order as orders
use Rattle.strc_elab_dataflow.specs.Streams.{Stream, flat}
use Rattle.strc_elab_graph.specs.Graphs.{NodeCode, Graph}
use Rattle.strc_elab_graph.specs.FlatGraphs.{IsProgram}
use Rattle.strc_elab_graph.specs.Meaning.{node_meaning}
use Rattle.strc_balance.specs.Balance.{count_at}
use Rattle.strc_startup.specs.Rates.{rates_of}
use Rattle.strc_sched_orders.specs.Firings.{Firings}
use Rattle.strc_sched_orders.specs.Order.{firing_count, IsOrder}
use Rattle.strc_sched_orders.specs.Rounds.{rounds_on}
use Rattle.strc_sched_orders.specs.Schedules.{ScheduleParts}
use Rattle.strc_sched_orders.proofs.Repeating.{order_repeats}
use Rattle.strc_sched_laws.specs.Laws.{startup_order, round_order, counts_at}
use Rattle.strc_sched_laws.specs.Planned.{IsPlanned, items_read}
use Rattle.strc_sched_laws.proofs.Orders.{AreNodes, firing_count_is, generic_order}
use Rattle.strc_sched_laws.proofs.Rounds.{past_prework, balances, counts_are, all_supplied}
use Rattle.strc_sched_laws.proofs.Rounds.{round_nodes, orders_find}

-- an order from the counts of start-up, of the firings of a round
pub record IsRound (old : Graph) (schedule : ScheduleParts) (planned : IsPlanned old schedule)
    (order : List ℕ) : Type 0 where
  pub valid : IsOrder (rates_of old) (count_at planned.startup) order
  pub all : (node : ℕ) → firing_count order node ≡ count_at planned.round node

module _ (tree : Stream NodeCode) (old : Graph) (schedule : ScheduleParts) (input : List ℤ)
    (rounds : ℕ) (program : IsProgram tree old) (planned : IsPlanned old schedule)
    (supplied : items_read old.nodes (counts_at schedule rounds) ≤ length input)
    (order : List ℕ) (is : IsRound old schedule planned order) where
  pub order_nodes : AreNodes old order
  order_nodes node some = round_nodes old schedule planned node (omega (
    arith,
    some,
    is.all node,
    planned.schedule.round_order.all node,
  ))

  each_round : (q : ℕ) → q < rounds
      → orders.IsOrder node_meaning (flat tree) input
      (rounds_on (count_at planned.startup) q (count_at planned.round)) order
  each_round q less =
      generic_order tree old input program planned.unfissioned
      (rounds_on (count_at planned.startup) q (count_at planned.round)) order
      (order_repeats (rates_of old) (count_at planned.startup) (count_at planned.round) q order
      (past_prework old schedule planned) (balances old schedule planned) is.valid)
      order_nodes
      (λ node text reads.
      let more : suc q * count_at planned.round node ≤ rounds * count_at planned.round node =
      mul-le-mul_right (count_at planned.round node) (omega (arith, less)) in
      omega (
        arith,
        all_supplied old schedule planned tree input rounds program supplied node text reads,
        is.all node,
        more,
      ))

  pub order_finds : orders.IsSchedule node_meaning (flat tree) input
      (firing_count (startup_order schedule)) (firing_count (round_order schedule))
      (startup_order schedule) order rounds
  order_finds = record {
    startup_counts = firing_count_is (startup_order schedule);
    round_counts = λ node. firing_count_is order node ∙ is.all node
        ∙ sym (planned.schedule.round_order.all node);
    startup_finds =
        (orders_find old schedule planned tree input rounds program supplied).startup_finds;
    round_finds = λ q less.
        subst (λ (counts : Firings). orders.IsOrder node_meaning (flat tree) input counts order)
        (sym (counts_are old schedule planned q)) (each_round q less);
  }
