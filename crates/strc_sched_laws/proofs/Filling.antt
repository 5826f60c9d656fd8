-- Along start-up and all rounds no channel holds more items than its buffer, and firings are
-- numbered within 64 bits.
use Rattle.std.proofs.Common.{◌≡◌, refl, sym, ap, ◌∙◌, subst, ℕ, ◌+◌, ◌*◌, ◌<◌, ◌≤◌, ◌^◌, ℤ, List}
use Rattle.std.proofs.Common.{[], ◌++◌, length, Some, slice_get, slice_index, inl, inr, arith}
use Rattle.std.proofs.Math.Nat.{mul-le-mul_left}
use Rattle.std.proofs.lemmas.Bool.{cases_lt}
use Rattle.std.proofs.lemmas.List.{get_or_past, length-map}
use Rattle.strc_elab_dataflow.specs.Order as orders
use Rattle.strc_elab_dataflow.specs.Queues.{FifoProgress.FifoWent, fifo_go, fifo_at_first}
use Rattle.strc_elab_dataflow.specs.Streams.{Stream, flat}
use Rattle.strc_elab_dataflow.proofs.Fills.{fills_after}
use Rattle.strc_elab_graph.specs.Graphs.{NodeCode, FileReader, Channel, Graph, input_ports}
use Rattle.strc_elab_graph.specs.FlatGraphs.{IsProgram}
use Rattle.strc_elab_graph.specs.Meaning.{node_meaning, ports_in}
use Rattle.strc_elab_graph.proofs.Carriers.{carrier_is_input}
use Rattle.strc_balance.specs.Balance.{count_limit}
use Rattle.strc_startup.specs.Rates.{rates_of_channel, first_count}
use Rattle.strc_sched_orders.specs.Firings.{Firings, none_fired, fill}
use Rattle.strc_sched_orders.specs.Order.{firing_count, after}
use Rattle.strc_sched_orders.specs.Schedules.{ScheduleParts}
use Rattle.strc_sched_orders.proofs.FiringCounts.{firing_count_append}
use Rattle.strc_sched_laws.specs.Planned.{IsPlanned, AreKnown, items_read}
use Rattle.strc_sched_laws.specs.Laws.{counts_at}
use Rattle.strc_sched_laws.specs.Fits.{Queues, FitNow, Fit}
use Rattle.strc_sched_laws.proofs.Codes.{code_is}
use Rattle.strc_sched_laws.proofs.Fired.{fired_after}
use Rattle.strc_sched_laws.proofs.Keeping.{nodes_keep_rates, nodes_take_within}
use Rattle.strc_sched_laws.proofs.Orders.{counted_is, AreNodes, IsSupplied, generic_order}
use Rattle.strc_sched_laws.proofs.Orders.{order_front}
use Rattle.strc_sched_laws.proofs.Peaks.{front_fill, run_order, firing_count_run, run_finds}
use Rattle.strc_sched_laws.proofs.Peaks.{run_peak}
use Rattle.strc_sched_laws.proofs.Rounds.{at_startup, in_round, all_supplied}
use Rattle.strc_sched_laws.proofs.Splitting.{fits_from}
use Rattle.strc_sched_laws.proofs.Supplies.{target_node, fill_is}
use Rattle.strc_sched_laws.proofs.Windows.{rates_there}

-- a graph's input port is one by which items come in
port_comes : (code : NodeCode) (port : ℕ) → port < input_ports code → port < ports_in code
port_comes (FileReader text) port less = absurd (omega (arith, less))
port_comes code port less = less

-- how often a node can fire
number_bound : (startup round rounds : ℕ) → startup ≤ count_limit → round ≤ count_limit
    → rounds < 2 ^ 32 → startup + rounds * round < 2 ^ 64
number_bound startup round rounds first each few =
    let most : rounds * round ≤ rounds * count_limit = mul-le-mul_left rounds each in
    omega (arith, first, most, few)

module _ (graph : Graph) (schedule : ScheduleParts) (planned : IsPlanned graph schedule) where
  -- a node that is past the end doesn't fire
  pub run_nodes : (rounds : ℕ) → AreNodes graph (run_order graph schedule planned rounds)
  run_nodes rounds node some =
      elim (cases_lt node (length graph.nodes)) [
        | inl within ↦ within
        | inr past ↦
            let first = get_or_past planned.startup node 0 (omega (
              arith,
              past,
              planned.least_startup.primed.each,
              length-map graph.nodes first_count,
            )) in
            let each = get_or_past planned.round node 0
            (omega (arith, past, planned.least_round.balances.each)) in
            let none = ap (λ (n : ℕ). rounds * n) each in
            absurd (omega
            (arith, some, firing_count_run graph schedule planned rounds node, first, none))
      ]

  module _ (tree : Stream NodeCode) (input : List ℤ) (rounds : ℕ) (program : IsProgram tree graph)
      (known : AreKnown graph) (few : rounds < 2 ^ 32)
      (supplied : items_read graph.nodes (counts_at schedule rounds) ≤ length input) where
    run_supplied : IsSupplied graph input
        (after none_fired (run_order graph schedule planned rounds))
    run_supplied node text reads =
        omega (
          arith,
          all_supplied graph schedule planned tree input rounds program supplied node text reads,
          firing_count_run graph schedule planned rounds node,
        )

    pub generic_run : orders.IsOrder node_meaning (flat tree) input (λ node. 0)
        (run_order graph schedule planned rounds)
    generic_run =
        generic_order tree graph input program planned.unfissioned none_fired
        (run_order graph schedule planned rounds) (run_finds graph schedule planned rounds)
        (run_nodes rounds) run_supplied

    module _ (front back : List ℕ) (now : Queues)
        (is : front ++ back ≡ run_order graph schedule planned rounds)
        (went : fifo_go node_meaning (flat tree) front
        (fifo_at_first node_meaning (flat tree) input) ≡ FifoWent now) where
      generic_front : orders.IsOrder node_meaning (flat tree) input (λ node. 0) front
      generic_front =
          order_front tree graph input program planned.unfissioned none_fired front back
          (subst (λ (l : List ℕ). orders.IsOrder node_meaning (flat tree) input (λ node. 0) l)
          (sym is) generic_run)

      target_port : (number : ℕ) (channel : Channel)
          → slice_get graph.channels number ≡ Some channel
          → channel.target.port < ports_in ((flat tree).code channel.target.node)
      target_port number channel there =
          let (code, found, carries) = target_node tree graph input program.flat
          planned.unfissioned number channel there in
          subst (λ (own : NodeCode). channel.target.port < ports_in own)
          (sym (code_is tree graph program.flat channel.target.node code found))
          (port_comes code channel.target.port
          (carrier_is_input code channel.target.port carries))

      channel_fits : (number : ℕ) (channel : Channel)
          → slice_get graph.channels number ≡ Some channel
          → length (now.queues channel.target.node channel.target.port)
          ≤ slice_index schedule.sizes number
      channel_fits number channel there =
          let rates = rates_of_channel graph.nodes channel in
          let filled = fills_after node_meaning (flat tree) input
          (nodes_keep_rates tree graph schedule program.flat planned known)
          (nodes_take_within tree graph schedule program.flat planned) front generic_front now went
          channel.target.node channel.target.port (target_port number channel there)
          ∙ fill_is tree graph input program.flat planned.unfissioned number channel there
          (orders.counted none_fired front)
          ∙ ap (fill rates) (counted_is none_fired front) in
          let least = front_fill rates none_fired front back
          (run_order graph schedule planned rounds) is in
          let most = run_peak graph schedule planned number rates
          (rates_there graph number channel there) rounds in
          omega (arith, filled, least, most)

      front_within : (node : ℕ) → firing_count front node
          ≤ firing_count (run_order graph schedule planned rounds) node
      front_within node =
          omega (
            arith,
            firing_count_append front back node,
            ap (λ (l : List ℕ). firing_count l node) is,
          )

      number_fits : (node : ℕ) → (now.runs node).fired < 2 ^ 64
      number_fits node =
          let firings = fired_after node_meaning (flat tree) input
          (nodes_keep_rates tree graph schedule program.flat planned known)
          (nodes_take_within tree graph schedule program.flat planned) front generic_front now went
          node ∙ ap (λ (counts : Firings). counts node) (counted_is none_fired front) in
          let bound = number_bound (at_startup graph schedule planned node)
          (in_round graph schedule planned node) rounds (planned.startup_within node)
          (planned.round_within node) few in
          omega (
            arith,
            firings,
            front_within node,
            firing_count_run graph schedule planned rounds node,
            bound,
          )

      pub front_fits : FitNow graph.channels schedule.sizes now
      front_fits = record { items = channel_fits; firings = number_fits }

    -- the whole run fits
    pub run_fits : Fit (flat tree) graph.channels schedule.sizes
        (run_order graph schedule planned rounds)
        (fifo_at_first node_meaning (flat tree) input)
    unfolding fifo_go
    run_fits =
        fits_from (flat tree) graph.channels schedule.sizes
        (run_order graph schedule planned rounds) (fifo_at_first node_meaning (flat tree) input)
        front_fits []
        (run_order graph schedule planned rounds)
        (fifo_at_first node_meaning (flat tree) input) refl refl
