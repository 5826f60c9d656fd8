-- Start-up over rings, in the graph before fission: it goes as over queues, and leaves a machine
-- that holds the state that the queues are in.
use Rattle.std.proofs.Common.{◌≡◌, refl, sym, ap, ◌∙◌, subst, ℕ, ◌+◌, ◌-◌, ◌<◌, ◌≤◌, ◌^◌, ℤ, List}
use Rattle.std.proofs.Common.{[], ◌∷◌, ◌++◌, true}
use Rattle.std.proofs.Common.{length, append_assoc, Some, slice_get, slice_index}
use Rattle.std.proofs.Common.{slice_index_or, arith}
use mathlib.Core.Path.{fun_ext}
use Rattle.std.proofs.lemmas.List.{append-nil, get_or-map, get_or-replicate}
use Rattle.std.proofs.lemmas.List.{length-map, length-replicate}
use Rattle.std.proofs.lemmas.Option.{slice_get-get_or, get_or_from_slice_get}
use Rattle.circular_buffer.specs.Buffer.{buffer}
use Rattle.strc_work_meaning.specs.declared.fault.Cause.{Cause}
use Rattle.strc_work_meaning.specs.declared.word.Word.{Word}
use Rattle.strc_elab_dataflow.specs.Flat as flat
use Rattle.strc_elab_dataflow.specs.Flat.{Source, items_of, arrived}
use Rattle.strc_elab_dataflow.specs.Histories.{KeepsRates, initial_run}
use Rattle.strc_elab_dataflow.specs.Node.{total}
use Rattle.strc_elab_dataflow.specs.Order as orders
use Rattle.strc_elab_dataflow.specs.Queues.{FifoProgress, FifoProgress.FifoWent, fifo_go}
use Rattle.strc_elab_dataflow.specs.Queues.{fifo_at_first}
use Rattle.strc_elab_dataflow.specs.Queues.{FifoProgress.FifoStopped, TakesWithinWindow}
use Rattle.strc_elab_dataflow.specs.Streams.{Stream, any_code}
use Rattle.strc_elab_dataflow.specs.Streams as trees
use Rattle.strc_elab_graph.specs.Carriers.{takes_at, JoinsCarriers}
use Rattle.strc_elab_graph.specs.FlatGraphs.{IsProgram}
use Rattle.strc_elab_graph.specs.Graphs.{NodeCode, Graph, Channel, source_of}
use Rattle.strc_elab_graph.specs.Meaning.{node_meaning, node_fields, ports_in}
use Rattle.strc_elab_graph.specs.Rates.{pops_at, pushes_at}
use Rattle.strc_startup.specs.Rates.{rates_of_channel}
use Rattle.strc_sched_orders.specs.Firings.{none_fired, fill}
use Rattle.strc_sched_orders.specs.Order.{firing_count, repeated}
use Rattle.strc_sched_orders.specs.Schedules.{ScheduleParts}
use Rattle.strc_sched_orders.proofs.FiringCounts.{firing_count_append}
use Rattle.strc_sched_laws.specs.ByChannels.{IsByChannels}
use Rattle.strc_sched_laws.specs.Circuits.{IsCircuit, IsFirst}
use Rattle.strc_sched_laws.specs.Fits.{Queues, FitNow, Fit}
use Rattle.strc_sched_laws.specs.Laws.{startup_order, round_order, counts_at}
use Rattle.strc_sched_laws.specs.Machine as machines
use Rattle.strc_sched_laws.specs.Machine.{CircuitView, MachineView, order_run, words_at}
use Rattle.strc_sched_laws.specs.NodeSteps.{HasOwnWindow}
use Rattle.strc_sched_laws.specs.Planned.{IsPlanned, AreKnown, items_read}
use Rattle.strc_sched_laws.specs.Simulation.{Simulates, IsAlike}
use Rattle.strc_sched_laws.proofs.Changes.{extended_all}
use Rattle.strc_sched_laws.proofs.Keeping.{nodes_keep_rates, nodes_take_within}
use Rattle.strc_sched_laws.proofs.NodeSteps.{window_unasked}
use Rattle.strc_sched_laws.proofs.Orders.{counted_is}
use Rattle.strc_sched_laws.proofs.OrdersAlike.{orders_go_alike}
use Rattle.strc_sched_laws.proofs.Peaks.{front_fill, run_order, run_peak}
use Rattle.strc_sched_laws.proofs.Rounds.{orders_find, startup_nodes}
use Rattle.strc_sched_laws.proofs.Splitting.{fit_now, fits_from}
use Rattle.strc_sched_laws.proofs.Supplies.{element, fill_is}
use Rattle.strc_sched_laws.proofs.TreeGraphs.{by_channels, source_is}
use Rattle.strc_sched_laws.proofs.Windows.{rates_there}
use Rattle.strc_elab_dataflow.specs.Counted.{IsCounted}
use Rattle.strc_elab_dataflow.proofs.Counted.{counted_first, counted_after, queue_length}
use Rattle.strc_fiss.proofs.Each.{all_each}
use Rattle.strc_stage_plan.specs.Sources.{flat_graph, takes_input}
use Rattle.strc_stage_plan.proofs.Orders.{channel_order, codes_same, ends_apart}
use Rattle.strc_stage_plan.proofs.Splits.{at_other, at_reader}
use Rattle.strc_stage_plan.proofs.ByChannels.{origin_is, found_reads}
use Rattle.strc_stage_steps.proofs.Ports.{port_inside}

went_same : (a b : MachineView) → machines.Went a ≡ machines.Went b → a ≡ b
went_same a b e = cc

-- the front of an order is one
front_valid : (graph : flat.Graph NodeCode) (input : List ℤ) (counts : ℕ → ℕ)
    (front back : List ℕ) → orders.IsOrder node_meaning graph input counts (front ++ back)
    → orders.IsOrder node_meaning graph input counts front
front_valid graph input counts [] back is = tt
front_valid graph input counts (node ∷ front) back (ready, later) =
    (ready, front_valid graph input (orders.raised counts node) front back later)

module _ (tree : Stream NodeCode) (old : Graph) (schedule : ScheduleParts)
    (program : IsProgram tree old) (planned : IsPlanned old schedule) (known : AreKnown old) where
  abbrev pub by_source : flat.Graph NodeCode
  by_source = flat_graph (any_code tree) old

  codes_are : (trees.flat tree).code ≡ by_source.code
  codes_are = fun_ext (codes_same tree old program.flat)

  keeps : (node : ℕ) → KeepsRates node_meaning (by_source.code node)
  keeps node = subst (KeepsRates node_meaning) (codes_same tree old program.flat node)
      (nodes_keep_rates tree old schedule program.flat planned known node)

  within : TakesWithinWindow node_meaning by_source
  within = subst (λ (code : ℕ → NodeCode). (node firing port : ℕ)
      → port < node_meaning.ports (code node)
      → node_meaning.popped (code node) firing port ≤ node_meaning.window (code node) firing port)
      codes_are (nodes_take_within tree old schedule program.flat planned)

  -- ---- it is the graph of its channels

  pub old_by_channels : IsByChannels by_source old
  old_by_channels =
      let of_tree = by_channels tree old program in
      record {
        codes = λ node code there.
            get_or_from_slice_get old.nodes node code (any_code tree) there;
        origins = origin_is (any_code tree) old
            (all_each (JoinsCarriers old.nodes) old.channels program.flat.joined)
            (ends_apart tree old program.flat);
        inputs = λ node text there. ap (λ (s : Source). s.origin)
            (at_reader old node 0 (ap takes_input there));
        joined = of_tree.joined;
        fed = of_tree.fed;
        one_source = of_tree.one_source;
        apart = of_tree.apart;
      }

  module _ (number : ℕ) (channel : Channel) (there : slice_get old.channels number ≡ Some channel)
    where
      tree_source : (trees.flat tree).source channel.target.node channel.target.port
          ≡ source_of channel
      tree_source = source_is tree old program number channel there

      takes : takes_at old.nodes channel.target.node channel.target.port ≡ true
      takes = (element (JoinsCarriers old.nodes) old.channels number channel program.flat.joined
          there).target

      pub old_source : by_source.source channel.target.node channel.target.port
          ≡ source_of channel
      old_source =
          at_other old channel.target.node channel.target.port
          (found_reads (slice_get old.nodes channel.target.node) channel.target.port takes)
          ∙ program.flat.sources channel.target.node channel.target.port takes
          ∙ tree_source

      abbrev fill_by : (ℕ → ℕ) → (ℕ → NodeCode) → ℕ
      fill_by counts code =
          (length channel.enqueued
          + total (pushes_at (code channel.source.node)) (counts channel.source.node)
          channel.source.port)
          - total (pops_at (code channel.target.node)) (counts channel.target.node)
          channel.target.port

      inside : channel.target.port < ports_in (by_source.code channel.target.node)
      inside = port_inside by_source old old_by_channels number channel there

      module _ (input : List ℤ) (counts : ℕ → ℕ) where
        tree_fill : orders.fill node_meaning (trees.flat tree) input counts channel.target.node
            channel.target.port ≡ fill_by counts (trees.flat tree).code
        unfolding orders.fill orders.supply orders.supply_of
        tree_fill = ap (λ (s : Source). (length s.enqueued
            + orders.supply_of node_meaning (trees.flat tree) input counts s.origin)
            - total (pops_at ((trees.flat tree).code channel.target.node))
            (counts channel.target.node) channel.target.port) tree_source

        old_fill : orders.fill node_meaning by_source input counts channel.target.node
            channel.target.port ≡ fill_by counts by_source.code
        unfolding orders.fill orders.supply orders.supply_of
        old_fill = ap (λ (s : Source). (length s.enqueued
            + orders.supply_of node_meaning by_source input counts s.origin)
            - total (pops_at (by_source.code channel.target.node)) (counts channel.target.node)
            channel.target.port) old_source

        pub same_fill : orders.fill node_meaning by_source input counts channel.target.node
            channel.target.port ≡ fill (rates_of_channel old.nodes channel) counts
        same_fill =
            old_fill
            ∙ ap (fill_by counts) (sym codes_are)
            ∙ sym tree_fill
            ∙ fill_is tree old input program.flat planned.unfissioned number channel there counts

  -- ---- with an input that suffices

  module _ (input : List ℤ) (rounds : ℕ)
      (supplied : items_read old.nodes (counts_at schedule rounds) ≤ length input) where
    abbrev at_first : Queues
    at_first = fifo_at_first node_meaning by_source input

    startup_valid : orders.IsOrder node_meaning by_source input (λ node. 0)
        (startup_order schedule)
    startup_valid = channel_order tree old program input (λ node. 0) (startup_order schedule)
        (startup_nodes old schedule planned)
        (orders_find old schedule planned tree input rounds program supplied).startup_finds

    module _ (front back : List ℕ) (now : Queues) (is : front ++ back ≡ startup_order schedule)
        (went : fifo_go node_meaning by_source front at_first ≡ FifoWent now) where
      front_counted : IsCounted node_meaning by_source input
          (orders.counted (λ node. 0) front) now
      front_counted =
          counted_after node_meaning by_source input keeps within front (λ node. 0) at_first now
          (counted_first node_meaning by_source input keeps within)
          (front_valid by_source input (λ node. 0) front back
          (subst (orders.IsOrder node_meaning by_source input (λ node. 0)) (sym is)
          startup_valid)) went

      channel_fits : (number : ℕ) (channel : Channel)
          → slice_get old.channels number ≡ Some channel
          → length (now.queues channel.target.node channel.target.port)
          ≤ slice_index schedule.sizes number
      channel_fits number channel there =
          let rates = rates_of_channel old.nodes channel in
          let filled = queue_length node_meaning by_source input keeps within
          (orders.counted (λ node. 0) front) now front_counted channel.target.node
          channel.target.port (inside number channel there)
          ∙ same_fill number channel there input (orders.counted (λ node. 0) front)
          ∙ ap (fill rates) (counted_is none_fired front) in
          let whole : front ++ (back ++ repeated 0 (round_order schedule))
          ≡ run_order old schedule planned 0 =
          sym (append_assoc front back (repeated 0 (round_order schedule)))
          ∙ ap (λ (l : List ℕ). l ++ repeated 0 (round_order schedule)) is in
          let least = front_fill rates none_fired front (back ++ repeated 0 (round_order schedule))
          (run_order old schedule planned 0) whole in
          let most = run_peak old schedule planned number rates
          (rates_there old number channel there) 0 in
          omega (arith, filled, least, most)

      number_fits : (node : ℕ) → (now.runs node).fired < 2 ^ 64
      number_fits node =
          let firings = front_counted.fired node
          ∙ ap (λ (counts : ℕ → ℕ). counts node) (counted_is none_fired front) in
          omega (
            arith,
            firings,
            firing_count_append front back node,
            ap (λ (l : List ℕ). firing_count l node) is,
            planned.schedule.startup_order.all node,
            planned.startup_within node,
          )

      front_fits : FitNow old.channels schedule.sizes now
      front_fits = record { items = channel_fits; firings = number_fits }

    startup_fits : Fit by_source old.channels schedule.sizes (startup_order schedule) at_first
    unfolding fifo_go
    startup_fits = fits_from by_source old.channels schedule.sizes (startup_order schedule)
        at_first front_fits [] (startup_order schedule) at_first refl refl

    -- ---- over rings

    module _ (circuit : CircuitView) (wired : IsCircuit old circuit)
        (reads_it : circuit.input ≡ input) (machine : MachineView)
        (first : IsFirst old schedule.sizes machine) where
      first_holds : FitNow old.channels schedule.sizes at_first
          → Simulates old schedule.sizes input at_first machine
      unfolding fifo_at_first initial_run arrived items_of
      first_holds fit = record {
        each_fields = ap (λ (l : List (List ℤ)). length l) first.fields
            ∙ length-map old.nodes node_fields;
        each_fired = ap (λ (l : List ℕ). length l) first.fired
            ∙ length-replicate (length old.nodes) 0;
        each_ring = first.rings.each;
        fields = λ node less.
            ap (λ (l : List (List ℤ)). slice_index_or l node []) first.fields
            ∙ get_or-map node_fields old.nodes node (any_code tree) [] less;
        fired = λ node less.
            ap (λ (l : List ℕ). slice_index l node) first.fired
            ∙ get_or-replicate (length old.nodes) node 0 0 less;
        rings = λ number channel listed.
            let size = slice_index schedule.sizes number in
            let comes = ap (λ (source : Source). arrived input (λ v. initial_run node_meaning
            (by_source.code v)) source) (old_source number channel listed)
            ∙ append-nil channel.enqueued in
            first.rings.first number channel listed
            ∙ extended_all channel.enqueued (buffer [] size)
            (subst (λ (l : List ℤ). length l ≤ size) comes (fit.items number channel listed))
            ∙ ap (λ (l : List ℤ). buffer l size) (sym comes);
        reads = λ node text reader.
            ap (λ (source : Source). arrived input
            (λ v. initial_run node_meaning (by_source.code v))
            source) (at_reader old node 0 (ap takes_input reader));
        each_words = ap (λ (l : List (List Word)). length l) first.words
            ∙ length-replicate (length old.nodes) [];
        words = λ node less.
            ap (λ (l : List (List Word)). words_at l node) first.words
            ∙ get_or-replicate (length old.nodes) node [] [] less;
      }

      own_windows : (node firing : ℕ) → node < length old.nodes
          → HasOwnWindow (by_source.code node) firing
      own_windows node firing less =
          window_unasked (by_source.code node) firing
          (planned.unfissioned node (by_source.code node)
          (slice_get-get_or old.nodes node (any_code tree) less))

      startup_alike : IsAlike old schedule.sizes input
          (fifo_go node_meaning by_source (startup_order schedule) at_first)
          (order_run circuit (startup_order schedule) machine)
      startup_alike =
          orders_go_alike by_source old circuit schedule.sizes input at_first machine
          (startup_order schedule) old_by_channels wired reads_it
          (first_holds (fit_now by_source old.channels schedule.sizes (startup_order schedule)
          at_first startup_fits))
          (startup_nodes old schedule planned) own_windows startup_fits

      -- what start-up leaves, over queues
      pub record IsLeft (left : MachineView) : Type 0 where
        pub now : Queues
        pub went : fifo_go node_meaning by_source (startup_order schedule) at_first ≡ FifoWent now
        pub simulates : Simulates old schedule.sizes input now left

      left_by : (left : MachineView) (progress : FifoProgress (List ℤ) Cause Word)
          (its : machines.Progress)
          → fifo_go node_meaning by_source (startup_order schedule) at_first ≡ progress
          → its ≡ machines.Went left → IsAlike old schedule.sizes input progress its
          → IsLeft left
      left_by left (FifoWent now) (machines.Went other) went e alike = record {
        now = now;
        went = went;
        simulates = subst (Simulates old schedule.sizes input now) (went_same other left e) alike;
      }
      left_by left (FifoStopped why) (machines.Went other) went e alike = absurd alike
      left_by left progress (machines.Stopped node firing cause) went e alike =
          absurd (grind arith)

      pub is_left : (left : MachineView)
          → order_run circuit (startup_order schedule) machine ≡ machines.Went left → IsLeft left
      is_left left ran = left_by left
          (fifo_go node_meaning by_source (startup_order schedule) at_first)
          (order_run circuit (startup_order schedule) machine) refl ran startup_alike
