-- The rings of a fused round after fission have room in its first round, from the state that
-- start-up left.
use Rattle.std.proofs.Common.{◌≡◌, refl, sym, ap, ap₂, ◌∙◌, subst, ℕ, zero, suc, ◌+◌, ◌-◌}
use Rattle.std.proofs.Common.{◌*◌, ◌<◌, ◌≤◌, arith, ℤ, List, [], ◌∷◌, ◌++◌, length, map, filter}
use Rattle.std.proofs.Common.{Bool, true, false, cond, slice_get, slice_index, Option, Some}
use Rattle.std.specs.Option.{option_map_or}
use mathlib.Core.Path.{fun_ext}
use Rattle.std.proofs.lemmas.Option.{same_Some, none-some}
use Rattle.strc_elab_dataflow.specs.Flat.{Origin, Origin.Port, Source}
use Rattle.strc_elab_dataflow.specs.Flat as flat
use Rattle.strc_elab_dataflow.specs.Node.{total}
use Rattle.strc_elab_dataflow.specs.Order as orders
use Rattle.strc_elab_dataflow.specs.Streams as trees
use Rattle.strc_elab_graph.specs.Carriers.{takes_at, JoinsCarriers}
use Rattle.strc_elab_graph.specs.Graphs.{NodeCode, Channel, source_of}
use Rattle.strc_elab_graph.specs.Meaning.{node_meaning, ports_in}
use Rattle.strc_elab_graph.specs.Rates.{pops_at, pushes_at}
use Rattle.strc_elab_graph.specs.declared.graph.Fission.{Fission}
use Rattle.strc_balance.specs.Balance.{count_at}
use Rattle.strc_startup.specs.Rates.{rates_of_channel, push_at}
use Rattle.strc_startup.specs.declared.channel_rates.ChannelRates.{ChannelRates}
use Rattle.strc_sched_orders.specs.Firings.{Firings, none_fired, fill}
use Rattle.strc_sched_orders.specs.Order.{after}
use Rattle.strc_sched_orders.specs.RoundRates.{pops_in_round, round_rates_of_channel, round_pop}
use Rattle.strc_sched_orders.specs.Sizing.{rates_on, all_rates_on, round_rates_on}
use Rattle.strc_sched_orders.proofs.Continuing.{supply_by_work, popped_by_work}
use Rattle.strc_sched_laws.proofs.Orders.{counted_is}
use Rattle.strc_sched_laws.proofs.Peaks.{front_fill}
use Rattle.strc_sched_laws.proofs.Supplies.{element, fill_is}
use Rattle.strc_sched_laws.proofs.TreeGraphs.{by_channels, source_is}
use Rattle.strc_elab_dataflow.specs.Restart.{restarted_meaning, restarted, taken_in}
use Rattle.strc_elab_dataflow.proofs.Counted.{queue_length}
use Rattle.strc_fiss.specs.Numbers.{up_to, is_dealt, base}
use Rattle.strc_fiss.specs.Splitting.{Wire, wires_of, to_copy, from_copy, inner_wires, leaves}
use Rattle.strc_fiss.specs.Splitting.{renamed_wire, leaving, split_wires, split_last}
use Rattle.strc_fiss.specs.Ways.{fission_of}
use Rattle.strc_fiss.proofs.Each.{Each, each_append, each_map, each_filter, each_up_to}
use Rattle.strc_fiss.proofs.Each.{each_joined}
use Rattle.strc_stage_plan.specs.Runs.{graph_before}
use Rattle.strc_stage_plan.proofs.Members.{each_in, each_from}
use Rattle.strc_stage_plan.proofs.Orders.{codes_same}
use Rattle.strc_stage_plan.proofs.Splits.{at_other}
use Rattle.strc_stage_plan.proofs.Sources.{there_in, in_there}
use Rattle.strc_stage_plan.specs.Fused.{FusedRun, IsFusedRun, graph_of, order_of, state_of}
use Rattle.strc_stage_plan.proofs.NewRounds.{new_queues}
use Rattle.strc_stage_plan.proofs.OwnRounds.{keeps, within, startup, counted}
use Rattle.strc_stage_plan.proofs.ByChannels.{found_reads}
use Rattle.strc_stage_steps.specs.Runnings.{HasRoom}
use Rattle.strc_stage_steps.proofs.Ports.{port_inside}
use Rattle.strc_stage_steps.specs.SplitRingsLaws.{nodes_of, running_after, HaveSizes}
use Rattle.strc_stage_steps.proofs.Own.{own, steady}
use Rattle.strc_stage_steps.proofs.Running.{joins, code_there, target_there, pushes_same}

-- ---- totals of rates

total_same : (rate : ℕ → ℕ → ℕ) (port each : ℕ) → ((n : ℕ) → rate n port ≡ each) → (n : ℕ)
    → total rate n port ≡ each * n
unfolding total
total_same rate port each same zero = omega arith
total_same rate port each same (suc n) = omega (arith, total_same rate port each same n, same n)

total_least : (rate : ℕ → ℕ → ℕ) (port each : ℕ) → ((n : ℕ) → each ≤ rate n port) → (n : ℕ)
    → each * n ≤ total rate n port
unfolding total
total_least rate port each least zero = omega arith
total_least rate port each least (suc n) =
    omega (arith, total_least rate port each least n, least n)

-- ---- wires by number

abbrev wire_rates : List NodeCode → Wire → ChannelRates
wire_rates nodes wire = rates_on (round_rates_of_channel nodes wire.channel) wire.last

abbrev channel_of : Wire → Channel
channel_of wire = wire.channel

rates_of_wires : (nodes : List NodeCode) (wires : List Wire)
    → all_rates_on (map (round_rates_of_channel nodes)
    (map (λ (wire : Wire). wire.channel) wires)) (map (λ (wire : Wire). wire.last) wires)
    ≡ map (wire_rates nodes) wires
rates_of_wires nodes [] = refl
rates_of_wires nodes (wire ∷ wires) =
    ap (λ (l : List ChannelRates). wire_rates nodes wire ∷ l) (rates_of_wires nodes wires)

wire_at : (wires : List Wire) (number : ℕ) (channel : Channel)
    → slice_get (map (λ (wire : Wire). wire.channel) wires) number ≡ Some channel
    → (wire : Wire) × (slice_get wires number ≡ Some wire) × (wire.channel ≡ channel)
wire_at [] number channel e = absurd (none-some channel e)
wire_at (wire ∷ wires) zero channel e = (wire, refl, same_Some wire.channel channel e)
wire_at (wire ∷ wires) (suc number) channel e = wire_at wires number channel e

mapped_at : {A B : Type 0} (f : A → B) (xs : List A) (number : ℕ) (x : A)
    → slice_get xs number ≡ Some x → slice_get (map f xs) number ≡ Some (f x)
mapped_at f [] number x e = absurd (none-some x e)
mapped_at f (y ∷ xs) zero x e = ap Some (ap f (same_Some y x e))
mapped_at f (y ∷ xs) (suc number) x e = mapped_at f xs number x e

module _ (run : FusedRun) (limit : ℕ) (is : IsFusedRun run limit) where
  abbrev share : ℕ → Fission
  share = fission_of run.old run.round run.ways

  abbrev tree_graph : flat.Graph NodeCode
  tree_graph = trees.flat run.tree

  abbrev old_graph : flat.Graph NodeCode
  old_graph = graph_before run.tree run.old run.schedule run.round run.ways

  abbrev at_startup : Firings
  at_startup = count_at is.planned.startup

  -- ---- what start-up left on a channel

  module _ (number : ℕ) (channel : Channel)
      (there : slice_get run.old.channels number ≡ Some channel) where
    abbrev fill_by : (ℕ → ℕ) → (ℕ → NodeCode) → ℕ
    fill_by counts code =
        (length channel.enqueued
        + total (pushes_at (code channel.source.node)) (counts channel.source.node)
        channel.source.port)
        - total (pops_at (code channel.target.node)) (counts channel.target.node)
        channel.target.port

    tree_source : tree_graph.source channel.target.node channel.target.port ≡ source_of channel
    tree_source = source_is run.tree run.old is.program number channel there

    takes : takes_at run.old.nodes channel.target.node channel.target.port ≡ true
    takes = (element (JoinsCarriers run.old.nodes) run.old.channels number channel
        is.program.flat.joined there).target

    old_source : old_graph.source channel.target.node channel.target.port ≡ source_of channel
    old_source =
        at_other run.old channel.target.node channel.target.port
        (found_reads (slice_get run.old.nodes channel.target.node) channel.target.port takes)
        ∙ is.program.flat.sources channel.target.node channel.target.port takes
        ∙ tree_source

    tree_fill : (counts : ℕ → ℕ)
        → orders.fill node_meaning tree_graph run.input counts channel.target.node
        channel.target.port ≡ fill_by counts tree_graph.code
    unfolding orders.fill orders.supply orders.supply_of
    tree_fill counts = ap (λ (s : Source). (length s.enqueued
        + orders.supply_of node_meaning tree_graph run.input counts s.origin)
        - total (pops_at (tree_graph.code channel.target.node)) (counts channel.target.node)
        channel.target.port) tree_source

    old_fill : (counts : ℕ → ℕ)
        → orders.fill node_meaning old_graph run.input counts channel.target.node
        channel.target.port ≡ fill_by counts old_graph.code
    unfolding orders.fill orders.supply orders.supply_of
    old_fill counts = ap (λ (s : Source). (length s.enqueued
        + orders.supply_of node_meaning old_graph run.input counts s.origin)
        - total (pops_at (old_graph.code channel.target.node)) (counts channel.target.node)
        channel.target.port) old_source

    codes_are : tree_graph.code ≡ old_graph.code
    codes_are = fun_ext (codes_same run.tree run.old is.program.flat)

    inside : channel.target.port < ports_in (old_graph.code channel.target.node)
    inside = subst (λ (code : ℕ → NodeCode).
        channel.target.port < ports_in (code channel.target.node)) codes_are
        (port_inside tree_graph run.old (by_channels run.tree run.old is.program) number channel
        there)

    started_length : length (run.started.queues channel.target.node channel.target.port)
        ≡ fill (rates_of_channel run.old.nodes channel) at_startup
    started_length =
        queue_length node_meaning old_graph run.input (keeps (own run limit is))
        (within (own run limit is)) (startup (own run limit is)) run.started
        (counted (own run limit is) run.input run.rounds is.supplied run.started is.went)
        channel.target.node channel.target.port inside
        ∙ old_fill (startup (own run limit is))
        ∙ ap (fill_by (startup (own run limit is))) (sym codes_are)
        ∙ sym (tree_fill (startup (own run limit is)))
        ∙ fill_is run.tree run.old run.input is.program.flat is.planned.unfissioned number channel
        there (startup (own run limit is))
        ∙ ap (fill (rates_of_channel run.old.nodes channel))
        (fun_ext is.planned.schedule.startup_order.all)

    -- and so after fission
    dealt_length : length ((state_of run).queues (base share channel.target.node)
        channel.target.port)
        ≤ fill (rates_of_channel run.old.nodes channel) at_startup
    dealt_length =
        let first : base share channel.target.node + 0 ≡ base share channel.target.node =
        omega arith in
        let same : length ((state_of run).queues (base share channel.target.node + 0)
        channel.target.port)
        ≡ length (run.started.queues channel.target.node channel.target.port) =
        ap (λ (l : List ℤ). length l) ((new_queues (own run limit is) run.input run.rounds
        is.supplied run.started is.went).first channel.target.node channel.target.port inside) in
        omega (
          arith,
          started_length,
          same,
          ap (λ (n : ℕ). length ((state_of run).queues n channel.target.port)) first,
        )

  -- ---- each channel's queue is no longer than is said of it

  abbrev Holds : Wire → Type 0
  Holds wire = length ((state_of run).queues wire.channel.target.node wire.channel.target.port)
      ≤ wire.last

  abbrev HoldsOld : Channel → Type 0
  HoldsOld channel = length ((state_of run).queues (base share channel.target.node)
      channel.target.port) ≤ fill (rates_of_channel run.old.nodes channel) at_startup

  each_old : Each HoldsOld run.old.channels
  each_old = each_from HoldsOld run.old.channels (λ channel own_channel.
      let (number, there) = in_there channel run.old.channels own_channel in
      dealt_length number channel there)

  old_wires : (channels : List Channel) (greatest : List ℕ) → Each HoldsOld channels
      → Each (λ (wire : Wire). Holds (renamed_wire share wire))
      (wires_of channels greatest
      (map (λ rates. fill rates at_startup) (map (rates_of_channel run.old.nodes) channels)))
  old_wires [] greatest each = tt
  old_wires (channel ∷ channels) [] each = tt
  old_wires (channel ∷ channels) (high ∷ greatest) each =
      (each.0, old_wires channels greatest each.1)

  abbrev wires : List Wire
  wires = wires_of run.old.channels run.schedule.greatest run.schedule.last

  each_wire : Each (λ (wire : Wire). Holds (renamed_wire share wire)) wires
  each_wire = subst (λ (l : List ℕ). Each (λ (wire : Wire). Holds (renamed_wire share wire))
      (wires_of run.old.channels run.schedule.greatest l)) (sym is.planned.schedule.last)
      (old_wires run.old.channels run.schedule.greatest each_old)

  inner_hold : (v : ℕ) (t : Bool) → is_dealt (share v) ≡ t
      → Each Holds (cond t (up_to (to_copy (base share v)) (share v).ways
      ++ up_to (from_copy (base share v) (share v).ways) (share v).ways) [])
  inner_hold v false e = tt
  inner_hold v true e =
      let queues = new_queues (own run limit is) run.input run.rounds is.supplied run.started
      is.went in
      each_append Holds (up_to (to_copy (base share v)) (share v).ways)
      (up_to (from_copy (base share v) (share v).ways) (share v).ways)
      (each_up_to Holds (to_copy (base share v)) (share v).ways
      (λ i less.
      let none : length ((state_of run).queues (base share v + suc i) 0) ≡ 0 =
      ap (λ (l : List ℤ). length l) (queues.copies v i e less) in omega (arith, none)))
      (each_up_to Holds (from_copy (base share v) (share v).ways) (share v).ways
      (λ i less.
      let none : length ((state_of run).queues (base share v + suc (share v).ways) i) ≡ 0 =
      ap (λ (l : List ℤ). length l) (queues.gathers v i e less) in omega (arith, none)))

  abbrev new_wires : List Wire
  new_wires = split_wires (fission_of run.old run.round run.ways) run.old run.schedule.greatest
      run.schedule.last

  all_hold : Each Holds new_wires
  all_hold =
      each_joined Holds (leaving share wires) (length run.old.nodes)
      (λ v less. each_append Holds (inner_wires (base share v) (share v))
      (map (renamed_wire share) (filter (leaves v) wires)) (inner_hold v (is_dealt (share v)) refl)
      (each_map (renamed_wire share) Holds (filter (leaves v) wires)
      (each_filter (λ (wire : Wire). Holds (renamed_wire share wire)) (leaves v) wires each_wire)))

  -- ---- the fill of a channel

  module _ (number : ℕ) (wire : Wire) (at : slice_get new_wires number ≡ Some wire) where
    abbrev channel : Channel
    channel = wire.channel

    there : slice_get (nodes_of run).channels number ≡ Some wire.channel
    there = mapped_at channel_of new_wires number wire at

    held : Holds wire
    held = each_in Holds wire new_wires all_hold (there_in wire new_wires number at)

    abbrev source_first : ℕ
    source_first = ((state_of run).runs channel.source.node).fired

    abbrev target_first : ℕ
    target_first = ((state_of run).runs channel.target.node).fired

    abbrev pushes : ℕ → ℕ → ℕ
    pushes n = pushes_at ((graph_of run).code channel.source.node) (source_first + n)

    abbrev pops : ℕ → ℕ → ℕ
    pops n = pops_at ((graph_of run).code channel.target.node) (target_first + n)

    comes : ((restarted (state_of run) (graph_of run)).source channel.target.node
        channel.target.port).origin ≡ Port channel.source.node channel.source.port
    unfolding restarted taken_in
    comes = ap taken_in ((joins run limit is).origins number channel there)

    fill_by_totals : (counts : ℕ → ℕ)
        → orders.fill (restarted_meaning node_meaning) (restarted (state_of run) (graph_of run)) []
        counts channel.target.node channel.target.port
        ≡ (length ((state_of run).queues channel.target.node channel.target.port)
        + total pushes (counts channel.source.node) channel.source.port)
        - total pops (counts channel.target.node) channel.target.port
    unfolding orders.fill orders.supply orders.supply_of restarted_meaning restarted
    fill_by_totals counts =
        ap (λ (o : Origin). (length ((state_of run).queues channel.target.node channel.target.port)
        + orders.supply_of (restarted_meaning node_meaning)
        (restarted (state_of run) (graph_of run)) [] counts o)
        - total pops (counts channel.target.node) channel.target.port) comes

    pop_is : round_pop (nodes_of run).nodes channel.target
        ≡ pops_in_round ((graph_of run).code channel.target.node) channel.target.port
    pop_is = ap (λ (found : Option NodeCode).
        option_map_or (λ node. pops_in_round node channel.target.port) found 0)
        (code_there run limit is channel.target.node
        (target_there run limit is number channel there))

    rates_fill : (counts : Firings) → fill (wire_rates (nodes_of run).nodes wire) counts
        ≡ (wire.last + push_at (nodes_of run).nodes 1 channel.source * counts channel.source.node)
        - round_pop (nodes_of run).nodes channel.target * counts channel.target.node
    rates_fill counts = ap₂ (λ (a b : ℕ). a - b)
        (supply_by_work (round_rates_of_channel (nodes_of run).nodes channel) wire.last
        (counts channel.source.node))
        (popped_by_work (round_rates_of_channel (nodes_of run).nodes channel) wire.last
        (counts channel.target.node))

    pops_least : (n : ℕ) → round_pop (nodes_of run).nodes channel.target
        ≤ pops n channel.target.port
    pops_least n = subst (λ (k : ℕ). k ≤ pops n channel.target.port) (sym pop_is)
        ((steady run limit is channel.target.node
        (target_there run limit is number channel there)).pops (target_first + n)
        channel.target.port (omega arith))

    fill_below : (counts : Firings)
        → orders.fill (restarted_meaning node_meaning) (restarted (state_of run) (graph_of run)) []
        counts channel.target.node channel.target.port
        ≤ fill (wire_rates (nodes_of run).nodes wire) counts
    fill_below counts = omega (
      arith,
      held,
      fill_by_totals counts,
      rates_fill counts,
      total_same pushes channel.source.port (push_at (nodes_of run).nodes 1 channel.source)
          (λ n. pushes_same run limit is number channel there (source_first + n) (omega arith))
          (counts channel.source.node),
      total_least pops channel.target.port (round_pop (nodes_of run).nodes channel.target)
          pops_least (counts channel.target.node),
    )

    rates_there : slice_get (round_rates_on (nodes_of run)
        (split_last (fission_of run.old run.round run.ways) run.old run.schedule.greatest
        run.schedule.last)) number ≡ Some (wire_rates (nodes_of run).nodes wire)
    rates_there =
        ap (λ (l : List ChannelRates). slice_get l number)
        (rates_of_wires (nodes_of run).nodes new_wires)
        ∙ mapped_at (wire_rates (nodes_of run).nodes) new_wires number wire at

    none_before : orders.counts_after (λ node. 0) (orders.firing_count (order_of run)) 0
        ≡ none_fired
    unfolding orders.counts_after
    none_before = fun_ext (λ node. omega arith)

    wire_fits : (sizes : List ℕ) → HaveSizes run sizes → (done left : List ℕ)
        → done ++ left ≡ order_of run
        → orders.fill (restarted_meaning node_meaning) (restarted (state_of run) (graph_of run)) []
        (orders.counted (orders.counts_after (λ node. 0) (orders.firing_count (order_of run)) 0)
        done) channel.target.node channel.target.port ≤ slice_index sizes number
    wire_fits sizes sizes_are done left same =
        let counts_are = ap (λ (c : Firings). orders.counted c done) none_before
        ∙ counted_is none_fired done in
        let rates = wire_rates (nodes_of run).nodes wire in
        omega (
          arith,
          ap (λ (c : ℕ → ℕ). orders.fill (restarted_meaning node_meaning)
              (restarted (state_of run) (graph_of run)) [] c channel.target.node
              channel.target.port) counts_are,
          fill_below (after none_fired done),
          front_fill rates none_fired done left (order_of run) same,
          sizes_are number rates rates_there,
        )

  -- so there is room in the first round
  pub room_at_first : (sizes : List ℕ) → HaveSizes run sizes
      → HasRoom (running_after run sizes) (graph_of run) (state_of run) 0
  room_at_first sizes sizes_are done left same number channel there =
      let (wire, at, is_channel) = wire_at new_wires number channel there in
      subst (λ (c : Channel). orders.fill (restarted_meaning node_meaning)
      (restarted (state_of run) (graph_of run)) []
      (orders.counted (orders.counts_after (λ node. 0) (orders.firing_count (order_of run)) 0)
      done) c.target.node c.target.port ≤ slice_index sizes number) is_channel
      (wire_fits number wire at sizes sizes_are done left same)
