-- A plan's rounds can be batched, and a run by batches that comes to its end has come to the answer
-- of the plan's program.
use Rattle.std.proofs.Common.{◌≡◌, refl, sym, ap, ◌∙◌, subst, ℕ, zero, suc, ◌+◌, ◌-◌, ◌*◌, ◌≤◌}
use Rattle.std.proofs.Common.{◌⊎◌, arith, ℤ, List, [], ◌∷◌, length, Some, None, true}
use Rattle.std.proofs.Common.{slice_get, slice_index}
use mathlib.Core.Path.{fun_ext}
use mathlib.Core.Logic.{inl, inr}
use Rattle.std.proofs.lemmas.Bool.{cases_order}
use Rattle.strc_work_meaning.specs.declared.fault.Cause.{Cause}
use Rattle.strc_work_meaning.specs.declared.word.Word.{Word}
use Rattle.strc_elab_dataflow.specs.Answer.{Outcome, Outcome.Done, Outcome.StartupFault, IsAnswer}
use Rattle.strc_elab_dataflow.specs.Answer.{Outcome.RoundFault}
use Rattle.strc_elab_dataflow.specs.Chains.{IsResumption}
use Rattle.strc_elab_dataflow.specs.Flat as flat
use Rattle.strc_elab_dataflow.specs.Flat.{Origin, Origin.Nowhere, Origin.Input, Origin.Port}
use Rattle.strc_elab_dataflow.specs.Histories.{KeepsRates}
use Rattle.strc_elab_dataflow.specs.Node.{total}
use Rattle.strc_elab_dataflow.specs.Order as orders
use Rattle.strc_elab_dataflow.specs.Queues.{fifo_rounds}
use Rattle.strc_elab_dataflow.specs.Ranges.{IsRanged, stage_within}
use Rattle.strc_elab_dataflow.specs.Restart.{restarted_meaning, restarted, taken_in}
use Rattle.strc_elab_dataflow.specs.RestartRounds.{total_from}
use Rattle.strc_elab_dataflow.specs.Runs.{IsSameOutcome}
use Rattle.strc_elab_dataflow.specs.Staging.{IsStaged, repeated}
use Rattle.strc_elab_dataflow.specs.Streams as trees
use Rattle.strc_elab_dataflow.proofs.RestartRates.{pushes_rates_keeps_rates}
use Rattle.strc_elab_graph.specs.Graphs.{NodeCode, Graph, Channel}
use Rattle.strc_elab_graph.specs.Meaning.{node_meaning}
use Rattle.strc_startup.specs.Rates.{push_at}
use Rattle.strc_sched_orders.specs.Order.{firing_count}
use Rattle.strc_sched_laws.specs.Circuits.{IsCircuit}
use Rattle.strc_sched_laws.specs.Fits.{Queues}
use Rattle.strc_sched_laws.specs.Laws.{startup_order, round_order}
use Rattle.strc_sched_laws.specs.Machine.{CircuitView, MachineView, Went, Ended, order_run}
use Rattle.strc_sched_laws.specs.Machine.{rounds_run}
use Rattle.strc_sched_laws.specs.RingAnswer.{Tells}
use Rattle.strc_sched_laws.specs.Simulation.{Simulates}
use Rattle.strc_sched_laws.proofs.Nodes.{nodes_push_rates}
use Rattle.strc_stage_core.specs.Events.{is_over, before}
use Rattle.strc_stage_core.specs.States.{Start, Core, IsState}
use Rattle.strc_sched_outcome.specs.declared.stop.Stop.{Stop}
use Rattle.strc_stage_core.specs.Parcels.{Load, ParcelView}
use Rattle.strc_fiss.specs.declared.split.Origin as parts
use Rattle.strc_fuse.proofs.Counting.{firings_same}
use Rattle.strc_stage_plan.specs.Cuts.{IsCutOf, segment_of, units_within}
use Rattle.strc_stage_plan.specs.Fused.{FusedRun, IsFusedRun, graph_of as flow_of, order_of}
use Rattle.strc_stage_plan.specs.Fused.{state_of, named_order_of, resumed}
use Rattle.strc_stage_plan.specs.Fusions.{ComesToAnswerIn}
use Rattle.strc_stage_plan.specs.Named.{new_origins}
use Rattle.strc_stage_plan.specs.Plans.{PlanParts, IsPlan, graph_of, transformed_of}
use Rattle.strc_stage_plan.specs.Runs.{parts_of}
use Rattle.strc_stage_plan.proofs.ByChannels.{split_copies_have_own_windows}
use Rattle.strc_stage_plan.proofs.Codes.{each_rated}
use Rattle.strc_stage_plan.proofs.Fused.{graphs_resume, rounds_balance}
use Rattle.strc_stage_plan.proofs.FusedRuns.{fused_answers_kept}
use Rattle.strc_stage_plan.proofs.StageUnits.{segments_are_units}
use Rattle.strc_stage_steps.specs.Beginnings.{IsBeginning}
use Rattle.strc_stage_steps.specs.CrossingBlocks.{FitsBefore}
use Rattle.strc_stage_steps.specs.Dealt.{HaveRoom, IsDealt}
use Rattle.strc_stage_steps.specs.Laws.{TellsOutcome}
use Rattle.strc_stage_steps.specs.Plans.{ComesToAnswer, IsCut}
use Rattle.strc_stage_steps.specs.Plans.{TellsPlanAnswer, running_of}
use Rattle.strc_stage_steps.specs.Runnings.{Running, HasRoom, CanGoOn, round_pushes}
use Rattle.strc_stage_steps.specs.SplitRingsLaws.{nodes_of, running_after}
use Rattle.strc_stage_steps.specs.Steps.{StageState, Gathered, stage_work}
use Rattle.strc_stage_steps.proofs.DealtRoom.{dealt_states_have_room}
use Rattle.strc_stage_steps.proofs.Holding.{dealt_machines_hold}
use Rattle.strc_stage_steps.proofs.Naming.{named_so}
use Rattle.strc_stage_steps.proofs.Own.{fires_there, numbered, repeats}
use Rattle.strc_stage_steps.proofs.Plans.{fused_fission, graph_is, have_sizes, is_fused_run}
use Rattle.strc_stage_steps.proofs.Plans.{order_is, origins_are, run, running_is, threshold}
use Rattle.strc_stage_steps.proofs.Plans.{units, ways}
use Rattle.strc_stage_steps.proofs.OneMachine.{rounds_run_alike}
use Rattle.strc_stage_steps.proofs.ParcelsFit.{parcels_fit}
use Rattle.strc_stage_steps.proofs.Ports.{port_inside}
use Rattle.strc_stage_steps.proofs.Room.{rounds_have_room}
use Rattle.strc_stage_steps.proofs.Running.{joins, pushes_same}
use Rattle.strc_stage_steps.proofs.SplitRingsRoom.{room_at_first}
use Rattle.strc_stage_steps.proofs.Staged.{split_cuts_are_staged, split_rounds_are_ranged}
use Rattle.strc_stage_steps.proofs.Started.{IsLeft, is_left}
use Rattle.strc_batch_laws.specs.Batches.{batch_order}
use Rattle.strc_batch_laws.specs.Fits.{IsRoom, round_gives}
use Rattle.strc_batch_laws.proofs.Fits.{fit_law}
use Rattle.strc_batch_laws.proofs.Units.{units_law}
use Rattle.strc_batch_cut.specs.Picks.{AreAmong}
use Rattle.strc_batch_plans.specs.Batched as batches
use Rattle.strc_batch_plans.specs.Batched.{Batching, CanBeBatched, EndsByBatches, GoesByBatches}
use Rattle.strc_batch_plans.specs.Batched.{in_batches}
use Rattle.strc_batch_plans.specs.Plans.{IsBatchedRun, PlanBatchesAnswer}
use Rattle.strc_batch_plans.specs.Plans.{PlanBatchesHaveRoom, PlanBatchRingsAnswer}
use Rattle.strc_batch_plans.specs.Plans.{PlanGoesByBatches, WordsTellAnswer, batching_of}
use Rattle.strc_batch_plans.specs.Plans.{group_units, PlanBatchParcelsFit, PlanBatchRingsEnd}
use Rattle.strc_batch_plans.specs.Plans.{PlanRoundsEndByBatches}
use Rattle.strc_batch_plans.specs.Plans.{PlanUnitsAreBatch, running_in, WentThrough}
use Rattle.strc_batch_plans.proofs.Going.{batches_go_on, rounds_end_by_batches}
use Rattle.strc_batch_plans.specs.Rings.{WantedAtMostMemory}
use Rattle.strc_batch_plans.proofs.Rings.{batches_are_running, batch_rings_end, batch_rings_tell}
use Rattle.strc_batch_plans.proofs.Wide.{wide_staged}

-- no counts before the first round
none_before : (counts : ℕ → ℕ) → orders.counts_after (λ node. 0) counts 0 ≡ (λ node. 0)
unfolding orders.counts_after
none_before counts = fun_ext (λ node. omega arith)

total_same : (rate : ℕ → ℕ → ℕ) (port each : ℕ) → ((n : ℕ) → rate n port ≡ each) → (n : ℕ)
    → total rate n port ≡ n * each
unfolding total
total_same rate port each same zero = omega arith
total_same rate port each same (suc n) = omega (arith, total_same rate port each same n, same n)

module _ (graph : flat.Graph NodeCode) (from : Queues) (node port : ℕ) where
  none_given : (origin : Origin)
      → orders.supply_of (restarted_meaning node_meaning) (restarted from graph) [] (λ v. 0)
      (taken_in origin) ≡ 0
  unfolding orders.supply_of taken_in total
  none_given Nowhere = refl
  none_given Input = refl
  none_given (Port source source_port) = refl

  -- before any firing what waits is what is in the queue
  fill_at_first : (counts : ℕ → ℕ)
      → orders.fill (restarted_meaning node_meaning) (restarted from graph) []
      (orders.counted (orders.counts_after (λ v. 0) counts 0) []) node port
      ≡ length (from.queues node port)
  unfolding orders.counted orders.fill orders.supply restarted total
  fill_at_first counts =
      let given = none_given (graph.source node port).origin in
      ap (λ (c : ℕ → ℕ). orders.fill (restarted_meaning node_meaning) (restarted from graph) [] c
      node port) (none_before counts)
      ∙ omega (arith, given)

module _ (tree : trees.Stream NodeCode) (plan : PlanParts) (input : List ℤ)
    (bound : (group : ℕ) → ℕ) (last b m n : ℕ) (sizes : List ℕ) (old circuit : CircuitView)
    (started : MachineView)
    (by : IsBatchedRun tree plan input bound last b m n sizes old circuit started) where
  abbrev rounds : ℕ
  rounds = m + n * b

  abbrev is : IsPlan plan
  is = by.ready.is

  abbrev own_sizes : List ℕ
  own_sizes = plan.split.schedule.sizes

  -- ---- the state that start-up left

  left : IsLeft tree (graph_of plan) plan.schedule by.program is.planned by.ready.known input
      rounds by.enough.supplied old by.ready.wired by.ready.reads_it by.has.first by.has.is_first
      by.has.left
  left = is_left tree (graph_of plan) plan.schedule by.program is.planned by.ready.known input
      rounds by.enough.supplied old by.ready.wired by.ready.reads_it by.has.first by.has.is_first
      by.has.left by.has.went

  abbrev its : FusedRun
  its = run plan is by.ready.graph by.ready.known tree by.program input rounds by.enough left.now
      left.went

  fused : IsFusedRun its (threshold plan is)
  fused = is_fused_run plan is by.ready.graph by.ready.known tree by.program input rounds by.enough
      left.now left.went

  abbrev running : Running
  running = running_after its sizes

  abbrev batch : Batching
  batch = record {
    group_of = stage_within bound last;
    segment = segment_of bound (order_of its);
    groups = suc last;
    rounds = b;
  }

  -- ---- rings

  abbrev has_own_group : Channel → Type 0
  has_own_group channel = stage_within bound last channel.source.node
      ≡ stage_within bound last channel.target.node

  there_in_plan : (number : ℕ) (channel : Channel)
      → slice_get (nodes_of its).channels number ≡ Some channel
      → slice_get (transformed_of plan).channels number ≡ Some channel
  there_in_plan number channel there =
      ap (λ (g : Graph). slice_get g.channels number) (graph_is plan is) ∙ there

  same_running : running_of plan ≡ running_after its own_sizes
  same_running = running_is plan is by.ready.graph by.ready.known tree by.program input rounds
      by.enough left.now left.went

  apart_by : (channel : Channel) → (has_own_group channel → ⊥) ⊎ has_own_group channel
  apart_by channel = elim (cases_order (stage_within bound last channel.source.node)
      (stage_within bound last channel.target.node)) [
        | inl same ↦ inr same
        | inr other ↦ elim other [
          | inl less ↦ inl (λ e. omega (arith, e, less))
          | inr more ↦ inl (λ e. omega (arith, e, more))
        ]
      ]

  within_size : (number : ℕ) (channel : Channel)
      → slice_get (nodes_of its).channels number ≡ Some channel → has_own_group channel
      → slice_index own_sizes number ≤ slice_index sizes number
  within_size number channel there = by.sizes_are.within number channel
      (there_in_plan number channel there)

  across_size : (number : ℕ) (channel : Channel)
      → slice_get (nodes_of its).channels number ≡ Some channel → (has_own_group channel → ⊥)
      → slice_index own_sizes number + (b - 1) * round_pushes (running_after its own_sizes) channel
      ≤ slice_index sizes number
  across_size number channel there differ =
      subst (λ (r : Running). slice_index own_sizes number + (b - 1) * round_pushes r channel
      ≤ slice_index sizes number) same_running
      (by.sizes_are.across number channel (there_in_plan number channel there) differ)

  wider : (number : ℕ) (channel : Channel)
      → slice_get (nodes_of its).channels number ≡ Some channel
      → slice_index own_sizes number ≤ slice_index sizes number
  wider number channel there = elim (apart_by channel) [
    | inl differ ↦ omega (arith, across_size number channel there differ)
    | inr same ↦ within_size number channel there same
  ]

  own_room : HasRoom (running_after its own_sizes) (flow_of its) (state_of its) 0
  own_room = room_at_first its (threshold plan is) fused own_sizes
      (have_sizes plan is by.ready.graph by.ready.known tree by.program input rounds by.enough
      left.now left.went)

  room : HasRoom running (flow_of its) (state_of its) 0
  room done rest same number channel there = omega (
    arith,
    own_room done rest same number channel there,
    wider number channel there,
  )

  -- ---- the state dealt out

  waits_fit : (number : ℕ) (channel : Channel)
      → slice_get (nodes_of its).channels number ≡ Some channel
      → length ((state_of its).queues channel.target.node channel.target.port)
      ≤ slice_index sizes number
  waits_fit number channel there =
      let waits = fill_at_first (flow_of its) (state_of its) channel.target.node
      channel.target.port (orders.firing_count (order_of its)) in
      omega (arith, waits, room [] (order_of its) refl number channel there)

  have_room : HaveRoom old (nodes_of its)
      (new_origins (graph_of plan) plan.round_counts (ways plan is)) sizes by.has.left
  have_room = dealt_states_have_room tree (graph_of plan) plan.schedule plan.round_counts
      (ways plan is) left.now old plan.schedule.sizes sizes input by.has.left by.ready.graph
      is.planned by.ready.wired left.simulates waits_fit

  dealt : IsDealt old (nodes_of its)
      (new_origins (graph_of plan) plan.round_counts (ways plan is)) sizes by.has.left started
  dealt =
      subst (λ (l : List parts.Origin). IsDealt old (nodes_of its) l sizes by.has.left started)
      (origins_are plan is)
      (subst (λ (g : Graph). IsDealt old g plan.split.origins sizes by.has.left started)
      (graph_is plan is)
      (by.has.dealt (subst (λ (g : Graph). HaveRoom old g plan.split.origins sizes by.has.left)
      (sym (graph_is plan is))
      (subst (λ (l : List parts.Origin). HaveRoom old (nodes_of its) l sizes by.has.left)
      (sym (origins_are plan is)) have_room))))

  holds : Simulates (nodes_of its) sizes circuit.input (state_of its) started
  holds = subst (λ (l : List ℤ). Simulates (nodes_of its) sizes l (state_of its) started)
      (sym by.has.input_is)
      (dealt_machines_hold tree (graph_of plan) plan.schedule plan.round_counts (ways plan is)
      left.now old plan.schedule.sizes sizes input by.has.left started by.ready.graph is.planned
      by.ready.wired left.simulates dealt)

  -- ---- the rounds go on, and can be batched

  module _ (wide : (stage : ℕ) → ℕ) (wide_last : ℕ) (cut : IsCut plan wide (suc wide_last)) where
    cut_so : IsCutOf (nodes_of its) (units plan is) wide (suc wide_last)
    cut_so = subst (λ (g : Graph). IsCutOf g (units plan is) wide (suc wide_last))
        (graph_is plan is) cut

    ranged : IsRanged (flow_of its) wide (segment_of wide (order_of its)) wide_last (order_of its)
    ranged =
        let by_stream = split_rounds_are_ranged is.whole.stream (graph_of plan) plan.schedule
        plan.round_counts (ways plan is) (threshold plan is) (units plan is) wide wide_last
        (fused_fission plan is) cut_so in
        record {
          rising = by_stream.rising;
          own = by_stream.own;
          order = by_stream.order;
          forward = by_stream.forward;
        }

  staged : IsStaged (flow_of its) (stage_within bound last) (segment_of bound (order_of its))
      (suc last) (order_of its)
  staged =
      let by_stream = split_cuts_are_staged is.whole.stream (graph_of plan) plan.schedule
      plan.round_counts (ways plan is) (threshold plan is) (units plan is) bound last
      (fused_fission plan is) (cut_so bound last by.cut) in
      record {
        own = by_stream.own;
        order = by_stream.order;
        within = by_stream.within;
        backward = by_stream.backward;
      }

  wired : IsCircuit (nodes_of its) circuit
  wired = subst (λ (g : Graph). IsCircuit g circuit) (graph_is plan is) by.has.circuit_is

  resumes : IsResumption
      (resumed its (stage_within bound last) (segment_of bound (order_of its)) (suc last))
  resumes = graphs_resume its (threshold plan is) (stage_within bound last)
      (segment_of bound (order_of its)) (suc last) fused staged

  goes_on : CanGoOn running (flow_of its) (state_of its) rounds circuit
  goes_on = record {
    faultless = resumes.faultless;
    keeps = resumes.keeps;
    takes_within = resumes.takes_within;
    schedule = resumes.schedule;
    joins = joins its (threshold plan is) fused;
    is_circuit = wired;
    windows = λ node firing within. split_copies_have_own_windows tree (graph_of plan)
        plan.schedule plan.round_counts (ways plan is) by.program by.ready.graph is.planned
        by.ready.known node firing;
    nodes = fires_there its (threshold plan is) fused;
    numbered = numbered its (threshold plan is) fused by.enough.few;
    room = λ round less. rounds_have_room running (flow_of its) (state_of its)
        (joins its (threshold plan is) fused) (repeats its (threshold plan is) fused)
        (rounds_balance its (threshold plan is) fused) room round;
  }

  keeps : (now : Queues) (node : ℕ) → KeepsRates (restarted_meaning node_meaning)
      ((restarted now (flow_of its)).code node)
  unfolding restarted
  keeps now node =
      (pushes_rates_keeps_rates node_meaning ((flow_of its).code node) (λ fields. true)
      (nodes_push_rates ((flow_of its).code node)
      (each_rated tree (graph_of plan) plan.schedule plan.round_counts (ways plan is) by.program
      by.ready.graph is.planned by.ready.known node).0)).1
      (now.runs node).fired (now.runs node).state refl

  module _ (number : ℕ) (channel : Channel)
      (there : slice_get (nodes_of its).channels number ≡ Some channel) where
    gives_is : round_gives node_meaning (flow_of its) (state_of its)
        (orders.firing_count (order_of its)) channel.source.node channel.source.port
        ≡ round_pushes (running_after its own_sizes) channel
    unfolding total_from
    gives_is = total_same _ channel.source.port (push_at (nodes_of its).nodes 1 channel.source)
        (λ k. pushes_same its (threshold plan is) fused number channel there
        (((state_of its).runs channel.source.node).fired + k) (omega arith))
        (orders.firing_count (order_of its) channel.source.node)

    round_room : IsRoom node_meaning (flow_of its) (state_of its) (order_of its)
        channel.target.node channel.target.port (slice_index own_sizes number)
    round_room done rest same =
        subst (λ (c : ℕ → ℕ). orders.fill (restarted_meaning node_meaning)
        (restarted (state_of its) (flow_of its)) [] (orders.counted c done) channel.target.node
        channel.target.port ≤ slice_index own_sizes number)
        (none_before (orders.firing_count (order_of its)))
        (own_room done rest same number channel there)

    fits : (has_own_group channel
        → IsRoom node_meaning (flow_of its) (state_of its) (batches.order_of batch)
        channel.target.node channel.target.port (slice_index own_sizes number))
        × IsRoom node_meaning (flow_of its) (state_of its) (batches.order_of batch)
        channel.target.node channel.target.port (slice_index own_sizes number
        + (b - 1) * round_gives node_meaning (flow_of its) (state_of its)
        (orders.firing_count (order_of its)) channel.source.node channel.source.port)
    fits = fit_law node_meaning (flow_of its) (state_of its) (stage_within bound last)
        (segment_of bound (order_of its)) (suc last) (orders.firing_count (order_of its))
        (order_of its) b channel.target.node channel.target.port channel.source.node
        channel.source.port (slice_index own_sizes number) staged (λ v. refl)
        (repeats its (threshold plan is) fused) (rounds_balance its (threshold plan is) fused)
        (port_inside (flow_of its) (nodes_of its) (joins its (threshold plan is) fused) number
        channel there)
        ((joins its (threshold plan is) fused).origins number channel there) round_room

    batch_fits : IsRoom node_meaning (flow_of its) (state_of its) (batches.order_of batch)
        channel.target.node channel.target.port (slice_index sizes number)
    batch_fits done rest same = elim (apart_by channel) [
      | inl differ ↦ omega (
        arith,
        fits.1 done rest same,
        ap (λ (k : ℕ). (b - 1) * k) gives_is,
        across_size number channel there differ,
      )
      | inr own ↦ omega (
        arith,
        fits.0 own done rest same,
        within_size number channel there own,
      )
    ]

  batch_room : HasRoom (in_batches running batch) (flow_of its) (state_of its) 0
  batch_room done rest same number channel there =
      subst (λ (c : ℕ → ℕ). orders.fill (restarted_meaning node_meaning)
      (restarted (state_of its) (flow_of its)) [] (orders.counted c done) channel.target.node
      channel.target.port ≤ slice_index sizes number)
      (sym (none_before (in_batches running batch).counts))
      (batch_fits number channel there done rest same)

  can : CanBeBatched running (flow_of its) (state_of its) batch
  can = record {
    staged = staged;
    repeats = repeats its (threshold plan is) fused;
    balanced = rounds_balance its (threshold plan is) fused;
    keeps = keeps;
    room = batch_room;
  }

  order_same : round_order plan.split.schedule ≡ order_of its
  order_same = firings_same plan.split.schedule.round

  -- by the plan's graph and order
  abbrev made : Graph → List ℕ → Running
  made g l = record { graph = g; counts = orders.firing_count l; order = l; sizes = sizes }

  abbrev grouped : List ℕ → Batching
  grouped l = record {
    group_of = stage_within bound last;
    segment = segment_of bound l;
    groups = suc last;
    rounds = b;
  }

  -- the plan's rounds end by batches where they end
  pub rounds_end : (given : List (List Word))
      → rounds_run circuit (round_order plan.split.schedule) rounds 0 started ≡ Ended given
      → EndsByBatches circuit (round_order plan.split.schedule)
      (batches.order_of (batching_of plan bound last b)) m n started
  rounds_end given ended =
      subst (λ (l : List ℕ). EndsByBatches circuit l (batches.order_of (grouped l)) m n started)
      (sym order_same)
      (rounds_end_by_batches running (flow_of its) (state_of its) batch m n circuit started given
      goes_on can holds (subst (λ (l : List ℕ). rounds_run circuit l rounds 0 started ≡ Ended given)
      order_same ended))

  -- ---- what the rounds come to

  abbrev outcome : Outcome Cause Word
  outcome = fifo_rounds node_meaning (flow_of its) circuit.input (order_of its) rounds 0
      (state_of its)

  come : ComesToAnswerIn (named_order_of its) tree plan.schedule input rounds
      (parts_of tree (graph_of plan) plan.schedule plan.round_counts (ways plan is)) outcome
  come =
      subst (λ (l : List ℤ). ComesToAnswerIn (named_order_of its) tree plan.schedule input rounds
      (parts_of tree (graph_of plan) plan.schedule plan.round_counts (ways plan is))
      (fifo_rounds node_meaning (flow_of its) l (order_of its) rounds 0 (state_of its)))
      (sym by.has.input_is)
      (fused_answers_kept tree (graph_of plan) plan.schedule plan.round_counts (ways plan is)
      input rounds left.now (threshold plan is) its.fused by.program fused.is fused.planned
      fused.known fused.own fused.placed fused.fusion fused.supplied fused.went)

  -- an outcome without a fault is no other than one without
  no_fault : (words : ℕ → List Word) → outcome ≡ Done words → (answer : Outcome Cause Word)
      → IsSameOutcome (parts_of tree (graph_of plan) plan.schedule plan.round_counts (ways plan is))
      answer (Done words)
      → (q : ℕ) (stop : _) (given : ℕ → List Word) → answer ≡ RoundFault q stop given → ⊥
  no_fault words e (Done given) same q stop others f = absurd (grind arith)
  no_fault words e (StartupFault why) same q stop others f = absurd same
  no_fault words e (RoundFault r why given) same q stop others f = absurd same

  answers : (words : ℕ → List Word) → outcome ≡ Done words
      → ComesToAnswer tree plan input rounds (Done words)
  answers words e =
      let same : IsSameOutcome
      (parts_of tree (graph_of plan) plan.schedule plan.round_counts (ways plan is)) come.answer
      (Done words) = subst (IsSameOutcome (parts_of tree (graph_of plan) plan.schedule
      plan.round_counts (ways plan is)) come.answer) e come.same in
      record {
        answer = come.answer;
        is_answer = subst (λ (l : List ℕ). IsAnswer node_meaning tree input
            (firing_count (startup_order plan.schedule)) (firing_count (round_order plan.schedule))
            (startup_order plan.schedule) l rounds come.answer)
            (sym (order_is plan is by.ready.graph by.ready.known tree by.program input rounds
            by.enough left.now left.went))
            come.is_answer;
        named = named_so plan is come.answer (Done words) same
            (λ q stop given f. absurd (no_fault words e come.answer same q stop given f));
      }

  -- ---- where the machine went through the m rounds

  module _ (later : MachineView) (through : WentThrough plan m circuit started later) where
    went : order_run circuit (repeated m (order_of its)) started ≡ Went later
    went = subst (λ (l : List ℕ). order_run circuit (repeated m l) started ≡ Went later) order_same
        through

    goes : GoesByBatches running (flow_of its) (state_of its) batch m n circuit later
    goes = batches_go_on running (flow_of its) (state_of its) batch m n circuit started later
        goes_on can holds went

    -- ---- of the plan

    pub plan_goes : PlanGoesByBatches plan sizes (batching_of plan bound last b) m n circuit later
    plan_goes = record {
      by_source = flow_of its;
      from = state_of its;
      goes =
          subst (λ (l : List ℕ). GoesByBatches (made (transformed_of plan) l) (flow_of its)
          (state_of its) (grouped l) m n circuit later) (sym order_same)
          (subst (λ (g : Graph). GoesByBatches (made g (order_of its)) (flow_of its)
          (state_of its) (grouped (order_of its)) m n circuit later) (sym (graph_is plan is)) goes);
    }

    tells_by : (given : List (List Word)) (o : Outcome Cause Word) → outcome ≡ o
        → Tells (length (nodes_of its).nodes) o (Ended given)
        → WordsTellAnswer tree plan input rounds given
    tells_by given (Done words) e told = record {
      outcome = Done words;
      tells = subst (λ (g : Graph). Tells (length g.nodes) (Done words) (Ended given))
          (sym (graph_is plan is)) told;
      comes = answers words e;
    }
    tells_by given (StartupFault stop) e told = absurd told
    tells_by given (RoundFault q stop words) e told = absurd told

    pub words_tell : (given : List (List Word))
        → rounds_run circuit (batches.order_of (batching_of plan bound last b)) n 0 later
        ≡ Ended given
        → WordsTellAnswer tree plan input rounds given
    words_tell given ended = tells_by given outcome refl
        (goes.tells given (subst (λ (l : List ℕ). rounds_run circuit
        (batch_order b (segment_of bound l) (suc last)) n 0 later ≡ Ended given) order_same ended))

    -- ---- by stages

    ring_by : (total : Gathered) (o : Outcome Cause Word) → outcome ≡ o
        → TellsOutcome (nodes_of its).nodes total None o
        → TellsPlanAnswer tree plan input rounds total None
    ring_by total (Done words) e told = record {
      outcome = Done words;
      tells = subst (λ (g : Graph). TellsOutcome g.nodes total None (Done words))
          (sym (graph_is plan is)) told;
      comes = answers words e;
    }
    ring_by total (StartupFault stop) e told = absurd told
    ring_by total (RoundFault q stop words) e told = absurd told

    module _ (wide : (stage : ℕ) → ℕ) (wide_last : ℕ) (cut : IsCut plan wide (suc wide_last))
        (among : AreAmong wide (suc wide_last) bound (suc last)) where
      batch_staged : IsStaged (flow_of its) (stage_within wide wide_last)
          (segment_of wide (batches.order_of batch)) (suc wide_last) (batches.order_of batch)
      batch_staged = wide_staged bound last b by.cut.rising (order_of its) (flow_of its)
          (length (transformed_of plan).nodes) by.cut.all wide wide_last cut.first cut.all
          cut.rising among (ranged wide wide_last cut)

      module _ (start : Start StageState Load Stop Gathered)
          (core : Core StageState Load Stop Gathered)
          (begun : IsBeginning (in_batches (running_in plan sizes)
          (batching_of plan bound last b)) wide wide_last circuit later n start)
          (state : IsState stage_work start core) where
        begun_so : IsBeginning (in_batches running batch) wide wide_last circuit later n start
        begun_so =
            subst (λ (l : List ℕ). IsBeginning (in_batches (made (nodes_of its) l) (grouped l)) wide
            wide_last circuit later n start) order_same
            (subst (λ (g : Graph). IsBeginning (in_batches
            (made g (round_order plan.split.schedule)) (batching_of plan bound last b)) wide
            wide_last circuit later n start) (graph_is plan is) begun)

        pub ring_tells : is_over core ≡ true → core.collector.stop ≡ None
            → TellsPlanAnswer tree plan input rounds core.collector.total None
        ring_tells over unstopped =
            ring_by core.collector.total outcome refl
            (batch_rings_tell running (flow_of its) (state_of its) batch m n circuit later wide
            wide_last start core goes (pushes_same its (threshold plan is) fused) batch_staged
            begun_so state over unstopped)

        ends_by : (given : List (List Word)) (o : Outcome Cause Word) → outcome ≡ o
            → is_over core ≡ true → Tells (length (nodes_of its).nodes) o (Ended given)
            → WantedAtMostMemory core.collector.stop
        ends_by given (Done words) e over told =
            batch_rings_end running (flow_of its) (state_of its) batch m n circuit later wide
            wide_last start core words goes (pushes_same its (threshold plan is) fused)
            batch_staged begun_so state over e
        ends_by given (StartupFault stop) e over told = absurd told
        ends_by given (RoundFault q stop words) e over told = absurd told

        pub ring_ends : is_over core ≡ true → (given : List (List Word))
            → rounds_run circuit (round_order plan.split.schedule) rounds 0 started ≡ Ended given
            → WantedAtMostMemory core.collector.stop
        ring_ends over given ended =
            ends_by given outcome refl over
            (subst (Tells (length (nodes_of its).nodes) outcome)
            (ap (λ (l : List ℕ). rounds_run circuit l rounds 0 started) (sym order_same) ∙ ended)
            (rounds_run_alike running (flow_of its) (state_of its) rounds circuit started goes_on
            holds))

        pub parcels_fit_so : (actor : ℕ) (parcel : ParcelView) (rest : List ParcelView)
            → actor ≤ suc wide_last
            → slice_get core.links (before (length core.stages) actor) ≡ Some (parcel ∷ rest)
            → parcel.stop ≡ None
            → FitsBefore (in_batches (running_in plan sizes) (batching_of plan bound last b)) wide
            wide_last actor parcel.load
        parcels_fit_so actor parcel rest most there going =
            subst (λ (l : List ℕ). FitsBefore (in_batches (made (transformed_of plan) l)
            (grouped l)) wide wide_last actor parcel.load) (sym order_same)
            (subst (λ (g : Graph). FitsBefore (in_batches (made g (order_of its))
            (grouped (order_of its))) wide wide_last actor parcel.load) (sym (graph_is plan is))
            (parcels_fit (in_batches running batch) (flow_of its) goes.mid n wide wide_last circuit
            later start core
            (batches_are_running running (flow_of its) (state_of its) batch m n circuit later wide
            wide_last goes (pushes_same its (threshold plan is) fused) batch_staged) goes.holds
            begun_so state actor parcel rest most there going))

pub plan_batches_have_room : PlanBatchesHaveRoom
plan_batches_have_room tree plan input bound last rounds m n sizes old circuit started later by
    through =
    plan_goes tree plan input bound last rounds m n sizes old circuit started by later through

pub plan_batches_answer : PlanBatchesAnswer
plan_batches_answer tree plan input bound last rounds m n sizes old circuit started later words by
    through ended =
    words_tell tree plan input bound last rounds m n sizes old circuit started by later through
    words ended

pub plan_batch_rings_answer : PlanBatchRingsAnswer
plan_batch_rings_answer tree plan input bound last rounds m n sizes old circuit started later wide
    wide_last start core by through cut among begun state over unstopped =
    ring_tells tree plan input bound last rounds m n sizes old circuit started by later through
    wide wide_last cut among start core begun state over unstopped

pub plan_batch_parcels_fit : PlanBatchParcelsFit
plan_batch_parcels_fit tree plan input bound last rounds m n sizes old circuit started later wide
    wide_last start core by through cut among begun state actor parcel rest most there going =
    parcels_fit_so tree plan input bound last rounds m n sizes old circuit started by later through
    wide wide_last cut among start core begun state actor parcel rest most there going

pub plan_batch_rings_end : PlanBatchRingsEnd
plan_batch_rings_end tree plan input bound last rounds m n sizes old circuit started later wide
    wide_last start core words by through cut among begun state over ended =
    ring_ends tree plan input bound last rounds m n sizes old circuit started by later through wide
    wide_last cut among start core begun state over words ended

pub plan_rounds_end_by_batches : PlanRoundsEndByBatches
plan_rounds_end_by_batches tree plan input bound last rounds m n sizes old circuit started words by
    ended =
    rounds_end tree plan input bound last rounds m n sizes old circuit started by words ended

pub plan_units_are_batch : PlanUnitsAreBatch
plan_units_are_batch plan bound last rounds cut =
    units_law (group_units plan bound) (segment_of bound (round_order plan.split.schedule))
    (suc last) rounds (λ group less.
    sym (firings_same (units_within (bound group) (bound (suc group)) plan.split.schedule.round))
    ∙ segments_are_units plan.split.schedule.round (bound group) (bound (suc group))
    (cut.units group (omega (arith, less))) (cut.units (suc group) less))
