-- In each state of a run over rings between two firings the rings have room.
use Rattle.std.proofs.Common.{◌≡◌, refl, sym, ap, ◌∙◌, subst, ℕ, ◌<◌, ◌≤◌, ◌^◌, ℤ, List, ◌∷◌}
use Rattle.std.proofs.Common.{◌++◌, length, arith}
use Rattle.strc_work_meaning.specs.declared.fault.Cause.{Cause}
use Rattle.strc_work_meaning.specs.declared.word.Word.{Word}
use Rattle.strc_elab_dataflow.specs.Order as orders
use Rattle.strc_elab_dataflow.specs.Queues.{FifoProgress, FifoProgress.FifoWent}
use Rattle.strc_elab_dataflow.specs.Queues.{FifoProgress.FifoStopped, fifo_fire, fifo_go}
use Rattle.strc_elab_dataflow.specs.Queues.{fifo_at_first}
use Rattle.strc_elab_dataflow.specs.Streams.{Stream, flat}
use Rattle.strc_elab_graph.specs.Graphs.{NodeCode, Graph}
use Rattle.strc_elab_graph.specs.FlatGraphs.{IsProgram}
use Rattle.strc_elab_graph.specs.Meaning.{node_meaning}
use Rattle.strc_elab_graph.specs.Rates.{pops_at}
use Rattle.strc_sched_orders.specs.Order.{firing_count}
use Rattle.strc_sched_orders.specs.Schedules.{ScheduleParts}
use Rattle.strc_sched_orders.proofs.FiringCounts.{firing_count_append, turns_same}
use Rattle.strc_sched_laws.specs.Circuits.{IsCircuit, IsFirst}
use Rattle.strc_sched_laws.specs.Fits.{Queues, FitNow, FitThen, Fit}
use Rattle.strc_sched_laws.specs.Laws.{counts_at, round_order}
use Rattle.strc_sched_laws.specs.Machine as machines
use Rattle.strc_sched_laws.specs.Machine.{CircuitView, MachineView, order_run, next_step}
use Rattle.strc_sched_laws.specs.Planned.{IsPlanned, AreKnown, items_read}
use Rattle.strc_sched_laws.specs.RingRoom.{HoldQueues, HasRoom, RingsHaveRoom, FindsRoom}
use Rattle.strc_sched_laws.specs.RingRoom.{next_fired}
use Rattle.strc_sched_laws.specs.ByChannels.{IsByChannels}
use Rattle.strc_sched_laws.specs.Simulation.{Simulates, IsAlike}
use Rattle.strc_sched_laws.proofs.Filling.{run_fits, run_nodes, generic_run}
use Rattle.strc_sched_laws.proofs.Found.{found_after}
use Rattle.strc_sched_laws.proofs.Keeping.{nodes_keep_rates, nodes_take_within}
use Rattle.strc_sched_laws.proofs.Orders.{AreNodes}
use Rattle.strc_sched_laws.proofs.Peaks.{run_order}
use Rattle.strc_sched_laws.proofs.Rounds.{round_nodes}
use Rattle.strc_sched_laws.proofs.NodeSteps.{window_unasked}
use Rattle.strc_sched_laws.proofs.OrdersAlike.{node_there, then_fits}
use Rattle.strc_sched_laws.proofs.RunAlike.{first_simulates, order_alike}
use Rattle.strc_sched_laws.proofs.TreeGraphs.{by_channels}
use Rattle.strc_sched_laws.proofs.Splitting.{fit_now, fit_split}
use Rattle.strc_sched_laws.proofs.StepRoom.{next_finds_room}

went_same : (a b : MachineView) → machines.Went a ≡ machines.Went b → a ≡ b
went_same a b e = cc

-- the rings of a machine that is as the one over queues hold the queues
rings_hold : (graph : Graph) (sizes : List ℕ) (input : List ℤ) (now : Queues)
    (machine : MachineView) → Simulates graph sizes input now machine
    → FitNow graph.channels sizes now → HoldQueues graph.channels sizes now machine.rings
rings_hold graph sizes input now machine simulates fit = record {
  each = simulates.each_ring;
  holds = simulates.rings;
  room = fit.items;
}

module _ (tree : Stream NodeCode) (graph : Graph) (schedule : ScheduleParts) (input : List ℤ)
    (rounds : ℕ) (circuit : CircuitView) (program : IsProgram tree graph)
    (planned : IsPlanned graph schedule) (known : AreKnown graph) (few : rounds < 2 ^ 32)
    (supplied : items_read graph.nodes (counts_at schedule rounds) ≤ length input)
    (is : IsCircuit graph circuit) (reads : circuit.input ≡ input) where
  abbrev whole : List ℕ
  whole = run_order graph schedule planned rounds

  abbrev at_first : Queues
  at_first = fifo_at_first node_meaning (flat tree) input

  abbrev FitsFor : List ℕ → Queues → Type 0
  FitsFor = Fit (flat tree) graph.channels schedule.sizes

  joins : IsByChannels (flat tree) graph
  joins = by_channels tree graph program

  abbrev go : List ℕ → Queues → FifoProgress (List ℤ) Cause Word
  go = fifo_go node_meaning (flat tree)

  module _ (done left : List ℕ) (same : done ++ left ≡ whole) where
    done_nodes : AreNodes graph done
    done_nodes node some =
        run_nodes graph schedule planned rounds node
        (subst (λ (l : List ℕ). 0 < firing_count l node) same
        (omega (arith, some, firing_count_append done left node)))

    left_nodes : AreNodes graph left
    left_nodes node some =
        run_nodes graph schedule planned rounds node
        (subst (λ (l : List ℕ). 0 < firing_count l node) same
        (omega (arith, some, firing_count_append done left node)))

    run_parts : FitsFor done at_first × FitThen (FitsFor left) (go done at_first)
    run_parts =
        fit_split (flat tree) graph.channels schedule.sizes done left at_first
        (subst (λ (l : List ℕ). FitsFor l at_first) (sym same)
        (run_fits graph schedule planned tree input rounds program known few supplied))

    module _ (now : Queues) (machine : MachineView) (went : go done at_first ≡ FifoWent now)
        (simulates : Simulates graph schedule.sizes input now machine) where
      next_room : (node : ℕ) (rest : List ℕ) → left ≡ node ∷ rest → FitsFor (node ∷ rest) now
          → FindsRoom graph.channels schedule.sizes node
          (pops_at ((flat tree).code node) (now.runs node).fired) machine.rings
          (next_fired tree now node) (next_step circuit machine node)
      next_room node rest follows fit =
          let within = left_nodes node
          (subst (λ (l : List ℕ). 0 < firing_count l node) (sym follows)
          (omega (arith, turns_same 1 node node refl))) in
          let there = node_there (flat tree) graph joins circuit is schedule.sizes input reads
          node within in
          let valid = subst (λ (l : List ℕ). orders.IsOrder node_meaning (flat tree) input
          (λ v. 0) l) (sym same ∙ ap (λ (l : List ℕ). done ++ l) follows)
          (generic_run graph schedule planned tree input rounds program known few supplied) in
          next_finds_room (flat tree) graph joins circuit is schedule.sizes input reads now machine
          simulates node within there (window_unasked ((flat tree).code node)
          (now.runs node).fired (planned.unfissioned node ((flat tree).code node) there))
          (found_after node_meaning (flat tree) input
          (nodes_keep_rates tree graph schedule program.flat planned known)
          (nodes_take_within tree graph schedule program.flat planned) done node rest valid now
          went)
          (then_fits (flat tree) graph joins circuit is schedule.sizes input reads
          rest (fifo_fire node_meaning (flat tree) now node) fit.1)

      has_room : FitsFor left now → HasRoom tree graph schedule.sizes circuit left now machine
      has_room fit = record {
        rings = rings_hold graph schedule.sizes input now machine simulates
            (fit_now (flat tree) graph.channels schedule.sizes left now fit);
        next = λ node rest follows. next_room node rest follows
            (subst (λ (l : List ℕ). FitsFor l now) follows fit);
      }

    room_by : (now : MachineView) (progress : FifoProgress (List ℤ) Cause Word)
        (own : machines.Progress) → go done at_first ≡ progress → own ≡ machines.Went now
        → IsAlike graph schedule.sizes input progress own → FitThen (FitsFor left) progress
        → (queues : Queues) × (go done at_first ≡ FifoWent queues)
        × HasRoom tree graph schedule.sizes circuit left queues now
    room_by now (FifoWent queues) (machines.Went machine) went ran alike fit = (
      queues,
      went,
      has_room queues now went
          (subst (Simulates graph schedule.sizes input queues) (went_same machine now ran) alike)
          fit,
    )
    room_by now (FifoStopped stop) (machines.Went machine) went ran alike fit = absurd alike
    room_by now progress (machines.Stopped node firing cause) went ran alike fit =
        absurd (grind arith)

    pub front_has_room : (machine now : MachineView) → IsFirst graph schedule.sizes machine
        → order_run circuit done machine ≡ machines.Went now
        → (queues : Queues) × (go done at_first ≡ FifoWent queues)
        × HasRoom tree graph schedule.sizes circuit left queues now
    front_has_room machine now first ran =
        let simulates = first_simulates tree graph program planned.unfissioned circuit is
        schedule.sizes input reads (round_order schedule) (round_nodes graph schedule planned)
        machine first
        (fit_now (flat tree) graph.channels schedule.sizes done at_first run_parts.0) in
        room_by now (go done at_first) (order_run circuit done machine) refl ran
        (order_alike tree graph program planned.unfissioned circuit is schedule.sizes input reads
        done done_nodes at_first machine run_parts.0 simulates) run_parts.1

pub rings_have_room : RingsHaveRoom
rings_have_room tree graph schedule input rounds circuit machine program planned known few supplied
    is reads first done left now same ran =
    front_has_room tree graph schedule input rounds circuit program planned known few supplied
    is reads done left same machine now first ran
