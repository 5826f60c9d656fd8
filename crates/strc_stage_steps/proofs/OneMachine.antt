-- One machine over rings runs all rounds from a state as the graph does over queues.
use Rattle.std.proofs.Common.{◌≡◌, refl, sym, ap, subst, ℕ, zero, suc, ◌+◌, ◌*◌, ◌<◌, ◌≤◌}
use Rattle.std.proofs.Common.{◌^◌, List, [], ◌∷◌, ◌++◌, length, Some, slice_get, slice_index}
use Rattle.std.proofs.Common.{arith, ℤ}
use Rattle.std.proofs.Math.Nat.{mul-le-mul_right}
use mathlib.Core.Path.{fun_ext}
use Rattle.strc_work_meaning.specs.declared.fault.Cause.{Cause}
use Rattle.strc_work_meaning.specs.declared.word.Word.{Word}
use Rattle.strc_elab_dataflow.specs.Answer.{Outcome, words_of}
use Rattle.strc_elab_dataflow.specs.Flat as flat
use Rattle.strc_elab_dataflow.specs.Order as orders
use Rattle.strc_elab_dataflow.specs.Queues.{FifoProgress, FifoProgress.FifoWent, fifo_go}
use Rattle.strc_elab_dataflow.specs.Queues.{fifo_at_first}
use Rattle.strc_elab_dataflow.specs.Queues.{FifoProgress.FifoStopped, TakesWithinWindow}
use Rattle.strc_elab_dataflow.specs.Queues.{fifo_rounds}
use Rattle.strc_elab_dataflow.specs.Queues.{fifo_round_outcome}
use Rattle.strc_elab_dataflow.proofs.WholeRun.{counted-firing_count}
use Rattle.strc_elab_graph.specs.Graphs.{NodeCode, Channel}
use Rattle.strc_elab_graph.specs.Meaning.{node_meaning}
use Rattle.strc_sched_orders.specs.Order.{firing_count}
use Rattle.strc_sched_orders.proofs.FiringCounts.{firing_count_append}
use Rattle.strc_sched_laws.specs.Fits.{Queues, FitNow, Fit}
use Rattle.strc_sched_laws.specs.Machine as machines
use Rattle.strc_sched_laws.specs.Machine.{CircuitView, MachineView, after_round, order_run}
use Rattle.strc_sched_laws.specs.Machine.{rounds_run}
use Rattle.strc_sched_laws.specs.RingAnswer.{AreWordsOf, Tells}
use Rattle.strc_sched_laws.specs.Simulation.{Simulates, IsAlike}
use Rattle.strc_sched_laws.proofs.Orders.{firing_count_is}
use Rattle.strc_sched_laws.proofs.OrdersAlike.{orders_go_alike}
use Rattle.strc_sched_laws.proofs.Splitting.{fits_from}
use Rattle.strc_elab_dataflow.specs.Restart.{Restarted, restarted_meaning, restarted, AreSame}
use Rattle.strc_elab_dataflow.specs.Restart.{GoAlike}
use Rattle.strc_elab_dataflow.proofs.Restart.{go_alike, same_at_first}
use Rattle.strc_elab_dataflow.specs.Counted.{IsCounted}
use Rattle.strc_elab_dataflow.proofs.Counted.{counted_first, counted_after, queue_length}
use Rattle.strc_stage_steps.specs.Laws.{RoundsRunAlike}
use Rattle.strc_stage_steps.specs.Runnings.{Running, CanGoOn}
use Rattle.strc_stage_steps.proofs.Ports.{port_inside}

front_valid : (graph : flat.Graph (Restarted NodeCode (List ℤ))) (counts : ℕ → ℕ)
    (front back : List ℕ)
    → orders.IsOrder (restarted_meaning node_meaning) graph [] counts (front ++ back)
    → orders.IsOrder (restarted_meaning node_meaning) graph [] counts front
front_valid graph counts [] back is = tt
front_valid graph counts (node ∷ front) back (ready, later) =
    (ready, front_valid graph (orders.raised counts node) front back later)

module _ (running : Running) (by_source : flat.Graph NodeCode) (from : Queues) (rounds : ℕ)
    (circuit : CircuitView) (goes : CanGoOn running by_source from rounds circuit) where
  abbrev again_graph : flat.Graph (Restarted NodeCode (List ℤ))
  again_graph = restarted from by_source

  abbrev go : List ℕ → Queues → FifoProgress (List ℤ) Cause Word
  go = fifo_go node_meaning by_source

  abbrev go_again : List ℕ → Queues → FifoProgress (List ℤ) Cause Word
  go_again = fifo_go (restarted_meaning node_meaning) (restarted from by_source)

  abbrev after_rounds : ℕ → ℕ → ℕ
  after_rounds = orders.counts_after (λ node. 0) running.counts

  abbrev Counted : (ℕ → ℕ) → Queues → Type 0
  Counted = IsCounted (restarted_meaning node_meaning) (restarted from by_source) []

  within : TakesWithinWindow (restarted_meaning node_meaning) again_graph
  unfolding restarted_meaning restarted
  within node firing port less = goes.takes_within node ((from.runs node).fired + firing) port less

  -- ---- in a round

  module _ (q : ℕ) (less : q < rounds) (now again : Queues) (same : AreSame from now again)
      (counted : Counted (after_rounds q) again) where
    front_counted : (front back : List ℕ) (next : Queues) → front ++ back ≡ running.order
        → go_again front again ≡ FifoWent next
        → Counted (orders.counted (after_rounds q) front) next
    front_counted front back next is went =
        counted_after (restarted_meaning node_meaning) again_graph [] goes.keeps within front
        (after_rounds q) again next counted
        (front_valid again_graph (after_rounds q) front back
        (subst (orders.IsOrder (restarted_meaning node_meaning) again_graph [] (after_rounds q))
        (sym is) (goes.schedule.round_finds q less))) went

    module _ (front back : List ℕ) (next later : Queues) (is : front ++ back ≡ running.order)
        (went : go_again front again ≡ FifoWent later) (alike : AreSame from next later) where
      channel_fits : (number : ℕ) (channel : Channel)
          → slice_get running.graph.channels number ≡ Some channel
          → length (next.queues channel.target.node channel.target.port)
          ≤ slice_index running.sizes number
      unfolding restarted_meaning restarted
      channel_fits number channel there =
          let node = channel.target.node in
          let port = channel.target.port in
          let filled = queue_length (restarted_meaning node_meaning) again_graph [] goes.keeps
          within (orders.counted (after_rounds q) front) later
          (front_counted front back later is went) node port
          (port_inside by_source running.graph goes.joins number channel there) in
          let moved = ap length (alike.queues node port) in
          omega (arith, moved, filled, goes.room q less front back is number channel there)

      front_many : (node : ℕ) → firing_count front node ≤ running.counts node
      front_many node =
          omega (
            arith,
            firing_count_append front back node,
            ap (λ (l : List ℕ). firing_count l node) is,
            firing_count_is running.order node,
            goes.schedule.round_counts node,
          )

      number_fits : (node : ℕ) → (next.runs node).fired < 2 ^ 64
      unfolding orders.counts_after
      number_fits node =
          let more : suc q * running.counts node ≤ rounds * running.counts node =
          mul-le-mul_right (running.counts node) less in
          omega (
            arith,
            alike.fired node,
            (front_counted front back later is went).fired node,
            counted-firing_count front (after_rounds q) node,
            firing_count_is front node,
            front_many node,
            more,
            goes.numbered node,
          )

      fits_there : FitNow running.graph.channels running.sizes next
      fits_there = record { items = channel_fits; firings = number_fits }

    front_fits : (front back : List ℕ) (next : Queues) → front ++ back ≡ running.order
        → go front now ≡ FifoWent next → FitNow running.graph.channels running.sizes next
    front_fits front back next is went =
        by_progress (go_again front again) refl
        (subst (λ (p : FifoProgress (List ℤ) Cause Word). GoAlike from p (go_again front again))
        went (go_alike node_meaning by_source from front now again same))
      where
        by_progress : (progress : FifoProgress (List ℤ) Cause Word)
            → go_again front again ≡ progress → GoAlike from (FifoWent next) progress
            → FitNow running.graph.channels running.sizes next
        by_progress (FifoWent later) e alike = fits_there front back next later is e alike
        by_progress (FifoStopped stop) e alike = absurd alike

    round_fits : Fit by_source running.graph.channels running.sizes running.order now
    unfolding fifo_go
    round_fits = fits_from by_source running.graph.channels running.sizes running.order now
        front_fits [] running.order now refl refl

    order_nodes : (node : ℕ) → 0 < firing_count running.order node
        → node < length running.graph.nodes
    order_nodes node some = goes.nodes node (omega (
      arith,
      some,
      firing_count_is running.order node,
      goes.schedule.round_counts node,
    ))

    round_alike : (machine : MachineView)
        → Simulates running.graph running.sizes circuit.input now machine
        → IsAlike running.graph running.sizes circuit.input (go running.order now)
        (order_run circuit running.order machine)
    round_alike machine holds =
        orders_go_alike by_source running.graph circuit running.sizes circuit.input now machine
        running.order goes.joins goes.is_circuit refl holds order_nodes goes.windows round_fits

    counts_next : orders.counted (after_rounds q) running.order ≡ after_rounds (suc q)
    unfolding orders.counts_after
    counts_next = fun_ext (λ node. omega (
      arith,
      counted-firing_count running.order (after_rounds q) node,
      goes.schedule.round_counts node,
    ))

    next_counted : (later : Queues) → go_again running.order again ≡ FifoWent later
        → Counted (after_rounds (suc q)) later
    next_counted later went =
        subst (λ (counts : ℕ → ℕ). Counted counts later) counts_next
        (front_counted running.order [] later (append_none running.order) went)
      where
        append_none : (l : List ℕ) → l ++ [] ≡ l
        append_none [] = refl
        append_none (x ∷ l) = ap (λ (r : List ℕ). x ∷ r) (append_none l)

  -- ---- round by round

  abbrev left_over : (left q : ℕ) → Queues → Outcome Cause Word
  left_over = fifo_rounds node_meaning by_source circuit.input running.order

  abbrev Ends : (left q : ℕ) → Queues → MachineView → Type 0
  Ends left q now machine = Tells (length running.graph.nodes) (left_over left q now)
      (rounds_run circuit running.order left q machine)

  round_tells : (left q : ℕ) (progress later : FifoProgress (List ℤ) Cause Word)
      (own : machines.Progress) (words : ℕ → List Word) (given : List (List Word))
      → AreWordsOf (length running.graph.nodes) words given
      → IsAlike running.graph running.sizes circuit.input progress own
      → GoAlike from progress later
      → ((next again : Queues) (machine : MachineView) → later ≡ FifoWent again
      → AreSame from next again
      → Simulates running.graph running.sizes circuit.input next machine
      → Ends left (suc q) next machine)
      → Tells (length running.graph.nodes)
      (fifo_round_outcome node_meaning by_source circuit.input running.order q words progress
      (left_over left (suc q)))
      (after_round q given (rounds_run circuit running.order left (suc q)) own)
  unfolding fifo_round_outcome
  round_tells left q (FifoWent next) (FifoWent again) (machines.Went machine) words given same
      alike both later = later next again machine refl both alike
  round_tells left q (FifoStopped stop) other (machines.Stopped node firing cause) words given same
      alike both later = (refl, alike, same)
  round_tells left q (FifoWent next) (FifoStopped stop) own words given same alike both later =
      absurd both
  round_tells left q (FifoWent next) other (machines.Stopped node firing cause) words given same
      alike both later = absurd alike
  round_tells left q (FifoStopped stop) other (machines.Went machine) words given same alike both
      later = absurd alike

  rounds_from : (left q : ℕ) (now again : Queues) (machine : MachineView) → left + q ≡ rounds
      → AreSame from now again → Counted (after_rounds q) again
      → Simulates running.graph running.sizes circuit.input now machine
      → Ends left q now machine
  unfolding fifo_rounds words_of
  rounds_from zero q now again machine all same counted holds = holds.words
  rounds_from (suc left) q now again machine all same counted holds =
      let less : q < rounds = omega (arith, all) in
      round_tells left q (go running.order now) (go_again running.order again)
      (order_run circuit running.order machine) (words_of now.runs) machine.words holds.words
      (round_alike q less now again same counted machine holds)
      (go_alike node_meaning by_source from running.order now again same)
      (λ next later left_machine went alike held.
      rounds_from left (suc q) next later left_machine (omega (arith, all)) alike
      (next_counted q less now again same counted later went) held)

  none_done : after_rounds 0 ≡ (λ node. 0)
  unfolding orders.counts_after
  none_done = fun_ext (λ node. omega arith)

  pub all_rounds : (started : MachineView)
      → Simulates running.graph running.sizes circuit.input from started
      → Ends rounds 0 from started
  all_rounds started holds =
      let first = fifo_at_first (restarted_meaning node_meaning) again_graph [] in
      rounds_from rounds 0 from first started (omega arith)
      (same_at_first node_meaning by_source from goes.faultless)
      (subst (λ (counts : ℕ → ℕ). Counted counts first) (sym none_done)
      (counted_first (restarted_meaning node_meaning) again_graph [] goes.keeps within)) holds

pub rounds_run_alike : RoundsRunAlike
rounds_run_alike running by_source from rounds circuit started goes holds =
    all_rounds running by_source from rounds circuit goes started holds
