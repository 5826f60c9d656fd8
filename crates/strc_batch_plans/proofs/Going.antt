-- After the rounds that are no whole batch, batches go on from what a machine has come to.
use Rattle.std.proofs.Common.{◌≡◌, refl, sym, ap, ◌∙◌, subst, ℕ, zero, suc, ◌+◌, ◌*◌, ◌<◌, ◌≤◌}
use Rattle.std.proofs.Common.{◌^◌, List, [], ◌++◌, length, Some, slice_get, slice_index}
use Rattle.std.proofs.Common.{arith, ℤ}
use Rattle.std.proofs.Math.Nat.{mul-le-mul_right}
use mathlib.Core.Path.{fun_ext}
use Rattle.strc_work_meaning.specs.declared.fault.Cause.{Cause}
use Rattle.strc_work_meaning.specs.declared.word.Word.{Word}
use Rattle.strc_elab_dataflow.specs.Answer.{Outcome, Outcome.Done, Outcome.StartupFault}
use Rattle.strc_elab_dataflow.specs.Answer.{Outcome.RoundFault}
use Rattle.strc_elab_dataflow.specs.Flat as flat
use Rattle.strc_elab_dataflow.specs.Order as orders
use Rattle.strc_elab_dataflow.specs.Queues.{FifoProgress, FifoProgress.FifoWent, fifo_go}
use Rattle.strc_elab_dataflow.specs.Queues.{FifoProgress.FifoStopped, fifo_rounds, fifo_at_first}
use Rattle.strc_elab_dataflow.specs.Queues.{TakesWithinWindow}
use Rattle.strc_elab_dataflow.specs.Restart.{Restarted, restarted_meaning, restarted, AreSame}
use Rattle.strc_elab_dataflow.specs.Restart.{GoAlike}
use Rattle.strc_elab_dataflow.specs.Staging.{repeated}
use Rattle.strc_elab_dataflow.specs.Counted.{IsCounted}
use Rattle.strc_elab_dataflow.proofs.Counted.{counted_first, counted_after, queue_length}
use Rattle.strc_elab_dataflow.proofs.Counts.{count_append}
use Rattle.strc_elab_dataflow.proofs.Orders.{counted_append, order_front}
use Rattle.strc_elab_dataflow.proofs.Restart.{go_alike, same_at_first}
use Rattle.strc_elab_dataflow.proofs.WholeRun.{counted-firing_count}
use Rattle.strc_elab_graph.specs.Graphs.{NodeCode, Channel}
use Rattle.strc_elab_graph.specs.Meaning.{node_meaning}
use Rattle.strc_sched_orders.specs.Order.{firing_count}
use Rattle.strc_sched_laws.specs.Fits.{Queues, FitNow, Fit}
use Rattle.strc_sched_laws.specs.Machine as machines
use Rattle.strc_sched_laws.specs.Machine.{CircuitView, MachineView, Ending, Ended, order_run}
use Rattle.strc_sched_laws.specs.Machine.{rounds_run}
use Rattle.strc_sched_laws.specs.RingAnswer.{Tells}
use Rattle.strc_sched_laws.specs.Simulation.{Simulates, IsAlike}
use Rattle.strc_sched_laws.proofs.Orders.{firing_count_is}
use Rattle.strc_sched_laws.proofs.OrdersAlike.{orders_go_alike}
use Rattle.strc_sched_laws.proofs.Splitting.{fits_from}
use Rattle.strc_stage_steps.specs.Runnings.{Running, HasRoom, CanGoOn}
use Rattle.strc_stage_steps.proofs.OneMachine.{rounds_run_alike}
use Rattle.strc_stage_steps.proofs.Ports.{port_inside}
use Rattle.strc_batch_laws.specs.Batches.{batch_counts}
use Rattle.strc_batch_laws.specs.Runs.{AreBatchedFrom}
use Rattle.strc_batch_laws.specs.Again.{IsRoundsLater}
use Rattle.strc_batch_laws.proofs.Again.{resume_law}
use Rattle.strc_batch_laws.proofs.Batch.{count_repeated}
use Rattle.strc_batch_laws.specs.Runs as queues
use Rattle.strc_batch_laws.proofs.Done.{ends_law, rounds_law}
use Rattle.strc_batch_laws.proofs.Fills.{fill_law}
use Rattle.strc_batch_laws.proofs.Schedule.{after_rounds, rounds_valid}
use Rattle.strc_batch_plans.specs.Batched.{Batching, order_of, in_batches, CanBeBatched}
use Rattle.strc_batch_plans.specs.Batched.{EndsByBatches, GoesByBatches, BatchesGoOn}
use Rattle.strc_batch_plans.specs.Batched.{RoundsEndByBatches}
use Rattle.strc_batch_laws.proofs.Fronts.{IsFrontOf, front_of}

module _ (running : Running) (by_source : flat.Graph NodeCode) (from : Queues) (rounds : ℕ)
    (circuit : CircuitView) (goes : CanGoOn running by_source from rounds circuit) (m : ℕ)
    (few : suc m ≤ rounds) where
  abbrev again_graph : flat.Graph (Restarted NodeCode (List ℤ))
  again_graph = restarted from by_source

  abbrev first : Queues
  first = fifo_at_first (restarted_meaning node_meaning) (restarted from by_source) []

  -- m + 1 rounds in a row
  abbrev row : List ℕ
  row = repeated (suc m) running.order

  abbrev go_again : List ℕ → Queues → FifoProgress (List ℤ) Cause Word
  go_again = fifo_go (restarted_meaning node_meaning) (restarted from by_source)

  within : TakesWithinWindow (restarted_meaning node_meaning) again_graph
  unfolding restarted_meaning restarted
  within node firing port less = goes.takes_within node ((from.runs node).fired + firing) port less

  row_finds : orders.IsOrder (restarted_meaning node_meaning) again_graph [] (λ node. 0) row
  row_finds = rounds_valid running.counts running.order goes.schedule.round_counts
      (restarted_meaning node_meaning) again_graph [] (λ node. 0) (suc m)
      (λ t less. goes.schedule.round_finds t (omega arith))

  -- ---- after a front of the row

  module _ (front back : List ℕ) (next again : Queues) (is : front ++ back ≡ row)
      (went : go_again front first ≡ FifoWent again) (alike : AreSame from next again) where
    counted_so : IsCounted (restarted_meaning node_meaning) again_graph []
        (orders.counted (λ node. 0) front) again
    counted_so = counted_after (restarted_meaning node_meaning) again_graph [] goes.keeps within
        front (λ node. 0) first again
        (counted_first (restarted_meaning node_meaning) again_graph [] goes.keeps within)
        (order_front (restarted_meaning node_meaning) again_graph [] front back (λ node. 0)
        (subst (orders.IsOrder (restarted_meaning node_meaning) again_graph [] (λ node. 0))
        (sym is) row_finds)) went

    its : IsFrontOf running.order (suc m) front
    its = front_of running.order m front back is

    counts_are : orders.counted (λ node. 0) front
        ≡ orders.counted (orders.counts_after (λ node. 0) running.counts its.whole) its.front
    counts_are =
        ap (orders.counted (λ node. 0)) its.is
        ∙ counted_append (repeated its.whole running.order) its.front (λ node. 0)
        ∙ ap (λ (c : ℕ → ℕ). orders.counted c its.front)
        (after_rounds running.counts running.order goes.schedule.round_counts (λ node. 0) its.whole)

    channel_fits : (number : ℕ) (channel : Channel)
        → slice_get running.graph.channels number ≡ Some channel
        → length (next.queues channel.target.node channel.target.port)
        ≤ slice_index running.sizes number
    unfolding restarted_meaning restarted
    channel_fits number channel there =
        let node = channel.target.node in
        let port = channel.target.port in
        omega (
          arith,
          ap length (alike.queues node port),
          queue_length (restarted_meaning node_meaning) again_graph [] goes.keeps within
              (orders.counted (λ v. 0) front) again counted_so node port
              (port_inside by_source running.graph goes.joins number channel there),
          ap (λ (c : ℕ → ℕ). orders.fill (restarted_meaning node_meaning)
              (restarted from by_source) [] c channel.target.node channel.target.port) counts_are,
          goes.room its.whole (omega (arith, its.before)) its.front its.back its.round number
              channel there,
        )

    front_many : (node : ℕ) → orders.firing_count front node ≤ suc m * running.counts node
    front_many node =
        let all : orders.firing_count (front ++ back) node ≡ suc m * running.counts node
        = ap (λ (l : List ℕ). orders.firing_count l node) is
        ∙ count_repeated (suc m) running.order node
        ∙ ap (λ (n : ℕ). suc m * n) (goes.schedule.round_counts node) in
        omega (arith, all, count_append front back node)

    number_fits : (node : ℕ) → (next.runs node).fired < 2 ^ 64
    number_fits node =
        let more : suc m * running.counts node ≤ rounds * running.counts node
        = mul-le-mul_right (running.counts node) few in
        omega (
          arith,
          alike.fired node,
          counted_so.fired node,
          counted-firing_count front (λ v. 0) node,
          front_many node,
          more,
          goes.numbered node,
        )

    fits_there : FitNow running.graph.channels running.sizes next
    fits_there = record { items = channel_fits; firings = number_fits }

  front_fits : (front back : List ℕ) (next : Queues) → front ++ back ≡ row
      → fifo_go node_meaning by_source front from ≡ FifoWent next
      → FitNow running.graph.channels running.sizes next
  front_fits front back next is went =
      by_progress (go_again front first) refl
      (subst (λ (p : FifoProgress (List ℤ) Cause Word). GoAlike from p (go_again front first))
      went (go_alike node_meaning by_source from front from first
      (same_at_first node_meaning by_source from goes.faultless)))
    where
      by_progress : (progress : FifoProgress (List ℤ) Cause Word)
          → go_again front first ≡ progress → GoAlike from (FifoWent next) progress
          → FitNow running.graph.channels running.sizes next
      by_progress (FifoWent again) e alike = fits_there front back next again is e alike
      by_progress (FifoStopped stop) e alike = absurd alike

  row_fits : Fit by_source running.graph.channels running.sizes row from
  unfolding fifo_go
  row_fits = fits_from by_source running.graph.channels running.sizes row from front_fits [] row
      from refl refl

  row_nodes : (node : ℕ) → 0 < firing_count row node → node < length running.graph.nodes
  row_nodes node some = by_count (running.counts node) refl
    where
      all : firing_count row node ≡ suc m * running.counts node
      all = sym (firing_count_is row node)
          ∙ count_repeated (suc m) running.order node
          ∙ ap (λ (n : ℕ). suc m * n) (goes.schedule.round_counts node)

      by_count : (n : ℕ) → running.counts node ≡ n → node < length running.graph.nodes
      by_count zero e = absurd (omega (arith, some, all, ap (λ (k : ℕ). suc m * k) e))
      by_count (suc n) e = goes.nodes node (omega (arith, e))

  pub row_alike : (machine : MachineView)
      → Simulates running.graph running.sizes circuit.input from machine
      → IsAlike running.graph running.sizes circuit.input
      (fifo_go node_meaning by_source row from) (order_run circuit row machine)
  row_alike machine holds =
      orders_go_alike by_source running.graph circuit running.sizes circuit.input from machine
      row goes.joins goes.is_circuit refl holds row_nodes goes.windows row_fits

-- The state over queues that a machine has come to.
record HasCome (running : Running) (by_source : flat.Graph NodeCode) (from : Queues)
    (m : ℕ) (circuit : CircuitView) (later : MachineView) : Type 0 where
  mid : Queues
  reaches : fifo_go node_meaning by_source (repeated m running.order) from ≡ FifoWent mid
  holds : Simulates running.graph running.sizes circuit.input mid later

went_same : (a b : MachineView) → machines.Went a ≡ machines.Went b → a ≡ b
went_same a b e = cc

module _ (running : Running) (by_source : flat.Graph NodeCode) (from : Queues)
    (circuit : CircuitView) (started later : MachineView) where
  come_by : (m : ℕ) (progress : FifoProgress (List ℤ) Cause Word) (own : machines.Progress)
      → fifo_go node_meaning by_source (repeated m running.order) from ≡ progress
      → own ≡ machines.Went later
      → IsAlike running.graph running.sizes circuit.input progress own
      → HasCome running by_source from m circuit later
  come_by m (FifoWent mid) (machines.Went machine) e f alike = record {
    mid = mid;
    reaches = e;
    holds = subst (Simulates running.graph running.sizes circuit.input mid)
        (went_same machine later f) alike;
  }
  come_by m (FifoStopped stop) (machines.Stopped node firing cause) e f alike =
      absurd (grind arith)
  come_by m (FifoWent mid) (machines.Stopped node firing cause) e f alike = absurd alike
  come_by m (FifoStopped stop) (machines.Went machine) e f alike = absurd alike

  has_come : (rounds m : ℕ) → m ≤ rounds → CanGoOn running by_source from rounds circuit
      → Simulates running.graph running.sizes circuit.input from started
      → order_run circuit (repeated m running.order) started ≡ machines.Went later
      → HasCome running by_source from m circuit later
  unfolding repeated fifo_go
  has_come rounds zero less goes holds went = record {
    mid = from;
    reaches = refl;
    holds = subst (Simulates running.graph running.sizes circuit.input from)
        (went_same started later went) holds;
  }
  has_come rounds (suc m) less goes holds went =
      come_by (suc m) (fifo_go node_meaning by_source (repeated (suc m) running.order) from)
      (order_run circuit (repeated (suc m) running.order) started) refl went
      (row_alike running by_source from rounds circuit goes m less started holds)

module _ (running : Running) (by_source : flat.Graph NodeCode) (from : Queues) (batch : Batching)
    (m n : ℕ) (circuit : CircuitView) (started later : MachineView)
    (goes : CanGoOn running by_source from (m + n * batch.rounds) circuit)
    (can : CanBeBatched running by_source from batch)
    (holds : Simulates running.graph running.sizes circuit.input from started)
    (went : order_run circuit (repeated m running.order) started ≡ machines.Went later) where
  come : HasCome running by_source from m circuit later
  come = has_come running by_source from circuit started later (m + n * batch.rounds) m
      (omega arith) goes holds went

  are : AreBatchedFrom node_meaning by_source from come.mid batch.group_of batch.segment
      batch.groups running.counts running.order batch.rounds m n
  are = record {
    faultless = goes.faultless;
    keeps = goes.keeps;
    takes_within = goes.takes_within;
    staged = can.staged;
    schedule = goes.schedule;
    reaches = come.reaches;
  }

  abbrev again : IsRoundsLater node_meaning by_source from come.mid running.counts m
  again = (resume_law node_meaning by_source from come.mid batch.group_of batch.segment
      batch.groups running.counts running.order batch.rounds m n are).0

  nodes : (node : ℕ) → 0 < batch_counts batch.rounds running.counts node
      → node < length running.graph.nodes
  nodes node some = by_count (running.counts node) refl
    where
      by_count : (k : ℕ) → running.counts node ≡ k → node < length running.graph.nodes
      by_count zero e = absurd (omega (arith, some, ap (λ (k : ℕ). batch.rounds * k) e))
      by_count (suc k) e = goes.nodes node (omega (arith, e))

  numbered : (node : ℕ)
      → (come.mid.runs node).fired + n * batch_counts batch.rounds running.counts node < 2 ^ 64
  numbered node = omega (
    arith,
    again.fired node,
    goes.numbered node,
    same (batch.rounds) (running.counts node),
  )
    where
      same : (b c : ℕ) → (m + n * b) * c ≡ m * c + n * (b * c)
      same b c = omega arith

  none_before : orders.counts_after (λ node. 0) (batch_counts batch.rounds running.counts) 0
      ≡ (λ node. 0)
  unfolding orders.counts_after
  none_before = fun_ext (λ node. omega arith)

  room : (q : ℕ) → q < n → HasRoom (in_batches running batch) by_source come.mid q
  room q less done left same number channel there =
      let node = channel.target.node in
      let port = channel.target.port in
      omega (
        arith,
        fill_law node_meaning by_source from come.mid batch.group_of batch.segment batch.groups
            running.counts running.order batch.rounds m n q done node port channel.source.node
            channel.source.port are can.repeats can.balanced
            (port_inside by_source running.graph goes.joins number channel there)
            (goes.joins.origins number channel there),
        ap (λ (c : ℕ → ℕ). orders.fill (restarted_meaning node_meaning)
            (restarted from by_source) [] (orders.counted c done) channel.target.node
            channel.target.port) none_before,
        can.room done left same number channel there,
      )

  batches_go : CanGoOn (in_batches running batch) by_source come.mid n circuit
  batches_go = record {
    faultless = again.faultless;
    keeps = can.keeps come.mid;
    takes_within = goes.takes_within;
    schedule = (resume_law node_meaning by_source from come.mid batch.group_of batch.segment
        batch.groups running.counts running.order batch.rounds m n are).1;
    joins = goes.joins;
    is_circuit = goes.is_circuit;
    windows = goes.windows;
    nodes = nodes;
    numbered = numbered;
    room = room;
  }

  abbrev all_rounds : Outcome Cause Word
  all_rounds = fifo_rounds node_meaning by_source circuit.input running.order
      (m + n * batch.rounds) 0 from

  -- batches that end tell what the rounds come to
  tells_by : (words : List (List Word)) (outcome : Outcome Cause Word)
      → fifo_rounds node_meaning by_source circuit.input (order_of batch) n 0 come.mid ≡ outcome
      → Tells (length running.graph.nodes) outcome (Ended words)
      → Tells (length running.graph.nodes) all_rounds (Ended words)
  tells_by words (Done given) e told =
      subst (λ (o : Outcome Cause Word). Tells (length running.graph.nodes) o (Ended words))
      (sym (rounds_law node_meaning by_source circuit.input from come.mid batch.group_of
      batch.segment batch.groups running.counts running.order batch.rounds m n given are e)) told
  tells_by words (StartupFault stop) e told = absurd told
  tells_by words (RoundFault q stop given) e told = absurd told

  tells : (words : List (List Word)) → rounds_run circuit (order_of batch) n 0 later ≡ Ended words
      → Tells (length running.graph.nodes) all_rounds (Ended words)
  tells words ended =
      tells_by words (fifo_rounds node_meaning by_source circuit.input (order_of batch) n 0
      come.mid) refl
      (subst (Tells (length running.graph.nodes)
      (fifo_rounds node_meaning by_source circuit.input (order_of batch) n 0 come.mid)) ended
      (rounds_run_alike (in_batches running batch) by_source come.mid n circuit later batches_go
      come.holds))

  pub goes_by_batches : GoesByBatches running by_source from batch m n circuit later
  goes_by_batches = record {
    mid = come.mid;
    are = are;
    holds = come.holds;
    goes = batches_go;
    tells = tells;
  }

module _ (running : Running) (by_source : flat.Graph NodeCode) (from : Queues) (batch : Batching)
    (m n : ℕ) (circuit : CircuitView) (started : MachineView)
    (goes : CanGoOn running by_source from (m + n * batch.rounds) circuit)
    (can : CanBeBatched running by_source from batch)
    (holds : Simulates running.graph running.sizes circuit.input from started) where
  abbrev EndsSo : Type 0
  EndsSo = EndsByBatches circuit running.order (order_of batch) m n started

  -- the machine went where the queues did
  went_by : (order : List ℕ) (mid : Queues) (progress : FifoProgress (List ℤ) Cause Word)
      (own : machines.Progress) → progress ≡ FifoWent mid
      → order_run circuit order started ≡ own
      → IsAlike running.graph running.sizes circuit.input progress own
      → (later : MachineView) × (order_run circuit order started ≡ machines.Went later)
  went_by order mid (FifoWent now) (machines.Went machine) e f alike = (machine, f)
  went_by order mid (FifoStopped stop) own e f alike = absurd (grind arith)
  went_by order mid (FifoWent now) (machines.Stopped node firing cause) e f alike = absurd alike

  went_there : (k : ℕ) → k ≤ m + n * batch.rounds → (mid : Queues)
      → fifo_go node_meaning by_source (repeated k running.order) from ≡ FifoWent mid
      → (later : MachineView)
      × (order_run circuit (repeated k running.order) started ≡ machines.Went later)
  unfolding repeated
  went_there zero less mid reaches = (started, refl)
  went_there (suc k) less mid reaches =
      went_by (repeated (suc k) running.order) mid
      (fifo_go node_meaning by_source (repeated (suc k) running.order) from)
      (order_run circuit (repeated (suc k) running.order) started) reaches refl
      (row_alike running by_source from (m + n * batch.rounds) circuit goes k less started holds)

  same_state : (a b : Queues)
      → ◌≡◌ {A = FifoProgress (List ℤ) Cause Word} (FifoWent a) (FifoWent b) → a ≡ b
  same_state a b e = cc

  ended_by : (later : MachineView)
      (went : order_run circuit (repeated m running.order) started ≡ machines.Went later)
      (words : ℕ → List Word) (ending : Ending)
      → rounds_run circuit (order_of batch) n 0 later ≡ ending
      → Tells (length running.graph.nodes) (Done words) ending → EndsSo
  ended_by later went words (Ended given) e told = record {
    later = later;
    went = went;
    words = given;
    ends = e;
  }
  ended_by later went words (machines.FaultedAtFirst node firing cause) e told = absurd told
  ended_by later went words (machines.FaultedIn q node firing cause given) e told = absurd told

  module _ (words : ℕ → List Word)
      (done : fifo_rounds node_meaning by_source circuit.input running.order
      (m + n * batch.rounds) 0 from ≡ Done words) where
    ends : queues.EndsByBatches node_meaning by_source circuit.input from
        (repeated m running.order) (order_of batch) n words
    ends = ends_law node_meaning by_source circuit.input from batch.group_of batch.segment
        batch.groups running.counts running.order batch.rounds m n words goes.faultless goes.keeps
        goes.takes_within can.staged goes.schedule done

    machine_ends : EndsSo
    machine_ends =
        let (later, went) = went_there m (omega arith) ends.mid ends.reaches in
        let by = goes_by_batches running by_source from batch m n circuit started later goes can
        holds went in
        let there : ends.mid ≡ by.mid
        = same_state ends.mid by.mid (sym ends.reaches ∙ by.are.reaches) in
        let told : Tells (length running.graph.nodes) (Done words)
        (rounds_run circuit (order_of batch) n 0 later)
        = subst (λ (o : Outcome Cause Word). Tells (length running.graph.nodes) o
        (rounds_run circuit (order_of batch) n 0 later))
        (ap (fifo_rounds node_meaning by_source circuit.input (order_of batch) n 0) (sym there)
        ∙ ends.ends)
        (rounds_run_alike (in_batches running batch) by_source by.mid n circuit later by.goes
        by.holds) in
        ended_by later went words (rounds_run circuit (order_of batch) n 0 later) refl told

  done_by : (given : List (List Word)) (outcome : Outcome Cause Word)
      → fifo_rounds node_meaning by_source circuit.input running.order
      (m + n * batch.rounds) 0 from ≡ outcome
      → Tells (length running.graph.nodes) outcome (Ended given) → EndsSo
  done_by given (Done words) e told = machine_ends words e
  done_by given (StartupFault stop) e told = absurd told
  done_by given (RoundFault q stop words) e told = absurd told

  pub rounds_end : (given : List (List Word))
      → rounds_run circuit running.order (m + n * batch.rounds) 0 started ≡ Ended given → EndsSo
  rounds_end given ended =
      done_by given (fifo_rounds node_meaning by_source circuit.input running.order
      (m + n * batch.rounds) 0 from) refl
      (subst (Tells (length running.graph.nodes)
      (fifo_rounds node_meaning by_source circuit.input running.order
      (m + n * batch.rounds) 0 from)) ended
      (rounds_run_alike running by_source from (m + n * batch.rounds) circuit started goes holds))

pub batches_go_on : BatchesGoOn
batches_go_on running by_source from batch m n circuit started later goes can holds went =
    goes_by_batches running by_source from batch m n circuit started later goes can holds went

pub rounds_end_by_batches : RoundsEndByBatches
rounds_end_by_batches running by_source from batch m n circuit started words goes can holds ended =
    rounds_end running by_source from batch m n circuit started goes can holds words ended
