-- From the state after some rounds the batches are a schedule: what waits there is what the rounds'
-- counts say, and what is fired from there on has the rates of the firings behind them.
use Rattle.std.proofs.Common.{◌≡◌, refl, ap, ◌∙◌, subst, ℕ, zero, suc, ◌+◌, ◌*◌, ◌<◌, ◌≤◌}
use Rattle.std.proofs.Common.{List, [], ◌∷◌, length, arith}
use mathlib.Core.Path.{fun_ext}
use Rattle.strc_elab_dataflow.specs.Node.{Meaning, total}
use Rattle.strc_elab_dataflow.specs.Flat.{Origin, Origin.Nowhere, Origin.Input, Origin.Port, Graph}
use Rattle.strc_elab_dataflow.specs.Order.{raised, counted, firing_count, counts_after, supply_of}
use Rattle.strc_elab_dataflow.specs.Order.{supply, fill, IsReady, IsOrder, IsSchedule}
use Rattle.strc_elab_dataflow.specs.Queues.{Fifo}
use Rattle.strc_elab_dataflow.specs.Staging.{repeated}
use Rattle.strc_elab_dataflow.specs.Restart.{Restarted, restarted_meaning, restarted, taken_in}
use Rattle.strc_elab_dataflow.specs.Counted.{IsCounted}
use Rattle.strc_elab_dataflow.proofs.Counted.{counted_first, counted_after, queue_length}
use Rattle.strc_elab_dataflow.proofs.Invariant.{raised_later}
use Rattle.strc_elab_dataflow.proofs.Orders.{covered_first, covered_on}
use Rattle.strc_batch_laws.specs.Batches.{batch_order, batch_counts}
use Rattle.strc_batch_laws.specs.Runs.{AreBatchedFrom, before_batches}
use Rattle.strc_batch_laws.specs.Again.{IsRoundsLater, BatchesResume}
use Rattle.strc_batch_laws.proofs.Schedule.{after_rounds, rounds_valid, batches_schedule}
use Rattle.strc_batch_laws.proofs.Done.{staged_again, within_again, HasMid, has_mid}

-- A total over firings on both sides of a number.
total_splits : (rate : ℕ → ℕ → ℕ) (port start more : ℕ)
    → total rate (start + more) port
    ≡ total rate start port + total (λ i. rate (start + i)) more port
unfolding total
total_splits rate port start zero = let e : start + 0 ≡ start = omega arith in
    ap (λ (m : ℕ). total rate m port) e
    ∙ (let f : total rate start port ≡ total rate start port + 0 = omega arith in f)
total_splits rate port start (suc more) =
    let e : start + suc more ≡ suc (start + more) = omega arith in
    ap (λ (m : ℕ). total rate m port) e
    ∙ (let f : total rate (start + more) port + rate (start + more) port
    ≡ total rate start port
    + (total (λ i. rate (start + i)) more port + rate (start + more) port)
    = omega (arith, total_splits rate port start more) in f)

module _ {Code State Cause Word : Type 0} (meaning : Meaning Code State Cause Word)
    (graph : Graph Code) (from mid : Fifo State Cause Word) (stage_of : ℕ → ℕ)
    (segment : ℕ → List ℕ) (stages : ℕ) (round : ℕ → ℕ) (round_order : List ℕ) (b m n : ℕ)
    (are : AreBatchedFrom meaning graph from mid stage_of segment stages round round_order b m n)
  where
    abbrev again_meaning : Meaning (Restarted Code State) State Cause Word
    again_meaning = restarted_meaning meaning

    abbrev from_graph : Graph (Restarted Code State)
    from_graph = restarted from graph

    abbrev mid_graph : Graph (Restarted Code State)
    mid_graph = restarted mid graph

    abbrev reached : HasMid meaning graph from mid stage_of segment stages round round_order b m n
        are
    reached = has_mid meaning graph from mid stage_of segment stages round round_order b m n are

    -- The counts of m rounds.
    done : ℕ → ℕ
    done node = m * round node

    rounds_are : counted (λ node. 0) (repeated m round_order) ≡ done
    unfolding done counts_after
    rounds_are = after_rounds round round_order are.schedule.round_counts (λ node. 0) m
        ∙ fun_ext (λ node. omega arith)

    rounds_find : IsOrder again_meaning from_graph [] (λ node. 0) (repeated m round_order)
    rounds_find = rounds_valid round round_order are.schedule.round_counts again_meaning from_graph
        [] (λ node. 0) m (λ t less. are.schedule.round_finds t (omega arith))

    counted_mid : IsCounted again_meaning from_graph [] done reached.again
    counted_mid = subst (λ (c : ℕ → ℕ). IsCounted again_meaning from_graph [] c reached.again)
        rounds_are
        (counted_after again_meaning from_graph [] are.keeps
        (within_again meaning graph from are.takes_within)
        (repeated m round_order) (λ node. 0) _ reached.again
        (counted_first again_meaning from_graph [] are.keeps
        (within_again meaning graph from are.takes_within))
        rounds_find reached.went)

    fired_mid : (node : ℕ) → (mid.runs node).fired ≡ (from.runs node).fired + m * round node
    unfolding done
    fired_mid node = reached.same.fired node
        ∙ ap (λ (k : ℕ). (from.runs node).fired + k) (counted_mid.fired node)

    covered_mid : (node port : ℕ) → port < meaning.ports (graph.code node)
        → total (again_meaning.popped (from_graph.code node)) (done node) port
        ≤ supply again_meaning from_graph [] done (from_graph.source node port)
    unfolding restarted_meaning restarted
    covered_mid node port less =
        subst (λ (c : ℕ → ℕ). total (again_meaning.popped (from_graph.code node)) (c node) port
        ≤ supply again_meaning from_graph [] c (from_graph.source node port)) rounds_are
        (covered_on again_meaning from_graph []
        (within_again meaning graph from are.takes_within)
        (repeated m round_order) (λ v. 0)
        (covered_first again_meaning from_graph []) rounds_find node port less)

    -- As many items wait there as the counts say.
    waiting : (node port : ℕ) → port < meaning.ports (graph.code node)
        → length (mid.queues node port) + total (again_meaning.popped (from_graph.code node))
        (done node) port
        ≡ supply again_meaning from_graph [] done (from_graph.source node port)
    unfolding restarted_meaning restarted fill
    waiting node port less = omega (
      arith,
      ap length (reached.same.queues node port),
      queue_length again_meaning from_graph [] are.keeps
          (within_again meaning graph from are.takes_within)
          done reached.again counted_mid node port less,
      covered_mid node port less,
    )

    -- What is fired behind the rounds has the rates of the later firings.
    rate_on : (rate : ℕ → ℕ → ℕ) (node more port : ℕ)
        → total (λ i. rate ((from.runs node).fired + i)) (more + done node) port
        ≡ total (λ i. rate ((from.runs node).fired + i)) (done node) port
        + total (λ i. rate ((mid.runs node).fired + i)) more port
    unfolding done
    rate_on rate node more port =
        let e : more + m * round node ≡ m * round node + more = omega arith in
        let same : (λ (i : ℕ). rate ((from.runs node).fired + (m * round node + i)))
        ≡ (λ (i : ℕ). rate ((mid.runs node).fired + i))
        = fun_ext (λ i. ap rate (let f : (from.runs node).fired + (m * round node + i)
        ≡ (mid.runs node).fired + i = omega (arith, fired_mid node) in f)) in
        ap (λ (k : ℕ). total (λ i. rate ((from.runs node).fired + i)) k port) e
        ∙ total_splits (λ i. rate ((from.runs node).fired + i)) port (m * round node) more
        ∙ ap (λ (r : ℕ → ℕ → ℕ). total (λ i. rate ((from.runs node).fired + i)) (m * round node)
        port + total r more port) same

    -- The counts with the m rounds.
    behind : (ℕ → ℕ) → ℕ → ℕ
    behind counts node = counts node + done node

    given_on : (counts : ℕ → ℕ) (origin : Origin)
        → supply_of again_meaning from_graph [] (behind counts) (taken_in origin)
        ≡ supply_of again_meaning from_graph [] done (taken_in origin)
        + supply_of again_meaning mid_graph [] counts (taken_in origin)
    unfolding supply_of taken_in restarted_meaning restarted behind
    given_on counts Nowhere = omega arith
    given_on counts Input = omega arith
    given_on counts (Port u q) = rate_on (meaning.pushed (graph.code u)) u (counts u) q

    -- What has come since, and what waited.
    come_on : (counts : ℕ → ℕ) (node port : ℕ) → port < meaning.ports (graph.code node)
        → supply again_meaning from_graph [] (behind counts) (from_graph.source node port)
        ≡ supply again_meaning mid_graph [] counts (mid_graph.source node port)
        + total (again_meaning.popped (from_graph.code node)) (done node) port
    unfolding supply restarted
    come_on counts node port less = omega (
      arith,
      given_on counts (graph.source node port).origin,
      waiting node port less,
    )

    taken_on : (counts : ℕ → ℕ) (node port : ℕ)
        → total (again_meaning.popped (from_graph.code node)) (behind counts node) port
        ≡ total (again_meaning.popped (from_graph.code node)) (done node) port
        + total (again_meaning.popped (mid_graph.code node)) (counts node) port
    unfolding restarted_meaning restarted behind
    taken_on counts node port =
        rate_on (meaning.popped (graph.code node)) node (counts node) port

    looks_on : (counts : ℕ → ℕ) (node port : ℕ)
        → again_meaning.window (from_graph.code node) (behind counts node) port
        ≡ again_meaning.window (mid_graph.code node) (counts node) port
    unfolding restarted_meaning restarted behind done
    looks_on counts node port =
        ap (λ (k : ℕ). meaning.window (graph.code node) k port)
        (let e : (from.runs node).fired + (counts node + m * round node)
        ≡ (mid.runs node).fired + counts node = omega (arith, fired_mid node) in e)

    waits_on : (counts : ℕ → ℕ) (node port : ℕ) → port < meaning.ports (graph.code node)
        → fill again_meaning mid_graph [] counts node port
        ≡ fill again_meaning from_graph [] (behind counts) node port
    unfolding fill
    waits_on counts node port less =
        omega (arith, come_on counts node port less, taken_on counts node port)

    ready_on : (counts : ℕ → ℕ) (node : ℕ)
        → IsReady again_meaning from_graph [] (behind counts) node
        → IsReady again_meaning mid_graph [] counts node
    unfolding restarted_meaning restarted
    ready_on counts node ready port less = omega (
      arith,
      ready port less,
      come_on counts node port less,
      taken_on counts node port,
      looks_on counts node port,
    )

    behind_raised : (counts : ℕ → ℕ) (node : ℕ)
        → raised (behind counts) node ≡ behind (raised counts node)
    unfolding behind
    behind_raised counts node = raised_later counts done node

    order_on : (order : List ℕ) (counts : ℕ → ℕ)
        → IsOrder again_meaning from_graph [] (behind counts) order
        → IsOrder again_meaning mid_graph [] counts order
    order_on [] counts valid = tt
    order_on (node ∷ order) counts valid = (
      ready_on counts node valid.0,
      order_on order (raised counts node)
          (subst (λ (c : ℕ → ℕ). IsOrder again_meaning from_graph [] c order)
          (behind_raised counts node) valid.1),
    )

    batches_behind : (q : ℕ) → counts_after (counts_after (λ node. 0) round m)
        (batch_counts b round) q ≡ behind (counts_after (λ node. 0) (batch_counts b round) q)
    unfolding counts_after behind done
    batches_behind q = fun_ext (λ node. omega arith)

    abbrev batches : IsSchedule again_meaning from_graph [] (counts_after (λ node. 0) round m)
        (batch_counts b round) (before_batches [] m round_order) (batch_order b segment stages) n
    batches = batches_schedule again_meaning from_graph [] stage_of segment stages (λ node. 0) round
        [] round_order b m n
        (staged_again graph from stage_of segment stages round_order are.staged) are.schedule

    pub resumes : IsRoundsLater meaning graph from mid round m
        × IsSchedule again_meaning mid_graph [] (λ node. 0) (batch_counts b round) []
        (batch_order b segment stages) n
    unfolding behind done firing_count
    resumes = (
      record {
        faultless = λ node. reached.same.fault node ∙ counted_mid.queued.faultless node;
        fired = fired_mid;
        waits = waits_on;
      },
      record {
        startup_counts = λ node. refl;
        round_counts = batches.round_counts;
        startup_finds = tt;
        round_finds = λ q less. order_on (batch_order b segment stages)
            (counts_after (λ node. 0) (batch_counts b round) q)
            (subst (λ (c : ℕ → ℕ). IsOrder again_meaning from_graph [] c
            (batch_order b segment stages)) (batches_behind q) (batches.round_finds q less));
      },
    )

pub resume_law : {Code State Cause Word : Type 0} → BatchesResume Code State Cause Word
resume_law meaning graph from mid stage_of segment stages round round_order b m n are =
    resumes meaning graph from mid stage_of segment stages round round_order b m n are
