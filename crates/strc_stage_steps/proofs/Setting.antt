-- A running graph with its generic stages, and what is known of them.
use Rattle.std.proofs.Common.{◌≡◌, sym, ap, ◌∙◌, subst, ℕ, zero, suc, ◌+◌, ◌*◌, ◌-◌, ◌<◌, ◌≤◌}
use Rattle.std.proofs.Common.{◌^◌, ℤ, Bool, true, List, [], ◌++◌, Some, slice_get, slice_index}
use Rattle.std.proofs.Common.{append-nil, append_assoc, arith}
use Rattle.std.proofs.Math.Nat.{mul-le-mul_right}
use Rattle.strc_work_meaning.specs.declared.fault.Cause.{Cause}
use Rattle.strc_work_meaning.specs.declared.word.Word.{Word}
use Rattle.strc_elab_dataflow.specs.Flat as flat
use Rattle.strc_elab_dataflow.specs.Flat.{Origin, Origin.Port, arrived, items_of}
use Rattle.strc_elab_dataflow.specs.Histories.{Run}
use Rattle.strc_elab_dataflow.specs.Node.{ByPort, Meaning, total}
use Rattle.strc_elab_dataflow.specs.Order as orders
use Rattle.strc_elab_dataflow.proofs.Again.{total_repeats}
use Rattle.strc_elab_dataflow.proofs.WholeRun.{counted-firing_count}
use Rattle.strc_elab_graph.specs.Graphs.{NodeCode, Channel, Graph}
use Rattle.strc_elab_graph.specs.Meaning.{node_meaning}
use Rattle.strc_startup.specs.Rates.{push_at}
use Rattle.strc_sched_laws.specs.Fits.{Queues}
use Rattle.strc_sched_laws.specs.Machine.{CircuitView}
use Rattle.strc_elab_dataflow.specs.Restart.{Restarted, restarted_meaning, restarted, taken_in}
use Rattle.strc_elab_dataflow.specs.Chains.{staging_from}
use Rattle.strc_elab_dataflow.proofs.RestartChains.{restarted_is_staging}
use Rattle.strc_elab_dataflow.specs.Ranges.{stage_within}
use Rattle.strc_elab_dataflow.specs.Staging.{Staging, joined, before, in_stage, IsStaging}
use Rattle.strc_elab_dataflow.specs.Staging.{IsFromUpTo}
use Rattle.strc_elab_dataflow.specs.Staging.{counts}
use Rattle.strc_elab_dataflow.proofs.Orders.{counted_append}
use Rattle.strc_elab_dataflow.proofs.Segments.{joined_count, less_before, in_is}
use Rattle.strc_elab_dataflow.proofs.Cut.{cut_in}
use Rattle.strc_stage_steps.specs.Runnings.{Running, resumed, IsRunning, round_pushes}
use Rattle.strc_stage_steps.proofs.Ports.{port_inside}

-- a graph that goes on from a state for so many rounds, its circuit, and inputs of the generic
-- stages of the graph restarted there
pub record Setting : Type 0 where
  pub running : Running
  pub by_source : flat.Graph NodeCode
  pub from : Queues
  pub rounds : ℕ
  pub bound : (stage : ℕ) → ℕ
  pub last : ℕ
  pub circuit : CircuitView
  pub is : IsRunning running by_source from rounds bound last circuit
  pub inputs : ℕ → ℕ → ByPort
  pub is_staging : IsStaging (staging_from (resumed running by_source from rounds bound last)
      inputs)

-- a running graph has such inputs
abbrev pub setting : (running : Running) (by_source : flat.Graph NodeCode) (from : Queues)
    (rounds : ℕ) (bound : (stage : ℕ) → ℕ) (last : ℕ) (circuit : CircuitView)
    → IsRunning running by_source from rounds bound last circuit → Setting
setting running by_source from rounds bound last circuit is =
    record {
      running = running;
      by_source = by_source;
      from = from;
      rounds = rounds;
      bound = bound;
      last = last;
      circuit = circuit;
      is = is;
      inputs = (restarted_is_staging (resumed running by_source from rounds bound last)
          is.resumption).0;
      is_staging = (restarted_is_staging (resumed running by_source from rounds bound last)
          is.resumption).1;
    }

total_grows : (rate : ℕ → ℕ → ℕ) (port n more : ℕ) → total rate n port ≤ total rate (n + more) port
unfolding total
total_grows rate port n zero =
    let e : n + 0 ≡ n = omega arith in
    omega (arith, ap (λ (m : ℕ). total rate m port) e)
total_grows rate port n (suc more) =
    let e : n + suc more ≡ suc (n + more) = omega arith in
    omega (arith, total_grows rate port n more, ap (λ (m : ℕ). total rate m port) e)

pub total_within : (rate : ℕ → ℕ → ℕ) (port n later : ℕ) → n ≤ later
    → total rate n port ≤ total rate later port
total_within rate port n later less =
    let e : n + (later - n) ≡ later = omega (arith, less) in
    omega (arith, total_grows rate port n (later - n), ap (λ (m : ℕ). total rate m port) e)

pub firing_append : (xs ys : List ℕ) (v : ℕ)
    → orders.firing_count (xs ++ ys) v ≡ orders.firing_count xs v + orders.firing_count ys v
firing_append xs ys v =
    let none : ℕ → ℕ = λ n. 0 in
    omega (
      arith,
      counted-firing_count (xs ++ ys) none v,
      ap (λ (c : ℕ → ℕ). c v) (counted_append xs ys none),
      counted-firing_count ys (orders.counted none xs) v,
      counted-firing_count xs none v,
    )

module _ (s : Setting) where
  abbrev pub graph : Graph
  graph = s.running.graph

  -- the restarted graph
  abbrev pub meaning : Meaning (Restarted NodeCode (List ℤ)) (List ℤ) Cause Word
  meaning = restarted_meaning node_meaning

  abbrev pub again : flat.Graph (Restarted NodeCode (List ℤ))
  again = restarted s.from s.by_source

  abbrev pub staging : Staging (Restarted NodeCode (List ℤ)) (List ℤ) Cause Word
  staging = staging_from (resumed s.running s.by_source s.from s.rounds s.bound s.last) s.inputs

  abbrev pub stage_of : ℕ → ℕ
  stage_of = stage_within s.bound s.last

  abbrev pub own : ℕ → ℕ → Bool
  own a = in_stage stage_of a

  pub is_staging : IsStaging staging
  is_staging = s.is_staging

  abbrev pub round_of : ℕ → ℕ
  round_of = s.running.counts

  -- ---- counts

  joined_fires : (b v : ℕ) → b ≤ suc s.last → stage_of v < b
      → orders.firing_count (joined staging.segment b) v ≡ round_of v
  joined_fires b v less early =
      joined_count staging.graph stage_of staging.segment staging.stages
      staging.round_order is_staging.staged round_of is_staging.solved.schedule.round_counts b
      less v
      ∙ cut_in (before stage_of b) round_of v (less_before stage_of b v early)

  segment_fires : (a v : ℕ) (done left : List ℕ) → a < suc s.last → stage_of v < suc a
      → done ++ left ≡ staging.segment a
      → orders.firing_count (joined staging.segment a ++ done) v ≤ round_of v
  unfolding joined
  segment_fires a v done left is_stage early same = omega (
    arith,
    joined_fires (suc a) v (omega (arith, is_stage)) early,
    ap (λ (l : List ℕ). orders.firing_count (joined staging.segment a ++ l) v) same,
    firing_append (joined staging.segment a) (done ++ left) v,
    firing_append (joined staging.segment a) done v,
    firing_append done left v,
  )

  -- a front of a round
  joined_split : (a more : ℕ) → (rest : List ℕ)
      × (joined staging.segment (suc a + more) ≡ joined staging.segment (suc a) ++ rest)
  unfolding joined
  joined_split a zero = (
    [],
    ap (joined staging.segment) (let e : suc a + 0 ≡ suc a = omega arith in e)
        ∙ sym (append-nil (joined staging.segment (suc a))),
  )
  joined_split a (suc more) =
      let (rest, e) = joined_split a more in (
        rest ++ staging.segment (suc a + more),
        ap (joined staging.segment)
            (let f : suc a + suc more ≡ suc (suc a + more) = omega arith in f)
            ∙ ap (λ (l : List ℕ). l ++ staging.segment (suc a + more)) e
            ∙ append_assoc (joined staging.segment (suc a)) rest
            (staging.segment (suc a + more)),
      )

  pub round_front : (a : ℕ) (done left : List ℕ) → a < suc s.last
      → done ++ left ≡ staging.segment a
      → (back : List ℕ)
      × ((joined staging.segment a ++ done) ++ back ≡ s.running.order)
  unfolding joined
  round_front a done left is_stage same =
      let (rest, e) = joined_split a (s.last - a) in (
        left ++ rest,
        append_assoc (joined staging.segment a) done (left ++ rest)
            ∙ ap (λ (l : List ℕ). joined staging.segment a ++ l)
            (sym (append_assoc done left rest) ∙ ap (λ (l : List ℕ). l ++ rest) same)
            ∙ sym (append_assoc (joined staging.segment a) (staging.segment a) rest)
            ∙ sym e
            ∙ ap (joined staging.segment)
            (let f : suc a + (s.last - a) ≡ suc s.last = omega (arith, is_stage) in f)
            ∙ sym is_staging.staged.order,
      )

  -- ---- firings

  module _ (a t : ℕ) (is_stage : a < suc s.last) (is_round : t < s.rounds) (done left : List ℕ)
      (same : done ++ left ≡ staging.segment a) where
    abbrev pub reached : ℕ → ℕ
    reached = orders.counted (counts staging t) (joined staging.segment a ++ done)

    pub reached_fires : (v : ℕ) → in_stage stage_of a v ≡ true
        → (s.from.runs v).fired + reached v < 2 ^ 64
    unfolding orders.counts_after
    reached_fires v is_own =
        let most : (t + 1) * round_of v ≤ s.rounds * round_of v =
        mul-le-mul_right (round_of v) (omega (arith, is_round)) in
        omega (
          arith,
          counted-firing_count (joined staging.segment a ++ done) (counts staging t) v,
          segment_fires a v done left is_stage (omega (arith, in_is stage_of a v is_own)) same,
          most,
          s.is.numbered v,
        )

    -- what is on a channel fits into its ring
    pub fill_fits : (number : ℕ) (channel : Channel)
        → slice_get s.running.graph.channels number ≡ Some channel
        → orders.fill meaning again [] reached channel.target.node channel.target.port
        ≤ slice_index s.running.sizes number
    fill_fits number channel there =
        let (back, front) = round_front a done left is_stage same in
        s.is.room t is_round (joined staging.segment a ++ done) back front number channel there

  module _ (number : ℕ) (channel : Channel)
      (there : slice_get s.running.graph.channels number ≡ Some channel) where
    abbrev rate : ℕ → ℕ
    rate firing = meaning.pushed (again.code channel.source.node) firing channel.source.port

    pub rate_at : (firing : ℕ)
        → meaning.pushed (again.code channel.source.node) firing channel.source.port
        ≡ push_at s.running.graph.nodes 1 channel.source
    unfolding restarted_meaning restarted
    rate_at firing =
        s.is.pushes number channel there ((s.from.runs channel.source.node).fired + firing)
        (omega arith)

    pub origin_is : (again.source channel.target.node channel.target.port).origin
        ≡ Port channel.source.node channel.source.port
    unfolding restarted taken_in
    origin_is = ap taken_in (s.is.joins.origins number channel there)

    pub port_is : channel.target.port < meaning.ports (again.code channel.target.node)
    unfolding restarted_meaning restarted
    port_is = port_inside s.by_source s.running.graph s.is.joins number channel there

    -- channels go forward
    pub forward : stage_of channel.source.node ≤ stage_of channel.target.node
    forward = subst (IsFromUpTo stage_of (stage_of channel.target.node)) origin_is
        (is_staging.staged.backward channel.target.node channel.target.port)

    -- what a round pushes
    module _ (a t : ℕ) (is_stage : a < suc s.last) (is_own : stage_of channel.source.node ≡ a)
        (done left : List ℕ) (same : done ++ left ≡ staging.segment a) where
      abbrev at_first : ℕ → ℕ
      at_first = orders.counted (counts staging t) (joined staging.segment a)

      abbrev at_end : ℕ → ℕ
      at_end = orders.counted (counts staging t) (joined staging.segment a ++ done)

      -- what has been pushed since the segment began
      pub pushed_fits : (many : ℕ)
          → many + orders.supply_of meaning again [] at_first
          (again.source channel.target.node channel.target.port).origin
          ≡ orders.supply_of meaning again [] at_end
          (again.source channel.target.node channel.target.port).origin
          → many ≤ round_pushes s.running channel
      unfolding orders.supply_of orders.counts_after
      pushed_fits many e =
          let u = channel.source.node in
          let q = channel.source.port in
          let pushes : ℕ → ℕ → ℕ = meaning.pushed (again.code u) in
          let now : ℕ = counts staging t u in
          let here = subst (λ (origin : Origin).
          many + orders.supply_of meaning again [] at_first origin
          ≡ orders.supply_of meaning again [] at_end origin) origin_is e in
          let first : total pushes now q ≤ total pushes (at_first u) q =
          total_within pushes q now (at_first u)
          (omega (arith, counted-firing_count (joined staging.segment a) (counts staging t) u)) in
          let end : total pushes (at_end u) q ≤ total pushes (now + round_of u) q =
          total_within pushes q (at_end u) (now + round_of u) (omega (
            arith,
            counted-firing_count (joined staging.segment a ++ done) (counts staging t) u,
            segment_fires a u done left is_stage (omega (arith, is_own)) same,
          )) in
          let repeats = total_repeats pushes q 0 (λ i more. rate_at i ∙ sym (rate_at 0)) now
          (omega arith) (round_of u) in
          let rates : round_of u * pushes 0 q ≡ round_pushes s.running channel =
          ap (λ (n : ℕ). round_of u * n) (rate_at 0) in
          omega (arith, here, first, end, repeats, rates)

  -- what has come by a channel
  pub arrived_by : (runs : ℕ → Run (List ℤ) Cause Word) (number : ℕ) (channel : Channel)
      → slice_get s.running.graph.channels number ≡ Some channel
      → arrived [] runs (again.source channel.target.node channel.target.port)
      ≡ (again.source channel.target.node channel.target.port).enqueued
      ++ (runs channel.source.node).pushes channel.source.port
  unfolding arrived items_of
  arrived_by runs number channel there =
      ap (λ (origin : Origin). (again.source channel.target.node
      channel.target.port).enqueued ++ items_of [] runs origin)
      (origin_is number channel there)
