-- What waits from outside suffices for the rounds after fission, as it does for those before.
use Rattle.std.proofs.Common.{◌≡◌, refl, sym, ap, ◌∙◌, subst, ℕ, zero, suc, ◌+◌, ◌-◌, ◌*◌, ◌<◌, ◌≤◌}
use Rattle.std.proofs.Common.{arith, mul-le-mul_right, ℤ, List, [], ◌∷◌, length, Bool, true, false}
use Rattle.std.proofs.Common.{cond, eqb, eqb-true, inl, inr}
use Rattle.std.proofs.lemmas.Bool.{cases_lt}
use Rattle.strc_elab_dataflow.specs.Flat.{Origin, Origin.Nowhere, Origin.Input, Origin.Port, Graph}
use Rattle.strc_elab_dataflow.specs.Flat.{Source}
use Rattle.strc_elab_dataflow.specs.Node.{Meaning, total}
use Rattle.strc_elab_dataflow.specs.Order as orders
use Rattle.strc_elab_dataflow.specs.Queues.{FifoProgress.FifoWent, fifo_go, fifo_at_first}
use Rattle.strc_elab_graph.specs.Graphs.{NodeCode}
use Rattle.strc_elab_graph.specs.Meaning.{node_meaning, ports_in}
use Rattle.strc_elab_graph.specs.Rates.{window_at, pops_at}
use Rattle.strc_sched_laws.specs.Fits.{Queues}
use Rattle.strc_sched_laws.specs.Laws.{startup_order, counts_at}
use Rattle.strc_sched_laws.specs.Planned.{items_read}
use Rattle.strc_elab_dataflow.specs.RestartRounds.{total_from, IsOutside}
use Rattle.strc_elab_dataflow.specs.Schedules.{fired_in, IsSuppliedFrom}
use Rattle.strc_elab_dataflow.specs.Blocks.{old_order}
use Rattle.strc_elab_dataflow.specs.Split.{Parts, renamed}
use Rattle.strc_elab_dataflow.proofs.Counted.{queue_length}
use Rattle.strc_fiss.specs.Numbers.{is_dealt, base}
use Rattle.strc_stage_plan.specs.Runs.{graph_before}
use Rattle.strc_stage_plan.proofs.NewChannels.{apart}
use Rattle.strc_stage_plan.proofs.Owners.{owner_is}
use Rattle.strc_stage_plan.proofs.Codes.{scatter_code}
use Rattle.strc_fiss.proofs.PartCounts.{alls, old_count, scatter_count}
use Rattle.strc_stage_plan.proofs.Dealt.{first_ports}
use Rattle.strc_stage_plan.proofs.NewRounds.{new_fired, new_queues}
use Rattle.strc_stage_plan.proofs.Numbers.{each_number}
use Rattle.strc_stage_plan.proofs.OwnRounds.{OwnRound, share, before, after, parts, startup}
use Rattle.strc_stage_plan.proofs.OwnRounds.{in_round, blocks, dealt, keeps, within, split}
use Rattle.strc_stage_plan.proofs.OwnRounds.{round_blocks, after_is, old_counts, round_valid}
use Rattle.strc_stage_plan.proofs.OwnRounds.{counted}
use Rattle.strc_stage_plan.proofs.Repeats.{new_counts, kept_fires}

-- ---- totals

total_splits : (rate : ℕ → ℕ → ℕ) (port first more : ℕ)
    → total rate (first + more) port ≡ total rate first port + total_from rate first more port
unfolding total total_from
total_splits rate port first zero = let e : first + 0 ≡ first = omega arith in
    ap (λ (m : ℕ). total rate m port) e
    ∙ (let f : total rate first port ≡ total rate first port + 0 = omega arith in f)
total_splits rate port first (suc more) =
    let e : first + suc more ≡ suc (first + more) = omega arith in
    let rest = total_splits rate port first more in
    ap (λ (m : ℕ). total rate m port) e
    ∙ (let f : total rate (first + more) port + rate (first + more) port
    ≡ total rate first port
    + (total (λ i. rate (first + i)) more port + rate (first + more) port)
    = omega (arith, rest) in f)

total_even : (rate : ℕ → ℕ → ℕ) (port each : ℕ) → ((firing : ℕ) → rate firing port ≡ each)
    → (n : ℕ) → total rate n port ≡ n * each
unfolding total
total_even rate port each even zero = omega arith
total_even rate port each even (suc n) = omega (
  arith,
  total_even rate port each even n,
  even n,
)

-- ---- an order's firings of a node that takes from outside

module _ {Code State Cause Word : Type 0} (meaning : Meaning Code State Cause Word)
    (graph : Graph Code) (input : List ℤ) where
  outside_same : (a b : ℕ → ℕ) (source : Source) → IsOutside source.origin
      → orders.supply meaning graph input a source ≡ orders.supply meaning graph input b source
  unfolding orders.supply orders.supply_of
  outside_same a b source outside = by_origin source.origin outside
    where
      by_origin : (origin : Origin) → IsOutside origin
          → length source.enqueued + orders.supply_of meaning graph input a origin
          ≡ length source.enqueued + orders.supply_of meaning graph input b origin
      by_origin Nowhere is = refl
      by_origin Input is = refl
      by_origin (Port v q) is = absurd is

  module _ (u port : ℕ) (less : port < meaning.ports (graph.code u))
      (outside : IsOutside (graph.source u port).origin) where
    abbrev pub Reaches : (firing : ℕ) → Type 0
    Reaches firing = total (meaning.popped (graph.code u)) firing port
        + meaning.window (graph.code u) firing port
        ≤ orders.supply meaning graph input (λ v. 0) (graph.source u port)

    pub order_reaches : (order : List ℕ) (counts : ℕ → ℕ) (count : ℕ) → counts u ≡ count
        → orders.IsOrder meaning graph input counts order
        → (j : ℕ) → j < orders.firing_count order u → Reaches (count + j)
    unfolding orders.firing_count orders.raised
    order_reaches [] counts count is valid j lower = absurd (omega (arith, lower))
    order_reaches (node ∷ order) counts count is valid j lower =
        by_test (eqb u node) refl j lower
        (order_reaches order (orders.raised counts node) _ refl valid.1)
      where
        by_test : (t : Bool) → eqb u node ≡ t → (j : ℕ)
            → j < cond t (suc (orders.firing_count order u)) (orders.firing_count order u)
            → ((k : ℕ) → k < orders.firing_count order u
            → Reaches (orders.raised counts node u + k)) → Reaches (count + j)
        by_test true e zero lower later =
            let own : u ≡ node = eqb-true u node e in
            let ready : total (meaning.popped (graph.code u)) (counts u) port
            + meaning.window (graph.code u) (counts u) port
            ≤ orders.supply meaning graph input counts (graph.source u port) =
            subst (λ (n : ℕ). port < meaning.ports (graph.code n)
            → total (meaning.popped (graph.code n)) (counts n) port
            + meaning.window (graph.code n) (counts n) port
            ≤ orders.supply meaning graph input counts (graph.source n port)) (sym own)
            (valid.0 port) less in
            let at : counts u ≡ count + 0 = omega (arith, is) in
            omega (
              arith,
              ready,
              outside_same counts (λ v. 0) (graph.source u port) outside,
              ap (λ (n : ℕ). total (meaning.popped (graph.code u)) n port) at,
              ap (λ (n : ℕ). meaning.window (graph.code u) n port) at,
            )
        by_test true e (suc k) lower later =
            let next : orders.raised counts node u ≡ suc count =
            ap (λ (t : Bool). cond t (suc (counts u)) (counts u)) e ∙ ap suc is in
            let at : orders.raised counts node u + k ≡ count + suc k = omega (arith, next) in
            subst Reaches at (later k (omega (arith, lower)))
        by_test false e k lower later =
            let next : orders.raised counts node u ≡ count =
            ap (λ (t : Bool). cond t (suc (counts u)) (counts u)) e ∙ is in
            subst (λ (c : ℕ). Reaches (c + k)) next (later k lower)

renamed_outside : (named : Parts) (origin : Origin) → IsOutside (renamed named origin)
    → IsOutside origin
unfolding renamed
renamed_outside _ Nowhere is = tt
renamed_outside _ Input is = tt
renamed_outside _ (Port v q) is = is

module _ (run : OwnRound) (input : List ℤ) (rounds : ℕ)
    (supplied : items_read run.old.nodes (counts_at run.schedule rounds) ≤ length input)
    (started : Queues)
    (went : fifo_go node_meaning
    (graph_before run.tree run.old run.schedule run.round run.ways)
    (startup_order run.schedule)
    (fifo_at_first node_meaning
    (graph_before run.tree run.old run.schedule run.round run.ways) input)
    ≡ FifoWent started) where
  -- ---- before fission

  module _ (u port : ℕ) (less : port < ports_in ((before run).code u))
      (outside : IsOutside ((before run).source u port).origin) where
    abbrev At : (firing : ℕ) → Type 0
    At n = Reaches node_meaning (before run) input u port less outside (startup run u + n)

    by_round : (k : ℕ) → k ≤ rounds → (n : ℕ) → n < k * in_round run u → At n
    unfolding orders.counts_after
    by_round zero most n lower = absurd (omega (arith, lower))
    by_round (suc k) most n lower = elim (cases_lt n (k * in_round run u)) [
      | inl earlier ↦ by_round k (omega (arith, most)) n earlier
      | inr here ↦
          let j : ℕ = n - k * in_round run u in
          let at : (startup run u + k * in_round run u) + j ≡ startup run u + n =
          omega (arith, here) in
          subst (Reaches node_meaning (before run) input u port less outside) at
          (order_reaches node_meaning (before run) input u port less outside
          (old_order (parts run) (blocks run))
          (orders.counts_after (startup run) (in_round run) k)
          (startup run u + k * in_round run u) refl
          (round_valid run input rounds supplied k (omega (arith, most))) j
          (omega (arith, lower, here, old_counts run u)))
    ]

    old_reaches : (n : ℕ) → n < rounds * in_round run u
        → total_from (pops_at ((before run).code u)) (startup run u) n port
        + window_at ((before run).code u) (startup run u + n) port
        ≤ length (started.queues u port)
    unfolding orders.fill
    old_reaches n lower = omega (
      arith,
      by_round rounds (omega arith) n lower,
      total_splits (pops_at ((before run).code u)) port (startup run u) n,
      queue_length node_meaning (before run) input (keeps run) (within run) (startup run) started
          (counted run input rounds supplied started went) u port less,
      outside_same node_meaning (before run) input (startup run) (λ v. 0)
          ((before run).source u port) outside,
    )

  -- ---- after it

  abbrev fired : ℕ → ℕ
  fired number = ((dealt run started).runs number).fired

  first_fired : (u : ℕ)
      → fired (base (share run) u + 0) ≡ cond (is_dealt (share run u)) 0 (startup run u)
  first_fired u =
      new_fired run input rounds supplied started went (base (share run) u + 0)
      ∙ ap (λ (v : ℕ). cond (is_dealt (share run v)) 0 (startup run v))
      (owner_is (share run) u 0 (omega arith)).0

  abbrev Supplied : (number : ℕ) → Type 0
  Supplied number =
      (port firing : ℕ) → port < ports_in ((after run).code number)
      → IsOutside ((after run).source number port).origin
      → firing < rounds * new_counts run number
      → total_from (pops_at ((after run).code number)) (fired number) firing port
      + window_at ((after run).code number) (fired number + firing) port
      ≤ length ((dealt run started).queues number port)

  -- a first part takes from outside where its node does
  old_outside : (u port : ℕ) → port < ports_in ((before run).code u)
      → IsOutside ((after run).source (base (share run) u + 0) port).origin
      → IsOutside ((before run).source u port).origin
  old_outside u port less outside =
      renamed_outside (parts run) ((before run).source u port).origin
      (subst IsOutside ((split run).inputs u port less) outside)

  kept_supplied : (u : ℕ) → is_dealt (share run u) ≡ false → Supplied (base (share run) u + 0)
  kept_supplied u whole port firing less outside lower =
      let there : port < ports_in ((before run).code u) = omega (arith, less, first_ports run u) in
      let began : fired (base (share run) u + 0) ≡ startup run u =
      first_fired u ∙ ap (λ (t : Bool). cond t 0 (startup run u)) whole in
      let often : rounds * new_counts run (base (share run) u + 0) ≡ rounds * in_round run u =
      ap (λ (n : ℕ). rounds * n) (kept_fires run u whole) in
      let reached = old_reaches u port there (old_outside u port there outside) firing
      (omega (arith, lower, often)) in
      let code = (split run).kept u whole in
      omega (
        arith,
        reached,
        ap (λ (c : NodeCode). total_from (pops_at c) (fired (base (share run) u + 0)) firing port)
            code,
        ap (λ (n : ℕ). total_from (pops_at ((before run).code u)) n firing port) began,
        ap (λ (c : NodeCode). window_at c (fired (base (share run) u + 0) + firing) port) code,
        ap (λ (n : ℕ). window_at ((before run).code u) (n + firing) port) began,
        ap (λ (items : List ℤ). length items)
            ((new_queues run input rounds supplied started went).first u port there),
      )

  module _ (v : ℕ) (dealt_is : is_dealt (share run v) ≡ true) where
    abbrev all : ℕ
    all = (share run v).ways * (share run v).firings

    abbrev pop : ℕ
    pop = (share run v).pop

    -- of a node that is split the firings of so many rounds look at as much as those of its scatter
    scatter_reach : (n more : ℕ) → suc more ≡ all → pop ≤ (share run v).window
        → (n * all + more) * pop + (share run v).window
        ≡ n * (all * pop) + (all * pop + ((share run v).window - pop))
    scatter_reach n more e narrow =
        let once : all * pop ≡ pop + more * pop =
        ap (λ (k : ℕ). k * pop) (sym e)
        ∙ (let f : suc more * pop ≡ pop + more * pop = omega arith in f) in
        let whole : (n * all + more) * pop ≡ n * (all * pop) + more * pop = omega arith in
        omega (arith, once, whole, narrow)

    some : 0 < all
    some =
        let parts_are = (split run).split v dealt_is in
        let ways : suc ((share run v).ways - 1) ≡ (share run v).ways =
        omega (arith, parts_are.some_ways) in
        let e : suc ((share run v).ways - 1) * (share run v).firings ≡ all =
        ap (λ (k : ℕ). k * (share run v).firings) ways in
        omega (arith, e, parts_are.some_firings)

    -- before fission the last firing of such a round is there
    last_there : (n : ℕ) → n < rounds * new_counts run (base (share run) v + 0)
        → n * all + (all - 1) < rounds * in_round run v
    last_there n lower =
        let turns : ℕ = alls (blocks run) v in
        let scatters : new_counts run (base (share run) v + 0) ≡ turns * 1 =
        ap (λ (l : List ℕ). orders.firing_count l (base (share run) v + 0)) (after_is run)
        ∙ scatter_count (parts run) (apart (share run)) (blocks run) (round_blocks run) v dealt_is
        in
        let fires : in_round run v ≡ turns * all =
        sym (old_counts run v)
        ∙ old_count (parts run) (apart (share run)) (blocks run) (round_blocks run) v dealt_is in
        let below : suc n ≤ rounds * turns =
        omega (arith, lower, ap (λ (k : ℕ). rounds * k) scatters) in
        let times : suc n * all ≤ (rounds * turns) * all = mul-le-mul_right all below in
        let same : (rounds * turns) * all ≡ rounds * in_round run v =
        (let e : (rounds * turns) * all ≡ rounds * (turns * all) = omega arith in e)
        ∙ ap (λ (k : ℕ). rounds * k) (sym fires) in
        omega (arith, times, same, some)

    scatter_supplied : Supplied (base (share run) v + 0)
    unfolding total_from
    scatter_supplied port n less outside lower =
        let there : port < ports_in ((before run).code v) =
        omega (arith, less, first_ports run v) in
        let parts_are = (split run).split v dealt_is in
        let first : port ≡ 0 = omega (arith, there, parts_are.filter.one_port) in
        let m : ℕ = n * all + (all - 1) in
        let more : suc (all - 1) ≡ all = omega (arith, some) in
        let reached = old_reaches v port there (old_outside v port there outside) m
        (last_there n lower) in
        let code = scatter_code run.tree run.old run.schedule run.round run.ways run.program run.is
        run.planned run.known v dealt_is in
        let here = fired (base (share run) v + 0) in
        let given : total (λ i. pops_at ((before run).code v) (startup run v + i)) m 0
        + window_at ((before run).code v) (startup run v + m) 0
        ≤ length (started.queues v 0) =
        subst (λ (p : ℕ). total (λ i. pops_at ((before run).code v) (startup run v + i)) m p
        + window_at ((before run).code v) (startup run v + m) p
        ≤ length (started.queues v p)) first reached in
        let wanted : total (λ i. pops_at ((after run).code (base (share run) v + 0)) (here + i)) n 0
        + window_at ((after run).code (base (share run) v + 0)) (here + n) 0
        ≤ length ((dealt run started).queues (base (share run) v + 0) 0) =
        omega (
          arith,
          given,
          total_even (λ i. pops_at ((before run).code v) (startup run v + i)) 0 pop
              (λ i. parts_are.filter.pops (startup run v + i)) m,
          parts_are.filter.windows (startup run v + m),
          total_even (λ i. pops_at ((after run).code (base (share run) v + 0)) (here + i)) 0
              (all * pop)
              (λ i. ap (λ (c : NodeCode). pops_at c (here + i) 0) code) n,
          ap (λ (c : NodeCode). window_at c (here + n) 0) code,
          scatter_reach n (all - 1) more parts_are.narrow,
          ap (λ (items : List ℤ). length items)
              ((new_queues run input rounds supplied started went).first v 0
              (subst (λ (p : ℕ). p < ports_in ((before run).code v)) first there)),
        ) in
        subst (λ (p : ℕ).
        total (λ i. pops_at ((after run).code (base (share run) v + 0)) (here + i)) n p
        + window_at ((after run).code (base (share run) v + 0)) (here + n) p
        ≤ length ((dealt run started).queues (base (share run) v + 0) p)) (sym first) wanted

  copy_supplied : (v i : ℕ) → is_dealt (share run v) ≡ true → i < (share run v).ways
      → Supplied (base (share run) v + suc i)
  copy_supplied v i dealt_is low port firing less outside lower =
      let parts_are = (split run).split v dealt_is in
      let first : port ≡ 0 = omega (arith, less, (parts_are.copy i low).one_port) in
      absurd (subst IsOutside (parts_are.to_copy i low)
      (subst (λ (p : ℕ). IsOutside ((after run).source (base (share run) v + suc i) p).origin) first
      outside))

  gather_supplied : (v : ℕ) → is_dealt (share run v) ≡ true
      → Supplied (base (share run) v + suc (share run v).ways)
  gather_supplied v dealt_is port firing less outside lower =
      let parts_are = (split run).split v dealt_is in
      let low : port < (share run v).ways = omega (arith, less, parts_are.gather.ports) in
      absurd (subst IsOutside (parts_are.from_copy port low) outside)

  pub rounds_supplied : IsSuppliedFrom node_meaning (after run) (dealt run started)
      (λ node. rounds * new_counts run node)
  unfolding fired_in
  rounds_supplied node port firing less outside lower =
      each_number (share run) Supplied kept_supplied scatter_supplied copy_supplied gather_supplied
      node port firing less outside lower
