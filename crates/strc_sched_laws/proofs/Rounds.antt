-- The orders of a graph's schedule: each firing finds its windows, in start-up and in each round.
use Rattle.std.proofs.Common.{◌≡◌, refl, sym, ap, ◌∙◌, subst, ℕ, zero, suc, ◌+◌, ◌*◌, ◌<◌, ◌≤◌, ℤ}
use Rattle.std.proofs.Common.{false, cond, List, [], ◌∷◌, length, map, Option, Some, None}
use Rattle.std.proofs.Common.{All, slice_get, inl, inr, arith, mul-le-mul_right}
use mathlib.Core.Path.{fun_ext}
use Rattle.std.specs.Option.{option_map_or}
use Rattle.std.proofs.lemmas.Bool.{cases_lt}
use Rattle.std.proofs.lemmas.List.{get_or_past, length-map}
use Rattle.strc_elab_dataflow.specs.Order as orders
use Rattle.strc_elab_dataflow.specs.Streams.{Stream, flat}
use Rattle.strc_elab_graph.specs.Graphs.{NodeCode, Graph}
use Rattle.strc_elab_graph.specs.FlatGraphs.{IsProgram}
use Rattle.strc_elab_graph.specs.Meaning.{node_meaning}
use Rattle.strc_elab_graph.specs.Rates.{fires_by_rounds, pops_at, pushes_at}
use Rattle.strc_balance.specs.Balance.{count_at, IsBalanced}
use Rattle.strc_balance.specs.Rates.{pops_by_work, pushes_by_work, equation_of}
use Rattle.strc_startup.specs.Rates.{rates_of, rates_of_channel, first_count}
use Rattle.strc_sched_orders.specs.Firings.{Firings, none_fired}
use Rattle.strc_sched_orders.specs.Order.{firing_count, IsOrder}
use Rattle.strc_sched_orders.specs.Rounds.{rounds_on, RoundBalances, IsPastPrework}
use Rattle.strc_sched_orders.specs.Schedules.{ScheduleParts}
use Rattle.strc_sched_orders.proofs.Repeating.{order_repeats}
use Rattle.strc_sched_orders.proofs.PastPrework.{all_past_prework}
use Rattle.strc_sched_laws.specs.Planned.{IsPlanned, items_read}
use Rattle.strc_sched_laws.specs.Laws.{startup_order, round_order, counts_at}
use Rattle.strc_sched_laws.proofs.Inputs.{reader_reads}
use Rattle.strc_sched_laws.proofs.Orders.{firing_count_is, AreNodes, IsSupplied, generic_order}

-- what holds of each element made one way holds of each made another way
mapped_all : {A B C : Type 0} (f : A → B) (g : A → C) (P : B → Type 0) (Q : C → Type 0)
    (xs : List A) → ((x : A) → P (f x) → Q (g x)) → All P (map f xs) → All Q (map g xs)
mapped_all f g P Q [] each all k d less = absurd (omega (arith, less))
mapped_all f g P Q (x ∷ xs) each all zero d less = each x (all 0 (f x) (omega arith))
mapped_all f g P Q (x ∷ xs) each all (suc k) d less =
    mapped_all f g P Q xs each (λ j e l. all (suc j) e (omega (arith, l))) k d
    (omega (arith, less))

-- nodes other than those of fission have rates by `work`

push_by_work : (found : Option NodeCode) (port : ℕ)
    → ((code : NodeCode) → found ≡ Some code → fires_by_rounds code ≡ false)
    → option_map_or (λ node. pushes_by_work node port) found 0
    ≡ option_map_or (λ node. pushes_at node 1 port) found 0
push_by_work None port each = refl
push_by_work (Some code) port each =
    ap (λ rounds. cond rounds 0 (pushes_at code 1 port)) (each code refl)

pop_by_work : (found : Option NodeCode) (port : ℕ)
    → ((code : NodeCode) → found ≡ Some code → fires_by_rounds code ≡ false)
    → option_map_or (λ node. pops_by_work node port) found 0
    ≡ option_map_or (λ node. pops_at node 1 port) found 0
pop_by_work None port each = refl
pop_by_work (Some code) port each =
    ap (λ rounds. cond rounds 0 (pops_at code 1 port)) (each code refl)

-- a node that has a count has an entry
counted_within : (counts : List ℕ) (node : ℕ) → 0 < count_at counts node → node < length counts
counted_within counts node some =
    elim (cases_lt node (length counts)) [
      | inl within ↦ within
      | inr past ↦ absurd (omega (arith, some, get_or_past counts node 0 past))
    ]

module _ (graph : Graph) (schedule : ScheduleParts) (planned : IsPlanned graph schedule) where
  abbrev pub at_startup : Firings
  at_startup = count_at planned.startup

  abbrev pub in_round : Firings
  in_round = count_at planned.round

  pub past_prework : All (IsPastPrework at_startup) (rates_of graph)
  past_prework = all_past_prework graph planned.startup planned.rated planned.least_startup.primed

  pub balances : All (RoundBalances in_round) (rates_of graph)
  balances =
      mapped_all (equation_of graph.nodes) (rates_of_channel graph.nodes)
      (IsBalanced planned.round) (RoundBalances in_round) graph.channels
      (λ channel even.
      ap (λ rate. rate * in_round channel.source.node)
      (sym (push_by_work (slice_get graph.nodes channel.source.node) channel.source.port
      (planned.unfissioned channel.source.node)))
      ∙ even
      ∙ ap (λ rate. rate * in_round channel.target.node)
      (pop_by_work (slice_get graph.nodes channel.target.node) channel.target.port
      (planned.unfissioned channel.target.node)))
      planned.least_round.balances.balanced

  pub startup_finds : IsOrder (rates_of graph) none_fired (startup_order schedule)
  startup_finds = planned.schedule.startup_order.order

  pub round_finds : (q : ℕ) → IsOrder (rates_of graph) (rounds_on at_startup q in_round)
      (round_order schedule)
  round_finds q =
      order_repeats (rates_of graph) at_startup in_round q (round_order schedule) past_prework
      balances planned.schedule.round_order.order

  pub startup_nodes : AreNodes graph (startup_order schedule)
  startup_nodes node some =
      let within = counted_within planned.startup node
      (omega (arith, some, planned.schedule.startup_order.all node)) in
      omega (
        arith,
        within,
        planned.least_startup.primed.each,
        length-map graph.nodes first_count,
      )

  pub round_nodes : AreNodes graph (round_order schedule)
  round_nodes node some =
      let within = counted_within planned.round node
      (omega (arith, some, planned.schedule.round_order.all node)) in
      omega (arith, within, planned.least_round.balances.each)

  -- how often the nodes have fired after so many rounds
  pub counts_are : (q : ℕ) → counts_at schedule q ≡ rounds_on at_startup q in_round
  unfolding orders.counts_after
  counts_are q = fun_ext (λ node.
      ap (λ (n : ℕ). n + q * firing_count (round_order schedule) node)
      (planned.schedule.startup_order.all node)
      ∙ ap (λ (n : ℕ). at_startup node + q * n) (planned.schedule.round_order.all node))

  module _ (tree : Stream NodeCode) (input : List ℤ) (rounds : ℕ) (program : IsProgram tree graph)
      (supplied : items_read graph.nodes (counts_at schedule rounds) ≤ length input) where
    pub all_supplied : IsSupplied graph input (rounds_on at_startup rounds in_round)
    all_supplied node text reads =
        let firings = reader_reads graph.nodes node (counts_at schedule rounds) text
        program.one_input
        reads in
        let same = ap (λ (counts : Firings). counts node) (counts_are rounds) in
        omega (arith, supplied, firings, same)

    abbrev IsGenericOrder : Firings → List ℕ → Type 0
    IsGenericOrder = orders.IsOrder node_meaning (flat tree) input

    generic_startup : IsGenericOrder (λ node. 0) (startup_order schedule)
    generic_startup =
        generic_order tree graph input program planned.unfissioned none_fired
        (startup_order schedule) startup_finds startup_nodes
        (λ node text reads. omega (
          arith,
          all_supplied node text reads,
          planned.schedule.startup_order.all node,
        ))

    generic_round : (q : ℕ) → q < rounds
        → IsGenericOrder (rounds_on at_startup q in_round) (round_order schedule)
    generic_round q less =
        generic_order tree graph input program planned.unfissioned
        (rounds_on at_startup q in_round) (round_order schedule) (round_finds q) round_nodes
        (λ node text reads.
        let more : suc q * in_round node ≤ rounds * in_round node =
        mul-le-mul_right (in_round node) (omega (arith, less)) in
        omega (arith, all_supplied node text reads, planned.schedule.round_order.all node, more))

    pub orders_find : orders.IsSchedule node_meaning (flat tree) input
        (firing_count (startup_order schedule)) (firing_count (round_order schedule))
        (startup_order schedule)
        (round_order schedule) rounds
    orders_find = record {
      startup_counts = firing_count_is (startup_order schedule);
      round_counts = firing_count_is (round_order schedule);
      startup_finds = generic_startup;
      round_finds = λ q less. subst (λ (counts : Firings). IsGenericOrder counts
          (round_order schedule)) (sym (counts_are q)) (generic_round q less);
    }
