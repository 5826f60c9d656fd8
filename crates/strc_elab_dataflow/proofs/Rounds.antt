-- An order that is valid in one round is valid in every later one, where rates repeat by rounds.
use Rattle.std.proofs.Common.{◌≡◌, refl, sym, ap, ◌∙◌, subst, ℕ, zero, suc, ◌+◌, ◌-◌, ◌*◌, ◌<◌, ◌≤◌}
use Rattle.std.proofs.Common.{List, [], ◌∷◌, length, ℤ, arith}
use Rattle.std.proofs.Common.{mul-le-mul_right}
use mathlib.Core.Path.{fun_ext}
use Rattle.strc_elab_dataflow.specs.Node.{Meaning, total}
use Rattle.strc_elab_dataflow.specs.Flat.{Origin, Origin.Nowhere, Origin.Input, Origin.Port, Graph}
use Rattle.strc_elab_dataflow.specs.Order.{raised, counted, firing_count, counts_after, supply_of}
use Rattle.strc_elab_dataflow.specs.Order.{supply, IsOrder, IsSchedule}
use Rattle.strc_elab_dataflow.proofs.Invariant.{counted_grows, raised_here, later, raised_later}
use Rattle.strc_elab_dataflow.proofs.WholeRun.{counted-firing_count}
use Rattle.strc_elab_dataflow.specs.RestartRounds.{total_from, IsOutside, RepeatsByRounds}
use Rattle.strc_elab_dataflow.specs.RestartRounds.{IsBalancedByRounds}
use Rattle.strc_elab_dataflow.specs.RestartRounds.{IsSuppliedByRounds, RoundsAreOrders}

total_splits : (rate : ℕ → ℕ → ℕ) (port first more : ℕ)
    → total rate (first + more) port ≡ total rate first port + total_from rate first more port
unfolding total total_from
total_splits rate port first zero = let e : first + 0 ≡ first = omega arith in
    ap (λ (m : ℕ). total rate m port) e
    ∙ (let f : total rate first port ≡ total rate first port + 0 = omega arith in f)
total_splits rate port first (suc more) =
    let e : first + suc more ≡ suc (first + more) = omega arith in
    ap (λ (m : ℕ). total rate m port) e
    ∙ (let f : total rate (first + more) port + rate (first + more) port
    ≡ total rate first port
    + (total (λ i. rate (first + i)) more port + rate (first + more) port)
    = omega (arith, total_splits rate port first more) in f)

total_later : (rate : ℕ → ℕ → ℕ) (port from round : ℕ)
    → ((firing : ℕ) → from ≤ firing → rate (firing + round) port ≡ rate firing port)
    → (more : ℕ) → total rate ((from + more) + round) port
    ≡ total rate (from + more) port + total_from rate from round port
unfolding total
total_later rate port from round repeats zero =
    let e : (from + 0) + round ≡ from + round = omega arith in
    let f : from ≡ from + 0 = omega arith in
    ap (λ (m : ℕ). total rate m port) e ∙ total_splits rate port from round
    ∙ ap (λ (m : ℕ). total rate m port + total_from rate from round port) f
total_later rate port from round repeats (suc more) =
    let e : (from + suc more) + round ≡ suc ((from + more) + round) = omega arith in
    let f : suc (from + more) ≡ from + suc more = omega arith in
    ap (λ (m : ℕ). total rate m port) e
    ∙ (let g : total rate ((from + more) + round) port + rate ((from + more) + round) port
    ≡ (total rate (from + more) port + rate (from + more) port)
    + total_from rate from round port
    = omega (
      arith,
      total_later rate port from round repeats more,
      repeats (from + more) (omega arith),
    ) in g)
    ∙ ap (λ (m : ℕ). total rate m port + total_from rate from round port) f

-- The total of a rate that repeats by rounds, one round later.
total_repeats : (rate : ℕ → ℕ → ℕ) (port from round : ℕ)
    → ((firing : ℕ) → from ≤ firing → rate (firing + round) port ≡ rate firing port)
    → (n : ℕ) → from ≤ n
    → total rate (n + round) port ≡ total rate n port + total_from rate from round port
total_repeats rate port from round repeats n after =
    let e : from + (n - from) ≡ n = omega arith in
    subst (λ (m : ℕ). total rate (m + round) port
    ≡ total rate m port + total_from rate from round port) e
    (total_later rate port from round repeats (n - from))

module _ {Code State Cause Word : Type 0} (meaning : Meaning Code State Cause Word)
    (graph : Graph Code) (input : List ℤ) (from round last : ℕ → ℕ)
    (repeats : RepeatsByRounds meaning graph from round)
    (balanced : IsBalancedByRounds meaning graph from round)
    (supplied : IsSuppliedByRounds meaning graph input from last) where
  pops_in_round : ℕ → ℕ → ℕ
  pops_in_round node port =
      total_from (meaning.popped (graph.code node)) (from node) (round node) port

  pushes_in_round : ℕ → ℕ → ℕ
  pushes_in_round node port =
      total_from (meaning.pushed (graph.code node)) (from node) (round node) port

  pops_later : (counts : ℕ → ℕ) → ((node : ℕ) → from node ≤ counts node) → (node port : ℕ)
      → total (meaning.popped (graph.code node)) (later counts round node) port
      ≡ total (meaning.popped (graph.code node)) (counts node) port + pops_in_round node port
  unfolding pops_in_round
  pops_later counts after node port = total_repeats (meaning.popped (graph.code node)) port
      (from node) (round node) (λ i h. repeats.pops_repeat node i port h) (counts node) (after node)

  pushes_later : (counts : ℕ → ℕ) → ((node : ℕ) → from node ≤ counts node) → (node port : ℕ)
      → total (meaning.pushed (graph.code node)) (later counts round node) port
      ≡ total (meaning.pushed (graph.code node)) (counts node) port + pushes_in_round node port
  unfolding pushes_in_round
  pushes_later counts after node port = total_repeats (meaning.pushed (graph.code node)) port
      (from node) (round node) (λ i h. repeats.pushes_repeat node i port h) (counts node)
      (after node)

  round_balanced : (node port u q : ℕ) → port < meaning.ports (graph.code node)
      → (graph.source node port).origin ≡ Port u q
      → pops_in_round node port ≡ pushes_in_round u q
  unfolding pops_in_round pushes_in_round
  round_balanced = λ node port u q. balanced node port u q

  supplied_at : (counts : ℕ → ℕ) → ((node : ℕ) → from node ≤ counts node) → (node port : ℕ)
      → port < meaning.ports (graph.code node) → later counts round node < last node
      → (origin : Origin) → (graph.source node port).origin ≡ origin → IsOutside origin
      → total (meaning.popped (graph.code node)) (later counts round node) port
      + meaning.window (graph.code node) (later counts round node) port
      ≤ length (graph.source node port).enqueued + supply_of meaning graph input from origin
  unfolding supply
  supplied_at counts after node port lt before origin e outside =
      let s : total (meaning.popped (graph.code node)) (later counts round node) port
      + meaning.window (graph.code node) (later counts round node) port
      ≤ length (graph.source node port).enqueued
      + supply_of meaning graph input from (graph.source node port).origin
      = supplied node port (later counts round node) lt (subst IsOutside (sym e) outside)
      (omega (arith, after node)) before in
      subst (λ (o : Origin). total (meaning.popped (graph.code node)) (later counts round node) port
      + meaning.window (graph.code node) (later counts round node) port
      ≤ length (graph.source node port).enqueued + supply_of meaning graph input from o) e s

  by_origin :
      (counts : ℕ → ℕ) → ((node : ℕ) → from node ≤ counts node) → (node port : ℕ)
      → port < meaning.ports (graph.code node) → later counts round node < last node
      → (origin : Origin) → (graph.source node port).origin ≡ origin
      → total (meaning.popped (graph.code node)) (counts node) port
      + meaning.window (graph.code node) (counts node) port
      ≤ length (graph.source node port).enqueued + supply_of meaning graph input counts origin
      → total (meaning.popped (graph.code node)) (later counts round node) port
      + meaning.window (graph.code node) (later counts round node) port
      ≤ length (graph.source node port).enqueued
      + supply_of meaning graph input (later counts round) origin
  unfolding supply_of
  by_origin counts after node port lt before Input e ready =
      supplied_at counts after node port lt before Input e tt
  by_origin counts after node port lt before Nowhere e ready =
      supplied_at counts after node port lt before Nowhere e tt
  by_origin counts after node port lt before (Port u q) e ready =
      omega (
        arith,
        ready,
        round_balanced node port u q lt e,
        pops_later counts after node port,
        pushes_later counts after u q,
        repeats.windows_repeat node (counts node) port (after node),
      )

  -- One round later every firing finds its windows again.
  order_again : (order : List ℕ) (counts : ℕ → ℕ) → ((node : ℕ) → from node ≤ counts node)
      → ((node : ℕ) → counted (later counts round) order node ≤ last node)
      → IsOrder meaning graph input counts order
      → IsOrder meaning graph input (later counts round) order
  unfolding counted supply
  order_again [] counts after less valid = tt
  order_again (node ∷ order) counts after less valid = (
    λ port lt. by_origin counts after node port lt here (graph.source node port).origin refl
        (valid.0 port lt),
    subst (λ (c : ℕ → ℕ). IsOrder meaning graph input c order)
        (sym (raised_later counts round node))
        (order_again order (raised counts node)
        (λ v. omega (arith, after v, counted_grows (node ∷ []) counts v))
        (λ v. subst (λ (c : ℕ → ℕ). counted c order v ≤ last v) (raised_later counts round node)
        (less v)) valid.1),
  )
    where
      here : later counts round node < last node
      here = omega (
        arith,
        less node,
        counted_grows order (raised (later counts round) node) node,
        raised_here (later counts round) node,
      )

module _ {Code State Cause Word : Type 0} (meaning : Meaning Code State Cause Word)
    (graph : Graph Code) (input : List ℤ) (from round : ℕ → ℕ) (round_order : List ℕ) (k : ℕ)
    (firing_counts : (node : ℕ) → firing_count round_order node ≡ round node)
    (repeats : RepeatsByRounds meaning graph from round)
    (balanced : IsBalancedByRounds meaning graph from round)
    (supplied : IsSuppliedByRounds meaning graph input from (counts_after from round k))
    (once : IsOrder meaning graph input from round_order) where
  at_first : counts_after from round 0 ≡ from
  unfolding counts_after
  at_first = fun_ext (λ v. omega arith)

  each_round : (q : ℕ) → q < k → IsOrder meaning graph input
      (counts_after from round q) round_order
  unfolding counts_after
  each_round zero less = subst (λ (c : ℕ → ℕ). IsOrder meaning graph input c round_order)
      (sym at_first) once
  each_round (suc q) less =
      subst (λ (c : ℕ → ℕ). IsOrder meaning graph input c round_order) (fun_ext next)
      (order_again meaning graph input from round (counts_after from round k) repeats balanced
      supplied round_order (counts_after from round q)
      (λ v. omega arith)
      (λ v. omega (
        arith,
        counted-firing_count round_order (later (counts_after from round q) round) v,
        firing_counts v,
        mul-le-mul_right (round v) less,
      ))
      (each_round q (omega arith)))
    where
      next : (v : ℕ) → (from v + q * round v) + round v ≡ from v + suc q * round v
      next v = omega arith

  as_schedule : ((node : ℕ) → from node ≡ 0)
      → IsSchedule meaning graph input (λ node. 0) round [] round_order k
  unfolding firing_count
  as_schedule none = record {
    startup_counts = λ node. refl;
    round_counts = firing_counts;
    startup_finds = tt;
    round_finds = λ q less. subst
        (λ (c : ℕ → ℕ). IsOrder meaning graph input (counts_after c round q) round_order)
        (fun_ext none) (each_round q less);
  }

  pub valid_again : ((q : ℕ) → q < k → IsOrder meaning graph input
      (counts_after from round q) round_order)
      × (((node : ℕ) → from node ≡ 0)
      → IsSchedule meaning graph input (λ node. 0) round [] round_order k)
  valid_again = (each_round, as_schedule)

pub rounds_are_orders : {Code State Cause Word : Type 0} → RoundsAreOrders Code State Cause Word
rounds_are_orders meaning graph input counts round round_order k firing_counts repeats balanced
    supplied once =
    valid_again meaning graph input counts round round_order k firing_counts repeats balanced
    supplied once
