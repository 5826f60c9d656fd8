-- An order that is valid in one round is valid in every later round, where rates repeat and the
-- channels balance.
use Rattle.std.proofs.Common.{◌≡◌, refl, sym, ap, ◌∙◌, subst, ℕ, zero, suc, ◌+◌, ◌*◌, ◌<◌, ◌≤◌}
use Rattle.std.proofs.Common.{List, [], ◌∷◌, length, ℤ, arith}
use Rattle.std.proofs.Common.{mul-le-mul_right}
use mathlib.Core.Path.{fun_ext}
use Rattle.strc_elab_dataflow.specs.Node.{Meaning, total}
use Rattle.strc_elab_dataflow.specs.Flat.{Origin, Origin.Nowhere, Origin.Input, Origin.Port, Graph}
use Rattle.strc_elab_dataflow.specs.Order.{raised, counted, firing_count, counts_after, supply_of}
use Rattle.strc_elab_dataflow.specs.Order.{supply}
use Rattle.strc_elab_dataflow.specs.Order.{IsOrder}
use Rattle.strc_elab_dataflow.specs.Rounds.{RepeatsRates, gives_in_round, IsBalanced, IsSupplied}
use Rattle.strc_elab_dataflow.proofs.Invariant.{counted_grows, raised_here, later, raised_later}
use Rattle.strc_elab_dataflow.proofs.WholeRun.{counted-firing_count}

-- The total of a rate that repeats.
pub total_repeats : (rate : ℕ → ℕ → ℕ) (port from : ℕ)
    → ((firing : ℕ) → from ≤ firing → rate firing port ≡ rate from port) → (n : ℕ) → from ≤ n
    → (more : ℕ) → total rate (n + more) port ≡ total rate n port + more * rate from port
unfolding total
total_repeats rate port from repeats n h zero =
    ap (λ (m : ℕ). total rate m port) (let e : n + 0 ≡ n = omega arith in e)
    ∙ (let e : total rate n port ≡ total rate n port + 0 * rate from port = omega arith in e)
total_repeats rate port from repeats n h (suc more) =
    let e : n + suc more ≡ suc (n + more) = omega arith in
    ap (λ (m : ℕ). total rate m port) e ∙ (let f : total rate (n + more) port + rate (n + more) port
    ≡ total rate n port + suc more * rate from port =
    omega (
      arith,
      total_repeats rate port from repeats n h more,
      repeats (n + more) (omega arith),
    ) in f)

module _ {Code State Cause Word : Type 0} (meaning : Meaning Code State Cause Word)
    (graph : Graph Code) (input : List ℤ) (from round last : ℕ → ℕ)
    (repeats : RepeatsRates meaning graph from) (balanced : IsBalanced meaning graph from round)
    (supplied : IsSupplied meaning graph input last) where
  pops_later : (counts : ℕ → ℕ) → ((node : ℕ) → from node ≤ counts node) → (node port : ℕ)
      → total (meaning.popped (graph.code node)) (later counts round node) port
      ≡ total (meaning.popped (graph.code node)) (counts node) port + round node
      * meaning.popped (graph.code node) (from node) port
  pops_later counts after node port = total_repeats (meaning.popped (graph.code node)) port
      (from node) (λ i h. repeats.pops_repeat node i port h) (counts node) (after node) (round node)

  pushes_later : (counts : ℕ → ℕ) → ((node : ℕ) → from node ≤ counts node) → (node port : ℕ)
      → total (meaning.pushed (graph.code node)) (later counts round node) port
      ≡ total (meaning.pushed (graph.code node)) (counts node) port + round node
      * meaning.pushed (graph.code node) (from node) port
  pushes_later counts after node port = total_repeats (meaning.pushed (graph.code node)) port
      (from node) (λ i h. repeats.pushes_repeat node i port h) (counts node) (after node)
      (round node)

  window_later : (counts : ℕ → ℕ) → ((node : ℕ) → from node ≤ counts node) → (node port : ℕ)
      → meaning.window (graph.code node) (later counts round node) port
      ≡ meaning.window (graph.code node) (counts node) port
  window_later counts after node port = repeats.windows_repeat node (later counts round node) port
      (omega (arith, after node)) ∙ sym (repeats.windows_repeat node (counts node) port
      (after node))

  balance_at : (node port : ℕ) → port < meaning.ports (graph.code node) → (origin : Origin)
      → (graph.source node port).origin ≡ origin → (origin ≡ Input → ⊥)
      → round node * meaning.popped (graph.code node) (from node) port
      ≡ gives_in_round meaning graph from round origin
  balance_at node port lt origin e ne = balanced node port lt (λ h. ne (sym e ∙ h))
      ∙ ap (gives_in_round meaning graph from round) e

  by_origin :
      (counts : ℕ → ℕ) → ((node : ℕ) → from node ≤ counts node) → (node port : ℕ)
      → port < meaning.ports (graph.code node) → later counts round node < last node
      → (origin : Origin) → (graph.source node port).origin ≡ origin
      → total (meaning.popped (graph.code node)) (counts node) port
      + meaning.window (graph.code node) (counts node) port
      ≤ length (graph.source node port).enqueued + supply_of meaning graph input counts origin
      → total (meaning.popped (graph.code node)) (later counts round node) port
      + meaning.window (graph.code node) (later counts round node) port
      ≤ length (graph.source node port).enqueued
      + supply_of meaning graph input (later counts round) origin
  unfolding supply_of gives_in_round
  by_origin counts after node port lt before Input e ready =
      supplied node port (later counts round node) lt e before
  by_origin counts after node port lt before Nowhere e ready =
      let b : round node * meaning.popped (graph.code node) (from node) port ≡ 0 =
      balance_at node port lt Nowhere e (λ h. grind arith) in
      omega (
        arith,
        ready,
        b,
        pops_later counts after node port,
        window_later counts after node port,
      )
  by_origin counts after node port lt before (Port u q) e ready =
      let b : round node * meaning.popped (graph.code node) (from node) port ≡ round u
      * meaning.pushed (graph.code u) (from u) q =
      balance_at node port lt (Port u q) e (λ h. grind arith) in
      omega (
        arith,
        ready,
        b,
        pops_later counts after node port,
        pushes_later counts after u q,
        window_later counts after node port,
      )

  -- One round later every firing finds its windows again.
  pub order_again : (order : List ℕ) (counts : ℕ → ℕ) → ((node : ℕ) → from node ≤ counts node)
      → ((node : ℕ) → counted (later counts round) order node ≤ last node)
      → IsOrder meaning graph input counts order
      → IsOrder meaning graph input (later counts round) order
  unfolding counted supply
  order_again [] counts after less valid = tt
  order_again (node ∷ order) counts after less valid = (
    λ port lt. by_origin counts after node port lt here (graph.source node port).origin refl
        (valid.0 port lt),
    subst (λ (c : ℕ → ℕ). IsOrder meaning graph input c order)
        (sym (raised_later counts round node))
        (order_again order (raised counts node)
        (λ v. omega (arith, after v, counted_grows (node ∷ []) counts v))
        (λ v. subst (λ (c : ℕ → ℕ). counted c order v ≤ last v) (raised_later counts round node)
        (less v)) valid.1),
  )
    where
      here : later counts round node < last node
      here = omega (
        arith,
        less node,
        counted_grows order (raised (later counts round) node) node,
        raised_here (later counts round) node,
      )

module _ {Code State Cause Word : Type 0} (meaning : Meaning Code State Cause Word)
    (graph : Graph Code) (input : List ℤ) (startup round : ℕ → ℕ) (round_order : List ℕ) (k : ℕ)
    (firing_counts : (node : ℕ) → firing_count round_order node ≡ round node)
    (repeats : RepeatsRates meaning graph startup)
    (balanced : IsBalanced meaning graph startup round)
    (supplied : IsSupplied meaning graph input (counts_after startup round k))
    (once : IsOrder meaning graph input (counts_after startup round 0) round_order) where
  -- An order that is valid in the first round is valid in each of k rounds.
  pub each_round : (q : ℕ) → q < k → IsOrder meaning graph input
      (counts_after startup round q) round_order
  unfolding counts_after
  each_round zero less = once
  each_round (suc q) less =
      subst (λ (c : ℕ → ℕ). IsOrder meaning graph input c round_order) (fun_ext next)
      (order_again meaning graph input startup round
      (counts_after startup round k) repeats balanced supplied round_order
      (counts_after startup round q)
      (λ v. omega arith)
      (λ v. omega (
        arith,
        counted-firing_count round_order (later (counts_after startup round q) round) v,
        firing_counts v,
        mul-le-mul_right (round v) less,
      ))
      (each_round q (omega arith)))
    where
      next : (v : ℕ) → (startup v + q * round v) + round v ≡ startup v + suc q * round v
      next v = omega arith
