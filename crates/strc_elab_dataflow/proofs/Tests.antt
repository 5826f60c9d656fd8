-- Tests that compute, for orders and counts that are written out.
use Rattle.std.proofs.Common.{◌≡◌, refl, sym, ap, ◌∙◌, ℕ, suc, ◌+◌, ◌<◌, ◌≤◌, Bool, true, cond}
use Rattle.std.proofs.Common.{◌&&◌, eqb, leb, ltb, List, [], ◌∷◌, length, get_or, ℤ, arith}
use Rattle.std.proofs.Common.{leb-true, ltb-true, eqb-true}
use mathlib.Core.Logic.{inl, inr}
use Rattle.std.proofs.Math.ListN.{get_or-eq_default}
use Rattle.std.proofs.lemmas.Bool.{and_parts, cases_lt, ne_eqb}
use Rattle.strc_elab_dataflow.specs.Node.{Meaning, total}
use Rattle.strc_elab_dataflow.specs.Histories.{all_below}
use Rattle.strc_elab_dataflow.specs.Flat.{Graph}
use Rattle.strc_elab_dataflow.specs.Order.{raised, firing_count, counts_after, supply, IsOrder}
use Rattle.strc_elab_dataflow.specs.Order.{IsSchedule}
use Rattle.strc_elab_dataflow.proofs.Runs.{each_below}

module _ {Code State Cause Word : Type 0} (meaning : Meaning Code State Cause Word)
    (graph : Graph Code) (input : List ℤ) where
  -- Does the next firing of a node find its windows, by counts?
  unfoldable pub ready_test : (ℕ → ℕ) → ℕ → Bool
  ready_test counts node =
      all_below (meaning.ports (graph.code node)) (λ port.
      leb (total (meaning.popped (graph.code node)) (counts node) port
      + meaning.window (graph.code node) (counts node) port)
      (supply meaning graph input counts (graph.source node port)))

  -- Does each firing of an order?
  unfoldable pub order_test : (ℕ → ℕ) → List ℕ → Bool
  order_test counts [] = true
  order_test counts (node ∷ order) = ready_test counts node && order_test (raised counts node) order

  pub order_from_test : (order : List ℕ) (counts : ℕ → ℕ) → order_test counts order ≡ true
      → IsOrder meaning graph input counts order
  unfolding order_test ready_test
  order_from_test [] counts h = tt
  order_from_test (node ∷ order) counts h =
      let parts = and_parts (ready_test counts node) (order_test (raised counts node) order) h in (
        λ port less.
            leb-true (total (meaning.popped (graph.code node)) (counts node) port
            + meaning.window (graph.code node) (counts node) port)
            (supply meaning graph input counts (graph.source node port))
            (each_below (meaning.ports (graph.code node))
            (λ p. leb (total (meaning.popped (graph.code node)) (counts node) p
            + meaning.window (graph.code node) (counts node) p)
            (supply meaning graph input counts (graph.source node p))) parts.0 port less),
        order_from_test order (raised counts node) parts.1,
      )

-- Is each node of an order below n?
unfoldable pub within_test : ℕ → List ℕ → Bool
within_test n [] = true
within_test n (node ∷ order) = ltb node n && within_test n order

-- Are these the counts of an order?
unfoldable pub firing_count_test : List ℕ → List ℕ → Bool
firing_count_test order counts = within_test (length counts) order
    && all_below (length counts) (λ node. eqb (firing_count order node) (get_or counts node 0))

firing_count_past : (n : ℕ) (order : List ℕ) (v : ℕ) → within_test n order ≡ true → n ≤ v
    → firing_count order v ≡ 0
unfolding within_test firing_count raised
firing_count_past n [] v h more = refl
firing_count_past n (node ∷ order) v h more =
    let parts = and_parts (ltb node n) (within_test n order) h in
    let less : node < n = ltb-true node n parts.0 in
    ap (λ (t : Bool). cond t (suc (firing_count order v)) (firing_count order v))
    (ne_eqb v node (λ e. omega arith)) ∙ firing_count_past n order v parts.1 more

pub firing_count_from_test : (order counts : List ℕ) → firing_count_test order counts ≡ true
    → (v : ℕ)
    → firing_count order v ≡ get_or counts v 0
unfolding firing_count_test
firing_count_from_test order counts h v =
    let parts = and_parts (within_test (length counts) order)
    (all_below (length counts) (λ node. eqb (firing_count order node) (get_or counts node 0))) h in
    elim (cases_lt v (length counts)) [
      | inl less ↦ eqb-true (firing_count order v) (get_or counts v 0)
          (each_below (length counts) (λ node. eqb (firing_count order node) (get_or counts node 0))
          parts.1 v less)
      | inr more ↦ firing_count_past (length counts) order v parts.0 more
          ∙ sym (get_or-eq_default counts 0 more)
    ]

module _ {Code State Cause Word : Type 0} (meaning : Meaning Code State Cause Word)
    (graph : Graph Code) (input : List ℤ) (startup round startup_order round_order : List ℕ) (k : ℕ)
  where
    -- Is this a schedule of start-up and k rounds?
    unfoldable pub schedule_test : Bool
    schedule_test =
        firing_count_test startup_order startup
        && (firing_count_test round_order round
        && (order_test meaning graph input (λ node. 0) startup_order
        && all_below k (λ q. order_test meaning graph input
        (counts_after (λ node. get_or startup node 0) (λ node. get_or round node 0) q)
        round_order)))

    pub schedule_from_test : schedule_test ≡ true
        → IsSchedule meaning graph input (λ node. get_or startup node 0)
        (λ node. get_or round node 0) startup_order round_order k
    unfolding schedule_test
    schedule_from_test h =
        let rounds : Bool = all_below k (λ q. order_test meaning graph input
        (counts_after (λ node. get_or startup node 0) (λ node. get_or round node 0) q)
        round_order) in
        let a = and_parts (firing_count_test startup_order startup)
        (firing_count_test round_order round
        && (order_test meaning graph input (λ node. 0) startup_order && rounds)) h in
        let b = and_parts (firing_count_test round_order round)
        (order_test meaning graph input (λ node. 0) startup_order && rounds) a.1 in
        let c = and_parts (order_test meaning graph input (λ node. 0) startup_order) rounds b.1 in
        record {
          startup_counts = firing_count_from_test startup_order startup a.0;
          round_counts = firing_count_from_test round_order round b.0;
          startup_finds = order_from_test meaning graph input startup_order (λ node. 0) c.0;
          round_finds = λ q less. order_from_test meaning graph input round_order
              (counts_after (λ node. get_or startup node 0) (λ node. get_or round node 0) q)
              (each_below k (λ j. order_test meaning graph input
              (counts_after (λ node. get_or startup node 0) (λ node. get_or round node 0) j)
              round_order) c.1 q less);
        }
