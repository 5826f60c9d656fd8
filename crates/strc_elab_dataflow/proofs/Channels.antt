-- An order is valid by counts where it passes the channel of each input port.
use Rattle.std.proofs.Common.{◌≡◌, refl, sym, ap, ◌∙◌, subst, ℕ, suc, ◌+◌, ◌*◌, ◌<◌, ◌≤◌}
use Rattle.std.proofs.Common.{Bool, true, false, cond, eqb, ℤ, List, [], ◌∷◌, arith}
use Rattle.std.proofs.Common.{eqb-true}
use Rattle.std.proofs.lemmas.Bool.{eq-eqb}
use Rattle.strc_elab_dataflow.specs.Node.{Meaning, total}
use Rattle.strc_elab_dataflow.specs.Flat.{Origin, Origin.Nowhere, Origin.Input, Origin.Port, Graph}
use Rattle.strc_elab_dataflow.specs.Order.{raised, firing_count, supply_of, supply, IsReady}
use Rattle.strc_elab_dataflow.specs.Order.{IsOrder}
use Rattle.strc_elab_dataflow.specs.Rounds.{RepeatsRates}
use Rattle.strc_elab_dataflow.specs.Fused.{GivesNothing, given_by}
use Rattle.strc_elab_dataflow.proofs.Diamond.{apart_other}
use Rattle.strc_elab_dataflow.proofs.Links.{Link, takes, sum_of, sum_takes, Passes, easier}

same_other : (u v : ℕ) → eqb u v ≡ true → eqb v u ≡ true
same_other u v e = eq-eqb v u (sym (eqb-true u v e))

sum_none : (nodes : List ℕ) → sum_of (λ v. 0) nodes ≡ 0
unfolding sum_of
sum_none [] = refl
sum_none (node ∷ nodes) = omega (arith, sum_none nodes)

sum_tests : (s push : ℕ) (nodes : List ℕ)
    → sum_of (λ v. cond (eqb v s) push 0) nodes ≡ firing_count nodes s * push
unfolding takes
sum_tests s push nodes =
    sum_takes (record { target = s; pop = push; window = 0; gives = λ v. 0 }) nodes

module _ {Code State Cause Word : Type 0} (meaning : Meaning Code State Cause Word)
    (graph : Graph Code) (from : ℕ → ℕ) where
  none_given : (nodes : List ℕ) (origin : Origin) → GivesNothing nodes origin
      → given_by meaning graph from nodes origin ≡ 0
  unfolding given_by
  none_given nodes Nowhere none = refl
  none_given nodes Input none = refl
  none_given nodes (Port s q) none = omega (
    arith,
    ap (λ (k : ℕ). k * meaning.pushed (graph.code s) (from s) q) none,
  )

module _ {Code State Cause Word : Type 0} (meaning : Meaning Code State Cause Word)
    (graph : Graph Code) (input : List ℤ) (from : ℕ → ℕ)
    (repeats : RepeatsRates meaning graph from) where
  -- What a firing of a node gives to an origin's channels.
  unfoldable pub gives_to : Origin → ℕ → ℕ
  gives_to Nowhere node = 0
  gives_to Input node = 0
  gives_to (Port source port) node =
      cond (eqb node source) (meaning.pushed (graph.code source) (from source) port) 0

  abbrev pub channel : ℕ → ℕ → Link
  channel node port = record {
    target = node;
    pop = meaning.popped (graph.code node) (from node) port;
    window = meaning.window (graph.code node) (from node) port;
    gives = gives_to (graph.source node port).origin;
  }

  abbrev pub IsPast : (ℕ → ℕ) → Type 0
  IsPast counts = (v : ℕ) → from v ≤ counts v

  past_next : (counts : ℕ → ℕ) (node : ℕ) → IsPast counts → IsPast (raised counts node)
  unfolding raised
  past_next counts node past v = by_test (past v) (eqb v node)
    where
      by_test : from v ≤ counts v → (t : Bool)
          → from v ≤ cond t (suc (counts v)) (counts v)
      by_test less true = omega arith
      by_test less false = less

  total_next : (counts : ℕ → ℕ) (node u port : ℕ) → IsPast counts
      → total (meaning.popped (graph.code u)) (raised counts node u) port
      ≡ total (meaning.popped (graph.code u)) (counts u) port + takes (channel u port) node
  unfolding raised total takes
  total_next counts node u port past = by_test (eqb u node) refl
    where
      by_test : (t : Bool) → eqb u node ≡ t
          → total (meaning.popped (graph.code u)) (cond t (suc (counts u)) (counts u)) port
          ≡ total (meaning.popped (graph.code u)) (counts u) port
          + cond (eqb node u) (meaning.popped (graph.code u) (from u) port) 0
      by_test true e = omega (
        arith,
        repeats.pops_repeat u (counts u) port (past u),
        ap (λ (t : Bool). cond t (meaning.popped (graph.code u) (from u) port) 0)
            (same_other u node e),
      )
      by_test false e = omega (
        arith,
        ap (λ (t : Bool). cond t (meaning.popped (graph.code u) (from u) port) 0)
            (apart_other u node e),
      )

  supply_next : (counts : ℕ → ℕ) (node : ℕ) (origin : Origin) → IsPast counts
      → supply_of meaning graph input (raised counts node) origin
      ≡ supply_of meaning graph input counts origin + gives_to origin node
  unfolding supply_of gives_to raised total
  supply_next counts node Nowhere past = omega arith
  supply_next counts node Input past = omega arith
  supply_next counts node (Port s q) past = by_test (eqb s node) refl
    where
      by_test : (t : Bool) → eqb s node ≡ t
          → total (meaning.pushed (graph.code s)) (cond t (suc (counts s)) (counts s)) q
          ≡ total (meaning.pushed (graph.code s)) (counts s) q
          + cond (eqb node s) (meaning.pushed (graph.code s) (from s) q) 0
      by_test true e = omega (
        arith,
        repeats.pushes_repeat s (counts s) q (past s),
        ap (λ (t : Bool). cond t (meaning.pushed (graph.code s) (from s) q) 0)
            (same_other s node e),
      )
      by_test false e = omega (
        arith,
        ap (λ (t : Bool). cond t (meaning.pushed (graph.code s) (from s) q) 0)
            (apart_other s node e),
      )

  -- What is known of a channel where an order begins.
  abbrev pub PassesAt : (counts : ℕ → ℕ) (node port : ℕ) → List ℕ → Type 0
  PassesAt counts node port = Passes (channel node port)
      (supply meaning graph input counts (graph.source node port))
      (total (meaning.popped (graph.code node)) (counts node) port)

  pub each_passes : (order : List ℕ) (counts : ℕ → ℕ) → IsPast counts
      → IsOrder meaning graph input counts order → (node port : ℕ)
      → port < meaning.ports (graph.code node) → PassesAt counts node port order
  unfolding supply
  each_passes [] counts past valid node port less = tt
  each_passes (first ∷ order) counts past valid node port less = (
    λ e. omega (
      arith,
      subst (IsReady meaning graph input counts) e valid.0 port less,
      repeats.windows_repeat node (counts node) port (past node),
    ),
    easier (channel node port) order _ _ _ _ (omega (
      arith,
      supply_next counts first (graph.source node port).origin past,
      total_next counts first node port past,
    )) (each_passes order (raised counts first) (past_next counts first past) valid.1 node port
        less),
  )

  pub from_each : (order : List ℕ) (counts : ℕ → ℕ) → IsPast counts
      → ((node port : ℕ) → port < meaning.ports (graph.code node)
      → PassesAt counts node port order)
      → IsOrder meaning graph input counts order
  unfolding supply
  from_each [] counts past passes = tt
  from_each (first ∷ order) counts past passes = (
    λ port less. omega (
      arith,
      (passes first port less).0 refl,
      repeats.windows_repeat first (counts first) port (past first),
    ),
    from_each order (raised counts first) (past_next counts first past)
        (λ node port less. easier (channel node port) order _ _ _ _ (omega (
          arith,
          supply_next counts first (graph.source node port).origin past,
          total_next counts first node port past,
        )) (passes node port less).1),
  )

  -- What a list gives and takes, by its counts.
  pub sum_gives : (nodes : List ℕ) (origin : Origin)
      → sum_of (gives_to origin) nodes ≡ given_by meaning graph from nodes origin
  unfolding gives_to given_by
  sum_gives nodes Nowhere = sum_none nodes
  sum_gives nodes Input = sum_none nodes
  sum_gives nodes (Port s q) =
      sum_tests s (meaning.pushed (graph.code s) (from s) q) nodes

  pub gives_none : (nodes : List ℕ) (origin : Origin) → GivesNothing nodes origin
      → sum_of (gives_to origin) nodes ≡ 0
  gives_none nodes origin none =
      sum_gives nodes origin ∙ none_given meaning graph from nodes origin none
