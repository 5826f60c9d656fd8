-- A pipeline of filters is a chain of nodes, and fires in order where each filter gives what the
-- next one takes.
use Rattle.std.proofs.Common.{◌≡◌, refl, sym, ap, ◌∙◌, subst, ℕ, zero, suc, ◌+◌, ◌*◌, ◌<◌, ◌≤◌}
use Rattle.std.proofs.Common.{Bool, cond, ltb, List, [], ◌∷◌, length, get_or, ℤ, arith, zero-add}
use mathlib.Core.Logic.{inl, inr}
use Rattle.std.proofs.lemmas.Bool.{cases_lt, cases_eq, ne_eqb, lt-ltb, le-ltb}
use Rattle.strc_elab_dataflow.specs.Node.{Meaning, total}
use Rattle.strc_elab_dataflow.specs.Flat.{Origin.Port, Source, Graph}
use Rattle.strc_elab_dataflow.specs.Streams.{nothing, node_layout, chained_layout, layout}
use Rattle.strc_elab_dataflow.specs.Streams.{pipeline_layout, any_code, any_code_of, flat}
use Rattle.strc_elab_dataflow.specs.Order.{raised, firing_count, counts_after, supply_of, supply}
use Rattle.strc_elab_dataflow.specs.Order.{IsReady}
use Rattle.strc_elab_dataflow.specs.Order.{IsOrder, IsSchedule}
use Rattle.strc_elab_dataflow.proofs.Invariant.{raised_here}
use Rattle.strc_elab_dataflow.specs.Pipelines.{filters, pipeline_of, nodes_from, once_each, IsChain}
use Rattle.strc_elab_dataflow.specs.Pipelines.{IsMatched}

at_place : {a b : ℕ} (port : ℕ) → a ≡ b → ◌≡◌ {A = Source}
    (record { enqueued = []; origin = Port a port })
    (record { enqueued = []; origin = Port b port })
at_place port e = ap {A = ℕ} {B = Source} (λ n. record { enqueued = []; origin = Port n port }) e

module _ {Code : Type 0} where
  codes_of : (first : Code) (others : List Code)
      → (pipeline_layout (filters first others)).codes ≡ first ∷ others
  unfolding filters pipeline_layout node_layout chained_layout
  codes_of first [] = refl
  codes_of first (next ∷ others) = ap {A = List Code} {B = List Code} (λ l. first ∷ l)
      (codes_of next others)

  any_of : (first : Code) (others : List Code) → any_code_of (filters first others) ≡ first
  unfolding filters any_code_of
  any_of first [] = refl
  any_of first (next ∷ others) = refl

  head_of : (first : Code) (others : List Code) (place : ℕ) (before : ℕ → Source)
      → get_or ((pipeline_layout (filters first others)).sources place before) 0 (λ port. nothing)
      ≡ before
  unfolding filters pipeline_layout node_layout chained_layout
  head_of first [] place before = refl
  head_of first (next ∷ others) place before = refl

  link_of : (first : Code) (others : List Code) (place : ℕ) (before : ℕ → Source) (node port : ℕ)
      → node < length others → get_or ((pipeline_layout (filters first others)).sources place
      before) (suc node) (λ port. nothing) port
      ≡ record { enqueued = []; origin = Port (place + node) port }
  unfolding filters pipeline_layout node_layout chained_layout
  link_of first [] place before node port less = absurd (omega arith)
  link_of first (next ∷ others) place before zero port less =
      ap (λ (s : ℕ → Source). s port) (head_of next others (place + 1)
      ((node_layout first).outlet place))
      ∙ at_place port (let e : place ≡ place + 0 = omega arith in e)
  link_of first (next ∷ others) place before (suc node) port less =
      link_of next others (place + 1) ((node_layout first).outlet place) node port (omega arith)
      ∙ at_place port (let e : (place + 1) + node ≡ place + suc node = omega arith in e)

  -- The graph of a pipeline of filters is a chain.
  pub pipeline_is_chain : (first : Code) (others : List Code)
      → IsChain first others (flat (pipeline_of first others))
  unfolding flat pipeline_of layout any_code
  pipeline_is_chain first others = record {
    size = ap length (codes_of first others);
    codes = λ node. ap (λ (l : List Code). get_or l node (any_code_of (filters first others)))
        (codes_of first others) ∙ ap (λ (d : Code). get_or (first ∷ others) node d)
        (any_of first others);
    head = λ port. ap (λ (s : ℕ → Source). s port) (head_of first others 0 (λ p. nothing));
    links = λ node port less. link_of first others 0 (λ p. nothing) node port less
        ∙ at_place port (let e : 0 + node ≡ node = omega arith in e);
  }

raised_other : (counts : ℕ → ℕ) (node other : ℕ) → (other ≡ node → ⊥)
    → raised counts node other ≡ counts other
unfolding raised
raised_other counts node other ne = ap (λ (t : Bool). cond t (suc (counts other)) (counts other))
    (ne_eqb other node ne)

firing_count_before : (more node u : ℕ) → u < node → firing_count (nodes_from node more) u ≡ 0
unfolding firing_count nodes_from
firing_count_before zero node u less = refl
firing_count_before (suc more) node u less =
    raised_other (firing_count (nodes_from (suc node) more)) node u
    (λ e. omega arith) ∙ firing_count_before more (suc node) u (omega arith)

firing_count_past : (more node u : ℕ) → node + more ≤ u → firing_count (nodes_from node more) u ≡ 0
unfolding firing_count nodes_from
firing_count_past zero node u less = refl
firing_count_past (suc more) node u less =
    raised_other (firing_count (nodes_from (suc node) more)) node u
    (λ e. omega arith) ∙ firing_count_past more (suc node) u (omega arith)

firing_count_in : (more node u : ℕ) → node ≤ u → u < node + more
    → firing_count (nodes_from node more) u ≡ 1
unfolding firing_count nodes_from
firing_count_in zero node u more less = absurd (omega arith)
firing_count_in (suc left) node u more less =
    elim (cases_eq u node) [
      | inl e ↦ rw e (raised_here (firing_count (nodes_from (suc node) left)) node
          ∙ ap suc (firing_count_before left (suc node) node (omega arith)))
      | inr ne ↦ raised_other (firing_count (nodes_from (suc node) left)) node u ne
          ∙ firing_count_in left (suc node) u (above ne) (omega arith)
    ]
  where
    above : (u ≡ node → ⊥) → suc node ≤ u
    above ne = omega arith

-- Firing so many nodes in order fires each of them once.
pub firing_count-nodes_from : (n u : ℕ) → firing_count (nodes_from 0 n) u ≡ once_each n u
unfolding once_each
firing_count-nodes_from n u =
    elim (cases_lt u n) [
      | inl less ↦ firing_count_in n 0 u (omega arith) (omega arith)
          ∙ ap (λ (t : Bool). cond t 1 0) (sym (lt-ltb u n less))
      | inr more ↦ firing_count_past n 0 u (omega arith)
          ∙ ap (λ (t : Bool). cond t 1 0) (sym (le-ltb u n more))
    ]

total_within : (a b : ℕ → ℕ → ℕ) (port : ℕ) → ((firing : ℕ) → a firing port ≤ b firing port)
    → (n : ℕ) → total a n port ≤ total b n port
unfolding total
total_within a b port h zero = omega arith
total_within a b port h (suc n) = omega (arith, total_within a b port h n, h n)

module _ {Code State Cause Word : Type 0} (meaning : Meaning Code State Cause Word)
    (graph : Graph Code) (input : List ℤ) (first : Code) (others : List Code)
    (chain : IsChain first others graph) (matched : IsMatched meaning first others) where
  ready_at : (q : ℕ) (counts : ℕ → ℕ) (node : ℕ) → node ≤ length others → counts node ≡ q
      → ((u : ℕ) → u < node → counts u ≡ suc q) → IsReady meaning graph input counts node
  unfolding supply supply_of total
  ready_at q counts zero within here before port less =
      absurd (let e : meaning.ports (graph.code 0) ≡ 0 =
      ap meaning.ports (chain.codes 0) ∙ matched.source in omega (arith, e, less))
  ready_at q counts (suc node) within here before port less =
      let this : graph.code (suc node) ≡ get_or others node first = chain.codes (suc node) in
      let here_port : port < meaning.ports (get_or others node first) =
      subst (λ (c : Code). port < meaning.ports c) this less in
      let came : supply meaning graph input counts (graph.source (suc node) port)
      ≡ total (meaning.pushed (get_or (first ∷ others) node first)) (suc q) port = supplied in
      let took : total (meaning.popped (graph.code (suc node))) (counts (suc node)) port
      ≡ total (meaning.popped (get_or others node first)) q port
      = ap (λ (c : Code). total (meaning.popped c) (counts (suc node)) port) this
      ∙ ap (λ (n : ℕ). total (meaning.popped (get_or others node first)) n port) here in
      let looks : meaning.window (graph.code (suc node)) (counts (suc node)) port
      ≡ meaning.window (get_or others node first) q port
      = ap (λ (c : Code). meaning.window c (counts (suc node)) port) this
      ∙ ap (λ (n : ℕ). meaning.window (get_or others node first) n port) here in
      omega (
        arith,
        came,
        took,
        looks,
        matched.windows node q port within here_port,
        total_within (meaning.popped (get_or others node first))
            (meaning.pushed (get_or (first ∷ others) node first)) port
            (λ firing. matched.pops node firing port within here_port) q,
      )
    where
      supplied : supply meaning graph input counts (graph.source (suc node) port)
          ≡ total (meaning.pushed (get_or (first ∷ others) node first)) (suc q) port
      supplied =
          ap (supply meaning graph input counts) (chain.links node port within)
          ∙ zero-add (total (meaning.pushed (graph.code node)) (counts node) port)
          ∙ ap (λ (c : Code). total (meaning.pushed c) (counts node) port) (chain.codes node)
          ∙ ap (λ (n : ℕ). total (meaning.pushed (get_or (first ∷ others) node first)) n port)
          (before node (omega arith))

  order_from : (q : ℕ) (more node : ℕ) (counts : ℕ → ℕ) → node + more ≡ suc (length others)
      → ((u : ℕ) → u < node → counts u ≡ suc q)
      → ((u : ℕ) → node ≤ u → u ≤ length others → counts u ≡ q)
      → IsOrder meaning graph input counts (nodes_from node more)
  unfolding nodes_from
  order_from q zero node counts e before after = tt
  order_from q (suc more) node counts e before after = (
    ready_at q counts node (omega arith) (after node (omega arith) (omega arith)) before,
    order_from q more (suc node) (raised counts node) (omega arith) before_next
        (λ u above within. raised_other counts node u (λ h. omega arith)
        ∙ after u (omega arith) within),
  )
    where
      before_next : (u : ℕ) → u < suc node → raised counts node u ≡ suc q
      before_next u less = elim (cases_eq u node) [
        | inl h ↦ rw h (raised_here counts node ∙ ap suc (after node (omega arith) (omega arith)))
        | inr ne ↦ raised_other counts node u ne ∙ before u (omega arith)
      ]

  -- The order that fires each node once is a schedule without start-up.
  pub chain_schedule : (k : ℕ) → IsSchedule meaning graph input (λ node. 0)
      (once_each (suc (length others))) [] (nodes_from 0 (suc (length others))) k
  unfolding firing_count counts_after once_each
  chain_schedule k = record {
    startup_counts = λ node. refl;
    round_counts = firing_count-nodes_from (suc (length others));
    startup_finds = tt;
    round_finds = λ q less. order_from q (suc (length others)) 0
        (counts_after (λ node. 0) (once_each (suc (length others))) q) (omega arith)
        (λ u h. absurd (omega arith))
        (λ u above within. at u within q);
  }
    where
      at : (u : ℕ) → u ≤ length others → (q : ℕ)
          → 0 + q * cond (ltb u (suc (length others))) 1 0 ≡ q
      at u within q = ap (λ (t : Bool). 0 + q * cond t 1 0)
          (lt-ltb u (suc (length others)) (omega arith))
          ∙ (let e : 0 + q * 1 ≡ q = omega arith in e)
