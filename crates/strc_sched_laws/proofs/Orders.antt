-- An order in which each firing finds its windows on all channels is one in the generic layer of
-- streams.
use Rattle.std.proofs.Common.{◌≡◌, refl, sym, ap, ◌∙◌, subst, ℕ, suc, ◌+◌, ◌<◌, ◌≤◌, ℤ, Bool, true}
use Rattle.std.proofs.Common.{false, cond, eqb, List, [], ◌∷◌, ◌++◌, length, get_or, Some}
use Rattle.std.proofs.Common.{slice_get, arith}
use mathlib.Core.Path.{fun_ext}
use Rattle.std.proofs.lemmas.Bool.{true≢false}
use Rattle.std.proofs.lemmas.Option.{slice_get-get_or}
use Rattle.strc_elab_dataflow.specs.Order as orders
use Rattle.strc_elab_dataflow.specs.Streams.{Stream, flat}
use Rattle.strc_elab_dataflow.proofs.WholeRun.{counted-firing_count}
use Rattle.strc_elab_graph.specs.Graphs.{NodeCode, Identity, FileReader, Graph, reads_input}
use Rattle.strc_elab_graph.specs.FlatGraphs.{IsProgram}
use Rattle.strc_elab_graph.specs.Meaning.{node_meaning}
use Rattle.strc_elab_graph.specs.Rates.{fires_by_rounds}
use Rattle.strc_startup.specs.Rates.{rates_of}
use Rattle.strc_sched_orders.specs.Firings.{Firings, fired}
use Rattle.strc_sched_orders.specs.Order.{firing_count, after, IsOrder}
use Rattle.strc_sched_orders.proofs.FiringCounts.{turns_same}
use Rattle.strc_sched_laws.proofs.Windows.{is_ready}

-- counts in both layers

pub raised_is : (counts : Firings) (node : ℕ) → orders.raised counts node ≡ fired counts 1 node
unfolding orders.raised
raised_is counts node = fun_ext (λ other. by_test (counts other) (eqb other node))
  where
    by_test : (count : ℕ) (same : Bool) → cond same (suc count) count ≡ count + cond same 1 0
    by_test count true = omega arith
    by_test count false = omega arith

pub firing_count_is : (order : List ℕ) (node : ℕ) → orders.firing_count order node
    ≡ firing_count order node
unfolding orders.firing_count orders.raised
firing_count_is [] node = refl
firing_count_is (first ∷ order) node =
    by_test (orders.firing_count order node) (firing_count order node) (eqb node first)
    (firing_count_is order node)
  where
    by_test : (mine its : ℕ) (same : Bool) → mine ≡ its
        → cond same (suc mine) mine ≡ cond same 1 0 + its
    by_test mine its true e = omega arith
    by_test mine its false e = omega arith

pub counted_is : (counts : Firings) (order : List ℕ)
    → orders.counted counts order ≡ after counts order
counted_is counts order = fun_ext (λ node. counted-firing_count order counts node
    ∙ ap (λ (n : ℕ). counts node + n) (firing_count_is order node))

pub is_reader : (code : NodeCode) → reads_input code ≡ true
    → (text : List ℕ) × (code ≡ FileReader text)
is_reader (FileReader text) reads = (text, refl)
is_reader code reads = absurd (true≢false (sym reads))

-- the nodes of an order are those of a graph
abbrev pub AreNodes : Graph → (order : List ℕ) → Type 0
AreNodes graph order = (node : ℕ) → 0 < firing_count order node → node < length graph.nodes

-- no reader fires more often than its input has items
abbrev pub IsSupplied : Graph → (input : List ℤ) → (counts : Firings) → Type 0
IsSupplied graph input counts =
    (node : ℕ) (text : List ℕ) → slice_get graph.nodes node ≡ Some (FileReader text)
    → counts node ≤ length input

module _ (tree : Stream NodeCode) (graph : Graph) (input : List ℤ) (program : IsProgram tree graph)
    (each : (node : ℕ) (code : NodeCode) → slice_get graph.nodes node ≡ Some code
    → fires_by_rounds code ≡ false) where
  abbrev IsGenericOrder : Firings → List ℕ → Type 0
  IsGenericOrder = orders.IsOrder node_meaning (flat tree) input

  pub generic_order : (counts : Firings) (order : List ℕ) → IsOrder (rates_of graph) counts order
      → AreNodes graph order → IsSupplied graph input (after counts order)
      → IsGenericOrder counts order
  generic_order counts [] is nodes supplied = tt
  generic_order counts (node ∷ order) (finds, later) nodes supplied =
      let once = turns_same 1 node node refl in
      let within = nodes node (omega (arith, once)) in
      let code = get_or graph.nodes node Identity in
      let there = slice_get-get_or graph.nodes node Identity within in (
        is_ready tree graph input program each counts node code there finds
            (λ reads. let reader = is_reader code reads in
            let more = supplied node reader.0 (there ∙ ap Some reader.1) in
            omega (arith, more, once)),
        subst (λ (now : Firings). IsGenericOrder now order) (sym (raised_is counts node))
            (generic_order (fired counts 1 node) order later
            (λ other some. nodes other (omega (arith, some)))
            (λ other text reads. omega (arith, supplied other text reads))),
      )

  -- the front of an order is one
  pub order_front : (counts : Firings) (front back : List ℕ) → IsGenericOrder counts (front ++ back)
      → IsGenericOrder counts front
  order_front counts [] back is = tt
  order_front counts (node ∷ front) back (ready, later) =
      (ready, order_front (orders.raised counts node) front back later)
