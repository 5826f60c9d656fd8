-- The calls of a greedy order are its firings.
use Rattle.std.proofs.Common.{◌≡◌, ◌⊎◌, inl, inr, refl, sym, ap, ◌∙◌, subst, ℕ, zero, suc, ◌+◌}
use Rattle.std.proofs.Common.{◌-◌, ◌<◌, ◌≤◌, cond, eqb, List, [], ◌∷◌, ◌++◌, length, map, get_or}
use Rattle.std.proofs.Common.{set}
use Rattle.std.proofs.Common.{replicate, Some, arith}
use Rattle.std.specs.Prelude.{slice_index}
use Rattle.std.specs.Option.{option_map}
use mathlib.Core.Path.{fun_ext}
use Rattle.std.proofs.lemmas.Bool.{cases_eq, eq-eqb, ne_eqb}
use Rattle.std.proofs.lemmas.List.{length-set, length-replicate, get_or-set_same, get_or-set_other}
use Rattle.std.proofs.lemmas.Option.{slice_get_cases}
use Rattle.strc_elab_graph.specs.Graphs.{NodeCode}
use Rattle.strc_elab_graph.specs.NodeView.{node_view}
use Rattle.strc_startup.specs.declared.channel_rates.ChannelRates.{ChannelRates}
use Rattle.strc_sched_orders.specs.declared.unit as units
use Rattle.strc_sched_orders.specs.Firings.{Firings, none_fired, turns_of, fired}
use Rattle.strc_sched_orders.specs.Greedy.{firings_of, less_turns, IsGreedy}
use Rattle.strc_sched_orders.specs.Order.{firing_count, repeated}
use Rattle.strc_sched_orders.proofs.FiringCounts.{turns_same, turns_other, firing_count_append}
use Rattle.strc_sched_orders.proofs.FiringCounts.{repeated_single, firing_count_repeated}
use Rattle.strc_emit_moves.specs.declared.places.Phase.{Phase}
use Rattle.strc_emit_moves.specs.declared.places.Phase.TheVariants as phase
use Rattle.strc_emit_program.specs.Orders as orders
use Rattle.strc_emit_runs.specs.Running.{Program, NodeCall, code_at}
use Rattle.strc_emit_runs.specs.Orders.{AreCallsOf, FiresSome, fired_on, fired_after}
use Rattle.strc_emit_plans.specs.Calls.{call_made, calls_made, OrdersAreCalled, CallRow}

-- more firings of a node, as a list has them
more_fired : (counts : List ℕ) (turns node : ℕ) → node < length counts
    → slice_index (orders.fired_more turns node counts) ≡ fired_on (slice_index counts) node turns
more_fired counts turns node lt = fun_ext (λ other. by other (cases_eq other node))
  where
    by : (other : ℕ) → (other ≡ node) ⊎ (other ≡ node → ⊥)
        → get_or (set counts node (get_or counts node 0 + turns)) other 0
        ≡ cond (eqb other node) (get_or counts node 0 + turns) (get_or counts other 0)
    by other (inl same) =
        ap (λ n. get_or (set counts node (get_or counts node 0 + turns)) n 0) same
        ∙ get_or-set_same counts node (get_or counts node 0 + turns) 0 lt
        ∙ sym (ap (λ t. cond t (get_or counts node 0 + turns) (get_or counts other 0))
        (eq-eqb other node same))
    by other (inr differ) =
        get_or-set_other counts node other (get_or counts node 0 + turns) 0 differ
        ∙ sym (ap (λ t. cond t (get_or counts node 0 + turns) (get_or counts other 0))
        (ne_eqb other node differ))

no_firings : (nodes : ℕ) → slice_index (replicate nodes 0) ≡ none_fired
no_firings nodes = fun_ext (by nodes)
  where
    by : (nodes node : ℕ) → slice_index (replicate nodes 0) node ≡ none_fired node
    by zero node = refl
    by (suc nodes) zero = refl
    by (suc nodes) (suc node) = by nodes node

some_fired : (when : Phase) (count : ℕ) → 1 ≤ count → FiresSome when count
some_fired phase.Startup count some = some
some_fired phase.Round count some = tt

module _ (program : Program) (when : Phase) (channels : List ChannelRates) (most : Firings)
    (there : (node : ℕ) → 0 < most node → node < length program.network.nodes.now) where
  code_there : (node : ℕ) → 0 < most node
      → (code : NodeCode) × (code_at program node ≡ Some code)
  code_there node some = elim (slice_get_cases program.network.nodes.now node).1 [
    | inl (found, less, at, own) ↦ (node_view found, ap (option_map node_view) at)
    | inr (past, none) ↦ absurd (omega (arith, past, there node some))
  ]

  -- no node fires more often than it may
  abbrev FitsIn : (left : Firings) (done : List ℕ) → Type 0
  FitsIn left done = (node : ℕ) → slice_index done node + left node ≤ most node

  fits_on : (left : Firings) (done : List ℕ) (turns node : ℕ) → FitsIn left done
      → turns ≤ left node → node < length done
      → FitsIn (less_turns left turns node) (orders.fired_more turns node done)
  fits_on left done turns node fits few lt other = by (cases_eq other node)
    where
      now : slice_index (orders.fired_more turns node done) other
          ≡ fired_on (slice_index done) node turns other
      now = ap (λ f. f other) (more_fired done turns node lt)

      by : (other ≡ node) ⊎ (other ≡ node → ⊥)
          → slice_index (orders.fired_more turns node done) other
          + less_turns left turns node other ≤ most other
      by (inl same) =
          let own : fired_on (slice_index done) node turns other ≡ slice_index done node + turns =
          ap (λ t. cond t (slice_index done node + turns) (slice_index done other))
          (eq-eqb other node same) in
          let all : left other ≡ left node = ap left same in
          let limit : most other ≡ most node = ap most same in
          omega (arith, now, own, all, limit, turns_same turns node other same, fits node, few)
      by (inr differ) =
          let own : fired_on (slice_index done) node turns other ≡ slice_index done other =
          ap (λ t. cond t (slice_index done node + turns) (slice_index done other))
          (ne_eqb other node differ) in
          omega (arith, now, own, turns_other turns node other differ, fits other)

  calls_are : (order : List units.Unit.Unit) (counts left : Firings) (done : List ℕ)
      → IsGreedy channels counts left order → FitsIn left done
      → length done ≡ length program.network.nodes.now
      → AreCallsOf program when most (slice_index done)
      (map call_made (orders.units_calls order done)) (firings_of order)
  calls_are [] counts left done greedy fits each = refl
  calls_are (unit ∷ rest) counts left done (node, one, next, later) fits each =
      subst (λ nodes. AreCallsOf program when most (slice_index done)
      (map call_made (orders.nodes_calls unit.turns nodes done
      ++ orders.units_calls rest (orders.fired_after unit.turns nodes done)))
      (repeated unit.turns nodes ++ firings_of rest)) (sym one) (
        refl,
        omega (arith, count, fits node, next.within),
        some_fired when ((slice_index done node + unit.turns) - slice_index done node)
            (omega (arith, count, next.some)),
        code_there node some,
        (
          firings_of rest,
          ap (λ l. l ++ firings_of rest) (repeated_single unit.turns node
              ∙ ap (λ n. replicate n node) (sym count)),
          subst (λ n. AreCallsOf program when most (fired_on (slice_index done) node n)
              (map call_made (orders.units_calls rest more)) (firings_of rest)) (sym count)
              (subst (λ f. AreCallsOf program when most f
              (map call_made (orders.units_calls rest more)) (firings_of rest))
              (more_fired done unit.turns node within)
              (calls_are rest (fired counts unit.turns node) (less_turns left unit.turns node)
              more later (fits_on left done unit.turns node fits next.within within)
              (length-set done node (slice_index done node + unit.turns) ∙ each))),
        ),
      )
    where
      count : (slice_index done node + unit.turns) - slice_index done node ≡ unit.turns
      count = omega arith

      some : 0 < most node
      some = omega (arith, next.some, next.within, fits node)

      within : node < length done
      within = omega (arith, there node some, each)

      more : List ℕ
      more = orders.fired_more unit.turns node done

  -- calls fire nodes as often as their order has them
  fired_all : (calls : List NodeCall) (order : List ℕ) (done : ℕ → ℕ)
      → AreCallsOf program when most done calls order → (node : ℕ)
      → fired_after done calls node ≡ done node + firing_count order node
  fired_all [] order done are node =
      let none : firing_count order node ≡ 0 = ap (λ o. firing_count o node) are in
      omega (arith, none)
  fired_all (call ∷ rest) order done are node =
      let later = are.4 in
      let parts = ap (λ o. firing_count o node) later.1
      ∙ firing_count_append (replicate call.count call.node) later.0 node in
      let turns : firing_count (replicate call.count call.node) node
      ≡ turns_of call.count call.node node =
      ap (λ l. firing_count l node) (sym (repeated_single call.count call.node))
      ∙ firing_count_repeated call.count call.node node in
      omega (
        arith,
        fired_all rest later.0 (fired_on done call.node call.count) later.2 node,
        parts,
        turns,
        one (cases_eq node call.node),
      )
    where
      one : (node ≡ call.node) ⊎ (node ≡ call.node → ⊥)
          → fired_on done call.node call.count node
          ≡ done node + turns_of call.count call.node node
      one (inl same) =
          let own : fired_on done call.node call.count node ≡ done call.node + call.count =
          ap (λ t. cond t (done call.node + call.count) (done node))
          (eq-eqb node call.node same) in
          let all : done node ≡ done call.node = ap done same in
          omega (arith, own, all, turns_same call.count call.node node same)
      one (inr differ) =
          let own : fired_on done call.node call.count node ≡ done node =
          ap (λ t. cond t (done call.node + call.count) (done node))
          (ne_eqb node call.node differ) in
          omega (arith, own, turns_other call.count call.node node differ)

pub orders_are_called : OrdersAreCalled
orders_are_called program when channels counts firings order greedy there = record {
  are = are;
  all = λ node. fired_all program when channels firings there (calls_made program order)
      (firings_of order) (λ node. 0) are node ∙ omega (arith, greedy.all node);
}
  where
    nodes : ℕ
    nodes = length program.network.nodes.now

    first : List ℕ
    first = replicate nodes 0

    fits : FitsIn program when channels firings there firings first
    fits node =
        let none : slice_index (replicate nodes 0) node ≡ 0 = ap (λ f. f node) (no_firings nodes) in
        omega (arith, none)

    are : AreCallsOf program when firings (λ node. 0) (calls_made program order) (firings_of order)
    are = subst (λ f. AreCallsOf program when firings f (calls_made program order)
        (firings_of order)) (no_firings nodes)
        (calls_are program when channels firings there order counts firings first greedy.greedy fits
        (length-replicate nodes 0))

pub call_row : CallRow
call_row = refl
