-- The units of a greedy round: each node that is split has all its firings in one of its own.
use Rattle.std.proofs.Common.{◌≡◌, refl, sym, ap, subst, ℕ, ◌*◌, arith}
use Rattle.std.proofs.Common.{Bool, true, false, eqb, not, ◌&&◌, List, [], ◌∷◌, slice_get}
use Rattle.std.proofs.Common.{inl, inr, Option, Some, None}
use Rattle.std.proofs.lemmas.Bool.{and_parts, and_from, eq-eqb}
use Rattle.strc_elab_graph.specs.Graphs.{Graph, NodeCode, Filter, Identity, FileReader, FileWriter}
use Rattle.strc_elab_graph.specs.Graphs.{Splitter, Joiner, Scatter, Copy, Gather}
use Rattle.strc_elab_graph.specs.declared.graph.Fission.{Fission}
use Rattle.strc_balance.specs.Balance.{count_at}
use Rattle.strc_startup.specs.Rates.{rates_of}
use Rattle.strc_sched_orders.specs.declared.unit as units
use Rattle.strc_sched_orders.specs.Firings.{Firings, fired}
use Rattle.strc_sched_orders.specs.Greedy.{IsGreedy, less_turns}
use Rattle.strc_sched_orders.specs.Order.{firing_count}
use Rattle.strc_sched_orders.proofs.FiringCounts.{turns_same}
use Rattle.strc_fuse.specs.Units.{is_outside, is_whole_node, is_free, round_units}
use Rattle.strc_fuse.specs.Units.{IsPlaced, ArePlaced}
use Rattle.strc_fuse.proofs.Lawful.{programs_are_placed}
use Rattle.strc_elab_dataflow.specs.FusedUnits.{RoundUnit, AreFree}
use Rattle.strc_fiss.specs.Laws.{IsOwn, AreOwn}
use Rattle.strc_fiss.specs.Numbers.{is_dealt}
use Rattle.strc_fiss.specs.Ways.{is_alike, feeds_itself, fission_of}
use Rattle.strc_fiss.proofs.Planned.{is_possible, all_dealt}
use Rattle.strc_stage_plan.specs.Rounds.{GreedyRoundsAreOwn}

-- a node whose firings are alike is no scatter, copy or gather
alike_whole : (code : Option NodeCode) → is_alike code ≡ true → is_whole_node code ≡ true
alike_whole None e = e
alike_whole (Some (Filter name filter)) e = refl
alike_whole (Some Identity) e = refl
alike_whole (Some (FileReader text)) e = refl
alike_whole (Some (FileWriter text)) e = refl
alike_whole (Some (Splitter splitter)) e = refl
alike_whole (Some (Joiner weights)) e = refl
alike_whole (Some (Scatter fission)) e = e
alike_whole (Some (Copy copied fission)) e = e
alike_whole (Some (Gather fission)) e = e

module _ (graph : Graph) (round : List ℕ) (ways : ℕ) where
  -- a node that is split may be fused before
  split_free : (v : ℕ) → is_dealt (fission_of graph round ways v) ≡ true
      → is_free graph v ≡ true
  split_free v is_split =
      let both = and_parts (is_alike (slice_get graph.nodes v))
      (is_outside (slice_get graph.outer_loops v) && not (feeds_itself graph.channels v))
      (is_possible graph round ways v is_split) in
      let others = and_parts (is_outside (slice_get graph.outer_loops v))
      (not (feeds_itself graph.channels v)) both.1 in
      and_from (is_outside (slice_get graph.outer_loops v))
      (is_whole_node (slice_get graph.nodes v)) others.0
      (alike_whole (slice_get graph.nodes v) both.0)

  -- a placed unit of one node
  unit_own : (turns node : ℕ) (later : List RoundUnit)
      → (AreFree (is_free graph) (node ∷ []) → IsPlaced (rates_of graph) (count_at round)
      (record { turns = turns; nodes = node ∷ [] }) later)
      → IsOwn (fission_of graph round ways) turns (node ∷ [])
  unit_own turns node later placed = by_test (is_dealt (fission_of graph round ways node)) refl
    where
      by_test : (t : Bool) → is_dealt (fission_of graph round ways node) ≡ t
          → IsOwn (fission_of graph round ways) turns (node ∷ [])
      by_test false e = inr (e, tt)
      by_test true e =
          let own : Fission = fission_of graph round ways node in
          let once = turns_same 1 node node refl in
          let one : firing_count (node ∷ []) node ≡ 1 = omega (arith, once) in
          let whole = (placed (split_free node e, tt)).whole node (omega (arith, one)) in
          let turns_are : turns ≡ own.ways * own.firings =
          omega (
            arith,
            whole,
            ap (λ (n : ℕ). turns * n) one,
            all_dealt graph round ways node e,
          ) in
          inl (and_from (is_dealt own) (eqb turns (own.ways * own.firings)) e
          (eq-eqb turns (own.ways * own.firings) turns_are))

  units_own : (order : List units.Unit.Unit) (now left : Firings)
      → IsGreedy (rates_of graph) now left order
      → ArePlaced (rates_of graph) (count_at round) (is_free graph) (round_units order)
      → AreOwn (fission_of graph round ways) (round_units order)
  units_own [] now left greedy placed = tt
  units_own (unit ∷ rest) now left (node, single, next, later) placed = (
    subst (IsOwn (fission_of graph round ways) unit.turns) (sym single)
        (unit_own unit.turns node (round_units rest)
        (subst (λ (nodes : List ℕ). AreFree (is_free graph) nodes
        → IsPlaced (rates_of graph) (count_at round)
        (record { turns = unit.turns; nodes = nodes }) (round_units rest)) single placed.0)),
    units_own rest (fired now unit.turns node) (less_turns left unit.turns node) later placed.1,
  )

pub greedy_rounds_own : GreedyRoundsAreOwn
greedy_rounds_own graph stream counts round schedule ways typed program loops is =
    units_own graph round ways schedule.round counts (count_at round) is.round_order.greedy
    (programs_are_placed graph stream counts (count_at round) schedule typed program loops is)
