-- In the greedy round of a whole program all firings of each node can be dealt.
use Rattle.std.proofs.Common.{◌≡◌, refl, sym, ap, ◌∙◌, subst, ℕ, ◌*◌, ◌<◌, arith}
use Rattle.std.proofs.Common.{Bool, true, false, cond, eqb, not, ◌&&◌, ◌||◌, List, [], ◌∷◌, length}
use Rattle.std.proofs.Common.{filter, slice_get, inl, inr, ◌⊎◌, Option, Some, None, nat_lt}
use Rattle.std.specs.List.{list_any}
use Rattle.std.proofs.lemmas.Bool.{and_from, or_from, or_left, or_right, eq-eqb, true≢false}
use Rattle.std.proofs.lemmas.Option.{slice_get_cases}
use borrow.Author.Tests.{eqb-true}
use mathlib.Core.Path.{fun_ext}
use Rattle.strc_elab_graph.specs.Graphs.{Graph, NodeCode, Filter, Identity, FileReader, FileWriter}
use Rattle.strc_elab_graph.specs.Graphs.{Splitter, Joiner, Scatter, Copy, Gather}
use Rattle.strc_balance.specs.Balance.{count_at}
use Rattle.strc_startup.specs.Rates.{rates_of}
use Rattle.strc_sched_orders.specs.declared.unit as units
use Rattle.strc_sched_orders.specs.Firings.{Firings, fired}
use Rattle.strc_sched_orders.specs.Greedy.{IsGreedy, less_turns}
use Rattle.strc_sched_orders.specs.Order.{firing_count}
use Rattle.strc_sched_orders.proofs.FiringCounts.{firing_count_append}
use Rattle.strc_fuse.specs.Units.{is_outside, is_whole_node, is_free, round_unit, round_units}
use Rattle.strc_fuse.specs.Units.{ArePlaced}
use Rattle.strc_fuse.proofs.Counting.{firings_same}
use Rattle.strc_fuse.proofs.Lawful.{programs_are_placed}
use Rattle.strc_elab_dataflow.specs.FusedUnits.{RoundUnit, AreFree, firings_of, nodes_of}
use Rattle.strc_fiss.specs.OwnUnits.{names, is_alone, are_own, has_own_unit, dealt_count}
use Rattle.strc_fiss.specs.OwnUnits.{dealt_counts}
use Rattle.strc_fiss.specs.Ways.{is_alike, feeds_itself, greatest_divisor, dealt}
use Rattle.strc_fiss.proofs.NewRounds.{list_none, unit_count}
use Rattle.strc_fiss.proofs.Sequences.{get_up_to}
use Rattle.strc_stage_plan.specs.Rounds.{GreedyRoundsDealAll}
use Rattle.strc_stage_plan.proofs.Forward.{loops_many}

module _ (v : ℕ) where
  none_listed : (nodes : List ℕ) → firing_count nodes v ≡ 0 → list_any (eqb v) nodes ≡ false
  none_listed [] none = refl
  none_listed (node ∷ nodes) none =
      by_test (λ e. none_listed nodes e) (eqb v node) refl
    where
      by_test : (firing_count nodes v ≡ 0 → list_any (eqb v) nodes ≡ false) → (t : Bool)
          → eqb v node ≡ t → (eqb v node || list_any (eqb v) nodes) ≡ false
      by_test later true e = absurd (omega (arith, none, ap {B = ℕ} (λ (t : Bool). cond t 1 0) e))
      by_test later false e =
          or_from (eqb v node) (list_any (eqb v) nodes) e (later (omega (arith, none)))

  none_named : (some : List RoundUnit) → firing_count (nodes_of some) v ≡ 0
      → filter (names v) some ≡ []
  none_named [] none = refl
  none_named (unit ∷ rest) none =
      ap (λ (t : Bool). cond t (unit ∷ filter (names v) rest) (filter (names v) rest))
      (none_listed unit.nodes (omega (
        arith,
        none,
        firing_count_append unit.nodes (nodes_of rest) v,
      )))
      ∙ none_named rest (omega (
        arith,
        none,
        firing_count_append unit.nodes (nodes_of rest) v,
      ))

  module _ (graph : Graph) (round : List ℕ) (free : is_free graph v ≡ true) where
    -- no unit names a node, or one of its own has all its firings
    abbrev IsFound : List units.Unit.Unit → Type 0
    IsFound order =
        ((filter (names v) (round_units order) ≡ [])
        × (firing_count (firings_of (round_units order)) v ≡ 0))
        ⊎ (has_own_unit (round_units order) (count_at round v) v ≡ true)

    find : (order : List units.Unit.Unit) (now left : Firings)
        → IsGreedy (rates_of graph) now left order
        → ArePlaced (rates_of graph) (count_at round) (is_free graph) (round_units order)
        → IsFound order
    find [] now left greedy placed = inl (refl, refl)
    find (unit ∷ rest) now left (node, single, next, later) placed =
        by_test (find rest (fired now unit.turns node) (less_turns left unit.turns node) later
        placed.1) (eqb v node) refl
      where
        skipped : names v (round_unit unit) ≡ false → IsFound rest → IsFound (unit ∷ rest)
        skipped unnamed (inl (none, zero)) = inl (
          ap (λ (t : Bool). cond t (round_unit unit ∷ filter (names v) (round_units rest))
              (filter (names v) (round_units rest))) unnamed
              ∙ none,
          omega (
            arith,
            zero,
            unit_count v (round_unit unit) (round_units rest),
            ap (λ (n : ℕ). unit.turns * n) (list_none v unit.nodes.items unnamed),
          ),
        )
        skipped unnamed (inr own) = inr (
            ap (λ (t : Bool). are_own (count_at round v) v
            (cond t (round_unit unit ∷ filter (names v) (round_units rest))
            (filter (names v) (round_units rest)))) unnamed
            ∙ own
            )

        by_test : IsFound rest → (t : Bool) → eqb v node ≡ t → IsFound (unit ∷ rest)
        by_test found false e = skipped (ap (list_any (eqb v)) single
            ∙ or_from (eqb v node) (list_any (eqb v) []) e refl) found
        by_test found true e =
            let same : v ≡ node = eqb-true v node e in
            let named : names v (round_unit unit) ≡ true = ap (list_any (eqb v)) single
            ∙ or_left (eqb v node) (list_any (eqb v) []) e in
            let lone : firing_count (node ∷ []) v ≡ 1 =
            omega (arith, ap {B = ℕ} (λ (t : Bool). cond t 1 0) e) in
            let once : firing_count unit.nodes.items v ≡ 1 =
            ap (λ (l : List ℕ). firing_count l v) single ∙ lone in
            let its = placed.0 (subst (AreFree (is_free graph)) (sym single)
            (subst (λ (n : ℕ). is_free graph n ≡ true) same free, tt)) in
            let turns : unit.turns ≡ count_at round v = omega (
              arith,
              its.whole v (omega (arith, once)),
              ap (λ (n : ℕ). unit.turns * n) once,
            ) in
            inr (ap (λ (t : Bool). are_own (count_at round v) v
            (cond t (round_unit unit ∷ filter (names v) (round_units rest))
            (filter (names v) (round_units rest)))) named
            ∙ ap (λ (l : List RoundUnit). are_own (count_at round v) v (round_unit unit ∷ l))
            (none_named (round_units rest) (its.not_later v (omega (arith, once))))
            ∙ and_from (is_alone v unit.nodes.items) (eqb unit.turns (count_at round v))
            (ap (is_alone v) single ∙ e) (eq-eqb unit.turns (count_at round v) turns))

kept_count : (inside own : Bool) (count : ℕ) → own ≡ true → cond (inside || own) count 0 ≡ count
kept_count inside own count is =
    ap (λ (t : Bool). cond t count 0) (or_right inside own is)

no_count : (keeps : Bool) (count : ℕ) → count ≡ 0 → cond keeps count 0 ≡ count
no_count true count none = refl
no_count false count none = sym none

-- nodes of two counts have one share where they are the same for those that can be split
share_same : (code : Option NodeCode) (apart : Bool) (ways one other : ℕ)
    → (is_whole_node code ≡ true → one ≡ other)
    → dealt code one (cond ((is_alike code && apart) && nat_lt 0 one)
    (greatest_divisor one ways) 1)
    ≡ dealt code other (cond ((is_alike code && apart) && nat_lt 0 other)
    (greatest_divisor other ways) 1)
share_same None apart ways one other same = refl
share_same (Some (Filter name filter)) apart ways one other same =
    ap (λ (n : ℕ). dealt (Some (Filter name filter)) n
    (cond ((is_alike (Some (Filter name filter)) && apart) && nat_lt 0 n)
    (greatest_divisor n ways) 1)) (same refl)
share_same (Some Identity) apart ways one other same =
    ap (λ (n : ℕ). dealt (Some Identity) n
    (cond ((is_alike (Some Identity) && apart) && nat_lt 0 n) (greatest_divisor n ways) 1))
    (same refl)
share_same (Some (FileReader text)) apart ways one other same = refl
share_same (Some (FileWriter text)) apart ways one other same = refl
share_same (Some (Splitter splitter)) apart ways one other same = refl
share_same (Some (Joiner weights)) apart ways one other same = refl
share_same (Some (Scatter fission)) apart ways one other same = refl
share_same (Some (Copy copied fission)) apart ways one other same = refl
share_same (Some (Gather fission)) apart ways one other same = refl

pub greedy_rounds_deal : GreedyRoundsDealAll
greedy_rounds_deal graph stream counts round schedule ways typed program loops is =
    fun_ext (λ v. share_same (slice_get graph.nodes v)
    (is_outside (slice_get graph.outer_loops v) && not (feeds_itself graph.channels v)) ways
    (count_at dealing v) (count_at round v) (same_count v))
  where
    dealing : List ℕ
    dealing = dealt_counts graph.outer_loops (round_units schedule.round) round

    settled : (v : ℕ) → is_whole_node (slice_get graph.nodes v) ≡ true → (t : Bool)
        → is_outside (slice_get graph.outer_loops v) ≡ t
        → dealt_count graph.outer_loops (round_units schedule.round) round v
        ≡ count_at round v
    settled v whole false e =
        ap (λ (t : Bool). cond (not t
        || has_own_unit (round_units schedule.round) (count_at round v) v) (count_at round v) 0) e
    settled v whole true e = elim (find v graph round
        (and_from (is_outside (slice_get graph.outer_loops v))
        (is_whole_node (slice_get graph.nodes v)) e whole)
        schedule.round counts (count_at round) is.round_order.greedy
        (programs_are_placed graph stream counts (count_at round) schedule typed program loops
        is)) [
          | inl unnamed ↦
              no_count (not (is_outside (slice_get graph.outer_loops v))
              || has_own_unit (round_units schedule.round) (count_at round v) v) (count_at round v)
              (sym (is.round_order.all v)
              ∙ ap (λ (order : List ℕ). firing_count order v) (firings_same schedule.round)
              ∙ unnamed.1)
          | inr owns ↦
              kept_count (not (is_outside (slice_get graph.outer_loops v)))
              (has_own_unit (round_units schedule.round) (count_at round v) v) (count_at round v)
              owns
        ]

    there : (v : ℕ) → is_whole_node (slice_get graph.nodes v) ≡ true → v < length graph.nodes
    there v whole = elim (slice_get_cases graph.nodes v).1 [
      | inl inside ↦ inside.1
      | inr past ↦ absurd (true≢false (sym whole ∙ ap is_whole_node past.1))
    ]

    same_count : (v : ℕ) → is_whole_node (slice_get graph.nodes v) ≡ true
        → count_at (dealt_counts graph.outer_loops (round_units schedule.round) round) v
        ≡ count_at round v
    same_count v whole =
        get_up_to (dealt_count graph.outer_loops (round_units schedule.round) round)
        (length graph.outer_loops) v 0
        (omega (arith, there v whole, loops_many stream graph typed program loops))
        ∙ settled v whole (is_outside (slice_get graph.outer_loops v)) refl
