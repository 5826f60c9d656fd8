-- Fission and fusion of a greedy schedule stay within the limits, or pass one, and never both.
use Rattle.std.proofs.Common.{◌≡◌, ◌∙◌, refl, sym, ap, subst, ℕ, zero, suc, ◌+◌, ◌*◌, ◌<◌, Bool}
use Rattle.std.proofs.Common.{true}
use Rattle.std.proofs.Common.{false, List, [], ◌∷◌, ◌++◌, length, arith, cond, eqb}
use borrow.Author.Tests.{eqb-true}
use Rattle.std.proofs.lemmas.List.{length-map}
use Rattle.strc_elab_graph.specs.Graphs.{Graph}
use Rattle.strc_elab_graph.specs.NodeView.{graph_view, channel_view}
use Rattle.strc_elab_graph.specs.declared.graph.Fission.{Fission}
use Rattle.strc_startup.specs.Rates.{rates_of}
use Rattle.strc_sched_orders.specs.Firings.{Firings, none_fired}
use Rattle.strc_sched_orders.specs.Greedy as order
use Rattle.strc_sched_orders.specs.Schedules.{IsSchedule, ScheduleParts}
use Rattle.strc_sched_orders.specs.Sizing.{PassesOn, round_rates_on}
use Rattle.strc_elab_dataflow.specs.FusedUnits.{AreFused, RoundUnit, firings_of}
use Rattle.strc_elab_dataflow.specs.Pieces.{unit_of}
use Rattle.strc_fuse.specs.Fusion.{FusedPass, IsFusion}
use Rattle.strc_fuse.specs.Laws.{AllFireNodes}
use Rattle.strc_fuse.specs.Units.{is_free, round_units}
use Rattle.strc_fuse.proofs.Counting.{firings_same}
use Rattle.strc_fuse.proofs.OneFusion.{one_fusion}
use Rattle.strc_fuse.proofs.Exclusion.{never_both, same_last, same_greatest}
use Rattle.strc_fuse.proofs.GreedyOnce.{greedy_fires, one_greedy}
use Rattle.strc_fiss.specs.Fissions.{IsFission, SplitPasses}
use Rattle.strc_fiss.specs.Numbers.{up_to, is_dealt, base}
use Rattle.strc_fiss.specs.Splits.{SplitParts}
use Rattle.strc_fiss.specs.Splitting.{split_graph, split_greatest, split_last}
use Rattle.strc_fiss.specs.Units.{are_all, part_units, split_list, split_units}
use Rattle.strc_fiss.specs.Ways.{fission_of}
use Rattle.strc_fiss.proofs.Joining.{both_true}
use Rattle.strc_stage_plan.specs.Refusals.{TransformedOrRefused}

-- ---- units after fission fire nodes

both_fire : (one other : List RoundUnit) → AllFireNodes one → AllFireNodes other
    → AllFireNodes (one ++ other)
both_fire [] other first second = second
both_fire (unit ∷ one) other (own, first) second = (own, both_fire one other first second)

unit_fires : (turns node : ℕ) → 0 < turns → AllFireNodes (unit_of turns node ∷ [])
unit_fires turns node some = (record { turns = some; nodes = omega arith }, tt)

copies_fire : (number firings count : ℕ) → 0 < firings
    → AllFireNodes (up_to (λ copy. unit_of firings (number + suc copy)) count)
copies_fire number firings zero some = tt
copies_fire number firings (suc count) some =
    both_fire (up_to (λ copy. unit_of firings (number + suc copy)) count)
    (unit_of firings (number + suc count) ∷ []) (copies_fire number firings count some)
    (unit_fires firings (number + suc count) some)

parts_fire : (number : ℕ) (fission : Fission) → 0 < fission.firings
    → AllFireNodes (part_units number fission)
parts_fire number fission some = (
  record { turns = omega arith; nodes = omega arith },
  both_fire (up_to (λ copy. unit_of fission.firings (number + suc copy)) fission.ways)
      (unit_of 1 (number + suc fission.ways) ∷ [])
      (copies_fire number fission.firings fission.ways some)
      (unit_fires 1 (number + suc fission.ways) (omega arith)),
)

factor_is_some : (ways firings : ℕ) → 0 < ways * firings → 0 < firings
factor_is_some ways zero some = absurd (omega (arith, some))
factor_is_some ways (suc firings) some = omega arith

module _ (share : ℕ → Fission) where
  list_fires : (turns : ℕ) (nodes : List ℕ) → 0 < turns → 0 < length nodes
      → AllFireNodes (split_list share turns nodes)
  list_fires turns [] some nodes = absurd (omega (arith, nodes))
  list_fires turns (node ∷ []) some nodes = by_test (are_all turns (share node)) refl
    where
      by_test : (t : Bool) → are_all turns (share node) ≡ t
          → AllFireNodes (cond t (part_units (base share node) (share node))
          (unit_of turns (base share node) ∷ []))
      by_test false e = unit_fires turns (base share node) some
      by_test true e =
          let all = eqb-true turns ((share node).ways * (share node).firings)
          (both_true (is_dealt (share node))
          (eqb turns ((share node).ways * (share node).firings)) e).1 in
          parts_fire (base share node) (share node)
          (factor_is_some (share node).ways (share node).firings
          (omega (arith, some, all)))
  list_fires turns (first ∷ (second ∷ rest)) some nodes =
      (record { turns = some; nodes = omega arith }, tt)

  units_fire : (units : List RoundUnit) → AllFireNodes units
      → AllFireNodes (split_units share units)
  units_fire [] all = tt
  units_fire (unit ∷ rest) (own, all) =
      both_fire (split_list share unit.turns unit.nodes) (split_units share rest)
      (list_fires unit.turns unit.nodes own.turns own.nodes) (units_fire rest all)

-- ---- both schedules are transformed to the same

module _ (graph : Graph) (counts firings : Firings) (share : ℕ → Fission)
    (one other : ScheduleParts) (is : IsSchedule (rates_of graph) counts firings one)
    (again : IsSchedule (rates_of graph) counts firings other) where
  last_is : other.last ≡ one.last
  last_is = same_last graph counts firings one other is again

  greatest_is : other.greatest ≡ one.greatest
  greatest_is = same_greatest graph counts firings one other is again

  round_is : round_units other.round ≡ round_units one.round
  round_is = one_greedy (rates_of graph) counts firings other.round one.round again.round_order
      is.round_order

  fires : AllFireNodes (round_units one.round)
  fires = greedy_fires (rates_of graph) counts firings one.round is.round_order.greedy

  -- the greatest and the last numbers of items, and the graph, after fission
  abbrev after : {A : Type 0} → ((greatest last : List ℕ) → A) → Type 0
  after value = value other.greatest other.last ≡ value one.greatest one.last

  same_after : {A : Type 0} (value : (greatest last : List ℕ) → A) → after value
  same_after value = ap (λ high. value high other.last) greatest_is
      ∙ ap (value one.greatest) last_is

  module _ (split : SplitParts) (fission : IsFission share graph one split) where
    round_after : split_units share (round_units other.round) ≡ round_units split.schedule.round
    round_after = ap (split_units share) round_is ∙ sym fission.round

    each : length split.schedule.sizes ≡ length (graph_view split.graph).channels
    each = fission.each ∙ sym (length-map split.graph.channels channel_view)

    -- no buffer passes the limit in the round after fission
    pub fission_passes_none : (channel : ℕ) → SplitPasses share graph other channel → ⊥
    fission_passes_none channel pass =
        let firings_are = ap firings_of round_after ∙ sym (firings_same split.schedule.round) in
        let graph_is = same_after (split_graph share graph) ∙ sym fission.graph in
        let high = same_after (split_greatest share graph) ∙ sym fission.greatest in
        let held = same_after (split_last share graph) ∙ sym fission.last in
        let here = subst (λ (g : Graph). PassesOn (round_rates_on g
        (split_last share graph other.greatest other.last)) none_fired
        (firings_of (split_units share (round_units other.round)))
        (split_greatest share graph other.greatest other.last) channel) graph_is pass.passes in
        let with_last = subst (λ (l : List ℕ). PassesOn (round_rates_on (graph_view split.graph) l)
        none_fired (firings_of (split_units share (round_units other.round)))
        (split_greatest share graph other.greatest other.last) channel) held here in
        let with_greatest = subst (λ (l : List ℕ). PassesOn
        (round_rates_on (graph_view split.graph) split.schedule.last) none_fired
        (firings_of (split_units share (round_units other.round))) l channel) high with_last in
        never_both (graph_view split.graph) split.schedule.last
        (order.firings_of split.schedule.round) split.schedule.greatest split.schedule.sizes channel
        each fission.within fission.sizes
        (subst (λ (l : List ℕ). PassesOn (round_rates_on (graph_view split.graph)
        split.schedule.last) none_fired l split.schedule.greatest channel) firings_are
        with_greatest)

    -- and another fission is the same
    module _ (twin : SplitParts) (again_split : IsFission share graph other twin) where
      pub graph_same : graph_view twin.graph ≡ graph_view split.graph
      graph_same = again_split.graph ∙ same_after (split_graph share graph) ∙ sym fission.graph

      pub round_same : round_units twin.schedule.round ≡ round_units split.schedule.round
      round_same = again_split.round ∙ round_after

      pub greatest_same : twin.schedule.greatest ≡ split.schedule.greatest
      greatest_same = again_split.greatest ∙ same_after (split_greatest share graph)
          ∙ sym fission.greatest

      pub last_same : twin.schedule.last ≡ split.schedule.last
      last_same = again_split.last ∙ same_after (split_last share graph) ∙ sym fission.last

-- no buffer passes the limit while the fused units fire, as none does in an equal round
fusion_passes_none : (graph : Graph) (threshold : ℕ) (unfused fused twin : ScheduleParts)
    (channel : ℕ) → AllFireNodes (round_units unfused.round)
    → IsFusion graph threshold unfused fused
    → round_units twin.round ≡ round_units unfused.round → twin.greatest ≡ unfused.greatest
    → twin.last ≡ unfused.last → FusedPass graph threshold twin channel → ⊥
fusion_passes_none graph threshold unfused fused twin channel fire fusion round greatest last pass =
    let units_are : pass.units ≡ round_units fused.round =
    one_fusion (is_free graph) threshold (round_units unfused.round) pass.units
    (round_units fused.round) fire
    (subst (λ (l : List RoundUnit). AreFused (is_free graph) threshold l pass.units) round
    pass.fused) fusion.round in
    let firings_are = ap firings_of units_are ∙ sym (firings_same fused.round) in
    let held = subst (λ (l : List ℕ). PassesOn (round_rates_on graph l) none_fired
    (firings_of pass.units) twin.greatest channel) last pass.passes in
    let high = subst (λ (l : List ℕ). PassesOn (round_rates_on graph unfused.last) none_fired
    (firings_of pass.units) l channel) greatest held in
    never_both graph unfused.last (order.firings_of fused.round) unfused.greatest fused.sizes
    channel fusion.each fusion.within fusion.sizes
    (subst (λ (l : List ℕ). PassesOn (round_rates_on graph unfused.last) none_fired l
    unfused.greatest channel) firings_are high)

pub transformed_or_refused : TransformedOrRefused
transformed_or_refused graph counts firings round ways threshold one other transformed is again
    done =
    let share = fission_of graph round ways in
    let split : SplitParts = record transformed { schedule = done.unfused } in
    let fission : IsFission share graph one split = done.fission in
    record {
      nodes = λ many. let few = fission.few in absurd (omega (arith, many, few));
      split = fission_passes_none graph counts firings share one other is again split fission;
      fused = λ channel twin again_split pass.
          let same = graph_same graph counts firings share one other is again split fission twin
          again_split in
          fusion_passes_none (graph_view transformed.graph) threshold done.unfused
          transformed.schedule twin.schedule channel
          (subst AllFireNodes (sym fission.round)
          (units_fire share (round_units one.round)
          (fires graph counts firings share one other is again)))
          done.fusion
          (round_same graph counts firings share one other is again split fission twin again_split)
          (greatest_same graph counts firings share one other is again split fission twin
          again_split)
          (last_same graph counts firings share one other is again split fission twin again_split)
          (subst (λ (g : Graph). FusedPass g threshold twin.schedule channel) same pass);
    }
