-- A round that is cut between groups and units is ranges of nodes whose channels go forward.
use Rattle.std.proofs.Common.{◌≡◌, sym, ap, ◌∙◌, ℕ, suc, ◌<◌, ◌≤◌, Bool, List, [], ◌∷◌, ◌++◌}
use Rattle.std.proofs.Common.{length, All, inl, arith}
use Rattle.strc_elab_dataflow.specs.Flat as dataflow
use Rattle.strc_elab_graph.specs.Graphs.{Graph, NodeCode}
use Rattle.strc_sched_orders.specs.declared.unit as units
use Rattle.strc_sched_orders.specs.Peaks.{HasNodes}
use Rattle.strc_sched_orders.specs.Ranges.{HasNodesFrom}
use Rattle.strc_elab_dataflow.specs.FusedUnits.{RoundUnit, AreFused, firings_of}
use Rattle.strc_fuse.specs.Laws.{AllFireNodes}
use Rattle.strc_fuse.specs.Units.{round_units}
use Rattle.strc_elab_dataflow.specs.Ranges.{AllWithin, IsBelow, IsRanged}
use Rattle.strc_elab_dataflow.specs.Staging.{joined}
use Rattle.strc_elab_dataflow.proofs.Ranges.{bounds_from}
use Rattle.strc_stage_plan.specs.Cuts.{IsBetweenGroups, IsCutOf, segment_of, firings_within}
use Rattle.strc_stage_plan.proofs.FusedSplits.{AllPass, IsSplit, each_from_all, passes_all}
use Rattle.strc_stage_plan.proofs.FusedSplits.{split_from}
use Rattle.strc_stage_plan.proofs.FusedSplits.{apart_from, fused_split}
use Rattle.strc_stage_plan.proofs.Segments.{AreIn, IsSplitAt, kept_all, within_range, firings_split}
use Rattle.strc_stage_plan.proofs.Segments.{firings_in, ranges_joined}

-- a weaker end
ends_later : (first next : ℕ) (P : Type 0) (order : List ℕ) → AreIn first next order
    → AllWithin first (λ node. P → node < next) order
ends_later first next P [] all = tt
ends_later first next P (node ∷ order) (from, below, rest) =
    (from, λ p. below, ends_later first next P order rest)

-- units that are split at a number, as they are read
pub split_joined : (bound : ℕ) (low high : List units.Unit.Unit) → All (HasNodes bound) low
    → All (HasNodesFrom bound) high → IsSplit bound (round_units (low ++ high))
split_joined bound [] high below from =
    split_from bound (round_units high) (passes_all (λ node. bound ≤ node) high from)
split_joined bound (unit ∷ low) high below from = inl (
  each_from_all (λ node. node < bound) unit.nodes.items (below 0 unit (omega arith)),
  split_joined bound low high (λ k d less. below (suc k) d (omega (arith, less))) from,
)

-- a round of a graph's nodes that fusion makes of units which go through the nodes below a number
-- between groups before all others, where no channel goes back across such a number
pub record IsByGroups (flow : dataflow.Graph NodeCode) (graph : Graph) (round : List RoundUnit)
    : Type 0 where
  pub free : ℕ → Bool
  pub limit : ℕ
  pub units : List RoundUnit
  pub fires : AllFireNodes units
  pub fusion : AreFused free limit units round
  pub nodes : AllPass (λ node. node < length graph.nodes) round
  pub split : (number : ℕ) → number ≤ length graph.nodes
      → IsBetweenGroups graph.outer_loops number → IsSplit number units
  pub forward : (number : ℕ) → number ≤ length graph.nodes
      → IsBetweenGroups graph.outer_loops number → (node port : ℕ) → node < number
      → IsBelow number (flow.source node port).origin

module _ (flow : dataflow.Graph NodeCode) (graph : Graph) (round : List RoundUnit)
    (is : IsByGroups flow graph round) (bound : (stage : ℕ) → ℕ) (last : ℕ)
    (cut : IsCutOf graph round bound (suc last)) where
  within_nodes : (stage : ℕ) → stage ≤ suc last → bound stage ≤ length graph.nodes
  within_nodes stage less =
      omega (
        arith,
        bounds_from bound (suc last) cut.rising stage (suc last) less (omega arith),
        cut.all,
      )

  order_split : (stage : ℕ) → stage ≤ suc last → IsSplitAt (bound stage) (firings_of round)
  order_split stage less =
      firings_split (bound stage) round
      (fused_split (bound stage) is.free is.limit is.units round is.fires
      (is.split (bound stage) (within_nodes stage less) (cut.between stage less)) is.fusion
      (apart_from (bound stage) round (cut.units stage less)))

  whole : firings_within (bound 0) (bound (suc last)) (firings_of round) ≡ firings_of round
  whole =
      ap (λ (n : ℕ). firings_within n (bound (suc last)) (firings_of round)) cut.first
      ∙ ap (λ (n : ℕ). firings_within 0 n (firings_of round)) cut.all
      ∙ kept_all 0 (length graph.nodes) (firings_of round)
      (firings_in (length graph.nodes) round is.nodes)

  order_is : firings_of round ≡ joined (segment_of bound (firings_of round)) (suc last)
  order_is =
      sym whole
      ∙ ranges_joined bound (suc last) cut.rising (firings_of round) order_split (suc last)
      (omega arith)

  pub cut_is_ranged : IsRanged flow bound (segment_of bound (firings_of round)) last
      (firings_of round)
  cut_is_ranged = record {
    rising = λ a less. cut.rising a (omega (arith, less));
    own = λ a less.
        ends_later (bound a) (bound (suc a)) (a < last) (segment_of bound (firings_of round) a)
        (within_range (bound a) (bound (suc a)) (firings_of round));
    order = order_is;
    forward = λ a node port less below.
        let within : suc a ≤ suc last = omega (arith, less) in
        is.forward (bound (suc a)) (within_nodes (suc a) within) (cut.between (suc a) within) node
        port below;
  }
