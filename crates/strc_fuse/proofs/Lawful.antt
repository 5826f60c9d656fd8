-- The laws of this crate.
use Rattle.std.proofs.Common.{◌≡◌, refl, sym, ap, ◌∙◌, subst, ℕ, zero, suc, ◌<◌, ◌≤◌, List, [], ◌∷◌}
use Rattle.std.proofs.Common.{All, length, map, Bool, true, false, Option, Some, None, slice_get}
use Rattle.std.proofs.Common.{◌&&◌, cond, arith, inl, inr}
use Rattle.std.proofs.lemmas.Bool.{cases_lt, true≢false}
use Rattle.std.proofs.lemmas.List.{length-map, get_or_past}
use Rattle.std.proofs.lemmas.List.Elements.{All-cons, All-nil}
use Rattle.strc_elab_graph.specs.Graphs.{Graph}
use Rattle.strc_balance.specs.Balance.{count_at}
use Rattle.strc_startup.specs.Rates.{rates_of, rates_of_channel}
use Rattle.strc_startup.specs.declared.channel_rates.ChannelRates.{ChannelRates}
use Rattle.strc_sched_orders.specs.declared.unit as units
use Rattle.strc_sched_orders.specs.Buffers.{peak_fill}
use Rattle.strc_sched_orders.specs.Firings.{Firings, none_fired, fired, fill}
use Rattle.strc_sched_orders.specs.Greedy.{firings_of, less_turns, IsGreedy}
use Rattle.strc_sched_orders.specs.Peaks.{HasNodes}
use Rattle.strc_fuse.specs.Laws.{FusedUnitsStay, FusedUnitsCount, ProgramsArePlaced}
use Rattle.strc_fuse.specs.Laws.{SchedulesCanBeFused}
use Rattle.strc_fuse.specs.Rows.{FusedRow}
use Rattle.strc_fuse.specs.Units.{is_free, is_outside, is_whole_node}
use Rattle.strc_fuse.proofs.Forward.{node_is_outer}
use Rattle.strc_fuse.proofs.FusedOrders.{fused_counts_are, fused_stays, fused_placed}
use Rattle.strc_fuse.proofs.GreedyUnits.{greedy_placed}
use Rattle.strc_elab_dataflow.proofs.FusionRow.{fusion_row}

pub fused_units_stay : FusedUnitsStay
fused_units_stay channels counts round free limit units fused past balanced placed is valid = (
  fused_stays channels round counts past balanced free limit units fused placed is valid,
  fused_placed channels round free limit units fused placed is,
)

pub fused_units_count : FusedUnitsCount
fused_units_count free limit units fused node is = fused_counts_are free limit units fused node is

-- a node that may be fused is outside feedback loops
outside_is : (loop : Option (Option ℕ)) (whole : Bool) → (is_outside loop && whole) ≡ true
    → loop ≡ Some None
outside_is (Some None) whole is = refl
outside_is (Some (Some loop)) whole is = absurd (true≢false (sym is))
outside_is None whole is = absurd (true≢false (sym is))

pub programs_are_placed : ProgramsArePlaced
programs_are_placed graph stream counts firings schedule typed program loops is =
    greedy_placed (rates_of graph) counts firings schedule.round is.round_order (is_free graph)
    (λ node free. node_is_outer graph stream typed program loops node
    (outside_is (slice_get graph.outer_loops node) (is_whole_node (slice_get graph.nodes node))
    free))

-- the nodes of a greedy order

one_node : (size node : ℕ) (nodes : List ℕ) → nodes ≡ node ∷ [] → node < size
    → All (λ n. n < size) nodes
one_node size node nodes single less =
    subst (All (λ n. n < size)) (sym single)
    (All-cons (λ n. n < size) node [] less (All-nil (λ n. n < size)))

greedy_nodes : (channels : List ChannelRates) (firings : Firings) (size : ℕ)
    → ((node : ℕ) → 0 < firings node → node < size) → (order : List units.Unit.Unit)
    → (counts left : Firings) → ((node : ℕ) → left node ≤ firings node)
    → IsGreedy channels counts left order → All (HasNodes size) order
greedy_nodes channels firings size within [] counts left less greedy = All-nil (HasNodes size)
greedy_nodes channels firings size within (unit ∷ order) counts left less
    (node, single, next, later) =
    All-cons (HasNodes size) unit order
    (one_node size node unit.nodes.items single
    (within node (omega (arith, next.some, next.within, less node))))
    (greedy_nodes channels firings size within order (fired counts unit.turns node)
    (less_turns left unit.turns node) (λ other. omega (arith, less other)) later)

counted_within : (counts : List ℕ) (node : ℕ) → 0 < count_at counts node → node < length counts
counted_within counts node some = elim (cases_lt node (length counts)) [
  | inl within ↦ within
  | inr past ↦ absurd (omega (arith, some, get_or_past counts node 0 past))
]

pub schedules_can_be_fused : SchedulesCanBeFused
schedules_can_be_fused graph counts round schedule is few = record {
  before = ap length is.greatest
      ∙ length-map (rates_of graph)
      (λ rates. peak_fill rates none_fired (firings_of schedule.startup))
      ∙ length-map graph.channels (rates_of_channel graph.nodes);
  fill = ap length is.last
      ∙ length-map (rates_of graph) (λ rates. fill rates counts)
      ∙ length-map graph.channels (rates_of_channel graph.nodes);
  nodes = greedy_nodes (rates_of graph) (count_at round) (length graph.nodes)
      (λ node some. omega (arith, counted_within round node some, few)) schedule.round counts
      (count_at round) (λ node. omega arith) is.round_order.greedy;
}

pub fused_row : FusedRow
fused_row = record { fused = fusion_row.fused; sizes = refl; fused_sizes = refl }
