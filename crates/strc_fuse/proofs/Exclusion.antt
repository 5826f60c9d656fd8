-- A schedule is fused, or its buffers would pass the limit then, and never both.
use Rattle.std.proofs.Common.{◌≡◌, ◌∙◌, sym, ap, subst, ℕ, ◌<◌, ◌≤◌, List, [], ◌∷◌, length, map}
use Rattle.std.proofs.Common.{get_or}
use Rattle.std.proofs.Common.{All, arith}
use Rattle.std.specs.Prelude.{max, slice_index}
use Rattle.std.proofs.lemmas.List.{length-map}
use Rattle.std.proofs.lemmas.Option.{slice_get-get_or}
use Rattle.strc_elab_graph.specs.Graphs.{Graph}
use Rattle.strc_startup.specs.Rates.{rates_of}
use Rattle.strc_startup.specs.declared.channel_rates.ChannelRates.{ChannelRates}
use Rattle.strc_sched_orders.specs.Buffers.{peak_fill, size_limit}
use Rattle.strc_sched_orders.specs.Firings.{Firings, none_fired}
use Rattle.strc_sched_orders.specs.Greedy.{firings_of}
use Rattle.strc_sched_orders.specs.Peaks.{AreRaised}
use Rattle.strc_sched_orders.specs.Schedules.{IsSchedule, ScheduleParts}
use Rattle.strc_sched_orders.specs.RoundRates.{round_rates_of, round_rates_of_channel}
use Rattle.strc_sched_orders.specs.Sizing.{PassesOn, all_rates_on, round_rates_on}
use Rattle.strc_sched_orders.proofs.Deciding.{one_order}
use Rattle.strc_elab_dataflow.specs.FusedUnits as rounds
use Rattle.strc_elab_dataflow.specs.FusedUnits.{AreFused, RoundUnit}
use Rattle.strc_fuse.specs.Units.{is_free, round_units}
use Rattle.strc_fuse.proofs.Counting.{firings_same}
use Rattle.strc_fuse.proofs.OneFusion.{one_fusion}
use Rattle.strc_fuse.specs.FusedLaws.{FusedOrRefused}
use Rattle.strc_fuse.proofs.GreedyOnce.{greedy_fires, one_greedy}

-- the rates of no channel
nothing : ChannelRates
nothing = record {
  source = 0;
  enqueued = 0;
  first_push = 0;
  push = 0;
  target = 0;
  prework_window = 0;
  first_window = 0;
  first_pop = 0;
  pop = 0;
  window = 0;
}

few_rates : (rates : List ChannelRates) (fills : List ℕ)
    → length (all_rates_on rates fills) ≤ length rates
few_rates [] fills = omega arith
few_rates (first ∷ rates) [] = omega arith
few_rates (first ∷ rates) (items ∷ fills) = omega (arith, few_rates rates fills)

few_channels : (graph : Graph) (fills : List ℕ)
    → length (round_rates_on graph fills) ≤ length graph.channels
few_channels graph fills = omega (
  arith,
  few_rates (round_rates_of graph) fills,
  length-map graph.channels (round_rates_of_channel graph.nodes),
)

-- sizes within the limit, which are the greatest numbers of items, and one that passes it
pub never_both : (graph : Graph) (last order greatest sizes : List ℕ) (channel : ℕ)
    → length sizes ≡ length graph.channels → All (λ size. size ≤ size_limit) sizes
    → AreRaised (round_rates_on graph last) none_fired order greatest sizes
    → PassesOn (round_rates_on graph last) none_fired order greatest channel → ⊥
never_both graph last order greatest sizes channel each within raised passes =
    let channels = round_rates_on graph last in
    let rates = get_or channels channel nothing in
    let inside : channel < length channels = omega (arith, passes.past.there, passes.each) in
    let there = slice_get-get_or channels channel nothing inside in
    let past = passes.past.passes in
    let same : slice_index passes.sizes channel ≡ slice_index sizes channel =
    passes.raised channel rates there ∙ sym (raised channel rates there) in
    let few = within channel 0 (omega (arith, inside, few_channels graph last, each)) in
    absurd (omega (arith, past, same, few))

module _ (graph : Graph) (counts firings : Firings) (one other : ScheduleParts)
    (is : IsSchedule (rates_of graph) counts firings one)
    (again : IsSchedule (rates_of graph) counts firings other) where
  pub same_last : other.last ≡ one.last
  same_last = again.last ∙ sym is.last

  pub same_greatest : other.greatest ≡ one.greatest
  same_greatest =
      again.greatest
      ∙ ap (λ (l : List ℕ). map (λ rates. peak_fill rates none_fired l) (rates_of graph))
      (one_order (rates_of graph) none_fired counts other.startup one.startup
      again.startup_order is.startup_order)
      ∙ sym is.greatest

  same_units : (limit : ℕ) (units fused : List RoundUnit)
      → AreFused (is_free graph) limit (round_units other.round) units
      → AreFused (is_free graph) limit (round_units one.round) fused
      → rounds.firings_of units ≡ rounds.firings_of fused
  same_units limit units fused first second =
      ap rounds.firings_of
      (one_fusion (is_free graph) limit (round_units one.round) units fused
      (greedy_fires (rates_of graph) counts firings one.round is.round_order.greedy)
      (subst (λ (l : List RoundUnit). AreFused (is_free graph) limit l units)
      (one_greedy (rates_of graph) counts firings other.round one.round again.round_order
      is.round_order) first)
      second)

pub fused_or_refused : FusedOrRefused
fused_or_refused graph counts firings threshold one other fused channel is again fusion pass =
    let firings_are = same_units graph counts firings one other is again threshold pass.units
    (round_units fused.round) pass.fused fusion.round ∙ sym (firings_same fused.round) in
    let passes = subst (λ (l : List ℕ). PassesOn (round_rates_on graph l) none_fired
    (firings_of fused.round) one.greatest channel)
    (same_last graph counts firings one other is again)
    (subst (λ (l : List ℕ). PassesOn (round_rates_on graph other.last) none_fired
    (firings_of fused.round) l channel) (same_greatest graph counts firings one other is again)
    (subst (λ (l : List ℕ). PassesOn (round_rates_on graph other.last) none_fired l
    other.greatest channel) firings_are pass.passes)) in
    never_both graph one.last (firings_of fused.round) one.greatest fused.sizes channel fusion.each
    fusion.within fusion.sizes passes
