-- A cut of the graph after fission is staged, and bounds that share its groups evenly are one.
use Rattle.std.proofs.Common.{◌≡◌, sym, ◌∙◌, subst, ℕ, ◌+◌, ◌<◌, ◌≤◌, List, length, All}
use Rattle.std.proofs.Common.{true, inl, inr, arith}
use mathlib.Core.Path.{fun_ext}
use Rattle.strc_elab_dataflow.specs.Flat as dataflow
use Rattle.strc_elab_graph.specs.Graphs.{Graph, NodeCode}
use Rattle.strc_elab_graph.specs.declared.graph.Fission.{Fission}
use Rattle.strc_elab_stream.specs.Instances.{Stream}
use Rattle.strc_elab_stream.specs.Flattening.{tree_of}
use Rattle.strc_balance.specs.Balance.{count_at}
use Rattle.strc_startup.specs.Rates.{rates_of}
use Rattle.strc_sched_orders.specs.declared.unit as units
use Rattle.strc_sched_orders.specs.Firings.{Firings}
use Rattle.strc_sched_orders.specs.Peaks.{HasNodes}
use Rattle.strc_sched_orders.specs.Ranges.{IsClosedBelow}
use Rattle.strc_sched_orders.specs.Schedules.{ScheduleParts, IsSchedule}
use Rattle.strc_sched_orders.proofs.OuterNodes.{outer_nodes_have_one_unit}
use Rattle.strc_sched_orders.proofs.Ranges.{low_nodes_fire_first}
use Rattle.strc_elab_dataflow.specs.FusedUnits.{RoundUnit, firings_of}
use Rattle.strc_fuse.specs.Laws.{AllFireNodes}
use Rattle.strc_fuse.specs.Units.{is_free, round_units}
use Rattle.strc_fuse.proofs.Lawful.{schedules_can_be_fused}
use Rattle.strc_fuse.proofs.GreedyOnce.{greedy_fires}
use Rattle.strc_fiss.specs.Numbers.{is_dealt, last_part, base}
use Rattle.strc_fiss.specs.Splitting.{new_code, new_loop}
use Rattle.strc_fiss.specs.Units.{split_units}
use Rattle.strc_fiss.specs.Ways.{fission_of}
use Rattle.strc_fiss.proofs.Bases.{base_many}
use Rattle.strc_fiss.proofs.Lookup.{part_many}
use Rattle.strc_fiss.proofs.Planned.{some_count, all_dealt, some_firings}
use Rattle.strc_stage_plan.specs.SplitLaws.{new_graph}
use Rattle.strc_stage_plan.specs.Runs.{graph_after}
use Rattle.strc_elab_dataflow.proofs.Ranges.{ranges_are_stages}
use Rattle.strc_stage_plan.specs.Cuts.{IsBetweenGroups, segment_of}
use Rattle.strc_stage_plan.proofs.Beginnings.{AreNumbered, loops_numbered}
use Rattle.strc_stage_plan.proofs.EvenShares.{shared_evenly}
use Rattle.strc_stage_plan.proofs.Forward.{loops_many}
use Rattle.strc_stage_plan.proofs.FusedSplits.{AllPass, IsSplit, passes_all, fused_pass}
use Rattle.strc_stage_plan.proofs.Ranges.{IsByGroups, split_joined, cut_is_ranged}
use Rattle.strc_stage_steps.specs.SplitCutLaws.{IsFusedFission, SplitBoundsAreACut}
use Rattle.strc_stage_steps.specs.SplitCutLaws.{SplitRoundsAreRanged}
use Rattle.strc_stage_steps.specs.SplitCutLaws.{SplitCutsAreStaged}
use Rattle.strc_stage_steps.proofs.NewForward.{sources_from, new_forward}
use Rattle.strc_stage_steps.proofs.NewLoops.{new_numbered}
use Rattle.strc_stage_steps.proofs.Places.{dealt_outer, place_of}
use Rattle.strc_stage_steps.proofs.SplitUnits.{units_pass, part_below, split_first, split_later}
use Rattle.strc_stage_steps.proofs.SplitUnits.{units_fire}

module _ (stream : Stream) (old : Graph) (schedule : ScheduleParts) (round : List ℕ)
    (ways limit : ℕ) (fused : List RoundUnit)
    (is : IsFusedFission stream old schedule round ways limit fused) where
  abbrev share : ℕ → Fission
  share = fission_of old round ways

  abbrev new : Graph
  new = new_graph old schedule round ways

  abbrev size : ℕ
  size = length old.nodes

  new_nodes : length new.nodes ≡ base share size
  new_nodes = part_many share (new_code share old.nodes) size

  looped : length new.outer_loops ≡ base share size
  looped = part_many share (new_loop share size old.outer_loops) size

  -- ---- the nodes of the fused units

  planned_greedy : IsSchedule (rates_of old) is.counts (count_at is.planned.round) schedule
  planned_greedy =
      subst (λ (firings : Firings). IsSchedule (rates_of old) is.counts firings schedule)
      (fun_ext (λ node. sym (is.greedy.round_order.all node)
      ∙ is.planned.schedule.round_order.all node)) is.greedy

  old_nodes : All (HasNodes (length old.nodes)) schedule.round
  old_nodes =
      (schedules_can_be_fused old is.counts is.planned.round schedule planned_greedy
      (omega (arith, is.planned.least_round.balances.each))).nodes

  fused_nodes : AllPass (λ node. node < length new.nodes) fused
  fused_nodes =
      subst (λ (n : ℕ). AllPass (λ node. node < n) fused) (sym new_nodes)
      (fused_pass (λ node. node < base share size) (is_free new) limit
      (split_units share (round_units schedule.round)) fused
      (units_pass share (λ node. node < size) (λ node. node < base share size)
      (part_below share size) (round_units schedule.round)
      (passes_all (λ node. node < size) schedule.round old_nodes)) is.units)

  -- ---- the units at a number between groups

  split_fires : AllFireNodes (split_units share (round_units schedule.round))
  split_fires =
      units_fire share (some_firings old round ways) (round_units schedule.round)
      (greedy_fires (rates_of old) is.counts (count_at round) schedule.round
      is.greedy.round_order.greedy)

  at_node : (v : ℕ) → IsClosedBelow (rates_of old) v
      → IsSplit (base share v) (split_units share (round_units schedule.round))
  at_node v closed =
      let own = low_nodes_fire_first (rates_of old) is.counts (count_at round) schedule.round v
      is.greedy.round_order closed in
      split_first share v (round_units schedule.round)
      (subst (λ (l : List units.Unit.Unit). IsSplit v (round_units l)) (sym own.whole)
      (split_joined v own.low own.high own.below own.from))

  within_node : (v part : ℕ) → 0 < part → part ≤ last_part share v → is_dealt (share v) ≡ true
      → IsSplit (base share v + part) (split_units share (round_units schedule.round))
  within_node v part some inside dealt =
      let one = outer_nodes_have_one_unit (rates_of old) is.counts (count_at round) schedule.round
      v is.greedy.round_order
      (dealt_outer stream old is.typed is.program is.loops round ways v dealt)
      (some_count old round ways v dealt) in
      subst (λ (l : List units.Unit.Unit). IsSplit (base share v + part)
      (split_units share (round_units l))) (sym one.whole)
      (split_later share v part some inside dealt one.before one.unit one.later one.lower
      (one.turns ∙ sym (all_dealt old round ways v dealt)) one.nodes one.higher)

  units_split : (bound : ℕ) → bound ≤ base share size → IsBetweenGroups new.outer_loops bound
      → IsSplit bound (split_units share (round_units schedule.round))
  units_split bound less between =
      elim (place_of stream old is.typed is.program is.loops round ways bound less between) [
        | inl at ↦ subst
            (λ (b : ℕ). IsSplit b (split_units share (round_units schedule.round))) at.is
            (at_node at.node at.closed)
        | inr inner ↦ subst
            (λ (b : ℕ). IsSplit b (split_units share (round_units schedule.round))) inner.is
            (within_node inner.node inner.part inner.some inner.within inner.dealt)
      ]

  -- ---- the round, whose units are fused, and its cuts

  abbrev flow : dataflow.Graph NodeCode
  flow = graph_after (tree_of stream) old schedule round ways

  split_by_groups : IsByGroups flow new fused
  split_by_groups = record {
    free = is_free new;
    limit = limit;
    units = split_units share (round_units schedule.round);
    fires = split_fires;
    fusion = is.units;
    nodes = fused_nodes;
    split = λ number less. units_split number (omega (arith, less, new_nodes));
    forward = λ number less between node port below.
        sources_from node port number new below
        (new_forward stream old is.typed is.program is.loops round ways number
        (omega (arith, less, new_nodes)) between schedule.greatest schedule.last);
  }

  split_numbered : AreNumbered 0 new.outer_loops
  split_numbered =
      new_numbered share old.outer_loops size (loops_numbered stream old.outer_loops is.loops)
      (loops_many stream old is.typed is.program is.loops)

pub split_rounds_are_ranged : SplitRoundsAreRanged
split_rounds_are_ranged stream old schedule round ways limit fused bound last is =
    cut_is_ranged (graph_after (tree_of stream) old schedule round ways)
    (new_graph old schedule round ways) fused
    (split_by_groups stream old schedule round ways limit fused is) bound last

pub split_cuts_are_staged : SplitCutsAreStaged
split_cuts_are_staged stream old schedule round ways limit fused bound last is cut =
    ranges_are_stages (graph_after (tree_of stream) old schedule round ways) bound
    (segment_of bound (firings_of fused)) last (firings_of fused)
    (split_rounds_are_ranged stream old schedule round ways limit fused bound last is cut)

pub split_bounds_are_a_cut : SplitBoundsAreACut
split_bounds_are_a_cut stream old schedule round ways limit fused workers is works some =
    let nodes = new_nodes stream old schedule round ways limit fused is in
    let least = base_many (fission_of old round ways) (length old.nodes) in
    shared_evenly (new_graph old schedule round ways) fused workers
    (looped stream old schedule round ways limit fused is ∙ sym nodes)
    (split_numbered stream old schedule round ways limit fused is)
    (fused_nodes stream old schedule round ways limit fused is) works
    (omega (arith, nodes, some, least))
