-- How often nodes fire in a plan's round: after fission and fusion no node fires more often than
-- the one that it is a part of did before, so the limit of counts is theirs too.
use Rattle.std.proofs.Common.{◌≡◌, refl, sym, ap, ◌∙◌, subst, ℕ, suc, ◌+◌, ◌-◌, ◌*◌, ◌<◌, ◌≤◌, ◌^◌}
use Rattle.std.proofs.Common.{arith, true, false, List}
use Rattle.std.proofs.lemmas.Bool.{ltb-true}
use Rattle.std.proofs.Math.Nat.{mul-le-mul_left}
use Rattle.strc_elab_dataflow.specs.Blocks.{Block, AreBlocks, old_order, new_order}
use Rattle.strc_elab_dataflow.specs.FusedUnits.{RoundUnit, firings_of}
use Rattle.strc_elab_dataflow.specs.Order as orders
use Rattle.strc_elab_dataflow.specs.PieceBlocks.{blocks_of}
use Rattle.strc_elab_dataflow.specs.Pieces.{Piece}
use Rattle.strc_elab_dataflow.specs.Split.{Parts}
use Rattle.strc_elab_dataflow.proofs.PieceBlocks.{blocks_are, before_same, after_same}
use Rattle.strc_elab_graph.specs.Graphs.{Graph}
use Rattle.strc_elab_graph.specs.declared.graph.Fission.{Fission}
use Rattle.strc_balance.specs.Balance.{count_at, count_limit}
use Rattle.strc_balance.proofs.Limits.{limit_is}
use Rattle.strc_sched_laws.proofs.Orders.{firing_count_is}
use Rattle.strc_sched_laws.specs.Planned.{IsPlanned}
use Rattle.strc_sched_orders.specs.Greedy as order
use Rattle.strc_sched_orders.specs.Order.{firing_count}
use Rattle.strc_sched_orders.specs.Schedules.{ScheduleParts}
use Rattle.strc_fuse.specs.Units.{is_free, round_units}
use Rattle.strc_fuse.proofs.Counting.{firings_same}
use Rattle.strc_fuse.proofs.Lawful.{fused_units_count}
use Rattle.strc_fiss.specs.Laws.{AreOwn, pieces_of}
use Rattle.strc_fiss.specs.Numbers.{is_dealt, base, parts_after}
use Rattle.strc_fiss.specs.Units.{split_units}
use Rattle.strc_fiss.specs.Ways.{fission_of}
use Rattle.strc_fiss.proofs.Pieced.{pieces_before, pieces_after, pieces_own}
use Rattle.strc_fiss.proofs.Planned.{some_count, some_firings}
use Rattle.strc_fiss.proofs.PartCounts.{alls, old_count, kept_count, scatter_count, copy_count}
use Rattle.strc_fiss.proofs.PartCounts.{gather_count}
use Rattle.strc_stage_plan.proofs.NewChannels.{apart}
use Rattle.strc_stage_plan.proofs.Numbers.{each_number}
use Rattle.strc_stage_plan.proofs.OwnUnits.{greedy_rounds_own}
use Rattle.strc_stage_plan.proofs.Runs.{own_round}
use Rattle.strc_stage_plan.specs.Plans.{IsPlan, PlanParts, graph_of}
use Rattle.strc_stage_steps.proofs.Plans.{fused_fission, new, threshold, units, ways}

-- a round of a planned schedule, of which each node that is split has all its firings in one unit
module _ (old : Graph) (schedule : ScheduleParts) (round : List ℕ) (copies : ℕ)
    (planned : IsPlanned old schedule)
    (own : AreOwn (fission_of old round copies) (round_units schedule.round)) where
  abbrev share : ℕ → Fission
  share = fission_of old round copies

  abbrev none : ℕ → ℕ
  none node = 0

  abbrev parts : Parts
  parts = parts_after (fission_of old round copies) none

  abbrev before : List RoundUnit
  before = round_units schedule.round

  abbrev blocks : List Block
  blocks = blocks_of (pieces_of (fission_of old round copies) (round_units schedule.round))

  are_blocks : AreBlocks parts blocks
  are_blocks = blocks_are parts (pieces_of share before) (pieces_own share none before own)

  before_is : firings_of before ≡ old_order parts blocks
  before_is = ap firings_of (sym (pieces_before share none before))
      ∙ before_same parts (pieces_of share before)

  after_is : firings_of (split_units share before) ≡ new_order parts blocks
  after_is = ap firings_of (sym (pieces_after share none before))
      ∙ after_same parts (pieces_of share before)

  -- nodes before fission
  old_counts : (node : ℕ)
      → orders.firing_count (old_order parts blocks) node ≡ count_at planned.round node
  old_counts node =
      ap (λ (l : List ℕ). orders.firing_count l node) (sym before_is)
      ∙ firing_count_is (firings_of before) node
      ∙ (own_round old schedule planned).all node

  -- and after it
  abbrev new_count : ℕ → ℕ
  new_count = orders.firing_count (new_order parts blocks)

  abbrev IsFew : ℕ → Type 0
  IsFew number = new_count number ≤ count_limit

  kept_few : (u : ℕ) → is_dealt (share u) ≡ false → IsFew (base share u + 0)
  kept_few u whole = omega (
    arith,
    kept_count parts (apart share) blocks are_blocks u whole,
    old_counts u,
    planned.round_within u,
  )

  module _ (v : ℕ) (dealt : is_dealt (share v) ≡ true) where
    abbrev turns : ℕ
    turns = alls blocks v

    old_is : turns * ((share v).ways * (share v).firings) ≡ count_at planned.round v
    old_is = sym (old_count parts (apart share) blocks are_blocks v dealt) ∙ old_counts v

    some : 0 < (share v).firings
    some = some_firings old round copies v dealt

    -- a part fires no more often than its node did
    part_few : (weight count : ℕ) → weight ≤ (share v).ways * (share v).firings
        → count ≡ turns * weight → count ≤ count_limit
    part_few weight count less is =
        let below : turns * weight ≤ turns * ((share v).ways * (share v).firings) =
        mul-le-mul_left turns less in
        omega (arith, is, below, old_is, planned.round_within v)

    firings_below : (share v).firings ≤ (share v).ways * (share v).firings
    firings_below =
        let some_ways : suc ((share v).ways - 1) ≡ (share v).ways =
        omega (arith, ltb-true 1 (share v).ways dealt) in
        let e : suc ((share v).ways - 1) * (share v).firings
        ≡ (share v).ways * (share v).firings = ap (λ (n : ℕ). n * (share v).firings) some_ways in
        omega (arith, e)

    one_below : 1 ≤ (share v).ways * (share v).firings
    one_below = omega (arith, firings_below, some)

  each_few : (number : ℕ) → IsFew number
  each_few = each_number share IsFew kept_few
      (λ v dealt. part_few v dealt 1 (new_count (base share v + 0)) (one_below v dealt)
      (scatter_count parts (apart share) blocks are_blocks v dealt))
      (λ v i dealt less. part_few v dealt (share v).firings (new_count (base share v + suc i))
      (firings_below v dealt) (copy_count parts (apart share) blocks are_blocks v i dealt less))
      (λ v dealt. part_few v dealt 1 (new_count (base share v + suc (share v).ways))
      (one_below v dealt) (gather_count parts (apart share) blocks are_blocks v dealt))

  pub split_few : (number : ℕ)
      → orders.firing_count (firings_of (split_units share before)) number ≤ count_limit
  split_few number = omega (
    arith,
    ap (λ (l : List ℕ). orders.firing_count l number) after_is,
    each_few number,
  )

module _ (plan : PlanParts) (is : IsPlan plan) where
  own_units : AreOwn (fission_of (graph_of plan) plan.round_counts (ways plan is))
      (round_units plan.schedule.round)
  own_units =
      greedy_rounds_own (graph_of plan) is.whole.stream (count_at plan.startup_counts)
      plan.round_counts plan.schedule (ways plan is) is.whole.closed.typed is.whole.program
      is.whole.loops is.schedule.is

  pub counts_within : (node : ℕ)
      → firing_count (order.firings_of plan.split.schedule.round) node ≤ count_limit
  counts_within node =
      let share = fission_of (graph_of plan) plan.round_counts (ways plan is) in
      let before = split_units share (round_units plan.schedule.round) in
      omega (
        arith,
        ap (λ (l : List ℕ). firing_count l node) (firings_same plan.split.schedule.round),
        fused_units_count (is_free (new plan is)) (threshold plan is) before (units plan is) node
            (fused_fission plan is).units,
        firing_count_is (firings_of before) node,
        split_few (graph_of plan) plan.schedule plan.round_counts (ways plan is) is.planned
            own_units node,
      )

  -- so they fit 32 bits
  pub counts_few : (node : ℕ)
      → firing_count (order.firings_of plan.split.schedule.round) node < 2 ^ 32
  counts_few node = omega (arith, counts_within node, limit_is)
