-- The order of a plan's round where nothing is split or fused.
use Rattle.std.proofs.Common.{◌≡◌, sym, ap, ◌∙◌, subst, ℕ, List, Option, length}
use Rattle.strc_balance.specs.Balance.{count_at}
use Rattle.strc_startup.specs.Rates.{rates_of}
use Rattle.strc_elab_dataflow.specs.Blocks.{Block, new_order, old_order}
use Rattle.strc_elab_dataflow.specs.FusedUnits.{RoundUnit, AreFused, firings_of}
use Rattle.strc_elab_dataflow.specs.PieceBlocks.{blocks_of}
use Rattle.strc_elab_dataflow.specs.Split.{Parts}
use Rattle.strc_elab_dataflow.proofs.PieceBlocks.{blocks_are, before_same, after_same}
use Rattle.strc_elab_graph.specs.Graphs.{Graph}
use Rattle.strc_elab_graph.specs.declared.graph.Fission.{Fission}
use Rattle.strc_sched_orders.specs.Firings.{none_fired}
use Rattle.strc_sched_laws.specs.Laws.{round_order}
use Rattle.strc_sched_laws.proofs.Orders.{AreNodes}
use Rattle.strc_sched_laws.proofs.Rounds.{round_nodes}
use Rattle.strc_fuse.specs.Laws.{AllFireNodes}
use Rattle.strc_fuse.specs.Units.{is_free, round_units}
use Rattle.strc_fuse.proofs.Counting.{firings_same}
use Rattle.strc_fuse.proofs.GreedyOnce.{greedy_fires}
use Rattle.strc_fuse.proofs.OneFusion.{nothing_fused}
use Rattle.strc_fiss.specs.Fissions.{IsTransformed}
use Rattle.strc_fiss.specs.Laws.{AreOwn, pieces_of}
use Rattle.strc_fiss.specs.Numbers.{parts_after}
use Rattle.strc_fiss.specs.Units.{split_units}
use Rattle.strc_fiss.specs.Ways.{fission_of}
use Rattle.strc_fiss.proofs.Pieced.{pieces_before, pieces_after, pieces_own}
use Rattle.strc_stage_plan.specs.Named.{new_origins, old_firings}
use Rattle.strc_stage_plan.specs.Plans.{PlanParts, IsPlan, graph_of, transformed_of}
use Rattle.strc_stage_plan.specs.SplitLaws.{new_graph}
use Rattle.strc_stage_plan.proofs.Named.{AreBelow, blocks_named, nodes_below}
use Rattle.strc_stage_plan.proofs.OwnUnits.{greedy_rounds_own}
use Rattle.strc_stage_steps.specs.Names.{plan_order}
use Rattle.strc_run.specs.Plans.{IsPlanOf}
use Rattle.strc_emit_texts.specs.Orders.{unchanged, UnchangedPlansKeepOrder}
use Rattle.strc_emit_texts.proofs.Shares.{left_whole, units_same}

module _ (plan : PlanParts) (is : IsPlan plan)
    (done : IsTransformed (fission_of (graph_of plan) plan.round_counts 1) (graph_of plan)
    plan.schedule 0 plan.split) where
  abbrev old : Graph
  old = graph_of plan

  abbrev share : ℕ → Fission
  share = fission_of (graph_of plan) plan.round_counts 1

  abbrev units : List RoundUnit
  units = round_units plan.schedule.round

  abbrev fused : List RoundUnit
  fused = round_units plan.split.schedule.round

  abbrev parts : Parts
  parts = parts_after share none_fired

  abbrev blocks : List Block
  blocks = blocks_of (pieces_of share units)

  -- nothing is fused
  units_fire : AllFireNodes (split_units share units)
  units_fire =
      subst AllFireNodes (sym (units_same share (left_whole old plan.round_counts) units))
      (greedy_fires (rates_of old) (count_at plan.startup_counts) (count_at plan.round_counts)
      plan.schedule.round is.schedule.is.round_order.greedy)

  fused_are : fused ≡ split_units share units
  fused_are =
      nothing_fused (is_free (transformed_of plan)) (split_units share units) fused units_fire
      (subst (λ (l : List RoundUnit). AreFused (is_free (transformed_of plan)) 0 l fused)
      done.fission.round done.fusion.round)

  -- each node that is fired is one before fission
  own : AreOwn share units
  own = greedy_rounds_own old is.whole.stream (count_at plan.startup_counts) plan.round_counts
      plan.schedule 1 is.whole.closed.typed is.whole.program is.whole.loops is.schedule.is

  before_is : firings_of units ≡ old_order parts blocks
  before_is =
      ap firings_of (sym (pieces_before share none_fired units))
      ∙ before_same parts (pieces_of share units)

  after_is : firings_of (split_units share units) ≡ new_order parts blocks
  after_is =
      ap firings_of (sym (pieces_after share none_fired units))
      ∙ after_same parts (pieces_of share units)

  nodes_are : AreNodes old (firings_of units)
  nodes_are =
      subst (AreNodes old) (firings_same plan.schedule.round)
      (round_nodes old plan.schedule is.planned)

  named : old_firings (new_graph old plan.schedule plan.round_counts 1).nodes
      (new_origins old plan.round_counts 1) (firings_of (split_units share units))
      ≡ firings_of units
  named =
      ap (old_firings (new_graph old plan.schedule plan.round_counts 1).nodes
      (new_origins old plan.round_counts 1)) after_is
      ∙ blocks_named old plan.schedule plan.round_counts 1 is.planned none_fired blocks
      (blocks_are parts (pieces_of share units) (pieces_own share none_fired units own))
      (subst (AreBelow (length old.nodes)) before_is
      (nodes_below old (firings_of units) nodes_are))
      ∙ sym before_is

  pub order_kept : plan_order plan ≡ round_order plan.schedule
  order_kept =
      ap (λ (g : Graph). old_firings g.nodes plan.split.origins (round_order plan.split.schedule))
      done.fission.graph
      ∙ ap (λ l. old_firings (new_graph old plan.schedule plan.round_counts 1).nodes l
      (round_order plan.split.schedule)) done.fission.origins
      ∙ ap (old_firings (new_graph old plan.schedule plan.round_counts 1).nodes
      (new_origins old plan.round_counts 1))
      (firings_same plan.split.schedule.round ∙ ap firings_of fused_are)
      ∙ named ∙ sym (firings_same plan.schedule.round)

pub unchanged_plans_keep_order : UnchangedPlansKeepOrder
unchanged_plans_keep_order text main plan is planned =
    order_kept plan is planned.accepted.transformed
