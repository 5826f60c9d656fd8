-- The nodes of a plan's round after fission and fusion.
use Rattle.std.proofs.Common.{◌≡◌, ◌∙◌, sym, ap, subst, ℕ, List, length, All, arith}
use Rattle.std.proofs.lemmas.List.{length-map}
use Rattle.strc_elab_graph.specs.Graphs.{Graph}
use Rattle.strc_elab_graph.specs.NodeView.{GraphParts, graph_view, node_view}
use Rattle.strc_balance.specs.Balance.{count_at}
use Rattle.strc_sched_orders.specs.Peaks.{HasNodes}
use Rattle.strc_sched_orders.specs.Schedules.{ScheduleParts}
use Rattle.strc_fuse.specs.Units.{is_free}
use Rattle.strc_fuse.proofs.Lawful.{schedules_can_be_fused}
use Rattle.strc_fuse.proofs.Marks.{fused_nodes}
use Rattle.strc_fiss.specs.Numbers.{base}
use Rattle.strc_fiss.specs.Splits.{SplitParts}
use Rattle.strc_fiss.specs.Splitting.{new_code}
use Rattle.strc_fiss.specs.Ways.{fission_of}
use Rattle.strc_fiss.proofs.Lookup.{part_many}
use Rattle.strc_fiss.proofs.Planned.{nodes_there}
use Rattle.strc_stage_plan.specs.Plans.{HasRound, HasSchedule, IsTransformation}

-- they are those of the graph after fission
pub nodes_after : (graph : GraphParts) (startup round : List ℕ) (schedule : ScheduleParts)
    (split : SplitParts) → HasRound (graph_view graph) round
    → HasSchedule (graph_view graph) startup round schedule
    → IsTransformation (graph_view graph) round schedule split
    → All (HasNodes (length split.graph.nodes)) split.schedule.round
nodes_after graph startup round schedule split counts has is =
    let old = graph_view graph in
    let share = fission_of old round is.ways in
    let fission = is.transformed.fission in
    let unfused = is.transformed.unfused in
    let before = (schedules_can_be_fused old (count_at startup) round schedule has.is
    (omega (arith, counts.least.balances.each))).nodes in
    let many : base share (length old.nodes) ≡ length split.graph.nodes =
    sym (part_many share (new_code share old.nodes) (length old.nodes))
    ∙ sym (ap (λ (g : Graph). length g.nodes) fission.graph)
    ∙ length-map split.graph.nodes node_view in
    fused_nodes (is_free (graph_view split.graph)) is.threshold (length split.graph.nodes)
    unfused.round split.schedule.round is.transformed.fusion.round
    (subst (λ (n : ℕ). All (HasNodes n) unfused.round) many
    (nodes_there share (length old.nodes) schedule.round unfused.round before fission.round))
