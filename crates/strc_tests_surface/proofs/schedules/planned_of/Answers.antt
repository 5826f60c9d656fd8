use Rattle.std.proofs.Common.{arith}
use Rattle.std.proofs.lemmas.List.{length-map}
use Rattle.strc_balance.specs.Balance.{count_at}
use Rattle.strc_elab_graph.specs.NodeView.{graph_view, node_view}
use Rattle.strc_tests_surface.proofs.schedules.planned_of.Goals as goal

pub returns-in-Ok-schedule : goal.returns-in-Ok-schedule
returns-in-Ok-schedule c =
    let nodes = c.args.graph.now.nodes in
    c.schedules_can_be_fused.ensures (graph_view c.args.graph.now) (count_at c.in-Ok-startup.before)
    c.in-Ok.round c.in-Ok-schedule.schedule c.in-Ok-schedule.ensures.schedule
    (omega (arith, c.in-Ok.ensures.nodes, length-map nodes node_view))
