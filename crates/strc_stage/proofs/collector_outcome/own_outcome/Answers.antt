use Rattle.std.proofs.Common.{map}
use Rattle.strc_elab_graph.specs.NodeView.{node_view}
use Rattle.strc_stage_steps.specs.Collectors.{total_of}
use Rattle.strc_stage.proofs.Endings.{ends_done, with_told}
use Rattle.strc_stage.proofs.collector_outcome.own_outcome.Goals as goal

pub returns-in_ok-told_tapes-in-None-clause-ending :
    goal.returns-in_ok-told_tapes-in-None-clause-ending
returns-in_ok-told_tapes-in-None-clause-ending c =
    ends_done (map node_view c.args.nodes.now) (total_of c.args.collector)
    c.in_ok-told_tapes-in-None.field-0 c.in_ok-told_tapes-in-None.ensures.tapes
    c.args.collector.stop c.in-None.is

pub returns-in-Some-clause-ending : goal.returns-in-Some-clause-ending
returns-in-Some-clause-ending c =
    with_told (map node_view c.args.nodes.now) (total_of c.args.collector) c.args.collector.stop
    c.in-Some.stop c.in-Some.is c.stopped.result c.stopped.ensures.ending
