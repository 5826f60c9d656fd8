use Rattle.std.proofs.Common.{ap, map, vec_items, Some}
use Rattle.strc_elab_graph.specs.NodeView.{node_view}
use Rattle.strc_stage.specs.Telling.{gathered_so}
use Rattle.strc_stage.proofs.Endings.{ends_faulted}
use Rattle.strc_stage.proofs.collector_outcome.stopped.Goals as goal

pub returns-in_ok-told_tapes-in-Fault-clause-ending :
    goal.returns-in_ok-told_tapes-in-Fault-clause-ending
returns-in_ok-told_tapes-in-Fault-clause-ending c =
    ends_faulted (map node_view c.args.nodes.now)
    (gathered_so (map vec_items c.args.words.items) c.args.gathered)
    c.in_ok-told_tapes-in-Fault.field-0
    c.in_ok-told_tapes-in-Fault.ensures.tapes c.in-Fault.node c.in-Fault.firing c.in-Fault.cause
    (Some c.args.stop) (ap Some c.in-Fault.is)
