use Rattle.std.proofs.Common.{◌≡◌, min}
use Rattle.strc_elab_graph.specs.NodeView.{node_view}
use Rattle.strc_stage_weights.specs.FiringWork.{items_given}
use Rattle.strc_stage_weights.specs.declared.firing_work.TheConstants.{ITEM_LIMIT}
use Rattle.strc_stage_weights.proofs.firing_work.items_given.Given as goal

abbrev pub invariant-loop-port : goal.invariant-loop-port
invariant-loop-port l = l.items ≡ min (items_given (node_view l.fn.node) l.port) ITEM_LIMIT
