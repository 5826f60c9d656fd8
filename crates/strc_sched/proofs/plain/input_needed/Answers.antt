use Rattle.std.proofs.Common.{◌∙◌, ap, map}
use Rattle.strc_elab_graph.specs.NodeView.{node_view}
use Rattle.strc_sched_laws.specs.Laws.{counts_at}
use Rattle.strc_sched_laws.specs.Planned.{items_read}
use Rattle.strc_sched.proofs.plain.input_needed.Goals as goal

pub returns : goal.returns
returns c = c.items_needed.ensures
    ∙ ap (λ nodes. items_read (map node_view nodes) (counts_at c.args.schedule.now c.args.rounds))
    c.nodes.ensures
