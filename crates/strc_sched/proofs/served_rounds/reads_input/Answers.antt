use Rattle.std.proofs.Common.{◌∙◌, ap, sym, map}
use Rattle.strc_elab_graph.specs.NodeView.{node_view}
use Rattle.strc_sched_laws.specs.Planned.{items_read}
use Rattle.strc_sched.proofs.ServedRounds.{reader_is}
use Rattle.strc_sched.proofs.served_rounds.reads_input.Goals as goal

pub returns : goal.returns
returns c =
    c.is_some.ensures
    ∙ reader_is c.reader_of.result (map node_view c.args.graph.now.nodes) (λ counts.
    ap (λ nodes. items_read (map node_view nodes) counts) (sym c.nodes.ensures)
    ∙ c.reader_of.ensures counts)
