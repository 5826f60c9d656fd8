use Rattle.std.proofs.Common.{map, ap, ◌∙◌, option_map}
use Rattle.strc_elab_graph.specs.NodeView.{splitter_view}
use Rattle.strc_elab_stream.specs.Instances as instances
use Rattle.strc_elab_stream.specs.View.{stream_view}
use Rattle.strc_elab.proofs.Views.{stream_view-SplitJoin, elaborated_same}
use Rattle.strc_elab.proofs.assembly.splitjoin_of.Goals as goal

pub returns : goal.returns
returns c = elaborated_same c.args.types _ _ _ _ _ _
    (stream_view-SplitJoin c.args.splitter c.replace-children.result c.args.joiner
    ∙ ap (λ v. instances.SplitJoin (option_map splitter_view c.args.splitter)
    (instances.in_a_row (map stream_view v.items)) (option_map (λ w. w.items) c.args.joiner))
    c.replace-children.ensures.value)
    c.totals.ensures.turns c.totals.ensures.filters
