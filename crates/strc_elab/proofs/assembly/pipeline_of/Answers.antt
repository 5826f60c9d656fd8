use Rattle.std.proofs.Common.{map, ap, ◌∙◌}
use Rattle.strc_elab_stream.specs.Instances as instances
use Rattle.strc_elab_stream.specs.View.{stream_view}
use Rattle.strc_elab.proofs.Views.{stream_view-Pipeline, elaborated_same}
use Rattle.strc_elab.proofs.assembly.pipeline_of.Goals as goal

pub returns : goal.returns
returns c = elaborated_same c.args.types _ _ _ _ _ _
    (stream_view-Pipeline c.replace-children.result
    ∙ ap (λ v. instances.Pipeline (instances.in_a_row (map stream_view v.items)))
    c.replace-children.ensures.value)
    c.totals.ensures.turns c.totals.ensures.filters
