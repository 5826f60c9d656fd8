use Rattle.std.proofs.Common.{◌∙◌, refl, ap, map, vec_items}
use Rattle.strc_elab_graph.specs.NodeView.{node_view}
use Rattle.strc_stage.specs.Telling.{tapes_by}
use Rattle.strc_stage.proofs.Tapes.{no_words}
use Rattle.strc_stage.proofs.collector_outcome.faulted.Goals as goal

pub returns-clause-ending : goal.returns-clause-ending
returns-clause-ending c = (
  refl,
  c.in_ok-told_tapes.ensures.tapes
      ∙ ap (λ l. tapes_by (map node_view c.args.nodes.now) (map vec_items l)) c.new.ensures.items
      ∙ no_words 0 0 (map node_view c.args.nodes.now),
)
