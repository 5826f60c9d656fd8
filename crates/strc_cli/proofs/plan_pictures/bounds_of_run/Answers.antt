use Rattle.std.proofs.Common.{◌≡◌, ◌∙◌, sym, subst, length}
use Rattle.std.proofs.lemmas.List.{length-map}
use Rattle.strc_elab_graph.specs.NodeView.{GraphParts, node_view}
use Rattle.strc_cli.proofs.plan_pictures.bounds_of_run.Goals as goal

pub stage_bounds-requires-clause-loops : goal.stage_bounds-requires-clause-loops
stage_bounds-requires-clause-loops c =
    subst (λ (g : GraphParts). length g.outer_loops ≡ length g.nodes)
    (sym c.transformed_graph.ensures)
    (c.known.ensures.transformed.outer_loops
    ∙ length-map c.args.plan.now.split.graph.nodes node_view)
