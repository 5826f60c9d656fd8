use Rattle.std.proofs.Common.{sym, subst, ◌<◌}
use Rattle.std.proofs.lemmas.List.{length-map}
use Rattle.strc_elab_graph.specs.NodeView.{node_view}
use Rattle.strc_batch.proofs.Made.{batch_made}
use Rattle.strc_batch.proofs.batch.batch_of.Goals as goal

pub returns-in-Ok-batch_sizes-clause-batch : goal.returns-in-Ok-batch_sizes-clause-batch
returns-in-Ok-batch_sizes-clause-batch c =
    let plan = c.args.plan.now in
    let some = subst (λ n. 0 < n) (sym (length-map plan.graph.nodes node_view)) c.requires.nodes in
    batch_made plan c.args.rounds c.in-Ok.units.items c.in-Ok-batch_sizes.sizes.items
    c.known.ensures.is c.requires.rounds some c.in-Ok.ensures.units c.in-Ok.ensures.short
    c.in-Ok-batch_sizes.ensures.sizes c.in-Ok-batch_sizes.ensures.within
