use Rattle.std.proofs.Common.{subst, ℕ, ◌<◌, length, IfOk}
use Rattle.strc_elab_graph.specs.NodeView.{graph_view}
use Rattle.strc_elab_graph.specs.declared.graph.Fission.{Fission}
use Rattle.strc_fiss.specs.Fissions.{IsFission, SplitPasses}
use Rattle.strc_fiss.specs.Numbers.{node_limit, base}
use Rattle.strc_run.proofs.transformations.split_graph.Goals as goal

pub returns-clause-split : goal.returns-clause-split
returns-clause-split c = subst (λ (share : ℕ → Fission). IfOk c.fission.result
    (IsFission share (graph_view c.args.graph.now) c.args.schedule.now)) c.requires.whole
    c.fission.ensures.split

pub returns-clause-nodes : goal.returns-clause-nodes
returns-clause-nodes c is = subst (λ (share : ℕ → Fission).
    node_limit < base share (length c.args.graph.now.nodes)) c.requires.whole
    (c.fission.ensures.nodes is)

pub returns-clause-limit : goal.returns-clause-limit
returns-clause-limit c channel is = subst (λ (share : ℕ → Fission).
    SplitPasses share (graph_view c.args.graph.now) c.args.schedule.now channel)
    c.requires.whole (c.fission.ensures.limit channel is)
