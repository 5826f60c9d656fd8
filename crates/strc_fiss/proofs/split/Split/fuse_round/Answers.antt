use Rattle.std.proofs.Common.{◌≡◌, sym, subst, ℕ, All, length, map}
use Rattle.std.specs.Prelude.{OnOk}
use Rattle.std.proofs.lemmas.List.{length-map}
use Rattle.strc_elab_graph.specs.NodeView.{graph_view, node_view, channel_view}
use Rattle.strc_sched_orders.specs.Peaks.{HasNodes}
use Rattle.strc_fuse.specs.Fusion.{IsFusion}
use Rattle.strc_fiss.specs.Splits.{SplitParts}
use Rattle.strc_fiss.proofs.Fusing.{still_fusible, is_fusion}
use Rattle.strc_fiss.proofs.split.Split.fuse_round.Goals as goal

pub invariant_of-self : goal.invariant_of-self
invariant_of-self c =
    let graph = c.self.inside.graph in
    let new = c.fuse.new.schedule in
    let many : length graph.nodes ≡ length (map node_view graph.nodes) =
    sym (length-map graph.nodes node_view) in
    still_fusible (graph_view graph) c.args.threshold c.self.inside.schedule new c.fuse.result
    c.self.invariant c.fuse.ensures.kept
    (subst (λ (n : ℕ). OnOk c.fuse.result (All (HasNodes n) new.round)) many c.fuse.ensures.nodes)
    c.fuse.ensures.error

pub returns-clause-fusion : goal.returns-clause-fusion
returns-clause-fusion c =
    let graph = c.self.inside.graph in
    let new = c.fuse.new.schedule in
    let many : length graph.channels ≡ length (map channel_view graph.channels) =
    sym (length-map graph.channels channel_view) in
    subst (λ (s : SplitParts). OnOk c.fuse.result
    (IsFusion (graph_view s.graph) c.args.threshold s.schedule new)) c.self.view_is
    (is_fusion (graph_view graph) c.args.threshold c.self.inside.schedule new c.fuse.result
    c.fuse.ensures.kept c.fuse.ensures.units
    (subst (λ (n : ℕ). OnOk c.fuse.result (length new.sizes ≡ n)) many c.fuse.ensures.channels)
    c.fuse.ensures.within c.fuse.ensures.sizes)
