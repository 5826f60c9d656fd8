use Rattle.std.proofs.Common.{◌≡◌, ℕ, drop, map}
use Rattle.strc_elab_graph.specs.NodeView.{node_view}
use Rattle.strc_sched_laws.specs.Planned.{items_read, read_from}
use Rattle.strc_sched.proofs.needed_input.reader_of.Given as goal

abbrev pub invariant-loop-node : goal.invariant-loop-node
invariant-loop-node l = (counts : ℕ → ℕ) → items_read (map node_view l.nodes) counts
    ≡ read_from l.node (map node_view (drop l.node l.nodes)) counts
