use Rattle.std.proofs.Common.{◌≡◌, ◌++◌, ◌≤◌, ℕ, [], length, map, drop, slice_index_or, vec_items}
use Rattle.strc_elab_graph.specs.NodeView.{node_view}
use Rattle.strc_sched_outcome.specs.Tapes.{tape_view}
use Rattle.strc_stage.specs.Telling.{tapes_by, tapes_from}
use Rattle.strc_stage.proofs.collector_outcome.tapes_with.Given as goal

abbrev pub invariant-loop-node : goal.invariant-loop-node
invariant-loop-node l =
    (map tape_view l.tapes.items ++ tapes_from l.node (length (map tape_view l.tapes.items))
    (drop l.node (map node_view l.nodes)) (map vec_items l.fn.words.items)
    ≡ tapes_by (map node_view l.nodes) (map vec_items l.fn.words.items))
    × ((place : ℕ) → length (map tape_view l.tapes.items) ≤ place
    → slice_index_or (map vec_items l.left.items) place []
    ≡ slice_index_or (map vec_items l.fn.words.items) place [])
