use Rattle.std.proofs.Common.{map, nat_eq}
use Rattle.std.specs.Cmp.Lexicographic.{pointwise}
use Rattle.indexmap.specs.IndexMap.{get_by}
use Rattle.strc_elab_graph.specs.NodeView.{node_view}
use Rattle.strc_elab_flattening.proofs.Repeats.{AreWriters}
use Rattle.strc_elab_flattening.proofs.tapes.first_repeat.Given as goal

-- the table has the writers so far, and none of them repeats another one's text
abbrev pub invariant-loop-number : goal.invariant-loop-number
invariant-loop-number l =
    AreWriters (map node_view l.nodes) l.number
    (λ text. get_by (λ k. pointwise nat_eq text k.now) l.writers)
