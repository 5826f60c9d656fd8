use Rattle.std.proofs.Common.{◌≡◌, ℕ, ◌≤◌, ◌++◌, length, map, drop}
use Rattle.std.specs.Vec.{vec_items}
use Rattle.strc_elab_graph.specs.NodeView.{node_view}
use Rattle.strc_elab_graph.specs.Tapes.{tape_nodes_from}
use Rattle.strc_sched_laws.specs.Machine.{words_at}
use Rattle.strc_sched_machine.specs.Running.{words_of}
use Rattle.strc_stage_cut.proofs.tapes.tape_words.Given as goal

abbrev pub invariant-loop-node : goal.invariant-loop-node
invariant-loop-node l = record {
  each : length l.left.items ≡ length l.nodes;
  rest : (place : ℕ) → l.node ≤ place
      → words_at (words_of l.left.items) place ≡ words_at (words_of l.initial.left.items) place;
  own : map vec_items l.own.items
      ++ map (words_at (words_of l.initial.left.items))
      (tape_nodes_from l.node (drop l.node (map node_view l.nodes)))
      ≡ map (words_at (words_of l.initial.left.items)) (tape_nodes_from 0 (map node_view l.nodes));
}
