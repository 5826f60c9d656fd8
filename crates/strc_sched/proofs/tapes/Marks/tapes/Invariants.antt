use Rattle.std.proofs.Common.{◌≡◌, ℕ, ◌≤◌, ◌++◌, length, map, take, drop}
use Rattle.std.specs.Prelude.{slice_index}
use Rattle.strc_elab_graph.specs.NodeView.{node_view}
use Rattle.strc_sched_outcome.specs.Tapes.{tape_view}
use Rattle.strc_sched_laws.specs.Machine.{words_at}
use Rattle.strc_sched.specs.Marks.{kept_tapes}
use Rattle.strc_sched_machine.specs.Running.{words_of}
use Rattle.strc_sched.specs.Tapes.{tapes_from}
use Rattle.strc_sched.proofs.tapes.Marks.tapes.Given as goal

-- the tapes so far and those of the nodes left are all; the words of these nodes are still there
abbrev pub invariant-loop-node : goal.invariant-loop-node
invariant-loop-node l = record {
  each : length l.left.items ≡ length l.self.nodes.now;
  rest : (node : ℕ) → l.node ≤ node
      → words_at (words_of l.left.items) node ≡ words_at (words_of l.fn.words.items) node;
  tapes : map tape_view l.tapes.items
      ++ tapes_from l.node (drop l.node (map node_view l.self.nodes.now))
      (λ node. take (slice_index l.self.lengths.items node)
      (words_at (words_of l.fn.words.items) node))
      ≡ kept_tapes l.self (words_of l.fn.words.items);
}
