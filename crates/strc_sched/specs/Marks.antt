-- How many words each tape had when a round began.
use Rattle.std.specs.Prelude.{◌≡◌, List, length, map, slice_index, take}
use Rattle.strc_work_meaning.specs.declared.word.Word.{Word}
use Rattle.strc_elab_graph.specs.NodeView.{node_view}
use Rattle.strc_sched_outcome.specs.Tapes.{TapeView}
use Rattle.strc_sched_laws.specs.Machine.{words_at}
use Rattle.strc_elab_graph.specs.Tapes.{tape_nodes_from}
use Rattle.strc_sched.specs.Tapes.{tapes_of}
use Rattle.strc_sched.specs.declared.tapes.Marks.{Marks}

-- the nodes that give words are known, and there is a length for each node
pub record IsMarks (marks : Marks) : Type 0 where
  pub tapes : marks.tapes.items ≡ tape_nodes_from 0 (map node_view marks.nodes.now)
  pub each : length marks.lengths.items ≡ length marks.nodes.now

-- the tapes with the words that they had then
abbrev pub kept_tapes : Marks → List (List Word) → List TapeView
kept_tapes marks words = tapes_of (map node_view marks.nodes.now)
    (λ node. take (slice_index marks.lengths.items node) (words_at words node))
