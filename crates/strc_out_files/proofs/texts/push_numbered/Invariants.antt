use Rattle.std.proofs.Common.{◌≡◌, ◌++◌, drop}
use Rattle.strc_elab_graph.specs.NodeView.{node_names}
use Rattle.strc_out_files.specs.Texts.{numbered_texts, pairs_of}
use Rattle.strc_out_files.proofs.texts.push_numbered.Given as goal

-- the text so far and that of the tapes left are the whole
abbrev pub invariant-loop-it : goal.invariant-loop-it
invariant-loop-it l =
    l.text.items ++ numbered_texts (node_names l.graph) (pairs_of (drop l.it-index l.tapes))
    ≡ l.fn.text.items ++ numbered_texts (node_names l.graph) (pairs_of l.tapes)
