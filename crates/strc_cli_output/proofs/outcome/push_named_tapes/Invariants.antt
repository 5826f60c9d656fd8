use Rattle.std.proofs.Common.{◌≡◌, ◌++◌, drop}
use Rattle.strc_elab_graph.specs.NodeView.{node_names}
use Rattle.strc_cli_output.specs.Output.{tape_texts}
use Rattle.strc_cli_output.proofs.outcome.push_named_tapes.Given as goal

-- the text so far and that of the tapes left are the whole
abbrev pub invariant-loop-number : goal.invariant-loop-number
invariant-loop-number l =
    l.text.items ++ tape_texts (node_names l.graph) l.number (drop l.number l.tapes)
    ≡ l.fn.text.items ++ tape_texts (node_names l.graph) 0 l.tapes
