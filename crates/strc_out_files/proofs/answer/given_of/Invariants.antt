use Rattle.std.proofs.Common.{◌≡◌, Some, map, take}
use Rattle.strc_elab_graph.specs.NodeView.{node_view}
use Rattle.strc_cli_words.specs.Outs.{names_of}
use Rattle.strc_out_files.specs.Outs.{node_of}
use Rattle.strc_out_files.proofs.answer.given_of.Given as goal

-- each name so far is that of a tape
abbrev pub invariant-loop-out : goal.invariant-loop-out
invariant-loop-out l =
    map (λ out. node_of (map node_view l.graph.nodes) out.0)
    (map names_of (take l.out-index l.outs))
    ≡ map Some l.given.items
