use Rattle.std.proofs.Common.{◌∙◌, ap, ap₂, sym, ◌<◌, length, map, arith, []}
use Rattle.std.proofs.lemmas.List.{get_or-map}
use Rattle.strc_elab_graph.specs.Graphs.{Joiner}
use Rattle.strc_elab_graph.specs.NodeView.{node_view}
use Rattle.strc_elab_graph.specs.declared.graph.Fission.{Fission}
use Rattle.strc_fiss.specs.Numbers.{share_at}
use Rattle.strc_fiss.specs.Splitting.{new_code, part_code}
use Rattle.strc_fiss.proofs.Bases.{share_read}
use Rattle.strc_fiss.proofs.Sequences.{next_parts}
use Rattle.strc_fiss.proofs.parts.new_nodes.Goals as goal

zeros : Fission
zeros = record { ways = 0; firings = 0; pop = 0; window = 0; push = 0 }

pub loop-node-preserved : goal.loop-node-preserved
unfolding zeros
loop-node-preserved c =
    let nodes = c.args.nodes.now in
    let shares = c.args.shares.now in
    let share = share_at shares in
    let node = c.loop-node.node in
    let read = c.index-nodes-node.result in
    let there : node < length shares = let less = c.loop-node-test.true in
    let same = c.requires in omega (arith, less, same) in
    let own = share_read shares node zeros there in
    c.in_ok-push_nodes.ensures
    ∙ next_parts share (new_code share (map node_view nodes))
    (map node_view c.loop-node.parts.items) node
    (part_code (node_view read) (lib.ListN.get_or shares node zeros))
    (lib.ListN.get_or shares node zeros)
    c.loop-node.invariant
    (ap₂ part_code
    (ap node_view c.index-nodes-node.is
    ∙ sym (get_or-map node_view nodes node read (Joiner []) c.loop-node-test.true)) own)
    own
