use Rattle.std.proofs.Common.{◌≡◌, ◌<◌, List, Some, length, slice_get, subst, sym}
use Rattle.strc_elab_graph.specs.declared.graph.Node.{Node}
use Rattle.strc_emit_program.proofs.Numbering.{added_numbered, name_there, node_there}
use Rattle.strc_emit_program.proofs.nodes.push_numbered.Goals as goal

pub returns : goal.returns
returns c =
    let number = c.args.node in
    let nodes = c.args.graph.now.nodes in
    let code = c.index-nodes-node.result in
    let there : slice_get nodes number ≡ Some code =
    subst (λ (all : List Node). slice_get all number ≡ Some code) c.nodes-nodes.ensures
    (node_there c.nodes-nodes.result.now number code
    (subst (λ (all : List Node). number < length all) (sym c.nodes-nodes.ensures) c.requires.there)
    c.index-nodes-node.is) in
    added_numbered c.push_node.result c.args.network.now number c.name.result.now code
    c.args.text.now.items c.push_node.new.text.items
    (subst (λ (all : List Node). slice_get all number ≡ Some code) (sym c.requires.nodes) there)
    (name_there nodes number code c.name.result.now there c.name.ensures) c.push_node.ensures
