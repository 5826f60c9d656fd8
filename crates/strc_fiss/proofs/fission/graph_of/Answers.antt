use Rattle.std.proofs.Common.{◌≡◌, ◌∙◌, ap, sym, subst, List, length, map, All}
use Rattle.strc_elab_graph.specs.Graphs.{JoinsPorts, NodeCode}
use Rattle.strc_elab_graph.specs.NodeView.{node_view, channel_view}
use Rattle.strc_elab_graph.specs.declared.graph.Node.{Node}
use Rattle.strc_fiss.specs.Numbers.{share_at, each_part}
use Rattle.strc_fiss.specs.Splitting.{new_code, new_loop}
use Rattle.strc_fiss.proofs.Lookup.{part_many}
use Rattle.strc_fiss.proofs.fission.graph_of.Goals as goal

pub new-requires : goal.new-requires
new-requires c =
    let graph = c.args.graph.now in
    let share = share_at c.args.shares.now in
    let codes = map node_view graph.nodes in
    let size = length graph.nodes in
    let nodes : map node_view c.in_ok-nodes.nodes.items
    ≡ each_part share (new_code share codes) size =
    c.in_ok-nodes.ensures
    ∙ ap (λ (l : List Node). each_part share (new_code share (map node_view l)) (length l))
    c.nodes.ensures in
    record {
      channels = subst (λ (l : List NodeCode). All (JoinsPorts l)
          (map channel_view c.in_ok-channels.channels.items)) (sym nodes)
          (subst (All (JoinsPorts (each_part share (new_code share codes) size)))
          (sym c.in_ok-channels.ensures) c.requires.joined);
      outer_loops = ap length c.in_ok-loops.ensures
          ∙ part_many share (new_loop share size graph.outer_loops) size
          ∙ sym (part_many share (new_code share codes) size)
          ∙ ap length (sym nodes);
    }
