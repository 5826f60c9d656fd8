use Rattle.std.proofs.Common.{◌≡◌, ◌<◌, length, map, ap, sym, subst, ◌∙◌, arith}
use Rattle.std.proofs.lemmas.List.{get_or-map, length-map}
use Rattle.strc_elab_graph.specs.NodeView.{node_view, channel_view}
use Rattle.strc_elab_graph.specs.Graphs.{JoinsPorts}
use Rattle.strc_balance.proofs.rates.equations_of.Goals as goal

pub equation_of-requires : goal.equation_of-requires
equation_of-requires c =
    let channels = c.args.channels.now in
    let nodes = map node_view c.args.nodes.now in
    let channel = c.channel-item.result in
    let i = c.loop-channel.channel-index in
    let short : i < length channels = omega arith in
    let same : length (map channel_view channels) ≡ length channels =
    length-map channels channel_view in
    subst (JoinsPorts nodes) (get_or-map channel_view channels i channel (channel_view channel)
    short ∙ ap channel_view (sym c.channel-item.is))
    (c.requires i (channel_view channel) (omega arith))
