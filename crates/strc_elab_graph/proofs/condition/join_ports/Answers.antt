use Rattle.std.proofs.Common.{◌≡◌, ◌∙◌, ◌<◌, ◌≤◌, true, All, length, map, take, get_or, ap, sym}
use Rattle.std.proofs.Common.{subst, arith, rules}
use Rattle.std.specs.Prelude.{IsTrue}
use Rattle.std.proofs.lemmas.List.{map_more, take_all, get_or-map, length-map}
use Rattle.std.proofs.lemmas.List.Elements.{All-push}
use Rattle.strc_elab_graph.specs.Graphs.{JoinsPorts}
use Rattle.strc_elab_graph.specs.NodeView.{node_view, channel_view}
use Rattle.strc_elab_graph.proofs.condition.join_ports.Goals as goal

pub returns-then-not-joins_ports : goal.returns-then-not-joins_ports
returns-then-not-joins_ports c =
    let nodes = map node_view c.args.nodes.now in
    let channels = c.args.channels.now in
    let channel = c.channel-item.result in
    let i = c.loop-channel.channel-index in
    let short : i < length channels = omega arith in
    let there : i < length (map channel_view channels) =
    omega (arith, length-map channels channel_view) in
    let same : get_or (map channel_view channels) i (channel_view channel) ≡ channel_view channel =
    get_or-map channel_view channels i channel (channel_view channel) short
    ∙ ap channel_view (sym c.channel-item.is) in (
      λ yes. absurd (cc),
      λ all. c.if-not-joins_ports.ensures.1
          (subst (JoinsPorts nodes) same (all i (channel_view channel) there)),
    )

pub loop-channel-preserved : goal.loop-channel-preserved
loop-channel-preserved c =
    let nodes = map node_view c.args.nodes.now in
    let channels = c.args.channels.now in
    let channel = c.channel-item.result in
    let i = c.loop-channel.channel-index in
    let short : i < length channels = omega arith in
    let yes : IsTrue true = search rules in
    let here : JoinsPorts nodes (channel_view channel) = c.if-not-joins_ports.ensures.0 yes in
    subst (All (JoinsPorts nodes)) (sym (map_more channel_view channels i channel short))
    (All-push (JoinsPorts nodes) (map channel_view (take i channels)) _ c.loop-channel.invariant
    (subst (λ x. JoinsPorts nodes (channel_view x)) c.channel-item.is here))

pub returns : goal.returns
returns c =
    let channels = c.args.channels.now in
    let i = c.loop-channel.channel-index in
    let all : length channels ≤ i = omega arith in
    let yes : IsTrue true = search rules in (
      λ contained. subst (All (JoinsPorts (map node_view c.args.nodes.now)))
          (ap (map channel_view) (take_all i channels all)) c.loop-channel.invariant,
      λ joined. yes,
    )
