use Rattle.std.proofs.Common.{◌≡◌, ℕ, get_or, All, ◌<◌, ◌≤◌, ◌∙◌, List, [], ◌∷◌, ◌++◌, length}
use Rattle.std.proofs.Common.{map, take, ap, ◌+◌}
use Rattle.std.proofs.Common.{sym, subst, arith}
use Rattle.std.proofs.lemmas.List.{map_more, take_all, get_or-map, length-map}
use Rattle.strc_elab_graph.specs.declared.graph.Channel.{Channel}
use Rattle.strc_elab_graph.specs.NodeView.{channel_view}
use Rattle.strc_elab_flattening.specs.Connecting.{EndsBelow, HaveOneRoot}
use Rattle.strc_elab_flattening.proofs.Trees.{AreJoined, length_linked, joined_none, joined_more}
use Rattle.strc_elab_flattening.proofs.Trees.{one_root, connected_root}
use Rattle.strc_elab_flattening.proofs.connection.are_connected.Goals as goal

pub loop-channel-init : goal.loop-channel-init
loop-channel-init c =
    let found = c.in_ok-parents.ensures in
    (found.0, joined_none c.in_ok-parents.parents.items found.1)

-- the ends of a channel are below the count
ends_at : (count : ℕ) (channels : List Channel) (place : ℕ) (channel : Channel)
    → All (EndsBelow count) (map channel_view channels) → place < length channels
    → channel ≡ get_or channels place channel → EndsBelow count (channel_view channel)
ends_at count channels place channel all short is =
    let there : place < length (map channel_view channels) =
    omega (arith, length-map channels channel_view) in
    subst (EndsBelow count)
    (get_or-map channel_view channels place channel (channel_view channel) short
    ∙ ap channel_view (sym is))
    (all place (channel_view channel) there)

pub link-requires-clause-one : goal.link-requires-clause-one
link-requires-clause-one c =
    let short : c.loop-channel.channel-index < length c.args.channels.now = omega arith in
    let below = (ends_at c.args.count c.args.channels.now c.loop-channel.channel-index
    c.channel-item.result c.requires short c.channel-item.is).source in
    let count = c.loop-channel.invariant.0 in
    omega arith

pub link-requires-clause-other : goal.link-requires-clause-other
link-requires-clause-other c =
    let short : c.loop-channel.channel-index < length c.args.channels.now = omega arith in
    let below = (ends_at c.args.count c.args.channels.now c.loop-channel.channel-index
    c.channel-item.result c.requires short c.channel-item.is).target in
    let count = c.loop-channel.invariant.0 in
    omega arith

pub loop-channel-preserved : goal.loop-channel-preserved
loop-channel-preserved c =
    let channels = c.args.channels.now in
    let channel = c.channel-item.result in
    let i = c.loop-channel.channel-index in
    let short : i < length channels = omega arith in
    let before = map channel_view (take i channels) in
    let old = c.loop-channel.parents.items in
    let new = c.link.new.parents.items in
    let more : AreJoined new (before ++ channel_view channel ∷ []) =
    joined_more old new before (channel_view channel) c.loop-channel.invariant.1 c.link.ensures in
    let same : before ++ channel_view channel ∷ [] ≡ map channel_view (take (i + 1) channels) =
    ap (λ x. before ++ channel_view x ∷ []) c.channel-item.is
    ∙ sym (map_more channel_view channels i channel short) in (
      length_linked old new channel.source.node channel.target.node c.link.ensures
          ∙ c.loop-channel.invariant.0,
      subst (AreJoined new) same more,
    )

pub returns : goal.returns
returns c =
    let channels = c.args.channels.now in
    let i = c.loop-channel.channel-index in
    let all : length channels ≤ i = omega arith in
    let parents = c.loop-channel.parents.items in
    let joined : AreJoined parents (map channel_view channels) =
    subst (λ l. AreJoined parents (map channel_view l)) (take_all i channels all)
    c.loop-channel.invariant.1 in
    let count = c.loop-channel.invariant.0 in
    let same = c.deref.ensures.value in (
      λ yes. one_root parents (map channel_view channels) c.args.count count joined
          (subst HaveOneRoot same (c.have_one_root.ensures.0 yes)),
      λ connected. c.have_one_root.ensures.1
          (subst HaveOneRoot (sym same)
          (connected_root parents (map channel_view channels) c.args.count count joined connected)),
    )
