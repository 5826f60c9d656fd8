use Rattle.std.proofs.Common.{◌∙◌, sym, ap, subst, ◌<◌, ◌^◌, List, length, map, get_or, arith}
use Rattle.std.proofs.lemmas.List.{get_or-map, length-map}
use Rattle.strc_elab_graph.specs.Graphs.{Channel, JoinsPorts}
use Rattle.strc_elab_graph.specs.NodeView.{GraphParts, channel_view}
use Rattle.strc_stage_plan.specs.Plans.{transformed_of}
use Rattle.strc_stage_cut.specs.Links.{items_between}
use Rattle.strc_batch.proofs.sizes.rooms_by.Goals as goal

pub room_of-requires-clause-joins : goal.room_of-requires-clause-joins
room_of-requires-clause-joins c =
    let plan = c.args.plan.now in
    let channels = c.channels-channels.result.now in
    let index = c.loop-channel.channel-index in
    let item = c.channel-item.result in
    let less = c.loop-channel-test.true in
    let same = ap (map channel_view) (c.channels-channels.ensures.channels
    ∙ ap (λ (g : GraphParts). g.channels) c.transformed_graph.ensures) in
    subst (JoinsPorts (transformed_of plan).nodes)
    (ap (λ (l : List Channel). get_or l index (channel_view item)) (sym same)
    ∙ get_or-map channel_view channels index item (channel_view item) less
    ∙ ap channel_view (sym c.channel-item.is))
    (c.requires.joins index (channel_view item)
    (omega (arith, less, ap length same, length-map channels channel_view)))

pub room_of-requires-clause-few : goal.room_of-requires-clause-few
room_of-requires-clause-few c =
    let plan = c.args.plan.now in
    let channels = c.channels-channels.result.now in
    let index = c.loop-channel.channel-index in
    let item = c.channel-item.result in
    let less = c.loop-channel-test.true in
    let same = ap (map channel_view) (c.channels-channels.ensures.channels
    ∙ ap (λ (g : GraphParts). g.channels) c.transformed_graph.ensures) in
    subst (λ (channel : Channel). items_between plan c.args.bounds.now channel < 2 ^ 32)
    (ap (λ (l : List Channel). get_or l index (channel_view item)) (sym same)
    ∙ get_or-map channel_view channels index item (channel_view item) less
    ∙ ap channel_view (sym c.channel-item.is))
    (c.requires.few index (channel_view item)
    (omega (arith, less, ap length same, length-map channels channel_view)))
