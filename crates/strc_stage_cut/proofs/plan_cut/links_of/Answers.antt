use Rattle.std.proofs.Common.{◌∙◌, sym, ap, subst, ◌<◌, ◌^◌, List, length, map, get_or, arith}
use Rattle.std.proofs.lemmas.List.{get_or-map, length-map}
use Rattle.strc_balance.specs.Balance.{count_at}
use Rattle.strc_elab_graph.specs.Graphs.{Channel}
use Rattle.strc_elab_graph.specs.NodeView.{GraphParts, channel_view}
use Rattle.strc_stage_plan.specs.Plans.{transformed_of}
use Rattle.strc_stage_cut.specs.Links.{carried_between}
use Rattle.strc_stage_cut.proofs.plan_cut.links_of.Goals as goal

pub link_of-requires-clause-few : goal.link_of-requires-clause-few
link_of-requires-clause-few c =
    let plan = c.args.plan.now in
    let channels = c.channels-channels.result.now in
    let index = c.loop-channel.channel-index in
    let item = c.channel-item.result in
    let less = c.loop-channel-test.true in
    let same = ap (map channel_view) (c.channels-channels.ensures.channels
    ∙ ap (λ (g : GraphParts). g.channels) c.transformed_graph.ensures) in
    subst (λ (channel : Channel). carried_between (transformed_of plan) (count_at c.args.counts.now)
    c.args.bounds.now channel < 2 ^ 32)
    (ap (λ (l : List Channel). get_or l index (channel_view item)) (sym same)
    ∙ get_or-map channel_view channels index item (channel_view item) less
    ∙ ap channel_view (sym c.channel-item.is))
    (c.requires.few index (channel_view item)
    (omega (arith, less, ap length same, length-map channels channel_view)))
