use Rattle.std.proofs.Common.{◌≡◌, map, ap, sym, subst, ◌∙◌, take, get_or, ◌++◌, ◌∷◌}
use Rattle.std.proofs.Common.{[], arith}
use Rattle.std.specs.Prelude.{All, slice_index}
use Rattle.std.proofs.lemmas.List.{get_or-map, length-map, take_all}
use Rattle.std.proofs.lemmas.List.Elements.{All-append, All-cons, All-nil}
use Rattle.strc_elab_graph.specs.NodeView.{node_view, channel_view}
use Rattle.strc_elab_graph.specs.Graphs.{JoinsPorts}
use Rattle.strc_startup.specs.Waiting.{IsBounded}
use Rattle.strc_sched_orders.specs.RoundRates.{round_rates_of_channel}
use Rattle.strc_sched_orders.specs.Sizing.{rates_on, all_rates_on}
use Rattle.strc_sched_orders.proofs.Continuing.{length_on, rates_more}
use Rattle.strc_sched_orders.proofs.Networks.{nothing}
use Rattle.strc_sched_orders.proofs.round_rates.rates_from.Goals as goal

pub rates_at-requires : goal.rates_at-requires
rates_at-requires c =
    let channels = c.args.channels.now in
    let nodes = map node_view c.args.nodes.now in
    let i = c.loop-channel.channel in
    let channel = c.index-channels-channel.result in
    let short = c.loop-channel-test.true in
    let same = length-map channels channel_view in
    subst (JoinsPorts nodes) (get_or-map channel_view channels i channel (channel_view channel)
    short ∙ ap channel_view (sym c.index-channels-channel.is))
    (c.requires.ports i (channel_view channel) (omega (arith, short, same)))

pub loop-channel-preserved : goal.loop-channel-preserved
loop-channel-preserved c =
    let nodes = map node_view c.args.nodes.now in
    let own = c.args.channels.now in
    let views = map channel_view own in
    let channels = map (round_rates_of_channel nodes) views in
    let fills = c.args.fill.now in
    let i = c.loop-channel.channel in
    let channel = c.index-channels-channel.result in
    let short = c.loop-channel-test.true in
    let same = length-map own channel_view in
    let long = length-map views (round_rates_of_channel nodes) ∙ same in
    let before = take i (all_rates_on channels fills) in
    let there : get_or channels i nothing ≡ round_rates_of_channel nodes (channel_view channel) =
    get_or-map (round_rates_of_channel nodes) views i (channel_view channel) nothing
    (omega (arith, short, same))
    ∙ ap (round_rates_of_channel nodes)
    (get_or-map channel_view own i channel (channel_view channel) short
    ∙ ap channel_view (sym c.index-channels-channel.is)) in
    record {
      rates = c.in_ok-push.ensures.items
          ∙ ap (λ l. l ++ c.rates_at.result ∷ []) c.loop-channel.invariant.rates
          ∙ ap (λ r. before ++ r ∷ []) (c.rates_at.ensures.rates
          ∙ ap (λ r. rates_on r (slice_index fills i)) (sym there))
          ∙ sym (rates_more channels fills i nothing (c.requires.each ∙ sym long)
          (omega (arith, short, long)));
      bounds = subst (All IsBounded) (sym c.in_ok-push.ensures.items)
          (All-append IsBounded c.loop-channel.rates.items (c.rates_at.result ∷ [])
          c.loop-channel.invariant.bounds
          (All-cons IsBounded c.rates_at.result [] c.rates_at.ensures.bounds (All-nil IsBounded)));
    }

pub returns-clause-rates : goal.returns-clause-rates
returns-clause-rates c =
    let nodes = map node_view c.args.nodes.now in
    let own = c.args.channels.now in
    let views = map channel_view own in
    let channels = map (round_rates_of_channel nodes) views in
    let fills = c.args.fill.now in
    let long = length-map views (round_rates_of_channel nodes) ∙ length-map own channel_view in
    c.loop-channel.invariant.rates
    ∙ take_all c.loop-channel.channel (all_rates_on channels fills)
    (omega (
      arith,
      length_on channels fills (c.requires.each ∙ sym long),
      long,
      c.loop-channel-test.false,
    ))
