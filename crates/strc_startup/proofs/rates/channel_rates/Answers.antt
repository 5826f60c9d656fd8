use Rattle.std.proofs.Common.{◌∙◌, All, length, map, ap, sym, subst}
use Rattle.std.proofs.lemmas.List.{length-map}
use Rattle.strc_elab_graph.specs.NodeView.{graph_view, node_view, channel_view}
use Rattle.strc_startup.specs.Rates.{rates_of_channel}
use Rattle.strc_startup.specs.Waiting.{HasEnds, Pushes}
use Rattle.strc_startup.proofs.Bounds.{graph_ends, graph_pushes}
use Rattle.strc_startup.proofs.rates.channel_rates.Goals as goal

pub returns-clause-rates : goal.returns-clause-rates
returns-clause-rates c =
    let parts = c.args.graph.now in
    c.in_ok-rates.ensures.rates
    ∙ ap (λ ns. map (rates_of_channel (map node_view ns)) (map channel_view c.channels.result.now))
    c.nodes.ensures
    ∙ ap (λ cs. map (rates_of_channel (map node_view parts.nodes)) (map channel_view cs))
    c.channels.ensures.channels

pub returns-clause-ends : goal.returns-clause-ends
returns-clause-ends c =
    let parts = c.args.graph.now in
    let graph = graph_view parts in
    let items = c.in_ok-rates.ensures.rates
    ∙ ap (λ ns. map (rates_of_channel (map node_view ns)) (map channel_view c.channels.result.now))
    c.nodes.ensures
    ∙ ap (λ cs. map (rates_of_channel (map node_view parts.nodes)) (map channel_view cs))
    c.channels.ensures.channels in
    subst (λ n. All (HasEnds n) c.in_ok-rates.rates.items) (length-map parts.nodes node_view)
    (subst (All (HasEnds (length graph.nodes))) (sym items)
    (graph_ends graph c.channels.ensures.ports))

pub returns-clause-pushes : goal.returns-clause-pushes
returns-clause-pushes c =
    let parts = c.args.graph.now in
    let graph = graph_view parts in
    let items = c.in_ok-rates.ensures.rates
    ∙ ap (λ ns. map (rates_of_channel (map node_view ns)) (map channel_view c.channels.result.now))
    c.nodes.ensures
    ∙ ap (λ cs. map (rates_of_channel (map node_view parts.nodes)) (map channel_view cs))
    c.channels.ensures.channels in
    subst (All Pushes) (sym items) (graph_pushes graph c.requires)
