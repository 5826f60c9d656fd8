use Rattle.std.specs.Prelude.{IfOk}
use Rattle.std.proofs.Common.{◌≡◌, ◌∙◌, sym, ap, subst, ℕ, List, All, length, map}
use Rattle.std.proofs.lemmas.List.{length-map}
use Rattle.strc_elab_graph.specs.NodeView.{graph_view, node_view, channel_view}
use Rattle.strc_elab_graph.specs.declared.graph.Node.{Node}
use Rattle.strc_elab_graph.specs.declared.graph.Channel.{Channel}
use Rattle.strc_startup.specs.Waiting.{HasEnds}
use Rattle.strc_startup.specs.declared.channel_rates.ChannelRates.{ChannelRates}
use Rattle.strc_sched_orders.specs.RoundRates.{round_rates_of_channel}
use Rattle.strc_sched_orders.specs.Sizing.{all_rates_on, round_rates_on}
use Rattle.strc_sched_orders.proofs.RoundRates.{round_ends}
use Rattle.strc_sched_orders.proofs.buffer_sizes.network_on.Goals as goal

-- the rates of these nodes and channels
abbrev rates_of_parts : (fills : List ℕ) → List Node → List Channel → List ChannelRates
rates_of_parts fills nodes channels =
    all_rates_on (map (round_rates_of_channel (map node_view nodes)) (map channel_view channels))
    fills

pub new-requires-clause-ends : goal.new-requires-clause-ends
new-requires-clause-ends c =
    let parts = c.args.graph.now in
    let rates = rates_of_parts c.args.fill.now in
    let is = c.in_ok-rates.ensures.rates
    ∙ ap (λ ns. rates ns c.channels.result.now) c.nodes.ensures
    ∙ ap (rates parts.nodes) c.channels.ensures.channels in
    let size = length-map parts.nodes node_view ∙ ap length (sym c.nodes-size.ensures) in
    subst (All (HasEnds (length c.nodes-size.result.now))) (sym is)
    (subst (λ n. All (HasEnds n) (round_rates_on (graph_view parts) c.args.fill.now)) size
    (round_ends (graph_view parts) c.args.fill.now c.channels.ensures.ports))

pub returns-clause-channels : goal.returns-clause-channels
returns-clause-channels c =
    let rates = rates_of_parts c.args.fill.now in
    subst (λ l. IfOk c.new.result (λ network. network.channels ≡ l))
    (c.in_ok-rates.ensures.rates
    ∙ ap (λ ns. rates ns c.channels.result.now) c.nodes.ensures
    ∙ ap (rates c.args.graph.now.nodes) c.channels.ensures.channels)
    c.new.ensures.channels
