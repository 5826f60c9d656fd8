use Rattle.std.proofs.Common.{◌≡◌, ◌∙◌, sym, ap, subst, length}
use Rattle.std.specs.Prelude.{IfOk, IfErr}
use Rattle.std.proofs.lemmas.List.{length-map}
use Rattle.strc_elab_graph.specs.NodeView.{graph_view, channel_view}
use Rattle.strc_sched_orders.specs.Firings.{none_fired}
use Rattle.strc_sched_orders.specs.Greedy.{firings_of}
use Rattle.strc_sched_orders.specs.Peaks.{AreRaised}
use Rattle.strc_sched_orders.specs.RoundRates.{round_rates_of}
use Rattle.strc_sched_orders.specs.Sizing.{HasNoSizes}
use Rattle.strc_sched_orders.proofs.Continuing.{length_on, why_limit, why_deadlock}
use Rattle.strc_sched_orders.proofs.RoundRates.{round_length}
use Rattle.strc_sched_orders.proofs.buffer_sizes.sizes.Goals as goal

pub sizes_on-requires-clause-before : goal.sizes_on-requires-clause-before
sizes_on-requires-clause-before c =
    let graph = graph_view c.args.graph.now in
    let all = round_length graph ∙ length-map c.args.graph.now.channels channel_view in
    c.requires.before
    ∙ sym (ap length c.in_ok-network.ensures.channels
    ∙ length_on (round_rates_of graph) c.args.fill.now (c.requires.fill ∙ sym all) ∙ all)

pub returns-clause-channels : goal.returns-clause-channels
returns-clause-channels c =
    let graph = graph_view c.args.graph.now in
    let all = round_length graph ∙ length-map c.args.graph.now.channels channel_view in
    subst (λ n. IfOk c.sizes_on.result (λ sizes. length sizes.items ≡ n))
    (ap length c.in_ok-network.ensures.channels
    ∙ length_on (round_rates_of graph) c.args.fill.now (c.requires.fill ∙ sym all) ∙ all)
    c.sizes_on.ensures.channels

pub returns-clause-within : goal.returns-clause-within
returns-clause-within c = c.sizes_on.ensures.within

pub returns-clause-sizes : goal.returns-clause-sizes
returns-clause-sizes c =
    subst (λ l. IfOk c.sizes_on.result (λ sizes. AreRaised l none_fired
    (firings_of c.args.round.now) c.args.before.now sizes.items))
    c.in_ok-network.ensures.channels c.sizes_on.ensures.sizes

pub returns-clause-limit : goal.returns-clause-limit
returns-clause-limit c channel is =
    let order = firings_of c.args.round.now in
    why_limit c.sizes_on.result _ none_fired order c.args.before.now
    (subst (λ l. IfErr c.sizes_on.result (HasNoSizes l none_fired order c.args.before.now))
    c.in_ok-network.ensures.channels c.sizes_on.ensures.none) channel is

pub returns-clause-error : goal.returns-clause-error
returns-clause-error c in_startup is =
    why_deadlock c.sizes_on.result c.in_ok-network.network.channels none_fired
    (firings_of c.args.round.now) c.args.before.now c.sizes_on.ensures.none in_startup is
