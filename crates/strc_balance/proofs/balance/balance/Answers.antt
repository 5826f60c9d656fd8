use Rattle.std.proofs.Common.{◌≡◌, ◌∙◌, length, All, sym, subst, IfOk}
use Rattle.std.proofs.lemmas.List.{length-map}
use Rattle.strc_elab_graph.specs.NodeView.{graph_view, node_view}
use Rattle.strc_balance.specs.Balance.{HasRates}
use Rattle.strc_balance.specs.Rates.{equations_of, size_of}
use Rattle.strc_balance.specs.Verdicts.{judged}
use Rattle.strc_balance.proofs.Judging.{judged-least, judged-size, judged-large}
use Rattle.strc_balance.proofs.Judging.{judged-inconsistent}
use Rattle.strc_balance.proofs.Rated.{graph_rates}
use Rattle.strc_balance.proofs.GraphViews.{same_size, same_equations, graph_verdict}
use Rattle.strc_balance.proofs.Channels.{channels_connect}
use Rattle.strc_balance.proofs.balance.balance.Goals as goal

pub solve-requires-clause-rates : goal.solve-requires-clause-rates
solve-requires-clause-rates c =
    let parts = c.args.graph.now in
    let graph = graph_view parts in
    let nodes = c.nodes-nodes.result.now in
    let channels = c.channels.result.now in
    let equations = c.deref.result.now in
    let is = c.deref.ensures.value ∙ c.in_ok-equations.ensures.equations in
    let size = same_size parts nodes channels equations c.nodes-nodes.ensures
    c.channels.ensures.channels is in
    let same = same_equations parts nodes channels equations c.nodes-nodes.ensures
    c.channels.ensures.channels is in
    let rates = graph_rates graph c.channels.ensures.ports c.requires.rates in
    subst (λ es. All (HasRates (length nodes)) es) (sym same)
    (subst (λ n. All (HasRates n) (equations_of graph)) (sym size) rates)

pub returns-clause-least : goal.returns-clause-least
returns-clause-least c =
    let parts = c.args.graph.now in
    let graph = graph_view parts in
    let rates = graph_rates graph c.channels.ensures.ports c.requires.rates in
    let verdict = graph_verdict parts c.nodes-nodes.result.now c.channels.result.now
    c.deref.result.now c.nodes-nodes.ensures c.channels.ensures.channels
    (c.deref.ensures.value ∙ c.in_ok-equations.ensures.equations) c.solve.result
    c.solve.ensures.verdict in
    judged-least (size_of graph) (equations_of graph) rates
    (channels_connect graph c.requires.connected) c.solve.result
    verdict

pub returns-clause-nodes : goal.returns-clause-nodes
returns-clause-nodes c =
    let parts = c.args.graph.now in
    let graph = graph_view parts in
    let rates = graph_rates graph c.channels.ensures.ports c.requires.rates in
    let verdict = graph_verdict parts c.nodes-nodes.result.now c.channels.result.now
    c.deref.result.now c.nodes-nodes.ensures c.channels.ensures.channels
    (c.deref.ensures.value ∙ c.in_ok-equations.ensures.equations) c.solve.result
    c.solve.ensures.verdict in
    let least = judged-least (size_of graph) (equations_of graph) rates
    (channels_connect graph c.requires.connected)
    c.solve.result verdict in
    subst (λ n. IfOk c.solve.result (λ counts. length counts ≡ n))
    (length-map parts.nodes node_view)
    (judged-size (size_of graph) (equations_of graph) c.solve.result least)

pub returns-clause-too_large : goal.returns-clause-too_large
returns-clause-too_large c =
    let parts = c.args.graph.now in
    let graph = graph_view parts in
    let rates = graph_rates graph c.channels.ensures.ports c.requires.rates in
    let verdict = graph_verdict parts c.nodes-nodes.result.now c.channels.result.now
    c.deref.result.now c.nodes-nodes.ensures c.channels.ensures.channels
    (c.deref.ensures.value ∙ c.in_ok-equations.ensures.equations) c.solve.result
    c.solve.ensures.verdict in
    judged-large (size_of graph) (equations_of graph) rates c.solve.result verdict

pub returns-clause-inconsistent : goal.returns-clause-inconsistent
returns-clause-inconsistent c =
    let parts = c.args.graph.now in
    let graph = graph_view parts in
    let rates = graph_rates graph c.channels.ensures.ports c.requires.rates in
    let verdict = graph_verdict parts c.nodes-nodes.result.now c.channels.result.now
    c.deref.result.now c.nodes-nodes.ensures c.channels.ensures.channels
    (c.deref.ensures.value ∙ c.in_ok-equations.ensures.equations) c.solve.result
    c.solve.ensures.verdict in
    judged-inconsistent (size_of graph) (equations_of graph) rates
    (channels_connect graph c.requires.connected)
    c.solve.result verdict
