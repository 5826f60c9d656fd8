use Rattle.std.proofs.Common.{◌∙◌, ◌↔◌, true, length, All, IfOk, sym, subst, rules}
use Rattle.std.specs.Prelude.{IsTrue}
use Rattle.strc_elab_graph.specs.NodeView.{graph_view}
use Rattle.strc_balance.specs.Balance.{HasRates, AreConnected}
use Rattle.strc_balance.specs.Rates.{IsRated, equations_of, size_of}
use Rattle.strc_balance.proofs.Channels.{can_be}
use Rattle.strc_balance.proofs.Rated.{graph_rates}
use Rattle.strc_balance.proofs.GraphViews.{same_size, same_equations}
use Rattle.strc_balance.proofs.condition.can_balance.Goals as goal

pub are_connected-requires : goal.are_connected-requires
are_connected-requires c =
    let parts = c.args.graph.now in
    let graph = graph_view parts in
    let nodes = c.nodes-nodes.result.now in
    let channels = c.channels.result.now in
    let equations = c.in_ok-equations.equations.items in
    let size = same_size parts nodes channels equations c.nodes-nodes.ensures
    c.channels.ensures.channels c.in_ok-equations.ensures.equations in
    let items = same_equations parts nodes channels equations c.nodes-nodes.ensures
    c.channels.ensures.channels c.in_ok-equations.ensures.equations in
    let yes : IsTrue true = search rules in
    let rated : All IsRated (equations_of graph) =
    subst (All IsRated) (c.deref.ensures.value ∙ items) (c.if-not-are_rated.ensures.0 yes) in
    let rates = graph_rates graph c.channels.ensures.ports rated in
    subst (λ es. All (HasRates (length nodes)) es) (sym (c.deref-2.ensures.value ∙ items))
    (subst (λ n. All (HasRates n) (equations_of graph)) (sym size) rates)

pub returns : goal.returns
returns c =
    let parts = c.args.graph.now in
    let graph = graph_view parts in
    let nodes = c.nodes-nodes.result.now in
    let channels = c.channels.result.now in
    let equations = c.in_ok-equations.equations.items in
    let size = same_size parts nodes channels equations c.nodes-nodes.ensures
    c.channels.ensures.channels c.in_ok-equations.ensures.equations in
    let items = same_equations parts nodes channels equations c.nodes-nodes.ensures
    c.channels.ensures.channels c.in_ok-equations.ensures.equations in
    let yes : IsTrue true = search rules in
    let rated : All IsRated (equations_of graph) =
    subst (All IsRated) (c.deref.ensures.value ∙ items) (c.if-not-are_rated.ensures.0 yes) in
    let connected : IfOk c.are_connected.result
    (λ can. IsTrue can ↔ AreConnected (size_of graph) (equations_of graph)) =
    subst (λ n. IfOk c.are_connected.result
    (λ can. IsTrue can ↔ AreConnected n (equations_of graph))) size
    (subst (λ es. IfOk c.are_connected.result (λ can. IsTrue can ↔ AreConnected (length nodes) es))
    (c.deref-2.ensures.value ∙ items) c.are_connected.ensures) in
    can_be graph rated c.are_connected.result connected
