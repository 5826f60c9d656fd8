use Rattle.std.proofs.Common.{◌∙◌, List, Vec, Global, ap, ap₂, length, map, subst, subst₂, sym, ℕ}
use Rattle.strc_elab_graph.specs.NodeView.{GraphParts, node_view}
use Rattle.strc_stage_weights.specs.FiringWork.{firing_works}
use Rattle.strc_cli_output.specs.NodeOrders.{AreIn}
use Rattle.strc_cli_output.specs.Totals.{sizes_behind, sum_of}
use Rattle.strc_cli_output.specs.Works.{round_works}
use Rattle.strc_cli_output.proofs.NodeWorks.{all_told, long_text, told_with}
use Rattle.strc_cli_output.proofs.works.long_plan_text.Goals as goal

pub returns : goal.returns
returns c =
    let plan = c.args.plan.now in
    let stream = c.args.stream.now in
    let order = c.args.order in
    let items : Vec ℕ Global → List ℕ = λ p. p.items in
    let paths = map items c.deref-4.result.now in
    let firings = c.deref-5.result.now in
    let rounds = c.deref-6.result.now in
    let sizes = c.deref-7.result.now in
    let numbers = c.deref-8.result.now in
    let same_graph = c.graph-graph.ensures.graph in
    let same_nodes = c.nodes.ensures ∙ ap (λ (g : GraphParts). g.nodes) same_graph in
    let told =
    all_told plan stream paths firings rounds sizes
    (ap (map items) c.deref-4.ensures.value ∙ c.in_ok-paths.ensures)
    (c.deref-5.ensures.value ∙ c.in_ok-firings.ensures
    ∙ ap (λ nodes. firing_works (map node_view nodes)) same_nodes)
    (c.deref-6.ensures.value ∙ c.in_ok-rounds.ensures
    ∙ ap₂ round_works (c.deref.ensures.value ∙ sym c.deref-5.ensures.value)
    (c.as_slice.ensures.counts ∙ c.round_counts.ensures.counts))
    (c.deref-7.ensures.value ∙ c.in_ok-sizes.ensures
    ∙ ap (λ (g : GraphParts). sizes_behind (length g.nodes) g.channels c.sizes.result.now)
    same_graph
    ∙ ap (λ (l : List ℕ). sizes_behind (length plan.graph.nodes) plan.graph.channels l)
    c.sizes.ensures.sizes) in
    let ordered =
    subst (λ (l : List ℕ). AreIn order rounds sizes l) (sym c.deref-8.ensures.value)
    (subst₂ (λ (r s : List ℕ). AreIn order r s c.in_ok-numbers.numbers.items)
    (c.deref-2.ensures.value ∙ sym c.deref-6.ensures.value)
    (c.deref-3.ensures.value ∙ sym c.deref-7.ensures.value) c.in_ok-numbers.ensures) in
    long_text plan stream order (told_with paths firings rounds sizes) numbers
    (length c.nodes-2.result.now) (length c.channels.result.now) c.sum_of.result c.sum_of-2.result
    c.in_ok-text.text.items c.push_nodes.new.text.items c.push_totals.new.text.items
    told ordered c.in_ok-text.ensures c.in_ok-push_nodes.ensures c.in_ok-push_totals.ensures
    (ap length (c.nodes-2.ensures ∙ ap (λ (g : GraphParts). g.nodes) same_graph))
    (ap length (c.channels.ensures.channels ∙ ap (λ (g : GraphParts). g.channels) same_graph))
    (c.sum_of.ensures ∙ ap sum_of (c.deref-9.ensures.value ∙ sym c.deref-7.ensures.value))
    (c.sum_of-2.ensures ∙ ap sum_of (c.deref-10.ensures.value ∙ sym c.deref-6.ensures.value))
