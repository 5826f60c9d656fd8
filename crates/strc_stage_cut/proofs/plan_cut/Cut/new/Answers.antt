use Rattle.std.proofs.Common.{◌≡◌, ◌∙◌, sym, ap, subst, length, map, ◌<◌, ◌≤◌, ◌^◌, List, ℕ, All}
use mathlib.Core.Path.{fun_ext}
use Rattle.strc_balance.specs.Balance.{count_at}
use Rattle.strc_elab_graph.specs.Graphs.{Channel}
use Rattle.strc_elab_graph.specs.NodeView.{GraphParts, node_view}
use Rattle.strc_elab_graph.specs.Tapes.{tape_nodes}
use Rattle.strc_sched_orders.specs.Firings.{Firings}
use Rattle.strc_sched_orders.specs.Greedy.{firings_of}
use Rattle.strc_sched_laws.proofs.Orders.{firing_count_is}
use Rattle.strc_stage_plan.specs.Plans.{transformed_of}
use Rattle.strc_stage_cut.specs.Fired.{running_by}
use Rattle.strc_stage_cut.specs.Links.{carried_between, links_of, room_of}
use Rattle.strc_stage_cut.proofs.Cuts.{link_rooms}
use Rattle.strc_stage_cut.proofs.plan_cut.Cut.new.Goals as goal

pub links_of-requires-clause-bounds : goal.links_of-requires-clause-bounds
links_of-requires-clause-bounds c =
    subst (λ (l : List ℕ). 2 ≤ length l) (sym c.deref-2.ensures.value) c.requires.at.some

pub links_of-requires-clause-few : goal.links_of-requires-clause-few
links_of-requires-clause-few c =
    let plan = c.args.plan.now in
    let fired = c.args.fired.now in
    let counts : count_at c.deref.result.now ≡ (running_by plan fired).counts =
    ap count_at c.deref.ensures.value ∙ c.in_ok-counts.ensures
    ∙ fun_ext (λ node. sym (firing_count_is (firings_of fired) node)) in
    subst (λ (f : Firings). All (λ (channel : Channel). carried_between (transformed_of plan) f
    c.deref-2.result.now channel < 2 ^ 32) (transformed_of plan).channels) (sym counts)
    (subst (λ (l : List ℕ). All (λ (channel : Channel). carried_between (transformed_of plan)
    (running_by plan fired).counts l channel < 2 ^ 32) (transformed_of plan).channels)
    (sym c.deref-2.ensures.value) c.requires.shared.items_few)

pub returns-clause-cut : goal.returns-clause-cut
returns-clause-cut c =
    let plan = c.args.plan.now in
    let fired = c.args.fired.now in
    let counts : count_at c.deref.result.now ≡ (running_by plan fired).counts =
    ap count_at c.deref.ensures.value ∙ c.in_ok-counts.ensures
    ∙ fun_ext (λ node. sym (firing_count_is (firings_of fired) node)) in
    let links = c.in_ok-links.ensures
    ∙ ap (links_of (transformed_of plan) (count_at c.deref.result.now)) c.deref-2.ensures.value
    ∙ ap (λ (f : Firings). links_of (transformed_of plan) f c.args.bounds.items) counts in
    record {
      at = c.requires.at;
      shared = c.requires.shared;
      links = links;
      rooms = c.in_ok-rooms.ensures ∙ ap (map room_of) (c.deref-3.ensures.value ∙ links)
          ∙ link_rooms (transformed_of plan) (running_by plan fired).counts
          c.args.bounds.items (transformed_of plan).channels;
      tapes = c.in_ok-tapes.ensures
          ∙ ap (λ l. tape_nodes (map node_view l)) (c.nodes-2.ensures
          ∙ ap (λ (g : GraphParts). g.nodes) c.transformed_graph-graph.ensures);
    }
