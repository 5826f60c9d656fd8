use Rattle.std.proofs.Common.{◌≡◌, sym, ap, ◌∙◌, subst, All, length, Err}
use Rattle.std.proofs.lemmas.List.{length-map}
use Rattle.strc_elab_graph.specs.NodeView.{graph_view, channel_view}
use Rattle.strc_sched_orders.specs.Firings.{none_fired}
use Rattle.strc_sched_orders.specs.Greedy.{firings_of}
use Rattle.strc_sched_orders.specs.Order.{firing_count}
use Rattle.strc_sched_orders.specs.Peaks.{AreRaised, HasNodes}
use Rattle.strc_sched_orders.specs.Schedules.{ScheduleParts}
use Rattle.strc_sched_orders.specs.Sizing.{round_rates_on, PassesOn}
use Rattle.strc_elab_dataflow.specs.FusedUnits.{AreFused}
use Rattle.strc_elab_dataflow.proofs.Exchange.{same_round}
use Rattle.strc_elab_graph.specs.Meaning.{node_meaning}
use Rattle.strc_fuse.specs.Units.{is_free, round_units}
use Rattle.strc_fuse.specs.declared.error.FuseError.TheVariants as refused
use Rattle.strc_fuse.proofs.Fusible.{round_counts, round_stays, round_placed, fused_fusible}
use Rattle.strc_fuse.proofs.Marks.{fused_nodes, as_read}
use Rattle.strc_fuse.proofs.Refusals.{fused_pass}
use Rattle.strc_fuse.proofs.fuse.fuse.Goals as goal
use Rattle.strc_sched_laws.proofs.Orders.{firing_count_is}
use Rattle.strc_lex_names.proofs.Results.{passed_error}

pub sizes_of-requires-clause-nodes : goal.sizes_of-requires-clause-nodes
sizes_of-requires-clause-nodes c =
    let free = is_free (graph_view c.args.graph.now) in
    let size = length c.args.graph.now.nodes in
    let old = c.args.schedule.now.round in
    let new = c.in_ok-round.round.items in
    subst (All (HasNodes size)) (sym c.deref.ensures.value)
    (fused_nodes free c.args.threshold size old new
    (as_read free c.args.threshold c.round.result.now old new c.round.ensures
    c.in_ok-round.ensures) c.requires.nodes)

pub returns-in_err-sizes-clause-limit : goal.returns-in_err-sizes-clause-limit
returns-in_err-sizes-clause-limit c channel is =
    let graph = graph_view c.args.graph.now in
    let schedule = c.args.schedule.now in
    let new = c.in_ok-round.round.items in
    let own : refused.BufferLimit channel ≡ c.in_err-sizes.field-0.0 =
    passed_error c.from_residual-in_err-sizes.result c.in_err-sizes.field-0.0
    (refused.BufferLimit channel) c.from_residual-in_err-sizes.ensures is in
    let passes = c.sizes_of.ensures.limit channel (c.in_err-sizes.was ∙ ap Err (sym own)) in
    fused_pass graph c.args.threshold schedule channel new
    (as_read (is_free graph) c.args.threshold c.round.result.now schedule.round new
    c.round.ensures c.in_ok-round.ensures)
    (subst (λ l. PassesOn (round_rates_on graph schedule.last) none_fired (firings_of l)
    schedule.greatest channel) c.deref.ensures.value passes)

pub returns-clause-nodes : goal.returns-clause-nodes
returns-clause-nodes c =
    let free = is_free (graph_view c.args.graph.now) in
    let size = length c.args.graph.now.nodes in
    let old = c.args.schedule.now.round in
    let new = c.in_ok-round.round.items in
    subst (λ (s : ScheduleParts). All (HasNodes size) s.round) (sym c.replace_round.ensures)
    (fused_nodes free c.args.threshold size old new
    (as_read free c.args.threshold c.round.result.now old new c.round.ensures
    c.in_ok-round.ensures) c.requires.nodes)

pub returns-clause-counts : goal.returns-clause-counts
returns-clause-counts c node =
    let free = is_free (graph_view c.args.graph.now) in
    let old = c.args.schedule.now.round in
    let new = c.in_ok-round.round.items in
    ap (λ (s : ScheduleParts). firing_count (firings_of s.round) node) c.replace_round.ensures
    ∙ round_counts free c.args.threshold old new
    (as_read free c.args.threshold c.round.result.now old new c.round.ensures
    c.in_ok-round.ensures) node

pub returns-clause-order : goal.returns-clause-order
returns-clause-order c channels counts round past balanced placed is =
    let free = is_free (graph_view c.args.graph.now) in
    let old = c.args.schedule.now.round in
    let new = c.replace_round.new.self.round in
    let fused = subst (λ (s : ScheduleParts). AreFused free c.args.threshold (round_units old)
    (round_units s.round)) (sym c.replace_round.ensures)
    (as_read free c.args.threshold c.round.result.now old c.in_ok-round.round.items
    c.round.ensures c.in_ok-round.ensures) in (
      round_stays channels counts round free c.args.threshold old new past balanced placed fused is,
      round_placed channels counts round free c.args.threshold old new past balanced placed fused,
    )

pub returns-clause-runnable : goal.returns-clause-runnable
returns-clause-runnable c startup round whole fusible =
    let graph = graph_view c.args.graph.now in
    let free = is_free graph in
    let old = c.args.schedule.now in
    let new = c.replace_round.new.self in
    let e = c.replace_round.ensures in
    let fused = subst (λ (s : ScheduleParts). AreFused free c.args.threshold
    (round_units old.round) (round_units s.round)) (sym e)
    (as_read free c.args.threshold c.round.result.now old.round c.in_ok-round.round.items
    c.round.ensures c.in_ok-round.ensures) in
    let rates = round_rates_on graph old.last in
    let kept = e ∙ ap (λ (s : ScheduleParts). record old { round = s.round; sizes = s.sizes })
    (sym e) in
    let each = ap (λ (s : ScheduleParts). length s.sizes) e ∙ c.in_ok-sizes.ensures.channels
    ∙ sym (length-map c.args.graph.now.channels channel_view) in
    let raised = subst (λ (s : ScheduleParts). AreRaised rates none_fired (firings_of s.round)
    old.greatest s.sizes) (sym e)
    (subst (λ l. AreRaised rates none_fired (firings_of l) old.greatest
    c.in_ok-sizes.sizes.items) c.deref.ensures.value c.in_ok-sizes.ensures.sizes) in
    fused_fusible graph startup round free c.args.threshold old new whole fusible fused kept each
    raised

pub returns-clause-same : goal.returns-clause-same
returns-clause-same c streams within wired now valid other_valid =
    let free = is_free (graph_view c.args.graph.now) in
    let old = c.args.schedule.now.round in
    let new = c.in_ok-round.round.items in
    same_round node_meaning streams within wired (firings_of old)
    (firings_of c.replace_round.new.self.round) now
    (λ node. firing_count_is (firings_of old) node
    ∙ sym (round_counts free c.args.threshold old new
    (as_read free c.args.threshold c.round.result.now old new c.round.ensures
    c.in_ok-round.ensures) node)
    ∙ sym (ap (λ (s : ScheduleParts). firing_count (firings_of s.round) node)
    c.replace_round.ensures)
    ∙ sym (firing_count_is (firings_of c.replace_round.new.self.round) node)) valid other_valid
