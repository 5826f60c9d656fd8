use Rattle.std.proofs.Common.{List, ◌∙◌, ap, map, refl, subst}
use Rattle.strc_elab_stream.specs.Flattening.{tree_of}
use Rattle.strc_elab_graph.specs.NodeView.{GraphParts, node_view}
use Rattle.strc_elab_graph.specs.declared.graph.Node.{Node}
use Rattle.strc_sched_orders.specs.Greedy.{firings_of}
use Rattle.strc_sched_orders.specs.Schedules.{ScheduleParts}
use Rattle.strc_live_runs.specs.Starts.{IsFirstReader, IsOneTape}
use Rattle.strc_live_runs.proofs.Starts.{started_live}
use Rattle.strc_live_runs.proofs.start.begun.Goals as goal

pub returns : goal.returns
returns c items can ended =
    let whole = ended.ready.is.whole in
    let nodes = c.nodes-nodes.ensures
    ∙ ap (λ (g : GraphParts). g.nodes) c.transformed_graph.ensures in
    let round = c.in_ok-order.ensures.firings ∙ ap firings_of (c.round.ensures
    ∙ ap (λ (s : ScheduleParts). s.round) c.transformed_schedule.ensures.schedule) in
    started_live c.live_plans_begin.ensures (tree_of whole.stream) c.args.plan.now items _
    c.take_words.new.self c.take_words.new.words.items whole.program can ended
    (subst (λ (l : List Node). IsFirstReader (map node_view l) c.reader_of.result) nodes
    c.reader_of.ensures)
    (subst (λ (l : List Node). IsOneTape (map node_view l) c.in_ok-tape_of.field-0) nodes
    c.in_ok-tape_of.ensures)
    round refl c.take_words.ensures.wired c.take_words.ensures.place
    c.take_words.ensures.circuit c.take_words.ensures.machine c.take_words.ensures.words
