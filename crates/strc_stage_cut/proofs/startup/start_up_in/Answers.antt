use Rattle.std.proofs.Common.{◌∙◌, sym, ap, subst, ℕ, List, Err}
use Rattle.strc_elab_graph.specs.NodeView.{GraphParts, graph_view}
use Rattle.strc_sched_orders.specs.Greedy.{firings_of}
use Rattle.strc_sched_orders.specs.Schedules.{ScheduleParts}
use Rattle.strc_sched_laws.specs.Machine.{order_run}
use Rattle.strc_sched_rings.specs.Circuits.{circuit_view}
use Rattle.strc_sched_machine.specs.Actors.{AreStartable}
use Rattle.strc_sched_machine.specs.Running.{HasGone, machine_view}
use Rattle.strc_sched_machine.proofs.Startable.{all_start}
use Rattle.strc_stage_cut.proofs.Started.{fault_so, first_is, is_ready, left_so}
use Rattle.strc_stage_cut.proofs.startup.start_up_in.Goals as goal

pub new-requires-2-clause-starts : goal.new-requires-2-clause-starts
new-requires-2-clause-starts c =
    subst (λ (g : GraphParts). AreStartable (graph_view g).nodes) (sym c.graph-graph.ensures.graph)
    (all_start (graph_view c.args.plan.now.graph) c.schedule-schedule.result.now
    c.schedule-schedule.ensures.planned)

pub returns-in-Ok : goal.returns-in-Ok
returns-in-Ok c =
    let plan = c.args.plan.now in
    let old = circuit_view c.in_ok-circuit.circuit in
    let first = machine_view c.in_ok-machine.machine in
    let input = c.args.input.now in
    left_so plan c.args.sizes.now input old first
    (is_ready plan c.graph-graph.result.now input old c.known.ensures.is c.known.ensures.graph
    c.graph-graph.ensures.graph c.in_ok-circuit.ensures.circuit c.in_ok-circuit.ensures.input
    c.in_ok-machine.ensures.known)
    (first_is plan c.graph-graph.result.now c.sizes.result.now first c.graph-graph.ensures.graph
    (c.sizes.ensures ∙ ap (λ (s : ScheduleParts). s.sizes) c.schedule-schedule.ensures.schedule)
    c.in_ok-machine.ensures.first)
    (machine_view c.fire_order.new.self) c.dealt.result
    (ap (λ (order : List ℕ). order_run old order first)
    (sym (c.in_ok-order.ensures.firings
    ∙ ap firings_of (c.startup.ensures
    ∙ ap (λ (s : ScheduleParts). s.startup) c.schedule-schedule.ensures.schedule)))
    ∙ c.in-Ok.ensures.gone.0)
    c.dealt.ensures

pub returns : goal.returns
returns c =
    let plan = c.args.plan.now in
    let old = circuit_view c.in_ok-circuit.circuit in
    let first = machine_view c.in_ok-machine.machine in
    let input = c.args.input.now in
    fault_so plan c.args.sizes.now input old first
    (is_ready plan c.graph-graph.result.now input old c.known.ensures.is c.known.ensures.graph
    c.graph-graph.ensures.graph c.in_ok-circuit.ensures.circuit c.in_ok-circuit.ensures.input
    c.in_ok-machine.ensures.known)
    (first_is plan c.graph-graph.result.now c.sizes.result.now first c.graph-graph.ensures.graph
    (c.sizes.ensures ∙ ap (λ (s : ScheduleParts). s.sizes) c.schedule-schedule.ensures.schedule)
    c.in_ok-machine.ensures.first)
    (machine_view c.fire_order.new.self) first.words c.in-Err.stop c.faulted.result
    (subst (λ (order : List ℕ). HasGone (order_run old order first) (Err c.in-Err.stop)
    first.words (machine_view c.fire_order.new.self))
    (c.in_ok-order.ensures.firings
    ∙ ap firings_of (c.startup.ensures
    ∙ ap (λ (s : ScheduleParts). s.startup) c.schedule-schedule.ensures.schedule))
    c.in-Err.ensures.gone)
    c.faulted.ensures
