use Rattle.std.proofs.Common.{◌≡◌, ◌∙◌, sym, ap, subst, List, ℤ, ℕ, ◌+◌, ◌<◌, suc, length}
use Rattle.std.proofs.Common.{map, arith}
use Rattle.strc_elab_graph.specs.NodeView.{channel_view, graph_view, node_view}
use Rattle.strc_elab_graph.specs.declared.graph.Node.{Node}
use Rattle.strc_sched_rings.specs.Circuits.{circuit_view}
use Rattle.strc_sched_laws.specs.Rings.{items_at}
use Rattle.strc_sched_machine.specs.Running.{machine_view}
use Rattle.strc_stage_steps.specs.Handing.{HasFilled, items_before, ring_before, with_items}
use Rattle.strc_stage_steps.proofs.FilledChannels.{channel_there, filled_next, target_there}
use Rattle.strc_stage_steps.proofs.dealt_state.hand_channels.Goals as goal

pub ring_before-ring-requires-clause-target : goal.ring_before-ring-requires-clause-target
ring_before-ring-requires-clause-target c =
    let own = c.index-channels-number.result in
    let there = target_there c.args.graph.now c.channels-channels.result.now
    c.channels-channels.ensures.channels c.loop-number.number own c.loop-number-test.true
    c.index-channels-number.is c.channels-channels.ensures.ports in
    let many = ap length c.nodes.ensures in
    omega (arith, there, many)

pub ring_before-ring-requires-clause-within : goal.ring_before-ring-requires-clause-within
ring_before-ring-requires-clause-within c =
    let own = c.index-channels-number.result in
    c.requires.within own.target.node (target_there c.args.graph.now
    c.channels-channels.result.now c.channels-channels.ensures.channels c.loop-number.number own
    c.loop-number-test.true c.index-channels-number.is c.channels-channels.ensures.ports)

pub loop-number-preserved : goal.loop-number-preserved
loop-number-preserved c =
    let graph = c.args.graph.now in
    let origins = c.args.origins.now in
    let number = c.loop-number.number in
    let own = c.index-channels-number.result in
    let old = circuit_view c.args.old.now in
    let left = machine_view c.args.left.now in
    let same = c.channels-channels.ensures.channels in
    let now = machine_view c.loop-number.after in
    let less = subst (λ l. number < length l) same c.loop-number-test.true in
    let rings = c.requires.rings in
    let next : suc number ≡ number + 1 = omega arith in
    let items_same = ap (items_at left.rings) (c.ring_before-ring.ensures
    ∙ ap (λ (l : List Node). ring_before old (map node_view l) origins (channel_view own))
    c.nodes.ensures) in
    record {
      filled = subst (λ (n : ℕ). HasFilled (items_before old (graph_view graph).nodes origins left)
          (graph_view graph).channels n (machine_view c.args.after.now)
          (machine_view c.hand_items.new.after)) next
          (subst (HasFilled (items_before old (graph_view graph).nodes origins left)
          (graph_view graph).channels (suc number) (machine_view c.args.after.now))
          (sym (c.hand_items.ensures.items
          ∙ ap (λ (l : List ℤ). with_items number l now) items_same))
          (filled_next (items_before old (graph_view graph).nodes origins left)
          (graph_view graph).channels (machine_view c.args.after.now) number now
          (channel_view own) c.loop-number.invariant.filled
          (channel_there graph c.channels-channels.result.now same number own
          c.loop-number-test.true c.index-channels-number.is)
          (omega (arith, less, rings))));
      machine = λ circuit is. c.hand_items.ensures.machine circuit
          (c.loop-number.invariant.machine circuit is);
    }
