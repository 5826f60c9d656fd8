use Rattle.std.proofs.Common.{sym, subst, ◌∷◌, [], ◌++◌, take, arith}
use Rattle.std.proofs.lemmas.List.{length-map, length-take}
use Rattle.strc_elab_graph.specs.NodeView.{node_view}
use Rattle.strc_sched_machine.proofs.Starting.{AreStarted, started_next, started_actors}
use Rattle.strc_sched_machine.proofs.Starting.{started_each, started_fields}
use Rattle.strc_sched_machine.proofs.Starting.{started_known, starts_at, all_started, take_more}
use Rattle.strc_sched_machine.proofs.actor.start_actors.Goals as goal

pub may_fire_in_lanes-in_lanes-requires : goal.may_fire_in_lanes-in_lanes-requires
may_fire_in_lanes-in_lanes-requires c =
    let front = take c.loop-node.node-index c.args.nodes.now in
    let each = started_each front c.loop-node.actors.items c.loop-node.invariant in
    let seen = length-map front node_view in
    let first = length-take c.loop-node.node-index c.args.nodes.now in
    record {
      inputs = omega (arith, each, seen, first, c.requires.inputs, c.loop-node-test.true);
      outputs = omega (arith, each, seen, first, c.requires.outputs, c.loop-node-test.true);
    }

pub start_actor-requires : goal.start_actor-requires
start_actor-requires c = record {
  starts = starts_at c.args.nodes.now c.loop-node.node-index c.node-item.result c.requires.starts
      c.loop-node-test.true c.node-item.is;
}

pub loop-node-preserved : goal.loop-node-preserved
loop-node-preserved c =
    let nodes = c.args.nodes.now in
    let i = c.loop-node.node-index in
    subst (λ l. AreStarted l c.push.new.self.items)
    (sym (take_more nodes i c.node-item.result c.loop-node-test.true c.node-item.is))
    (subst (λ l. AreStarted (take i nodes ++ c.node-item.result ∷ []) l)
    (sym c.in_ok-push.ensures.items)
    (started_next (take i nodes) c.loop-node.actors.items c.node-item.result
    c.in_ok-start_actor.field-0 c.loop-node.invariant c.in_ok-start_actor.ensures.actor
    c.in_ok-start_actor.ensures.fields c.in_ok-start_actor.ensures.known))

pub returns-clause-actors : goal.returns-clause-actors
returns-clause-actors c = started_actors c.args.nodes.now c.loop-node.actors.items
    (all_started c.args.nodes.now c.loop-node.actors.items c.loop-node.node-index
    c.loop-node-test.false c.loop-node.invariant)

pub returns-clause-fields : goal.returns-clause-fields
returns-clause-fields c = started_fields c.args.nodes.now c.loop-node.actors.items
    (all_started c.args.nodes.now c.loop-node.actors.items c.loop-node.node-index
    c.loop-node-test.false c.loop-node.invariant)

pub returns-clause-known : goal.returns-clause-known
returns-clause-known c = started_known c.args.nodes.now c.loop-node.actors.items
    (all_started c.args.nodes.now c.loop-node.actors.items c.loop-node.node-index
    c.loop-node-test.false c.loop-node.invariant)
