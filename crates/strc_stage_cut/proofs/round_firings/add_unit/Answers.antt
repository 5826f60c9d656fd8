use Rattle.std.proofs.Common.{◌∙◌, ap, ◌*◌, ℕ, List, arith, get_or}
use Rattle.strc_sched_orders.specs.Order.{firing_count}
use Rattle.strc_stage_cut.proofs.Repeated.{list_next, node_fits}
use Rattle.strc_stage_cut.proofs.round_firings.add_unit.Goals as goal

pub add_turns-requires-clause-few : goal.add_turns-requires-clause-few
add_turns-requires-clause-few c =
    let nodes = c.deref-node-items.result.now in
    let node = get_or nodes c.loop-node.node-index 0 in
    omega (
      arith,
      node_fits c.args.unit.now.turns nodes c.loop-node.node-index c.loop-node-test.true,
      ap (λ (l : List ℕ). c.args.unit.now.turns * firing_count l node)
          c.deref-node-items.ensures.value,
      c.loop-node.invariant.counts node,
      c.requires.few node,
    )

pub loop-node-preserved : goal.loop-node-preserved
loop-node-preserved c =
    let nodes = c.deref-node-items.result.now in
    let more = list_next c.args.unit.now.turns nodes c.loop-node.node-index in record {
      each = c.add_turns.ensures.each ∙ c.loop-node.invariant.each;
      counts = λ other. omega (
        arith,
        more other c.loop-node-test.true,
        c.add_turns.ensures.counts other,
        c.loop-node.invariant.counts other,
      );
    }
