use Rattle.strc_stage_core.proofs.Loads.{clears}
use Rattle.strc_stage_core.proofs.lists.clear_all.Goals as goal

pub loop-list-preserved : goal.loop-list-preserved
loop-list-preserved g c = clears c.loop-list.list-items c.loop-list.list-index
    c.list-item.result c.clear.new.self c.args.lists.now.items
    c.deref_mut-list-items.result.now c.loop-list.invariant c.deref_mut-list-items.ensures.value
    c.loop-list-test.true c.list-item.is c.clear.ensures.items
    c.clear.ensures.capacity
