use Rattle.std.proofs.Common.{◌∙◌, ap}
use Rattle.strc_sched_laws.specs.Rings.{extended}
use Rattle.strc_sched_rings.proofs.Turns.{cycles_next}
use Rattle.strc_sched_rings.proofs.weighted_turns.extend_by_cycles.Goals as goal

pub loop-cycle-preserved : goal.loop-cycle-preserved
loop-cycle-preserved c =
    cycles_next c.args.cycles.count c.loop-cycle._cycle c.args.weight c.args.cycles.length
    c.loop-cycle.left.now c.rest_of-left.result.now c.loop-cycle.ring c.extend.new.ring
    c.loop-cycle-test.true c.rest_of-left.ensures
    (c.extend.ensures ∙ ap (λ l. extended l c.loop-cycle.ring) c.first_of.ensures)
    ∙ c.loop-cycle.invariant
