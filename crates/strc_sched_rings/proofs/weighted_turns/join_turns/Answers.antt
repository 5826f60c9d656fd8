use Rattle.std.proofs.Common.{◌∙◌, ap}
use Rattle.strc_sched_laws.specs.Rings.{at_port, gathered_in}
use Rattle.strc_sched_rings.proofs.Turns.{times_next}
use Rattle.strc_sched_rings.proofs.weighted_turns.join_turns.Goals as goal

pub loop-turn-preserved : goal.loop-turn-preserved
loop-turn-preserved c =
    let weights = c.args.weights.now in
    let inputs = c.args.inputs.now in
    record {
      each = c.gather.ensures.rings ∙ c.loop-turn.invariant.each;
      rest = times_next c.args.turns c.loop-turn._turn
          (gathered_in weights inputs (at_port c.args.outputs.now 0) 0) c.loop-turn.rings
          c.gather.new.rings c.loop-turn-test.true
          (c.gather.ensures.gathered
          ∙ ap (λ to. gathered_in weights inputs to 0 c.loop-turn.rings) c.ring_of-output.ensures)
          ∙ c.loop-turn.invariant.rest;
    }
