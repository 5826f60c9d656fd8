use Rattle.std.proofs.Common.{Some, ◌∙◌, ap, rules}
use Rattle.strc_sched_laws.specs.Rings.{moved}
use Rattle.strc_sched_rings.specs.Pairs.{gathered_from}
use Rattle.strc_sched_rings.proofs.Turns.{times_next}
use Rattle.strc_sched_rings.proofs.pair.gather_from.Goals as goal

pub loop-turn-preserved : goal.loop-turn-preserved
loop-turn-preserved c =
    let pair = c.args.pair in
    record {
      each = search rules;
      rest = times_next c.args.turns c.loop-turn._turn (gathered_from pair) c.loop-turn.rings
          c.move_across-in-loop-turn.new.rings c.loop-turn-test.true
          (c.move_across-in-loop-turn.ensures
          ∙ ap (moved (Some pair.second) (Some pair.other) pair.second_weight)
          c.move_across.ensures)
          ∙ c.loop-turn.invariant.rest;
    }
