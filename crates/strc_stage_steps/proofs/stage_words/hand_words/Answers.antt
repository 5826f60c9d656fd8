use Rattle.strc_sched_machine.specs.Running.{machine_view}
use Rattle.strc_stage_steps.proofs.Turns.{there, words_go, words_end}
use Rattle.strc_stage_steps.proofs.stage_words.hand_words.Goals as goal

pub loop-own-preserved : goal.loop-own-preserved
loop-own-preserved c =
    let l = c.loop-own in
    let was = there c.args.tapes.now l.own-index (record { tape = 0; node = 0 })
    c.loop-own-test.true in
    let now = machine_view l.machine in
    let next = machine_view c.hand_tape.new.machine in (
      λ circuit is. c.hand_tape.ensures.machine circuit (l.invariant.0 circuit is),
      words_end c.args.tapes.now l.own-index _ c.requires.after c.loop-own-test.true was now next _
          c.hand_tape.ensures.left l.invariant.1,
      words_go c.args.tapes.now l.own-index _ c.requires.after c.loop-own-test.true was now next
          l.parcel c.hand_tape.new.parcel _ c.hand_tape.ensures.left c.hand_tape.ensures.sent
          l.invariant.2,
    )
