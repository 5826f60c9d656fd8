use Rattle.std.proofs.Common.{arith, ◌∙◌}
use Rattle.std.proofs.Math.Seq.{map-set_same}
use Rattle.std.specs.Vec.{vec_capacity}
use Rattle.strc_sched_machine.proofs.WordLists.{words_emptied}
use Rattle.strc_sched_machine.proofs.renewed_machine.clear_words.Goals as goal

pub loop-own-preserved : goal.loop-own-preserved
loop-own-preserved c =
    let now = c.loop-own.words in
    let place = c.loop-own.own-index in
    let old = c.own-item.result in
    let own = c.clear.new.self in (
      words_emptied now c.args.words.now place old own (omega arith) (omega arith)
          c.clear.ensures.items c.loop-own.invariant.0,
      map-set_same vec_capacity now place own old c.clear.ensures.capacity
          ∙ c.loop-own.invariant.1,
    )
