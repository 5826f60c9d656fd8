use Rattle.std.proofs.Common.{◌∙◌, ap, ◌<◌, length, ◌++◌, length-set, arith, map, vec_items}
use Rattle.strc_stage_steps.specs.Steps.{words_joined}
use Rattle.strc_stage_steps.proofs.Gathered.{joins, less_room}
use Rattle.strc_stage_steps.proofs.collector_step.append_words.Goals as goal

pub loop-tape-preserved : goal.loop-tape-preserved
loop-tape-preserved c =
    let l = c.loop-tape in
    let new = c.append_within.new.own in
    let own = c.index_mut.result.now in
    let (so_far, size, room) = l.invariant in
    let within : l.tape < length l.words.items = omega (arith, size, c.loop-tape-test.true) in (
      joins own new l.tape l.words.items c.args.parcel.now.load
          (words_joined (map vec_items c.args.words.now.items) c.args.parcel.now.load.words) within
          c.index_mut.ensures.value
          (c.append_within.ensures ∙ ap (λ m. own.items ++ m) c.words_of.ensures) so_far,
      length-set l.words.items l.tape new ∙ size,
      less_room own new c.args.parcel.now.load l.tape l.words.items within room,
    )
