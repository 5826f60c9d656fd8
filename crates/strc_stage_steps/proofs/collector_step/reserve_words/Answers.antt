use Rattle.std.proofs.Common.{◌≡◌, ◌<◌, ◌+◌, ◌≤◌, ◌∙◌, ap, length-set, arith, vec_items}
use Rattle.std.proofs.Common.{vec_capacity, vec_len, length, subst}
use Rattle.std.proofs.Math.Seq.{map-set_same}
use Rattle.strc_stage_steps.proofs.Gathered.{more_room}
use Rattle.strc_stage_steps.proofs.collector_step.reserve_words.Goals as goal

pub returns-in_err-reserve-clause-same : goal.returns-in_err-reserve-clause-same
returns-in_err-reserve-clause-same c =
    let l = c.loop-tape in
    map-set_same vec_items l.words.items l.tape c.reserve.new.self c.index_mut.result.now
    (c.reserve.ensures.items ∙ ap vec_items c.index_mut.ensures.value) ∙ l.invariant.0

pub loop-tape-preserved : goal.loop-tape-preserved
loop-tape-preserved c =
    let l = c.loop-tape in
    let new = c.reserve.new.self in
    let same = map-set_same vec_items l.words.items l.tape new c.index_mut.result.now
    (c.reserve.ensures.items ∙ ap vec_items c.index_mut.ensures.value) in
    let within : l.tape < length l.words.items =
    omega (arith, l.invariant.1, c.loop-tape-test.true) in (
      same ∙ l.invariant.0,
      length-set l.words.items l.tape new ∙ l.invariant.1,
      more_room c.index_mut.result.now new c.args.parcel.now.load l.tape l.words.items within
          (let some = ap length c.words_of.ensures in
          omega (arith, some, new.ok.0, c.in_ok-reserve.ensures.ok)) l.invariant.2,
    )
