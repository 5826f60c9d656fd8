use Rattle.std.proofs.Common.{◌≡◌, length, map, take, vec_items}
use Rattle.strc_stage_steps.specs.Gathering.{HaveRoom}
use Rattle.strc_stage_steps.proofs.collector_step.reserve_words.Given as goal

abbrev pub invariant-loop-tape : goal.invariant-loop-tape
invariant-loop-tape l = (map vec_items l.words.items ≡ map vec_items l.fn.words.items)
    × (length l.words.items ≡ l.tape-end)
    × HaveRoom l.parcel.load 0 (take l.tape l.words.items)
