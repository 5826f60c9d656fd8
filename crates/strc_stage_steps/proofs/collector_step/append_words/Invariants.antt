use Rattle.std.proofs.Common.{◌≡◌, length, map, drop, vec_items}
use Rattle.strc_stage_steps.specs.Steps.{words_joined}
use Rattle.strc_stage_steps.specs.Gathering.{HaveRoom}
use Rattle.strc_stage_steps.proofs.Gathered.{joined_to}
use Rattle.strc_stage_steps.proofs.collector_step.append_words.Given as goal

abbrev pub invariant-loop-tape : goal.invariant-loop-tape
invariant-loop-tape l = (joined_to l.tape l.words.items l.parcel.load.words
    ≡ words_joined (map vec_items l.fn.words.items) l.parcel.load.words)
    × (length l.words.items ≡ l.tape-end)
    × HaveRoom l.parcel.load l.tape (drop l.tape l.words.items)
