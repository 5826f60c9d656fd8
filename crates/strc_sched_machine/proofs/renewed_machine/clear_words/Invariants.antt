use Rattle.std.proofs.Common.{◌≡◌, map, take}
use Rattle.std.specs.Vec.{vec_capacity}
use Rattle.strc_sched_machine.specs.Running.{without_words, words_of}
use Rattle.strc_sched_machine.proofs.renewed_machine.clear_words.Given as goal

-- the lists so far are empty
abbrev pub invariant-loop-own : goal.invariant-loop-own
invariant-loop-own l =
    (words_of (take l.own-index l.words)
    ≡ without_words (words_of (take l.own-index l.initial.words)))
    × (map vec_capacity l.words ≡ map vec_capacity l.initial.words)
