use Rattle.std.proofs.Common.{◌≡◌, ◌+◌, ◌++◌, take, vec_len, vec_capacity}
use Rattle.strc_stage_steps.proofs.collector_step.append_within.Given as goal

abbrev pub invariant-loop-word : goal.invariant-loop-word
invariant-loop-word l = (l.own.items ≡ l.fn.own.items ++ take l.word-index l.more)
    × (vec_len l.own ≡ vec_len l.fn.own + l.word-index)
    × (vec_capacity l.own ≡ vec_capacity l.fn.own)
