use Rattle.std.proofs.Common.{◌≡◌, ◌+◌, ◌++◌, take, vec_len}
use Rattle.std.specs.Vec.{vec_capacity}
use Rattle.strc_stage_core.proofs.lists.append_within.Given as goal

abbrev pub invariant-loop-item : goal.invariant-loop-item
invariant-loop-item l = (l.list.items ≡ l.fn.list.items ++ take l.item-index l.items)
    × (vec_len l.list ≡ vec_len l.fn.list + l.item-index)
    × (vec_capacity l.list ≡ vec_capacity l.fn.list)
