use Rattle.std.proofs.Common.{◌≡◌, [], map, take, replicate}
use Rattle.std.specs.Vec.{vec_items, vec_capacity}
use Rattle.strc_stage_core.proofs.lists.clear_all.Given as goal

abbrev pub invariant-loop-list : goal.invariant-loop-list
invariant-loop-list g l =
    (map vec_items (take l.list-index l.list-items) ≡ replicate l.list-index [])
    × (map vec_capacity l.list-items ≡ map vec_capacity l.fn.lists.items)
