use Rattle.std.proofs.Common.{◌≡◌, [], map, replicate}
use Rattle.std.specs.Vec.{vec_items}
use Rattle.strc_stage_core.proofs.parcel_memory.words_of.Given as goal

abbrev pub invariant-loop : goal.invariant-loop
invariant-loop l = map vec_items l.words.items ≡ replicate l.counter []
