use Rattle.std.proofs.Common.{◌≡◌, ◌++◌, [], length}
use Rattle.std.specs.Prelude.{All}
use Rattle.std.specs.Vec.Iter.{into_iter_items, into_iter_len}
use Rattle.strc_run_links.specs.Ends.{got_by}
use Rattle.strc_run_links.specs.Seats.{HasRoom, Linked, stages_of}
use Rattle.strc_run_links.proofs.ring_links.seat.Given as goal

abbrev pub invariant-loop-stage : goal.invariant-loop-stage
invariant-loop-stage g l =
    (stages_of l.seats.items ++ into_iter_items l.stage-iterator ≡ l.fn.stages.items)
    × Linked l.fn.before l.seats.items l.rx
    × (got_by l.rx ≡ [])
    × (into_iter_len l.stage-iterator ≡ length (into_iter_items l.stage-iterator))
    × All (HasRoom l.fn.room) l.seats.items
