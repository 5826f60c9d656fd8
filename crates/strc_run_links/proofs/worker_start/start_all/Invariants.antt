use Rattle.std.proofs.Common.{◌≡◌, ◌++◌, length}
use Rattle.std.specs.Vec.Iter.{into_iter_items, into_iter_len}
use Rattle.strc_run_links.specs.Children.{begun_of}
use Rattle.strc_run_links.proofs.worker_start.start_all.Given as goal

abbrev pub invariant-loop-seat : goal.invariant-loop-seat
invariant-loop-seat g l =
    (begun_of l.children.items ++ into_iter_items l.seat-iterator ≡ l.fn.seats.items)
    × (into_iter_len l.seat-iterator ≡ length (into_iter_items l.seat-iterator))
