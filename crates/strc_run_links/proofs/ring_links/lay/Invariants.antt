use Rattle.std.proofs.Common.{◌≡◌, ◌++◌, length}
use Rattle.std.specs.Vec.Iter.{into_iter_items, into_iter_len}
use Rattle.strc_run_links.specs.Ends.{sent_by, SameTx}
use Rattle.strc_run_links.proofs.ring_links.lay.Given as goal

abbrev pub invariant-loop-parcel : goal.invariant-loop-parcel
invariant-loop-parcel g l = SameTx l.fn.tx l.tx
    × (sent_by l.tx ++ into_iter_items l.parcel-iterator ≡ sent_by l.fn.tx ++ l.fn.free.items)
    × (into_iter_len l.parcel-iterator ≡ length (into_iter_items l.parcel-iterator))
