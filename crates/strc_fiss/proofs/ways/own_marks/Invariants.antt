use Rattle.std.proofs.Common.{◌≡◌, ℕ, ◌<◌, ◌||◌, drop, map, length, get_or, false}
use Rattle.strc_elab_graph.specs.NodeView.{channel_view}
use Rattle.strc_fiss.specs.Ways.{feeds_itself}
use Rattle.strc_fiss.proofs.ways.own_marks.Given as goal

abbrev pub invariant-loop-channel : goal.invariant-loop-channel
invariant-loop-channel l =
    (length l.marks.items ≡ l.size)
    × ((node : ℕ) → node < l.size
    → (get_or l.marks.items node false
    || feeds_itself (map channel_view (drop l.channel-index l.channels)) node)
    ≡ feeds_itself (map channel_view l.channels) node)
