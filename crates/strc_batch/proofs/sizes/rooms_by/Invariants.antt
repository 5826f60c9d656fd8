use Rattle.std.proofs.Common.{◌≡◌, map, take}
use Rattle.strc_elab_graph.specs.NodeView.{channel_view}
use Rattle.strc_stage_cut.specs.Links.{items_between}
use Rattle.strc_batch.proofs.sizes.rooms_by.Given as goal

abbrev pub invariant-loop-channel : goal.invariant-loop-channel
invariant-loop-channel l =
    l.rooms.items ≡ map (items_between l.fn.plan l.fn.bounds)
    (map channel_view (take l.channel-index l.channels))
