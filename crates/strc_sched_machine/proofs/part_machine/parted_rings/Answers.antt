use Rattle.std.proofs.Common.{◌∙◌, sym, ap, ◌+◌, ◌++◌, map, drop, arith}
use Rattle.std.proofs.lemmas.List.{get_or-map, length-map}
use Rattle.strc_elab_graph.specs.NodeView.{channel_view}
use Rattle.strc_sched_machine.specs.Parts.{empty_rings}
use Rattle.strc_sched_machine.proofs.PartLists.{ring_next}
use Rattle.strc_sched_machine.proofs.part_machine.parted_rings.Goals as goal

pub loop-number-preserved : goal.loop-number-preserved
loop-number-preserved c =
    let first = c.args.first in
    let next = c.args.next in
    let rooms = c.args.rooms.now in
    let channels = c.args.channels.now in
    let views = map channel_view channels in
    let number = c.loop-number.number in
    let channel = c.index-channels-number.result in
    ap (λ l. l ++ empty_rings first next rooms (number + 1) (drop (number + 1) views))
    c.in_ok-push.ensures.items
    ∙ ring_next first next rooms views c.loop-number.rings.items _ number c.room_at-room.result
    (channel_view channel) (channel_view channel) c.in_ok-with_capacity.field-0
    (let less = c.loop-number-test.true in let many = length-map channels channel_view in
    omega (arith, less, many))
    (get_or-map channel_view channels number channel (channel_view channel)
    c.loop-number-test.true
    ∙ ap channel_view (sym c.index-channels-number.is))
    c.room_at-room.ensures c.in_ok-with_capacity.ensures c.loop-number.invariant
