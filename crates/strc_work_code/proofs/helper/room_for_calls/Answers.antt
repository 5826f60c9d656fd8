use Rattle.std.proofs.Common.{◌≡◌, ap, ◌∙◌, arith}
use Rattle.std.proofs.Math.ListN.{drop_of_length-le}
use Rattle.strc_work_meaning.specs.Filters.{filter_of}
use Rattle.strc_work_code.specs.Helpers.{codes_room}
use Rattle.strc_work_code.specs.Lowering.{field_scope}
use Rattle.strc_work_code.proofs.HelperRooms.{codes_room-is}
use Rattle.strc_work_code.proofs.helper.room_for_calls.Goals as goal

pub returns : goal.returns
returns c =
    let filter = filter_of c.args.tree.now in
    let items = c.args.helpers.now in
    let none = ap codes_room (drop_of_length-le items c.loop-helper-test.false) in
    let all : c.loop-helper.room ≡ codes_room items = omega (arith, none, c.loop-helper.invariant)
    in
    all ∙ codes_room-is (field_scope filter) filter.members items c.requires
