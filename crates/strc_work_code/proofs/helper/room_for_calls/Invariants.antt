use Rattle.std.proofs.Common.{◌≡◌, max, drop}
use Rattle.strc_work_code.specs.Helpers.{codes_room}
use Rattle.strc_work_code.proofs.helper.room_for_calls.Given as goal

abbrev pub invariant-loop-helper : goal.invariant-loop-helper
invariant-loop-helper l = max l.room (codes_room (drop l.helper-index l.helpers))
    ≡ codes_room l.helpers
