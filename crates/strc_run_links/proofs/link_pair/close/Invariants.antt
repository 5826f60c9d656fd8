use Rattle.std.proofs.Common.{◌≡◌, ◌++◌, true}
use Rattle.crossbeam_channel.specs.Claims.{view, IsSeatAt}
use Rattle.crossbeam_channel.specs.Ends.{receives_on}
use Rattle.strc_run_links.specs.Ends.{sent_by, got_by, room_of}
use Rattle.strc_run_links.specs.Links.{log}
use Rattle.strc_run_links.proofs.link_pair.close.Given as goal

abbrev pub invariant-loop : goal.invariant-loop
invariant-loop g l = IsSeatAt (receives_on l.receiver) l.pass
    × (view l.pass ≡ log true true (room_of l.fn.tx) (sent_by l.fn.tx)
    (got_by l.fn.rx ++ l.left.items))
