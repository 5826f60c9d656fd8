use Rattle.std.proofs.Common.{◌≡◌, map, take}
use Rattle.strc_stage_cut.specs.Links.{room_of}
use Rattle.strc_stage_cut.proofs.links.rooms.Given as goal

abbrev pub invariant-loop-link : goal.invariant-loop-link
invariant-loop-link l = l.rooms.items ≡ map room_of (take l.link-index l.links)
