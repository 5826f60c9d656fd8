use Rattle.std.proofs.Common.{◌≡◌, length, take}
use Rattle.strc_stage_core.specs.Moves.{AreRoomy, queues, rooms}
use Rattle.strc_stage_core.proofs.parts.make_room.Given as goal

abbrev pub invariant-loop-link : goal.invariant-loop-link
invariant-loop-link g l = record {
  same : queues l.links.items ≡ queues l.fn.links.items;
  size : length l.links.items ≡ l.link-end;
  roomy : AreRoomy l.room (rooms (take l.link l.links.items));
}
