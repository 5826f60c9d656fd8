use Rattle.std.proofs.Common.{◌≡◌, map, take}
use Rattle.strc_stage_steps.specs.Blocks.{room_of}
use Rattle.strc_stage_steps.proofs.blocks.rooms_of.Given as goal

abbrev pub invariant-loop-block : goal.invariant-loop-block
invariant-loop-block l = l.rooms.items ≡ map room_of (take l.block-index l.blocks)
