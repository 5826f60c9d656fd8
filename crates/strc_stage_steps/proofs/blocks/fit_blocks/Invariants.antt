use Rattle.std.proofs.Common.{◌≡◌, drop}
use Rattle.strc_stage_steps.specs.Blocks.{blocks_fit}
use Rattle.strc_stage_steps.proofs.blocks.fit_blocks.Given as goal

abbrev pub invariant-loop-number : goal.invariant-loop-number
invariant-loop-number l =
    blocks_fit (drop l.number l.blocks) (drop l.number l.parcel.load.blocks)
    (drop l.number l.parcel.load.rooms)
    ≡ blocks_fit l.blocks l.parcel.load.blocks l.parcel.load.rooms
