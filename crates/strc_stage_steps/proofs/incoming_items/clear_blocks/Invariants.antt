use Rattle.std.proofs.Common.{◌≡◌, drop}
use Rattle.strc_stage_core.specs.Parcels.{parcel}
use Rattle.strc_stage_steps.specs.Steps.{load_entered}
use Rattle.strc_stage_steps.proofs.incoming_items.clear_blocks.Given as goal

abbrev pub invariant-loop-crossing : goal.invariant-loop-crossing
invariant-loop-crossing l =
    parcel (load_entered (drop l.crossing-index l.entering) l.parcel.load) l.parcel.stop
    l.parcel.last
    ≡ parcel (load_entered l.entering l.fn.parcel.load) l.fn.parcel.stop l.fn.parcel.last
