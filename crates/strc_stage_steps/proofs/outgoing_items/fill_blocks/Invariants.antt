use Rattle.std.proofs.Common.{◌≡◌, drop}
use Rattle.strc_stage_core.specs.Parcels.{parcel}
use Rattle.strc_sched_machine.specs.Running.{machine_view}
use Rattle.strc_stage_steps.specs.Steps.{load_left}
use Rattle.strc_stage_steps.proofs.outgoing_items.fill_blocks.Given as goal

abbrev pub invariant-loop-crossing : goal.invariant-loop-crossing
invariant-loop-crossing l =
    parcel (load_left (drop l.crossing-index l.leaving) (machine_view l.machine).rings
    l.parcel.load) l.parcel.stop l.parcel.last
    ≡ parcel (load_left l.leaving (machine_view l.machine).rings l.fn.parcel.load)
    l.fn.parcel.stop l.fn.parcel.last
