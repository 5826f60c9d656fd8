use Rattle.std.proofs.Common.{◌≡◌, drop}
use Rattle.strc_sched_laws.specs.Machine.{CircuitView}
use Rattle.strc_sched_machine.specs.Running.{IsMachine, machine_view}
use Rattle.strc_stage_steps.specs.Steps.{machine_entered}
use Rattle.strc_stage_steps.proofs.incoming_items.fill_rings.Given as goal

abbrev pub invariant-loop-crossing : goal.invariant-loop-crossing
invariant-loop-crossing l =
    ((circuit : CircuitView) → IsMachine circuit l.fn.machine → IsMachine circuit l.machine)
    × (machine_entered (drop l.crossing-index l.entering) l.parcel.load (machine_view l.machine)
    ≡ machine_entered l.entering l.parcel.load (machine_view l.fn.machine))
