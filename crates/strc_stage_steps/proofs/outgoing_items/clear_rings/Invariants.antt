use Rattle.std.proofs.Common.{◌≡◌, drop}
use Rattle.strc_sched_laws.specs.Machine.{CircuitView}
use Rattle.strc_sched_machine.specs.Running.{IsMachine, machine_view, with_rings}
use Rattle.strc_stage_steps.specs.Steps.{rings_left}
use Rattle.strc_stage_steps.proofs.outgoing_items.clear_rings.Given as goal

abbrev pub invariant-loop-crossing : goal.invariant-loop-crossing
invariant-loop-crossing l =
    ((circuit : CircuitView) → IsMachine circuit l.fn.machine → IsMachine circuit l.machine)
    × (with_rings (rings_left (drop l.crossing-index l.leaving) (machine_view l.machine).rings)
    (machine_view l.machine)
    ≡ with_rings (rings_left l.leaving (machine_view l.fn.machine).rings)
    (machine_view l.fn.machine))
