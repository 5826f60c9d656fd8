use Rattle.std.proofs.Common.{subst, IfOk, ℕ, List}
use Rattle.strc_sched_rings.specs.Circuits.{circuit_view}
use Rattle.strc_sched_machine.specs.Running.{machine_view}
use Rattle.strc_stage_cut.specs.Launches.{IsRingOf}
use Rattle.strc_stage_cut.proofs.stage_ring.ring_by.Goals as goal

pub returns : goal.returns
returns c =
    subst (λ (l : List ℕ). IfOk c.ring_of.result (IsRingOf c.args.plan.now c.args.fired.now l
    (circuit_view c.args.circuit.now) (machine_view c.args.machine) c.args.steps))
    c.in_ok-cut.ensures.bounds c.ring_of.ensures
