use Rattle.std.proofs.Common.{subst, ℕ, List, IfOk}
use Rattle.strc_sched_laws.specs.Machine.{rounds_run}
use Rattle.strc_sched_rings.specs.Circuits.{circuit_view}
use Rattle.strc_sched_outcome.specs.declared.outcome.Outcome.{Outcome}
use Rattle.strc_sched_machine.specs.Running.{machine_view}
use Rattle.strc_sched.specs.Plain.{IsEnding}
use Rattle.strc_sched.proofs.plain.run_units.Goals as goal

pub returns-clause-ending : goal.returns-clause-ending
returns-clause-ending c =
    let circuit = circuit_view c.args.circuit.now in
    subst (λ (order : List ℕ). IfOk c.run_rounds.result (λ (outcome : Outcome).
    IsEnding circuit.codes outcome (rounds_run circuit order c.args.rounds 0
    (machine_view c.args.machine)))) c.in-Ok.ensures.firings c.run_rounds.ensures.ending
