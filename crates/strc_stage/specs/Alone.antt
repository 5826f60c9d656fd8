-- The rounds of a plan on one thread.
use Rattle.std.specs.Prelude.{ℕ}
use Rattle.strc_sched_laws.specs.Laws.{round_order}
use Rattle.strc_sched_laws.specs.Machine.{CircuitView, MachineView, rounds_run}
use Rattle.strc_sched_outcome.specs.declared.outcome.Outcome.{Outcome}
use Rattle.strc_sched.specs.Plain.{IsEnding}
use Rattle.strc_stage_plan.specs.Plans.{PlanParts}
use Rattle.strc_stage.specs.Naming.{IsRenamed}

-- An outcome tells how so many rounds of a machine end, by the nodes before fission.
pub record HasRun (plan : PlanParts) (circuit : CircuitView) (machine : MachineView) (rounds : ℕ)
    (outcome : Outcome) : Type 0 where
  pub own : Outcome
  pub ending : IsEnding circuit.codes own
      (rounds_run circuit (round_order plan.split.schedule) rounds 0 machine)
  pub renamed : IsRenamed plan own outcome
