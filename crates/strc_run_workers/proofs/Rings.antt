-- A ring that has begun is run to an end of its start.
use Rattle.std.proofs.Common.{◌≡◌, sym, ap, subst, ℕ, ℤ, Bool, List, map, IfOk, IfErr, Ok, Err}
use Rattle.std.proofs.Common.{Result}
use Rattle.strc_sched_outcome.specs.declared.outcome.Outcome.{Outcome}
use Rattle.strc_sched_outcome.specs.declared.run_refusal.RunRefusal.{RunRefusal}
use Rattle.strc_sched_outcome.specs.declared.run_refusal.RunRefusal.TheVariants as refused
use Rattle.strc_stage_core.specs.Actors.{Collects, Collector}
use Rattle.strc_stage_core.specs.States.{IsStart}
use Rattle.strc_sched_outcome.specs.declared.stop.Stop.{Stop}
use Rattle.strc_stage_plan.specs.Plans.{PlanParts}
use Rattle.strc_stage_steps.specs.Steps.{Gathered, stage_work}
use Rattle.strc_stage_steps.specs.Memory.{IsStep}
use Rattle.strc_stage_steps.specs.Pipes.{Beginning, IsStateOf}
use Rattle.strc_stage_core.specs.Seeing.{core_of_parts}
use Rattle.strc_run_links.specs.States.{IsRing}
use Rattle.strc_stage_core.specs.declared.ring.Parts.{Parts}
use Rattle.strc_run_links.proofs.Cores.{ring_state}
use Rattle.strc_stage_steps.specs.Collectors.{sees, total_of}
use Rattle.strc_stage_steps.specs.Stages.{see}
use Rattle.strc_stage_steps.specs.declared.collector.CollectorParts.{CollectorParts}
use Rattle.strc_stage_steps.specs.declared.stage.StageParts.{StageParts}
use Rattle.strc_stage_cut.specs.Launches.{IsLaunch, start_of}
use Rattle.strc_stage_cut.specs.declared.stage_ring.Launch.{Launch}
use Rattle.strc_stage_cut.specs.declared.stage_ring.Launch.TheVariants as launched
use Rattle.strc_stage_cut.specs.Launches.{Ring}
use Rattle.strc_stage.specs.Running.{EndsSo, HasEnded, LacksAfter, LacksMeans}
use Rattle.strc_run_workers.specs.Leftovers.{Drives}

module _ (plan : PlanParts) (ring : Ring) (parts : CollectorParts) where
  pub driven_ends : Drives (start_of ring) parts → (outcome : Outcome)
      → EndsSo plan (total_of parts) parts.stop outcome → HasEnded plan (start_of ring) outcome
  driven_ends (core, state, over, collected) outcome ends = (
    core,
    state,
    over,
    subst (λ (c : Collector Gathered Stop). EndsSo plan c.total c.stop outcome)
        (sym collected) ends,
  )

  pub told_ends : Drives (start_of ring) parts → (result : Result Outcome RunRefusal)
      → IfOk result (EndsSo plan (total_of parts) parts.stop)
      → IfOk result (HasEnded plan (start_of ring))
  told_ends drives (Ok outcome) ends = driven_ends drives outcome ends
  told_ends drives (Err refusal) ends = tt

-- Where only memory may lack, means may.
pub only_memory : (launch : Launch) (result : Result Outcome RunRefusal)
    → IfErr result (λ refusal. refusal ≡ refused.NoMemory) → IfErr result (LacksAfter launch)
only_memory launch (Ok outcome) is = tt
only_memory (launched.Going ring) (Err refusal) is =
    subst (LacksAfter (launched.Going ring)) (sym is) tt
only_memory (launched.Faulted node firing cause) (Err refusal) is =
    subst (LacksAfter (launched.Faulted node firing cause)) (sym is) tt

-- What lacks after a launch of a plan lacks to the plan.
pub lacks_so : (plan : PlanParts) (input : List ℤ) (rounds workers : ℕ) (launch : Launch)
    → IsLaunch plan input rounds workers launch → (result : Result Outcome RunRefusal)
    → IfErr result (LacksAfter launch) → IfErr result (LacksMeans plan input)
lacks_so plan input rounds workers launch is (Ok outcome) lacks = tt
lacks_so plan input rounds workers launch is (Err refusal) lacks = by_case launch refusal is lacks
  where
    by_case : (launch : Launch) (refusal : RunRefusal) → IsLaunch plan input rounds workers launch
        → LacksAfter launch refusal → LacksMeans plan input refusal
    by_case launch refused.NoMemory is lacks = tt
    by_case (launched.Going ring) refused.NoWorker is lacks =
        (is.circuit, is.started, is.startup)
    by_case (launched.Faulted node firing cause) refused.NoWorker is lacks = absurd lacks
    by_case launch (refused.InputShort need got) is lacks = absurd lacks
    by_case launch refused.RoundsNeeded is lacks = absurd lacks
    by_case launch refused.BadWorkers is lacks = absurd lacks

-- What workers leave of a ring that has begun is a state of its start.
pub left_state : (ring : Ring) → IsStart (start_of ring)
    → (parts : Parts StageParts CollectorParts)
    → IsRing IsStep (λ c p d q. Collects stage_work (sees c) p (sees d) q) ring parts
    → IsStateOf (start_of ring) (core_of_parts see sees parts)
left_state ring begun parts is =
    ring_state stage_work _ see (λ s p t q does. does.step) _ sees (λ c p d q gathers. gathers)
    ring parts is begun
