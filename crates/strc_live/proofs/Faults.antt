-- A fault of a round, by the nodes before fission.
use Rattle.std.proofs.Common.{ℕ, Vec, Global, ap}
use Rattle.strc_work_meaning.specs.declared.fault.Cause.{Cause}
use Rattle.strc_sched_outcome.specs.declared.outcome.Outcome.TheVariants as outcome
use Rattle.strc_sched_outcome.specs.declared.outcome.Round.{Round}
use Rattle.strc_sched_outcome.specs.declared.outcome.Round.TheVariants as round
use Rattle.strc_sched_outcome.specs.declared.outcome.Tape.{Tape}
use Rattle.strc_stage_plan.specs.Plans.{PlanParts}
use Rattle.strc_stage.specs.Naming.{IsRenamed}
use Rattle.strc_live.specs.Rounds.{IsFaultOf}
use Rattle.strc_live.specs.declared.ends.LiveEnd.TheVariants as end

pub renamed_fault : (plan : PlanParts) (node firing done : ℕ) (cause : Cause)
    (tapes : Vec Tape Global) (at number : ℕ) (when : Round) (why : Cause)
    (others : Vec Tape Global)
    → IsRenamed plan (outcome.Fault node firing (round.At done) cause tapes)
    (outcome.Fault at number when why others)
    → IsFaultOf plan node firing done cause (end.Faulted (record {
      node = at;
      firing = number;
      round = when;
      cause = why;
    }))
renamed_fault plan node firing done cause tapes at number round.Startup why others is = absurd is
renamed_fault plan node firing done cause tapes at number (round.At r) why others is =
    (is.1, is.2, ap (λ n. round.At n) is.0, is.3)
