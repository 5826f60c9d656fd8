-- What a collector has come to, as an outcome.
use Rattle.std.proofs.Common.{◌≡◌, ◌∙◌, subst, ℕ, List, Option, Some, None, map, Result}
use Rattle.std.proofs.Common.{Ok, Err, IfOk}
use Rattle.std.specs.declared.vec.Vec.{Vec}
use Rattle.std.specs.declared.alloc.Global.{Global}
use Rattle.strc_elab_dataflow.specs.Answer.{Outcome.Done, Outcome.StartupFault, Outcome.RoundFault}
use Rattle.strc_elab_graph.specs.Graphs.{NodeCode}
use Rattle.strc_sched_outcome.specs.Tapes.{tape_view}
use Rattle.strc_sched_outcome.specs.declared.outcome.Tape.{Tape}
use Rattle.strc_sched_outcome.specs.declared.outcome.Outcome.{Outcome}
use Rattle.strc_sched_outcome.specs.declared.outcome.Outcome.TheVariants as outcome
use Rattle.strc_sched_outcome.specs.declared.outcome.Round.TheVariants as round
use Rattle.strc_work_meaning.specs.declared.fault.Cause.{Cause}
use Rattle.strc_sched_outcome.specs.declared.stop.Stop.{Stop}
use Rattle.strc_sched_outcome.specs.declared.stop.Stop.TheVariants as stops
use Rattle.strc_stage_steps.specs.Laws.{TellsOutcome}
use Rattle.strc_stage_steps.specs.Steps.{Gathered}
use Rattle.strc_stage.specs.Answers.{Answer, IsTold}
use Rattle.strc_stage.specs.Telling.{tapes_by}
use Rattle.strc_stage.proofs.Tapes.{tapes_are}

module _ (codes : List NodeCode) (total : Gathered) (tapes : Vec Tape Global)
    (told : map tape_view tapes.items ≡ tapes_by codes total.words) where
  pub ends_done : (stop : Option Stop) → stop ≡ None → (answer : Answer)
      → TellsOutcome codes total stop answer → IsTold codes answer (outcome.Done tapes)
  ends_done (Some stop) is answer tells = cc
  ends_done None is (Done words) tells = told ∙ tapes_are words total.words codes tells
  ends_done None is (StartupFault why) tells = absurd tells
  ends_done None is (RoundFault q why words) tells = absurd tells

  pub ends_faulted : (node firing : ℕ) (cause : Cause) (stop : Option Stop)
      → stop ≡ Some (stops.Fault node firing cause) → (answer : Answer)
      → TellsOutcome codes total stop answer
      → IsTold codes answer (outcome.Fault node firing (round.At total.rounds) cause tapes)
  ends_faulted node firing cause stop is answer tells =
      go answer (subst (λ (s : Option Stop). TellsOutcome codes total s answer) is tells)
    where
      go : (answer : Answer)
          → TellsOutcome codes total (Some (stops.Fault node firing cause)) answer
          → IsTold codes answer (outcome.Fault node firing (round.At total.rounds) cause tapes)
      go (Done words) tells = absurd tells
      go (StartupFault why) tells = absurd tells
      go (RoundFault q why words) tells =
          (tells.0, tells.1, told ∙ tapes_are words total.words codes tells.2)

-- What is told of a stop is told of a collector that has it.
pub with_told : {E : Type 0} (codes : List NodeCode) (total : Gathered) (own : Option Stop)
    (stop : Stop) → own ≡ Some stop → (result : Result Outcome E)
    → IfOk result (λ (o : Outcome). (answer : Answer) → TellsOutcome codes total (Some stop) answer
    → IsTold codes answer o)
    → IfOk result (λ (o : Outcome). (answer : Answer) → TellsOutcome codes total own answer
    → IsTold codes answer o)
with_told codes total own stop is (Ok o) told = λ answer tells.
    told answer (subst (λ (s : Option Stop). TellsOutcome codes total s answer) is tells)
with_told codes total own stop is (Err e) told = tt
