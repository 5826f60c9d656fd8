-- What tells the outcome of a run tells how it ends.
use Rattle.std.proofs.Common.{◌≡◌, sym, ap, ◌∙◌, ℕ, ◌<◌, List, length}
use Rattle.std.proofs.Common.{map, Option, Some, None, arith}
use Rattle.strc_work_meaning.specs.declared.fault.Cause.{Cause}
use Rattle.strc_work_meaning.specs.declared.word.Word.{Word}
use Rattle.strc_elab_dataflow.specs.Answer.{Outcome, Outcome.Done, Outcome.RoundFault}
use Rattle.strc_elab_dataflow.specs.Answer.{Outcome.StartupFault}
use Rattle.strc_elab_dataflow.specs.Machine as generic
use Rattle.strc_elab_graph.specs.Graphs.{NodeCode}
use Rattle.strc_elab_graph.specs.Tapes.{tape_nodes}
use Rattle.strc_sched_outcome.specs.declared.stop.Stop.{Stop}
use Rattle.strc_sched_outcome.specs.declared.stop.Stop.TheVariants as stop
use Rattle.strc_sched_laws.specs.Machine.{Ending, Ended, FaultedAtFirst, FaultedIn, words_at}
use Rattle.strc_sched_laws.specs.RingAnswer.{Tells}
use Rattle.strc_stage_steps.specs.Laws.{TellsOutcome, TellsEnding, OutcomesTellEndings}
use Rattle.strc_stage_steps.specs.Steps.{Gathered}
use Rattle.strc_stage_steps.proofs.Totals.{tapes_same}

same_tapes : (codes : List NodeCode) (words : ℕ → List Word) (given : List (List Word))
    (total : Gathered) → ((v : ℕ) → v < length codes → words_at given v ≡ words v)
    → total.words ≡ map words (tape_nodes codes)
    → total.words ≡ map (words_at given) (tape_nodes codes)
same_tapes codes words given total each tapes =
    tapes ∙ tapes_same 0 codes (length codes) words (words_at given) (omega arith)
    (λ v less. sym (each v less))

told : (codes : List NodeCode) (total : Gathered) (why : Option Stop)
    (outcome : Outcome Cause Word) (ending : Ending) → Tells (length codes) outcome ending
    → TellsOutcome codes total why outcome → TellsEnding codes total why ending
told codes total None (Done words) (Ended given) tells tapes =
    same_tapes codes words given total tells tapes
told codes total (Some (stop.Fault node firing cause)) (RoundFault q fault words)
    (FaultedIn round at number its given) tells outcome = (
      sym tells.0 ∙ outcome.0,
      ap (λ (x : generic.Stop Cause). x.node) (sym tells.1 ∙ outcome.1),
      ap (λ (x : generic.Stop Cause). x.firing) (sym tells.1 ∙ outcome.1),
      ap (λ (x : generic.Stop Cause). x.cause) (sym tells.1 ∙ outcome.1),
      same_tapes codes words given total tells.2 outcome.2,
    )
told codes total (Some stop.NoMemory) outcome ending tells its = tt
told codes total None (Done words) (FaultedAtFirst node firing cause) tells its = absurd tells
told codes total None (Done words) (FaultedIn round node firing cause given) tells its =
    absurd tells
told codes total None (StartupFault fault) ending tells its = absurd its
told codes total None (RoundFault q fault words) ending tells its = absurd its
told codes total (Some (stop.Fault node firing cause)) (Done words) ending tells its = absurd its
told codes total (Some (stop.Fault node firing cause)) (StartupFault fault) ending tells its =
    absurd its
told codes total (Some (stop.Fault node firing cause)) (RoundFault q fault words) (Ended given)
    tells its = absurd tells
told codes total (Some (stop.Fault node firing cause)) (RoundFault q fault words)
    (FaultedAtFirst at number other) tells its = absurd tells

pub outcomes_tell_endings : OutcomesTellEndings
outcomes_tell_endings codes total why outcome ending tells its =
    told codes total why outcome ending tells its
