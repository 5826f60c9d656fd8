-- What an outcome of a run and the end of a program have in common where they tell one answer.
use Rattle.std.proofs.Common.{◌≡◌, ◌∙◌, ℕ, List, [], map, refl, sym, ap, subst, arith}
use mathlib.Core.Path.{fun_ext}
use Rattle.strc_elab_dataflow.specs.Answer.{Outcome.Done, Outcome.StartupFault}
use Rattle.strc_elab_dataflow.specs.Answer.{Outcome.RoundFault}
use Rattle.strc_elab_dataflow.specs.Machine.{Stop}
use Rattle.strc_work_meaning.specs.declared.fault.Cause.{Cause}
use Rattle.strc_work_meaning.specs.declared.fault.Cause.TheVariants as causes
use Rattle.strc_work_meaning.specs.declared.word.Word.{Word}
use Rattle.strc_elab_graph.specs.Graphs.{NodeCode}
use Rattle.strc_sched_outcome.specs.declared.outcome.Outcome.{Outcome}
use Rattle.strc_sched_outcome.specs.declared.outcome.Outcome.TheVariants as outcome
use Rattle.strc_sched_outcome.specs.declared.outcome.Round.TheVariants as round
use Rattle.strc_sched.specs.Plain.{AreTapesOf}
use Rattle.strc_sched_outcome.specs.Tapes.{tape_view}
use Rattle.strc_stage.specs.Answers.{Answer, IsTold, stop_at}
use Rattle.strc_emit_runs.specs.Orders.{TellsEnd}
use Rattle.strc_emit_runs.specs.Running.{RunEnd, Printed, FaultedAtStart, FaultedIn, Meaningless}
use Rattle.strc_emit_texts.specs.Runs.{ArePrinted, FaultRow, SameEndsPrintAlike}

told_alike : (nodes : List NodeCode) (answer : Answer) (ended : Outcome) (end : RunEnd)
    → IsTold nodes answer ended → TellsEnd answer end → ArePrinted nodes ended end
told_alike nodes (Done words) (outcome.Done tapes) (Printed printed) told ends =
    subst (λ (w : ℕ → List Word). AreTapesOf nodes w tapes.items) (sym (fun_ext ends)) told
told_alike nodes (Done words) (outcome.Done tapes) (FaultedAtStart at number why) told ends =
    absurd ends
told_alike nodes (Done words) (outcome.Done tapes) (FaultedIn done at number why printed) told
    ends = absurd ends
told_alike nodes (Done words) (outcome.Done tapes) Meaningless told ends = absurd ends
told_alike nodes (Done words) (outcome.Fault node firing when cause tapes) end told ends =
    absurd told
told_alike nodes (StartupFault stop) (outcome.Done tapes) end told ends = absurd told
told_alike nodes (StartupFault stop) (outcome.Fault node firing (round.At q) cause tapes) end told
    ends = absurd told
told_alike nodes (StartupFault stop) (outcome.Fault node firing round.Startup cause tapes)
    (FaultedAtStart at number why) told ends =
    let same = sym ends ∙ told.0 in (
      ap (λ (s : Stop Cause). s.node) same,
      ap (λ (s : Stop Cause). s.firing) same,
      ap (λ (s : Stop Cause). s.cause) same,
    )
told_alike nodes (StartupFault stop) (outcome.Fault node firing round.Startup cause tapes)
    (Printed printed) told ends = absurd ends
told_alike nodes (StartupFault stop) (outcome.Fault node firing round.Startup cause tapes)
    (FaultedIn done at number why printed) told ends = absurd ends
told_alike nodes (StartupFault stop) (outcome.Fault node firing round.Startup cause tapes)
    Meaningless told ends = absurd ends
told_alike nodes (RoundFault q stop words) (outcome.Done tapes) end told ends = absurd told
told_alike nodes (RoundFault q stop words) (outcome.Fault node firing round.Startup cause tapes)
    end told ends = absurd told
told_alike nodes (RoundFault q stop words) (outcome.Fault node firing (round.At n) cause tapes)
    (FaultedIn done at number why printed) told ends =
    let same = sym ends.1 ∙ told.1 in (
      sym ends.0 ∙ told.0,
      ap (λ (s : Stop Cause). s.node) same,
      ap (λ (s : Stop Cause). s.firing) same,
      ap (λ (s : Stop Cause). s.cause) same,
      subst (λ (w : ℕ → List Word). AreTapesOf nodes w tapes.items) (sym (fun_ext ends.2)) told.2,
    )
told_alike nodes (RoundFault q stop words) (outcome.Fault node firing (round.At n) cause tapes)
    (Printed printed) told ends = absurd ends
told_alike nodes (RoundFault q stop words) (outcome.Fault node firing (round.At n) cause tapes)
    (FaultedAtStart at number why) told ends = absurd ends
told_alike nodes (RoundFault q stop words) (outcome.Fault node firing (round.At n) cause tapes)
    Meaningless told ends = absurd ends

pub print_alike : SameEndsPrintAlike
print_alike nodes ended end (answer, told, ends) = told_alike nodes answer ended end told ends

pub fault_row_holds : FaultRow
fault_row_holds = record {
  same = λ tapes none.
      (StartupFault (stop_at 1 2 causes.DivZero), (refl, ap (map tape_view) none), refl);
  apart = λ tapes same.
      let printed = print_alike [] (outcome.Fault 1 2 round.Startup causes.DivZero tapes)
      (FaultedAtStart 1 3 causes.DivZero) same in
      let firing : ◌≡◌ {A = ℕ} 3 2 = printed.1 in absurd (omega (arith, firing));
}
