-- A run of a text and one of its C.
use Rattle.std.specs.Prelude.{◌≡◌, ℕ, ◌<◌, ◌^◌, List, [], Option, Some, Ok, Vec}
use Rattle.std.specs.declared.alloc.Global.{Global}
use Rattle.strc_work_meaning.specs.declared.fault.Cause.TheVariants as cause
use Rattle.strc_elab_graph.specs.Graphs.{NodeCode}
use Rattle.strc_sched_outcome.specs.declared.outcome.Outcome.{Outcome}
use Rattle.strc_sched_outcome.specs.declared.outcome.Outcome.TheVariants as outcome
use Rattle.strc_sched_outcome.specs.declared.outcome.Round.TheVariants as round
use Rattle.strc_sched_outcome.specs.declared.outcome.Tape.{Tape}
use Rattle.strc_sched.specs.Plain.{AreTapesOf}
use Rattle.strc_stage.specs.Answers.{Answer, IsTold}
use Rattle.strc_stage_plan.specs.Plans.{PlanParts, IsPlan, graph_of}
use Rattle.strc_run.specs.TextRuns.{IsTextRun}
use Rattle.strc_emit_runs.specs.Orders.{TellsEnd}
use Rattle.strc_emit_runs.specs.Running.{RunEnd, Printed, FaultedAtStart, FaultedIn}
use Rattle.strc_emit_resolved.specs.Programs.{RunSetting}
use Rattle.strc_emit_texts.specs.Orders.{unchanged}
use Rattle.strc_emit_texts.specs.Texts.{AnswersText, run_done}

-- an outcome of a run and the end of a program tell one answer: the same words, or the same fault
-- after the same words
abbrev pub IsSameEnd : List NodeCode → Outcome → RunEnd → Type 0
IsSameEnd nodes ended end =
    (answer : Answer) × IsTold nodes answer ended × TellsEnd answer end

-- so do a run of a text, by any number of workers, and one of its C, over the same input
abbrev pub EmittedTextsRunAlike : Type 0
EmittedTextsRunAlike =
    (text : List ℕ) (main : Option (List ℕ)) (plan : PlanParts) (c : List ℕ)
    (setting : RunSetting) (rounds workers : ℕ) (ended : Outcome)
    → IsPlan plan → (answers : AnswersText text (unchanged main) plan c) → rounds < 2 ^ 32
    → IsTextRun text (unchanged main) plan setting.input (Some rounds) workers (Ok ended)
    → IsSameEnd (graph_of plan).nodes ended
    (run_done plan (answers.means setting).program rounds)

-- the tapes of an outcome have the words that the program printed; or both have one fault, which in
-- a round comes after such words
abbrev pub ArePrinted : List NodeCode → Outcome → RunEnd → Type 0
ArePrinted nodes (outcome.Done tapes) (Printed words) = AreTapesOf nodes words tapes.items
ArePrinted nodes (outcome.Fault node firing round.Startup why tapes)
    (FaultedAtStart at number other) = (at ≡ node) × (number ≡ firing) × (other ≡ why)
ArePrinted nodes (outcome.Fault node firing (round.At q) why tapes)
    (FaultedIn done at number other words) =
    (done ≡ q) × (at ≡ node) × (number ≡ firing) × (other ≡ why)
    × AreTapesOf nodes words tapes.items
ArePrinted nodes _ _ = ⊥

-- so it is where they tell one answer
abbrev pub SameEndsPrintAlike : Type 0
SameEndsPrintAlike =
    (nodes : List NodeCode) (ended : Outcome) (end : RunEnd) → IsSameEnd nodes ended end
    → ArePrinted nodes ended end

-- A fault of firing 2 in start-up is that of the program's firing 2, and not that of its firing 3.
pub record FaultRow : Type 0 where
  pub same : (tapes : Vec Tape Global) → tapes.items ≡ []
      → IsSameEnd [] (outcome.Fault 1 2 round.Startup cause.DivZero tapes)
      (FaultedAtStart 1 2 cause.DivZero)
  pub apart : (tapes : Vec Tape Global)
      → IsSameEnd [] (outcome.Fault 1 2 round.Startup cause.DivZero tapes)
      (FaultedAtStart 1 3 cause.DivZero) → ⊥
