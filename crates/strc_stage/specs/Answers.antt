-- Outcomes as answers of the stream equations.
use Rattle.std.specs.Prelude.{◌≡◌, ℕ, ℤ, List, []}
use Rattle.strc_elab_dataflow.specs.Answer as flow
use Rattle.strc_elab_dataflow.specs.Answer.{Outcome.Done, Outcome.StartupFault, Outcome.RoundFault}
use Rattle.strc_elab_dataflow.specs.Machine.{Stop}
use Rattle.strc_elab_dataflow.specs.Streams as trees
use Rattle.strc_work_meaning.specs.declared.fault.Cause.{Cause}
use Rattle.strc_work_meaning.specs.declared.word.Word.{Word}
use Rattle.strc_elab_graph.specs.FlatGraphs.{IsProgram}
use Rattle.strc_elab_graph.specs.Graphs.{NodeCode}
use Rattle.strc_sched_outcome.specs.declared.outcome.Outcome.{Outcome}
use Rattle.strc_sched_outcome.specs.declared.outcome.Outcome.TheVariants as outcome
use Rattle.strc_sched_outcome.specs.declared.outcome.Round.TheVariants as round
use Rattle.strc_sched.specs.Plain.{AreTapesOf}
use Rattle.strc_stage_plan.specs.Plans.{PlanParts, graph_of}
use Rattle.strc_stage_steps.specs.Plans.{IsPlanAnswer}

-- What the stream equations answer.
abbrev pub Answer : Type 0
Answer = flow.Outcome Cause Word

abbrev pub stop_at : (node firing : ℕ) → Cause → Stop Cause
stop_at node firing cause = record { node = node; firing = firing; cause = cause }

-- An outcome of nodes is an answer: each tape has the words of its node; or it is the same fault,
-- in start-up without words, in a round with the words before it.
abbrev pub IsTold : List NodeCode → Answer → Outcome → Type 0
IsTold codes (Done words) (outcome.Done tapes) = AreTapesOf codes words tapes.items
IsTold codes (StartupFault stop) (outcome.Fault node firing round.Startup cause tapes) =
    (stop ≡ stop_at node firing cause) × AreTapesOf codes (λ _. []) tapes.items
IsTold codes (RoundFault q stop words) (outcome.Fault node firing (round.At number) cause tapes) =
    (q ≡ number) × (stop ≡ stop_at node firing cause) × AreTapesOf codes words tapes.items
IsTold codes _ _ = ⊥

-- It is the answer of a tree's stream equations at the counts and in the orders of a plan, by the
-- nodes of the plan's graph before fission.
pub record IsOutcomeOf (tree : trees.Stream NodeCode) (plan : PlanParts) (input : List ℤ)
    (rounds : ℕ) (outcome : Outcome) : Type 0 where
  pub answer : Answer
  pub is_answer : IsPlanAnswer tree plan input rounds answer
  pub told : IsTold (graph_of plan).nodes answer outcome

-- Of whatever program the graph is.
abbrev pub AnswersPlan : PlanParts → (input : List ℤ) → (rounds : ℕ) → Outcome → Type 0
AnswersPlan plan input rounds outcome =
    (tree : trees.Stream NodeCode) → IsProgram tree (graph_of plan)
    → IsOutcomeOf tree plan input rounds outcome
