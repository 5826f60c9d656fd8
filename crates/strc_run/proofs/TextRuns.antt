-- The rounds of a text's plan are those of the text.
use Rattle.std.proofs.Common.{◌≡◌, ◌∙◌, ap, sym, subst, ℕ, ◌<◌, ◌≤◌, ℤ, List, length, Option}
use Rattle.std.proofs.Common.{Ok, Err, true}
use Rattle.std.specs.Prelude.{unwrap_or}
use Rattle.strc_elab_stream.specs.Flattening.{tree_of, nodes_of}
use Rattle.strc_sched_outcome.specs.declared.outcome.Outcome.{Outcome}
use Rattle.strc_sched_outcome.specs.declared.run_refusal.RunRefusal.{RunRefusal}
use Rattle.strc_sched_outcome.specs.declared.run_refusal.RunRefusal.TheVariants as refused
use Rattle.strc_stage_plan.specs.Plans.{PlanParts, graph_of}
use Rattle.strc_stage_steps.specs.Plans.{need_of}
use Rattle.strc_run.specs.Choices.{Choice}
use Rattle.strc_run.specs.Laws.{PlansAnswerTexts}
use Rattle.strc_run.specs.Plans.{IsPlanOf}
use Rattle.strc_run.specs.Rounds.{IsUnrun, RunsRounds, is_bounded}
use Rattle.strc_run.specs.TextRuns.{HasInput, IsTextRun, RunsText}

module _ (text : List ℕ) (choice : Choice) (plan : PlanParts)
    (is : IsPlanOf text choice plan) (input : List ℤ) (asked : Option ℕ) (workers : ℕ) where
  -- the plan's nodes are the stream's
  same_bound : is_bounded asked (graph_of plan).nodes
      ≡ is_bounded asked (nodes_of is.accepted.stream)
  same_bound = ap (is_bounded asked) is.nodes

  runs_text : (outcome : Outcome) → RunsRounds plan input asked outcome
      → RunsText text choice plan input asked outcome
  runs_text outcome runs = record {
    accepted = is.accepted;
    bounded = sym same_bound ∙ runs.bounded;
    rounds = runs.rounds;
    count = runs.count;
    enough = runs.enough;
    answer = runs.answer (tree_of is.accepted.stream) is.whole;
  }

  -- rounds that could be run over the input
  has_input : is_bounded asked (graph_of plan).nodes ≡ true
      → need_of plan (unwrap_or asked 0) ≤ length input → HasInput text choice plan input asked
  has_input bounded enough = record {
    accepted = is.accepted;
    bounded = sym same_bound ∙ bounded;
    enough = enough;
  }

  unrun_text : (refusal : RunRefusal) → IsUnrun plan input asked workers refusal
      → IsTextRun text choice plan input asked workers (Err refusal)
  unrun_text refused.BadWorkers bad = (is.accepted, bad)
  unrun_text (refused.InputShort need got) (are, bounded, (needed, had, short)) = (
    are,
    record {
      accepted = is.accepted;
      bounded = sym same_bound ∙ bounded;
      needed = needed;
      had = had;
      short = subst (λ (n : ℕ). got < n) (sym needed)
          (subst (λ (n : ℕ). n < need_of plan (unwrap_or asked 0)) (sym had) short);
    },
  )
  unrun_text refused.NoMemory (are, bounded, enough) = (are, has_input bounded enough)
  unrun_text refused.NoWorker (are, bounded, starts) = (
    are,
    record { accepted = is.accepted; bounded = sym same_bound ∙ bounded; starts = starts },
  )
  unrun_text refused.RoundsNeeded (are, unbounded) = (
    are,
    record { accepted = is.accepted; unbounded = sym same_bound ∙ unbounded },
  )

pub plans_answer : PlansAnswerTexts
plans_answer text choice plan input asked workers (Ok outcome) is (are, runs) =
    (are, runs_text text choice plan is input asked workers outcome runs)
plans_answer text choice plan input asked workers (Err refusal) is unrun =
    unrun_text text choice plan is input asked workers refusal unrun
