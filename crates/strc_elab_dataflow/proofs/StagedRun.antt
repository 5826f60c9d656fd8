-- The run stage by stage is the run of the whole graph.
use Rattle.std.proofs.Common.{◌≡◌, refl, sym, ap, ◌∙◌, subst, ℕ, zero, suc, ◌+◌, ◌<◌, ◌≤◌}
use Rattle.std.proofs.Common.{List, [], arith, Option, Some, None}
use mathlib.Core.Logic.{inl, inr}
use Rattle.strc_elab_dataflow.specs.Answer.{Outcome, words_of}
use Rattle.strc_elab_dataflow.specs.Answer.{IsFaultless, whole_run}
use Rattle.strc_elab_dataflow.specs.Queues.{FifoProgress, FifoProgress.FifoWent, fifo_go}
use Rattle.strc_elab_dataflow.specs.Queues.{FifoProgress.FifoStopped, fifo_at_first}
use Rattle.strc_elab_dataflow.proofs.WholeRun.{run_gives, answer_is_run}
use Rattle.strc_elab_dataflow.specs.Cut.{HasFaultIn}
use Rattle.strc_elab_dataflow.specs.Staging.{Staging, before, after, IsStaging}
use Rattle.strc_elab_dataflow.specs.Stages.{Parcel, Parcel.Moves, Parcel.Halts, Stage, Stage.Works}
use Rattle.strc_elab_dataflow.specs.Stages.{empty_parcel, parcel_at, stages_after, staged_rounds}
use Rattle.strc_elab_dataflow.specs.Stages.{staged_startup, staged_run}
use Rattle.strc_elab_dataflow.specs.Parcels.{IsParcel, IsRound}
use Rattle.strc_elab_dataflow.specs.StageLaws.{StagesGiveAnswer}
use Rattle.strc_elab_dataflow.proofs.Keeping.{step_keeps}
use Rattle.strc_elab_dataflow.proofs.Collecting.{Starts, starts, start_faultless, start_works}
use Rattle.strc_elab_dataflow.proofs.Collecting.{start_words, AnswersOr, Comes, collected_gives}
use Rattle.strc_elab_dataflow.proofs.Collecting.{fresh_moved}

module _ {Code State Cause Word : Type 0} (plan : Staging Code State Cause Word)
    (is : IsStaging plan) where
  module _ (t : ℕ) (is_round : t < plan.rounds) (stages : ℕ → Stage State Cause Word)
      (round_is : IsRound plan t stages) where
    -- The parcels of a round.
    parcels_are : (b : ℕ) → b ≤ plan.stages → IsParcel plan b t (parcel_at plan stages b)
    unfolding parcel_at empty_parcel
    parcels_are zero less = fresh_moved plan t (λ v port. []) (λ v. []) (λ v port. refl) (λ v. refl)
    parcels_are (suc a) less = (step_keeps plan a t (stages a) (parcel_at plan stages a) is less
        is_round (round_is a less) (parcels_are a (omega arith))).1

    -- The stages after it.
    stages_are : IsRound plan (suc t) (stages_after plan stages)
    unfolding stages_after
    stages_are a less = (step_keeps plan a t (stages a) (parcel_at plan stages a) is less
        is_round (round_is a less) (parcels_are a (omega arith))).0

  no_fault : (t : ℕ) → IsFaultless (after plan t)
      → HasFaultIn (before plan.stage_of plan.stages) (after plan t) → ⊥
  no_fault t fine some = let e : None ≡ Some some.cause = sym (fine some.node) ∙ some.is in
      grind arith

  comes : (t : ℕ) → IsFaultless (after plan t) → (parcel : Parcel Cause Word)
      → IsParcel plan plan.stages t parcel → Comes plan is ⊥ t parcel
  comes t fine (Moves blocks words) moved = moved
  comes t fine (Halts (Some stop)) (inl first) = first
  comes t fine (Halts (Some stop)) (inr some) = absurd (no_fault t fine some)
  comes t fine (Halts None) some = absurd (no_fault t fine some)

  rounds_give : (left t : ℕ) → t + left ≡ plan.rounds → (words : ℕ → List Word)
      → words ≡ words_of (after plan t) → ((j : ℕ) → j ≤ t → IsFaultless (after plan j))
      → (stages : ℕ → Stage State Cause Word) → IsRound plan t stages
      → AnswersOr plan is ⊥ (staged_rounds plan left t words stages)
  unfolding staged_rounds
  rounds_give zero t e words words_are fine stages round_is =
      let at_end : t ≡ plan.rounds = omega arith in (
        fine plan.rounds (omega arith),
        words_are ∙ ap (λ (n : ℕ). words_of (after plan n)) at_end,
      )
  rounds_give (suc left) t e words words_are fine stages round_is =
      collected_gives plan is ⊥ t words (parcel_at plan stages plan.stages)
      (λ more. staged_rounds plan left (suc t) more (stages_after plan stages)) (omega arith)
      words_are fine
      (comes t (fine t (omega arith)) (parcel_at plan stages plan.stages)
      (parcels_are t (omega arith) stages round_is plan.stages (omega arith)))
      (λ more more_are still_fine. rounds_give left (suc t) (omega arith) more more_are still_fine
      (stages_after plan stages) (stages_are t (omega arith) stages round_is))

  startup_gives : (progress : FifoProgress State Cause Word) → Starts plan is progress
      → AnswersOr plan is ⊥ (staged_startup plan progress)
  unfolding staged_startup
  startup_gives (FifoWent now) started = rounds_give plan.rounds 0 (omega arith)
      (words_of now.runs) (start_words plan is now started)
      (λ j below. let e : 0 ≡ j = omega arith in
      subst (λ (n : ℕ). IsFaultless (after plan n)) e (start_faultless plan is now started))
      (λ a. Works now) (λ a less. start_works plan is now started a)
  startup_gives (FifoStopped stop) first = first

  run_is : (result : Option (Outcome Cause Word)) → AnswersOr plan is ⊥ result
      → result ≡ Some (whole_run plan.meaning plan.graph plan.input plan.round_order
      plan.startup_order plan.rounds)
  run_is (Some outcome) answers = ap {A = Outcome Cause Word} {B = Option (Outcome Cause Word)} Some
      (answer_is_run plan.meaning plan.graph plan.input is.solved.keeps plan.startup plan.round
      plan.startup_order plan.round_order plan.rounds is.solved.schedule plan.inputs
      is.solved.solves outcome answers)
  run_is None answers = absurd answers

-- The run stage by stage.
pub stages_give_answer : {Code State Cause Word : Type 0} → StagesGiveAnswer Code State Cause Word
unfolding staged_run
stages_give_answer plan is = (
  run_is plan is (staged_run plan) (startup_gives plan is
      (fifo_go plan.meaning plan.graph plan.startup_order
      (fifo_at_first plan.meaning plan.graph plan.input)) (starts plan is)),
  (run_gives plan.meaning plan.graph plan.input is.solved.keeps plan.startup plan.round
      plan.startup_order plan.round_order plan.rounds is.solved.schedule plan.inputs
      is.solved.solves).0,
)
