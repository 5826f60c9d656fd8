-- What start-up leaves to the stages, and what the collector makes of their parcels.
use Rattle.std.proofs.Common.{◌≡◌, sym, ap, ◌∙◌, subst, ℕ, suc, ◌<◌, ◌≤◌}
use Rattle.std.proofs.Common.{true, false, List, [], ◌++◌, drop, arith, Option, Some}
use Rattle.std.proofs.Common.{None, append-nil, ℤ}
use mathlib.Core.Path.{fun_ext}
use mathlib.Core.Logic.{inl, inr}
use Rattle.std.proofs.lemmas.Bool.{cases_order}
use Rattle.strc_elab_dataflow.specs.Node.{ByPort, total}
use Rattle.strc_elab_dataflow.specs.Histories.{Run}
use Rattle.strc_elab_dataflow.specs.Flat.{runs_at, arrived}
use Rattle.strc_elab_dataflow.specs.Machine.{Stop, Progress, Progress.Went, Progress.Stopped}
use Rattle.strc_elab_dataflow.specs.Machine.{at_first}
use Rattle.strc_elab_dataflow.specs.Machine.{go, first_fault}
use Rattle.strc_elab_dataflow.specs.Answer.{Outcome}
use Rattle.strc_elab_dataflow.specs.Answer.{Outcome.RoundFault, words_of, IsFaultless, IsAnswerOf}
use Rattle.strc_elab_dataflow.specs.Queues.{Fifo, FifoProgress, FifoProgress.FifoWent, fifo_go}
use Rattle.strc_elab_dataflow.specs.Queues.{FifoProgress.FifoStopped, fifo_at_first, IsQueued}
use Rattle.strc_elab_dataflow.specs.Queues.{IsAlike}
use Rattle.strc_elab_dataflow.proofs.Queued.{machines_alike, queued_at_first}
use Rattle.strc_elab_dataflow.proofs.WholeRun.{startup_tells}
use Rattle.strc_elab_dataflow.specs.Staging.{Staging, before, counts, after, IsStaging}
use Rattle.strc_elab_dataflow.specs.Stages.{Parcel, Parcel.Moves, Parcel.Halts}
use Rattle.strc_elab_dataflow.specs.Stages.{quiet, collected}
use Rattle.strc_elab_dataflow.specs.Parcels.{begun_at, HasMoved, IsFirstStop, IsWorking}
use Rattle.strc_elab_dataflow.specs.StageLaws.{StartupGivesStages}
use Rattle.strc_elab_dataflow.proofs.Fits.{fifo_same}
use Rattle.strc_elab_dataflow.proofs.Segments.{less_before, not_before}
use Rattle.strc_elab_dataflow.proofs.Begun.{begun_early, begun_late}
use Rattle.strc_elab_dataflow.proofs.Parts.{startup_done}
use Rattle.strc_elab_dataflow.proofs.Reaches.{Says}

module _ {Code State Cause Word : Type 0} (plan : Staging Code State Cause Word)
    (is : IsStaging plan) where
  -- After start-up.
  pub record IsStarted (now : Fifo State Cause Word) : Type 0 where
    pub runs_are : now.runs ≡ after plan 0
    pub fired : (v : ℕ) → (after plan 0 v).fired ≡ counts plan 0 v
    pub queued : IsQueued plan.meaning plan.graph plan.input now

  abbrev pub Starts : FifoProgress State Cause Word → Type 0
  Starts (FifoWent now) = IsStarted now
  Starts (FifoStopped stop) =
      first_fault (after plan 0) (λ node. 0) plan.startup_order ≡ Some stop

  starts_by : (progress : Progress State Cause Word) (fifo : FifoProgress State Cause Word)
      → IsAlike plan.meaning plan.graph plan.input progress fifo
      → Says plan is.solved 0 (omega arith) (λ node. 0) plan.startup_order progress → Starts fifo
  starts_by (Went now) (FifoWent fifo) alike tells =
      let done = startup_done plan is.solved in
      record {
        runs_are = alike.0 ∙ tells.0 ∙ ap (λ (c : ℕ → ℕ). runs_at plan.meaning plan.graph c
            (plan.inputs 0)) done;
        fired = λ v. ap (λ (c : ℕ → ℕ). (runs_at plan.meaning plan.graph c
            (plan.inputs 0) v).fired) (sym done) ∙ tells.1.fired v
            ∙ ap (λ (c : ℕ → ℕ). c v) done;
        queued = alike.1;
      }
  starts_by (Stopped stop) (FifoStopped other) alike tells =
      tells ∙ ap {A = Stop Cause} {B = Option (Stop Cause)} Some alike
  starts_by (Went now) (FifoStopped other) alike tells = absurd alike
  starts_by (Stopped stop) (FifoWent fifo) alike tells = absurd alike

  pub starts : Starts (fifo_go plan.meaning plan.graph plan.startup_order
      (fifo_at_first plan.meaning plan.graph plan.input))
  unfolding at_first fifo_at_first
  starts = starts_by
      (go plan.meaning plan.graph plan.input plan.startup_order (at_first plan.meaning plan.graph))
      (fifo_go plan.meaning plan.graph plan.startup_order
      (fifo_at_first plan.meaning plan.graph plan.input))
      (machines_alike plan.meaning plan.graph plan.input is.solved.takes_within plan.startup_order
      (fifo_at_first plan.meaning plan.graph plan.input)
      (queued_at_first plan.meaning plan.graph plan.input is.solved.takes_within))
      (startup_tells plan.meaning plan.graph plan.input is.solved.keeps plan.startup plan.round
      plan.startup_order plan.round_order plan.rounds is.solved.schedule plan.inputs
      is.solved.solves 0 (omega arith))

  module _ (now : Fifo State Cause Word) (started : IsStarted now) where
    pub start_faultless : IsFaultless (after plan 0)
    start_faultless v = ap (λ (f : ℕ → Run State Cause Word). (f v).fault) (sym started.runs_are)
        ∙ started.queued.faultless v

    -- Each stage begins with its part of the state after start-up.
    pub start_works : (a : ℕ) → IsWorking plan a 0 now
    start_works a = record {
      fine_so_far = λ v inside. start_faultless v;
      runs_are = λ v v_own. ap (λ (f : ℕ → Run State Cause Word). quiet (f v)) started.runs_are;
      queues_are = λ v port v_own less. started.queued.rest v port less
          ∙ ap (λ (f : ℕ → Run State Cause Word).
          drop (total (plan.meaning.popped (plan.graph.code v)) (f v).fired port)
          (arrived plan.input f (plan.graph.source v port))) started.runs_are
          ∙ ap (λ (n : ℕ). drop (total (plan.meaning.popped (plan.graph.code v)) n port)
          (arrived plan.input (after plan 0) (plan.graph.source v port))) (started.fired v);
    }

    pub start_words : words_of now.runs ≡ words_of (after plan 0)
    start_words = ap (λ (f : ℕ → Run State Cause Word). words_of f) started.runs_are

  abbrev pub Answers : Outcome Cause Word → Type 0
  Answers = IsAnswerOf (after plan) plan.startup plan.round plan.startup_order plan.round_order
      plan.rounds

  -- An outcome is the answer; where there is none, something else holds.
  abbrev pub AnswersOr : (none : Type 0) → Option (Outcome Cause Word) → Type 0
  AnswersOr none (Some outcome) = Answers outcome
  AnswersOr none None = none

  -- What is known of the parcel of round q at the collector.
  abbrev pub Comes : (none : Type 0) (q : ℕ) → Parcel Cause Word → Type 0
  Comes none q (Moves blocks words) = HasMoved plan plan.stages q blocks words
  Comes none q (Halts (Some stop)) = IsFirstStop plan plan.stages q stop
  Comes none q (Halts None) = none

  all_before : (v : ℕ) → before plan.stage_of plan.stages v ≡ true
  all_before v = less_before plan.stage_of plan.stages v (is.staged.within v)

  -- The first stop of a round, at the collector, is the answer.
  pub stop_answers : (q : ℕ) (words : ℕ → List Word) (stop : Stop Cause) → q < plan.rounds
      → words ≡ words_of (after plan q) → ((j : ℕ) → j ≤ q → IsFaultless (after plan j))
      → IsFirstStop plan plan.stages q stop → Answers (RoundFault q stop words)
  stop_answers q words stop less words_are fine first = (
    less,
    fine,
    ap (λ (l : List ℕ). first_fault (after plan (suc q)) (counts plan q) l) is.staged.order
        ∙ first.first,
    words_are,
  )

  pub collected_gives : (none : Type 0) (q : ℕ) (words : ℕ → List Word) (parcel : Parcel Cause Word)
      (later : (ℕ → List Word) → Option (Outcome Cause Word)) → q < plan.rounds
      → words ≡ words_of (after plan q) → ((j : ℕ) → j ≤ q → IsFaultless (after plan j))
      → Comes none q parcel
      → ((more : ℕ → List Word) → more ≡ words_of (after plan (suc q))
      → ((j : ℕ) → j ≤ suc q → IsFaultless (after plan j)) → AnswersOr none (later more))
      → AnswersOr none (collected plan q words parcel later)
  unfolding collected words_of
  collected_gives none q words (Moves blocks new) later less words_are fine moved next =
      next (λ v. words v ++ new v)
      (fun_ext (λ v. ap (λ (f : ℕ → List Word). f v ++ new v) words_are
      ∙ sym (moved.words_are v)
      ∙ ap (λ (r : Run State Cause Word). r.words)
      (begun_early plan plan.stages q v (all_before v))))
      (λ j below. elim (cases_order j (suc q)) [
        | inl e ↦ λ v. ap (λ (n : ℕ). (after plan n v).fault) e ∙ moved.fine v (all_before v)
        | inr other ↦ elim other
            [ inl under ↦ fine j (omega arith) | inr over ↦ absurd (omega arith) ]
      ])
  collected_gives none q words (Halts (Some stop)) later less words_are fine first next =
      stop_answers q words stop less words_are fine first
  collected_gives none q words (Halts None) later less words_are fine nothing next = nothing

-- Nothing has moved before the first stage.
pub fresh_moved : {Code State Cause Word : Type 0} (plan : Staging Code State Cause Word) (t : ℕ)
    (blocks : ℕ → ByPort) (words : ℕ → List Word) → ((v port : ℕ) → blocks v port ≡ [])
    → ((v : ℕ) → words v ≡ []) → HasMoved plan 0 t blocks words
fresh_moved {State = State} {Cause = Cause} {Word = Word} plan t blocks words no_blocks no_words =
    record {
      fine = λ v inside. absurd (let e : true ≡ false = sym inside ∙ none v in grind arith);
      blocks_are = λ v port after_it less.
          ap (λ (f : ℕ → Run State Cause Word). arrived plan.input f (plan.graph.source v port))
          (fun_ext late)
          ∙ sym (append-nil (arrived plan.input (after plan t) (plan.graph.source v port)))
          ∙ ap (λ (l : List ℤ). arrived plan.input (after plan t) (plan.graph.source v port)
          ++ l) (sym (no_blocks v port));
      spent = λ v port less. no_blocks v port;
      words_are = λ v. ap (λ (r : Run State Cause Word). r.words) (late v)
          ∙ sym (append-nil (after plan t v).words)
          ∙ ap (λ (l : List Word). (after plan t v).words ++ l) (sym (no_words v));
    }
  where
    none : (v : ℕ) → before plan.stage_of 0 v ≡ false
    none v = not_before plan.stage_of 0 v (omega arith)

    late : (v : ℕ) → begun_at plan 0 t v ≡ after plan t v
    late v = begun_late plan 0 t v (none v)

-- Where start-up went on, it left its state.
pub started_by : {Code State Cause Word : Type 0} (plan : Staging Code State Cause Word)
    (is : IsStaging plan) (progress : FifoProgress State Cause Word) (now : Fifo State Cause Word)
    → progress ≡ FifoWent now → Starts plan is progress → IsStarted plan is now
started_by plan is (FifoWent other) now e started =
    subst (IsStarted plan is) (fifo_same other now e) started
started_by plan is (FifoStopped stop) now e first = absurd (grind arith)

stopped_by : {Code State Cause Word : Type 0} (plan : Staging Code State Cause Word)
    (is : IsStaging plan) (progress : FifoProgress State Cause Word) (stop : Stop Cause)
    → progress ≡ FifoStopped stop → Starts plan is progress
    → first_fault (after plan 0) (λ node. 0) plan.startup_order ≡ Some stop
stopped_by plan is (FifoWent now) stop e started = absurd (grind arith)
stopped_by {Cause = Cause} plan is (FifoStopped other) stop e first =
    first ∙ (let f : ◌≡◌ {A = Option (Stop Cause)} (Some other) (Some stop) = cc in f)

-- Start-up on one thread.
pub startup_gives_stages : {Code State Cause Word : Type 0}
    → StartupGivesStages Code State Cause Word
startup_gives_stages plan is = (
  λ now went a less. start_works plan is now (started_by plan is (fifo_go plan.meaning plan.graph
      plan.startup_order (fifo_at_first plan.meaning plan.graph plan.input)) now went
      (starts plan is)) a,
  λ stop went. stopped_by plan is (fifo_go plan.meaning plan.graph plan.startup_order
      (fifo_at_first plan.meaning plan.graph plan.input)) stop went (starts plan is),
)
