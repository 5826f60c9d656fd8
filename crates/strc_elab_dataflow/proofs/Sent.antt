-- What a stage's step leaves and sends on: its state at the next round, and the parcel with the
-- items of this one; or the first fault.
use Rattle.std.proofs.Common.{◌≡◌, refl, sym, ap, ◌∙◌, ℕ, suc, ◌<◌, ◌≤◌}
use Rattle.std.proofs.Common.{Bool, true, false, cond, List, [], ◌++◌}
use Rattle.std.proofs.Common.{drop, ℤ, arith, append_assoc, append-nil}
use mathlib.Core.Logic.{inl, inr, ◌⊎◌}
use Rattle.std.proofs.lemmas.List.{append_cancel_left}
use Rattle.std.proofs.lemmas.Bool.{lt-ltb, le-ltb}
use Rattle.strc_elab_dataflow.specs.Node.{ByPort, total}
use Rattle.strc_elab_dataflow.specs.Histories.{Run}
use Rattle.strc_elab_dataflow.specs.Flat.{runs_at, arrived}
use Rattle.strc_elab_dataflow.specs.Queues.{Fifo, FifoProgress, FifoProgress.FifoWent, fifo_go}
use Rattle.strc_elab_dataflow.specs.Queues.{FifoProgress.FifoStopped}
use Rattle.strc_elab_dataflow.specs.Cut.{IsFrom, IsFaultlessIn}
use Rattle.strc_elab_dataflow.specs.Staging.{Staging, before, in_stage, counts, after, IsStaging}
use Rattle.strc_elab_dataflow.specs.Stages.{quiet, entered, sent_blocks, sent_words}
use Rattle.strc_elab_dataflow.specs.Parcels.{begun_at, IsDue, HasMoved, IsWorking, IsFirstStop}
use Rattle.strc_elab_dataflow.proofs.Cut.{arrived_same}
use Rattle.strc_elab_dataflow.proofs.Frame.{spoken_after}
use Rattle.strc_elab_dataflow.proofs.Segments.{in_next, which, before_not, not_before}
use Rattle.strc_elab_dataflow.proofs.Segments.{not_in}
use Rattle.strc_elab_dataflow.proofs.Begun.{begun_early, begun_late, stages_closed, segment_done}
use Rattle.strc_elab_dataflow.proofs.Begun.{new_count, new_run, begun_exact, begun_out, begun_run}
use Rattle.strc_elab_dataflow.proofs.Begun.{first_is}
use Rattle.strc_elab_dataflow.proofs.Steps.{later', runs', front, IsThere}
use Rattle.strc_elab_dataflow.proofs.Steps.{Comes, outside, outside_is, from_or_outside}
use Rattle.strc_elab_dataflow.proofs.Steps.{quiet_spoken}
use Rattle.strc_elab_dataflow.proofs.Steps.{comes_to}

module _ {Code State Cause Word : Type 0} (plan : Staging Code State Cause Word) (a t : ℕ) where
  -- What a step comes to.
  abbrev pub StepComes : (blocks : ℕ → ByPort) → (words : ℕ → List Word)
      → FifoProgress State Cause Word → Type 0
  StepComes blocks words (FifoWent next) = IsWorking plan a (suc t) next
      × HasMoved plan (suc a) t (sent_blocks plan a blocks next.queues)
      (sent_words plan a words next.runs)
  StepComes blocks words (FifoStopped stop) = IsFirstStop plan (suc a) t stop

  -- Where a stage is at work and a parcel has moved, its segment is due.
  pub due_at : (now : Fifo State Cause Word) (blocks : ℕ → ByPort) (words : ℕ → List Word)
      → a < plan.stages → t < plan.rounds → IsWorking plan a t now
      → HasMoved plan a t blocks words → IsDue plan a t
  due_at now blocks words is_stage is_round working moved = record {
    is_stage = is_stage;
    is_round = is_round;
    fine_now = moved.fine;
    fine_so_far = working.fine_so_far;
  }

module _ {Code State Cause Word : Type 0} (plan : Staging Code State Cause Word)
    (is : IsStaging plan) (a t : ℕ) (due : IsDue plan a t) where
  abbrev part : ℕ → Bool
  part = before plan.stage_of (suc a)

  abbrev started : ℕ → Run State Cause Word
  started = runs' plan is a t due

  abbrev waiting : ℕ → ByPort
  waiting = front plan is a t due

  abbrev pub Ends : Fifo State Cause Word → Type 0
  Ends next = IsThere plan is a t due (plan.segment a) next

  -- What came to a later port since the segment began is what its queue has.
  pub crossed : (xs : List ℕ) (next : Fifo State Cause Word)
      → (there : IsThere plan is a t due xs next)
      → (v port : ℕ) → suc a ≤ plan.stage_of v → port < plan.meaning.ports (plan.graph.code v)
      → arrived plan.input started (plan.graph.source v port) ++ next.queues v port
      ≡ arrived plan.input there.all.runs (plan.graph.source v port)
  unfolding front total
  crossed xs next there v port after_this less =
      let away = not_in plan.stage_of a v (λ e. omega arith) in
      let begun_none = begun_out plan is a t due v
      (not_before plan.stage_of (suc a) v after_this) in
      let fired_none = ap (λ (r : Run State Cause Word). r.fired)
      (there.framed.other_runs v away)
      ∙ (begun_exact plan is a t due).fired v
      ∙ begun_none in
      ap (λ (n : ℕ). drop (total (plan.meaning.popped (plan.graph.code v)) n port)
      (arrived plan.input started (plan.graph.source v port)) ++ next.queues v port)
      (sym begun_none)
      ∙ sym (there.framed.other_queues v port away
      (lt-ltb port (plan.meaning.ports (plan.graph.code v)) less))
      ∙ there.queued.rest v port less
      ∙ ap (λ (n : ℕ). drop (total (plan.meaning.popped (plan.graph.code v)) n port)
      (arrived plan.input there.all.runs (plan.graph.source v port))) fired_none

  module _ (next : Fifo State Cause Word) (there : Ends next) where
    end_run : (v : ℕ) → part v ≡ true → there.all.runs v ≡ after plan (suc t) v
    end_run v inside =
        ap (λ (f : ℕ → Run State Cause Word). f v) (there.runs_are
        ∙ ap (λ (c : ℕ → ℕ). runs_at plan.meaning plan.graph c
        (later' plan is a t due))
        (segment_done plan is a t due))
        ∙ new_run plan is a t due v inside

    pub fine_next : IsFaultlessIn (before plan.stage_of (suc a)) (after plan (suc t))
    fine_next v inside = ap (λ (r : Run State Cause Word). r.fault) (sym (end_run v inside))
        ∙ there.queued.faultless v

    end_fired : (v : ℕ) → part v ≡ true → (there.all.runs v).fired ≡ counts plan (suc t) v
    end_fired v inside =
        ap (λ (f : ℕ → Run State Cause Word). (f v).fired) there.runs_are
        ∙ there.exact.fired v
        ∙ ap (λ (f : ℕ → ℕ). f v)
        (segment_done plan is a t due)
        ∙ new_count plan is a t due v inside

    -- The stage is at the next round.
    pub keeps_on : IsWorking plan a (suc t) next
    keeps_on = record {
      fine_so_far = fine_next;
      runs_are = λ v v_own.
          quiet_spoken (after plan t v).words (next.runs v) (there.all.runs v)
          (there.framed.own_runs v v_own)
          ∙ ap quiet (end_run v (in_next plan.stage_of a v v_own));
      queues_are = λ v port v_own less.
          let inside = in_next plan.stage_of a v v_own in
          sym (there.framed.own_queues v port v_own
          (lt-ltb port (plan.meaning.ports (plan.graph.code v)) less))
          ∙ there.queued.rest v port less
          ∙ ap (λ (n : ℕ). drop (total (plan.meaning.popped (plan.graph.code v)) n port)
          (arrived plan.input there.all.runs (plan.graph.source v port))) (end_fired v inside)
          ∙ ap (drop (total (plan.meaning.popped (plan.graph.code v)) (counts plan (suc t) v)
          port)) (arrived_same plan.meaning plan.graph plan.input part there.all.runs
          (after plan (suc t)) end_run (plan.graph.source v port)
          (stages_closed plan is (suc a) v port inside));
    }

    end_begun : (v : ℕ) → part v ≡ true → begun_at plan (suc a) t v ≡ there.all.runs v
    end_begun v inside = begun_early plan (suc a) t v inside ∙ sym (end_run v inside)

    out_begun : (v : ℕ) → outside part v ≡ true → begun_at plan (suc a) t v ≡ begun_at plan a t v
    out_begun v out =
        let e = outside_is part v out in
        begun_late plan (suc a) t v e ∙ sym (begun_late plan a t v (not_before plan.stage_of a v
        (omega (arith, before_not plan.stage_of (suc a) v e))))

    out_run : (v : ℕ) → outside part v ≡ true → there.all.runs v ≡ started v
    out_run v out = there.framed.other_runs v (not_in plan.stage_of a v (λ e.
        omega (arith, before_not plan.stage_of (suc a) v (outside_is part v out))))

    block_by : (v port : ℕ) → suc a ≤ plan.stage_of v
        → port < plan.meaning.ports (plan.graph.code v)
        → IsFrom part (plan.graph.source v port).origin
        ⊎ IsFrom (outside part) (plan.graph.source v port).origin
        → arrived plan.input (begun_at plan (suc a) t) (plan.graph.source v port)
        ≡ arrived plan.input (begun_at plan a t) (plan.graph.source v port) ++ next.queues v port
    block_by v port after_this less (inl inside) =
        arrived_same plan.meaning plan.graph plan.input part (begun_at plan (suc a) t)
        there.all.runs end_begun (plan.graph.source v port) inside
        ∙ sym (crossed (plan.segment a) next there v port after_this less)
        ∙ ap (λ (l : List ℤ). l ++ next.queues v port)
        (arrived_same plan.meaning plan.graph plan.input part started (begun_at plan a t)
        (begun_run plan is a t due) (plan.graph.source v port)
        inside)
    block_by v port after_this less (inr out) =
        let none : next.queues v port ≡ [] = append_cancel_left
        (arrived plan.input started (plan.graph.source v port)) (next.queues v port) []
        (crossed (plan.segment a) next there v port after_this less
        ∙ arrived_same plan.meaning plan.graph plan.input (outside part) there.all.runs started
        out_run (plan.graph.source v port) out
        ∙ sym (append-nil (arrived plan.input started (plan.graph.source v port)))) in
        arrived_same plan.meaning plan.graph plan.input (outside part) (begun_at plan (suc a) t)
        (begun_at plan a t) out_begun (plan.graph.source v port) out
        ∙ sym (append-nil (arrived plan.input (begun_at plan a t) (plan.graph.source v port)))
        ∙ ap (λ (l : List ℤ). arrived plan.input (begun_at plan a t) (plan.graph.source v port)
        ++ l) (sym none)

    not_own_begun : (v : ℕ) → in_stage plan.stage_of a v ≡ false
        → begun_at plan (suc a) t v ≡ begun_at plan a t v
    not_own_begun v away = by_test (before plan.stage_of (suc a) v) refl
      where
        by_test : (test : Bool) → before plan.stage_of (suc a) v ≡ test
            → begun_at plan (suc a) t v ≡ begun_at plan a t v
        by_test true e = elim (which plan.stage_of a v e) [
          | inl early ↦ begun_early plan (suc a) t v e ∙ sym (begun_early plan a t v early)
          | inr same ↦ absurd (let f : true ≡ false = sym same ∙ away in grind arith)
        ]
        by_test false e = begun_late plan (suc a) t v e
            ∙ sym (begun_late plan a t v (not_before plan.stage_of a v
            (omega (arith, before_not plan.stage_of (suc a) v e))))

    module _ (blocks : ℕ → ByPort) (words : ℕ → List Word) (moved : HasMoved plan a t blocks words)
      where
        block_is : (v port : ℕ) → suc a ≤ plan.stage_of v
            → port < plan.meaning.ports (plan.graph.code v)
            → arrived plan.input (begun_at plan (suc a) t) (plan.graph.source v port)
            ≡ arrived plan.input (after plan t) (plan.graph.source v port)
            ++ sent_blocks plan a blocks next.queues v port
        unfolding sent_blocks
        block_is v port after_this less =
            block_by v port after_this less (from_or_outside part (plan.graph.source v port).origin)
            ∙ ap (λ (l : List ℤ). l ++ next.queues v port)
            (moved.blocks_are v port (omega arith) less)
            ∙ append_assoc (arrived plan.input (after plan t) (plan.graph.source v port))
            (blocks v port) (next.queues v port)
            ∙ ap (λ (test : Bool). arrived plan.input (after plan t) (plan.graph.source v port)
            ++ cond test (blocks v port ++ next.queues v port) [])
            (sym (lt-ltb a (plan.stage_of v) after_this))

        spent_is : (v port : ℕ) → plan.stage_of v < suc a
            → sent_blocks plan a blocks next.queues v port ≡ []
        unfolding sent_blocks
        spent_is v port less =
            ap (λ (test : Bool). cond test (blocks v port ++ next.queues v port) [])
            (le-ltb a (plan.stage_of v) (omega arith))

        words_by : (v : ℕ) (test : Bool) → in_stage plan.stage_of a v ≡ test
            → (begun_at plan (suc a) t v).words
            ≡ (after plan t v).words ++ cond test (next.runs v).words (words v)
        unfolding spoken_after
        words_by v true e =
            let inside = in_next plan.stage_of a v e in
            ap (λ (r : Run State Cause Word). r.words) (end_begun v inside)
            ∙ ap (λ (r : Run State Cause Word). r.words) (there.framed.own_runs v e)
        words_by v false e = ap (λ (r : Run State Cause Word). r.words) (not_own_begun v e)
            ∙ moved.words_are v

        -- The parcel before the next stage.
        pub moves_on : HasMoved plan (suc a) t (sent_blocks plan a blocks next.queues)
            (sent_words plan a words next.runs)
        unfolding sent_words
        moves_on = record {
          fine = fine_next;
          blocks_are = block_is;
          spent = spent_is;
          words_are = λ v. words_by v (in_stage plan.stage_of a v) refl;
        }

  step_by : (blocks : ℕ → ByPort) (words : ℕ → List Word) → HasMoved plan a t blocks words
      → (progress : FifoProgress State Cause Word)
      → Comes plan is a t due (plan.segment a) progress
      → StepComes plan a t blocks words progress
  step_by blocks words moved (FifoWent next) there =
      (keeps_on next there, moves_on next there blocks words moved)
  step_by blocks words moved (FifoStopped stop) first = record {
    fine_before = due.fine_so_far;
    first = first_is plan is a t due stop first;
  }

-- A stage's step takes the equations' state and items of round t to those of the next.
pub step_works : {Code State Cause Word : Type 0} (plan : Staging Code State Cause Word)
    → IsStaging plan → (a t : ℕ) → a < plan.stages → t < plan.rounds
    → (now : Fifo State Cause Word) (blocks : ℕ → ByPort) (words : ℕ → List Word)
    → IsWorking plan a t now → HasMoved plan a t blocks words
    → StepComes plan a t blocks words
    (fifo_go plan.meaning plan.graph (plan.segment a) (entered plan a now blocks))
step_works plan is a t is_stage is_round now blocks words working moved =
    let due = due_at plan a t now blocks words is_stage is_round working moved in
    step_by plan is a t due blocks words moved
    (fifo_go plan.meaning plan.graph (plan.segment a) (entered plan a now blocks))
    (comes_to plan is a t due now blocks words working moved (plan.segment a) []
    (sym (append-nil (plan.segment a))))
