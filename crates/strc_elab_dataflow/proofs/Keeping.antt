-- A step keeps what a stage and a parcel are; and the segment of a stage alone.
use Rattle.std.proofs.Common.{◌≡◌, refl, sym, ap, ◌∙◌, subst, ℕ, suc, ◌<◌}
use Rattle.std.proofs.Common.{Bool, true, List, [], ◌∷◌, arith, Option, Some, None}
use Rattle.std.proofs.Common.{append-nil, cond, eqb, ℤ}
use mathlib.Core.Path.{fun_ext}
use mathlib.Core.Logic.{inl, inr}
use Rattle.strc_elab_dataflow.specs.Node.{ByPort, Meaning}
use Rattle.strc_elab_dataflow.specs.Histories.{Run, advance}
use Rattle.strc_elab_dataflow.specs.Flat.{Graph, runs_at, arrived}
use Rattle.strc_elab_dataflow.specs.Order.{counted}
use Rattle.strc_elab_dataflow.specs.Machine.{Stop, Progress, Progress.Went, Progress.Stopped, put}
use Rattle.strc_elab_dataflow.specs.Machine.{unless_faulted, fired_once, go, first_fault, or_else}
use Rattle.strc_elab_dataflow.specs.Queues.{FifoProgress, FifoProgress.FifoWent, fifo_go}
use Rattle.strc_elab_dataflow.specs.Queues.{FifoProgress.FifoStopped}
use Rattle.strc_elab_dataflow.proofs.Invariant.{run_tells}
use Rattle.strc_elab_dataflow.specs.Cut.{IsClosed, AllIn, HasFaultIn, IsFaultlessIn}
use Rattle.strc_elab_dataflow.specs.Staging.{Staging, joined, before, in_stage, counts, after}
use Rattle.strc_elab_dataflow.specs.Staging.{IsStaging}
use Rattle.strc_elab_dataflow.specs.Stages.{Parcel, Parcel.Moves, Parcel.Halts, Stage, Stage.Works}
use Rattle.strc_elab_dataflow.specs.Stages.{Stage.Halted, entered, sent, step}
use Rattle.strc_elab_dataflow.specs.Parcels.{IsFirstStop, IsParcel}
use Rattle.strc_elab_dataflow.specs.Parcels.{IsStage}
use Rattle.strc_elab_dataflow.specs.StageLaws.{Ends, StageGoes, StepKeeps}
use Rattle.strc_elab_dataflow.proofs.Cut.{arrived_same}
use Rattle.strc_elab_dataflow.proofs.Orders.{all_mapped, first_fault_append, fault_among}
use Rattle.strc_elab_dataflow.proofs.Parts.{part_fault_stays}
use Rattle.strc_elab_dataflow.proofs.Segments.{before_next, in_next}
use Rattle.strc_elab_dataflow.proofs.Begun.{stages_closed, alone, alone_solved, later, begun}
use Rattle.strc_elab_dataflow.proofs.Begun.{begun_runs}
use Rattle.strc_elab_dataflow.proofs.Begun.{Says, valid_segment, segment_done, front_less, new_run}
use Rattle.strc_elab_dataflow.proofs.Begun.{begun_exact, begun_run, first_is, joined_before}
use Rattle.strc_elab_dataflow.proofs.Sent.{StepComes, step_works}

module _ {Code State Cause Word : Type 0} (meaning : Meaning Code State Cause Word)
    (graph : Graph Code) (input : List ℤ) (part : ℕ → Bool) (closed : IsClosed graph part) where
  -- On a part's nodes two outcomes agree.
  abbrev pub Agrees : (p q : Progress State Cause Word) → Type 0
  Agrees (Went now) (Went other) = (v : ℕ) → part v ≡ true → now v ≡ other v
  Agrees (Went now) (Stopped stop) = ⊥
  Agrees (Stopped stop) (Went other) = ⊥
  Agrees (Stopped stop) (Stopped other) = stop ≡ other

  once_agrees : (now other : ℕ → Run State Cause Word)
      → ((v : ℕ) → part v ≡ true → now v ≡ other v) → (node : ℕ) → part node ≡ true
      → fired_once meaning graph input now node ≡ fired_once meaning graph input other node
  unfolding fired_once
  once_agrees now other same node inside =
      ap (λ (xs : ByPort). advance meaning (graph.code node) xs (now node))
      (fun_ext (λ port. arrived_same meaning graph input part now other same
      (graph.source node port) (closed node port inside)))
      ∙ ap (advance meaning (graph.code node) (λ port. arrived input other
      (graph.source node port))) (same node inside)

  put_agrees : (now other : ℕ → Run State Cause Word)
      → ((v : ℕ) → part v ≡ true → now v ≡ other v) → (node : ℕ)
      (run same_run : Run State Cause Word)
      → run ≡ same_run → (v : ℕ) → part v ≡ true → put now node run v ≡ put other node same_run v
  unfolding put
  put_agrees now other same node run same_run e v inside =
      ap (λ (r : Run State Cause Word). cond (eqb v node) r (now v)) e
      ∙ ap (cond (eqb v node) same_run) (same v inside)

  unless_agrees : (node : ℕ) (run : Run State Cause Word) (fault : Option _)
      (p q : Progress State Cause Word) → Agrees p q
      → Agrees (unless_faulted node run fault p) (unless_faulted node run fault q)
  unfolding unless_faulted
  unless_agrees node run None p q same = same
  unless_agrees node run (Some cause) p q same = refl

  -- An order over a closed part, from states that agree there.
  pub go_agrees : (order : List ℕ) → AllIn part order → (now other : ℕ → Run State Cause Word)
      → ((v : ℕ) → part v ≡ true → now v ≡ other v)
      → Agrees (go meaning graph input order now) (go meaning graph input order other)
  unfolding go
  go_agrees [] inside now other same = same
  go_agrees (node ∷ order) inside now other same =
      let e = once_agrees now other same node inside.0 in
      subst (λ (r : Run State Cause Word). Agrees
      (unless_faulted node (fired_once meaning graph input now node)
      (fired_once meaning graph input now node).fault (go meaning graph input order
      (put now node (fired_once meaning graph input now node))))
      (unless_faulted node r r.fault (go meaning graph input order (put other node
      (fired_once meaning graph input other node))))) e
      (unless_agrees node (fired_once meaning graph input now node)
      (fired_once meaning graph input now node).fault
      (go meaning graph input order (put now node (fired_once meaning graph input now node)))
      (go meaning graph input order (put other node (fired_once meaning graph input other node)))
      (go_agrees order inside.1 (put now node (fired_once meaning graph input now node))
      (put other node (fired_once meaning graph input other node))
      (put_agrees now other same node (fired_once meaning graph input now node)
      (fired_once meaning graph input other node) e)))

-- The segment of a stage, from any state in which it begins.
pub stage_goes : {Code State Cause Word : Type 0} → StageGoes Code State Cause Word
stage_goes {State = State} {Cause = Cause} {Word = Word} plan a t now is due begins =
    by_progress (go plan.meaning plan.graph plan.input (plan.segment a) now)
    (go plan.meaning plan.graph plan.input (plan.segment a) start)
    (go_agrees plan.meaning plan.graph plan.input part (stages_closed plan is (suc a))
    (plan.segment a) (all_mapped (in_stage plan.stage_of a) part (in_next plan.stage_of a)
    (plan.segment a) (is.staged.own a due.is_stage)) now start
    (λ v inside. begins v inside
    ∙ sym (begun_run plan is a t due v inside)))
    (run_tells plan.meaning plan.graph plan.input is.solved.keeps
    (later plan is a t due)
    (counts (alone plan is a t due) (suc t))
    ((alone_solved plan is a t due).solves (suc t) due.is_round)
    (plan.segment a) (begun plan is a t due)
    (begun_exact plan is a t due)
    (valid_segment plan is a t due)
    (front_less plan is a t due (plan.segment a) []
    (sym (append-nil (plan.segment a)))))
  where
    part : ℕ → Bool
    part = before plan.stage_of (suc a)

    start : ℕ → Run State Cause Word
    start = begun_runs plan is a t due

    end_run : (v : ℕ) → part v ≡ true
        → runs_at plan.meaning plan.graph (counted (begun plan is a t due) (plan.segment a))
        (later plan is a t due) v
        ≡ after plan (suc t) v
    end_run v inside =
        ap (λ (c : ℕ → ℕ). runs_at plan.meaning plan.graph c
        (later plan is a t due) v)
        (segment_done plan is a t due)
        ∙ new_run plan is a t due v inside

    by_progress : (p q : Progress State Cause Word)
        → Agrees plan.meaning plan.graph plan.input part (stages_closed plan is (suc a)) p q
        → Says plan is a t due
        (begun plan is a t due) (plan.segment a) q
        → Ends plan a t p
    by_progress (Went next) (Went other) same tells = (
      λ v inside. ap (λ (r : Run State Cause Word). r.fault) (sym (end_run v inside))
          ∙ tells.1.faultless v,
      λ v inside. same v inside ∙ ap (λ (f : ℕ → Run State Cause Word). f v) tells.0
          ∙ end_run v inside,
    )
    by_progress (Stopped stop) (Stopped other) same tells =
        first_is plan is a t due stop
        (tells ∙ ap {A = Stop Cause} {B = Option (Stop Cause)} Some (sym same))
    by_progress (Went next) (Stopped other) same tells = absurd same
    by_progress (Stopped stop) (Went other) same tells = absurd same

module _ {Code State Cause Word : Type 0} (plan : Staging Code State Cause Word)
    (is : IsStaging plan) (a t : ℕ) (is_stage : a < plan.stages) (is_round : t < plan.rounds) where
  -- A fault before a stage is one before the next.
  wider : (u : ℕ) → HasFaultIn (before plan.stage_of a) (after plan u)
      → HasFaultIn (before plan.stage_of (suc a)) (after plan u)
  wider u some = record {
    node = some.node;
    cause = some.cause;
    inside = before_next plan.stage_of a some.node some.inside;
    is = some.is;
  }

  stays : HasFaultIn (before plan.stage_of (suc a)) (after plan t)
      → HasFaultIn (before plan.stage_of (suc a)) (after plan (suc t))
  stays = part_fault_stays plan (before plan.stage_of (suc a)) is.solved
      (stages_closed plan is (suc a)) t (suc t) (omega arith) is_round

  -- A first stop before a stage stays the first up to it.
  pub first_later : (stop : Stop Cause)
      → IsFaultlessIn (before plan.stage_of (suc a)) (after plan t)
      → IsFirstStop plan a t stop → IsFirstStop plan (suc a) t stop
  unfolding joined or_else
  first_later stop fine first = record {
    fine_before = fine;
    first = first_fault_append (after plan (suc t)) (joined plan.segment a) (plan.segment a)
        (counts plan t)
        ∙ ap (λ (o : Option (Stop Cause)). or_else o (first_fault (after plan (suc t))
        (counted (counts plan t) (joined plan.segment a)) (plan.segment a))) first.first;
  }

  -- A first stop is a fault.
  first_faults : (stop : Stop Cause) → IsFirstStop plan (suc a) t stop
      → HasFaultIn (before plan.stage_of (suc a)) (after plan (suc t))
  first_faults stop first = fault_among (before plan.stage_of (suc a)) (after plan (suc t))
      (joined plan.segment (suc a)) (joined_before plan is (suc a) is_stage) (counts plan t) stop
      first.first

  sent_keeps : (blocks : ℕ → ByPort) (words : ℕ → List Word)
      (progress : FifoProgress State Cause Word) → StepComes plan a t blocks words progress
      → IsStage plan a (suc t) (sent plan a blocks words progress).stage
      × IsParcel plan (suc a) t (sent plan a blocks words progress).parcel
  unfolding sent
  sent_keeps blocks words (FifoWent next) comes = (comes.0, comes.1)
  sent_keeps blocks words (FifoStopped stop) first = (first_faults stop first, inl first)

  keeps_by : (stage : Stage State Cause Word) (parcel : Parcel Cause Word)
      → IsStage plan a t stage → IsParcel plan a t parcel
      → IsStage plan a (suc t) (step plan a stage parcel).stage
      × IsParcel plan (suc a) t (step plan a stage parcel).parcel
  unfolding step
  keeps_by (Works now) (Moves blocks words) working moved =
      sent_keeps blocks words
      (fifo_go plan.meaning plan.graph (plan.segment a) (entered plan a now blocks))
      (step_works plan is a t is_stage is_round now blocks words working moved)
  keeps_by (Works now) (Halts (Some stop)) working (inl first) =
      let later = first_later stop working.fine_so_far first in
      (first_faults stop later, inl later)
  keeps_by (Works now) (Halts (Some stop)) working (inr some) =
      (stays (wider t some), inr (wider t some))
  keeps_by (Works now) (Halts None) working some = (stays (wider t some), wider t some)
  keeps_by Halted (Moves blocks words) some moved = (stays some, some)
  keeps_by Halted (Halts (Some stop)) some parcel_is = (stays some, inr some)
  keeps_by Halted (Halts None) some parcel_is = (stays some, some)

-- The step of a stage.
pub step_keeps : {Code State Cause Word : Type 0} → StepKeeps Code State Cause Word
step_keeps plan a t stage parcel is is_stage is_round =
    keeps_by plan is a t is_stage is_round stage parcel
