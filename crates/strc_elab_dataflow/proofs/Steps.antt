-- A stage's step, over its own queues and the blocks that came, is the segment of the whole run of
-- the stages up to it.
use Rattle.std.proofs.Common.{◌≡◌, refl, sym, ap, ◌∙◌, subst, ℕ, suc, ◌<◌, ◌≤◌}
use Rattle.std.proofs.Common.{Bool, true, false, cond, ltb, List, [], ◌++◌}
use Rattle.std.proofs.Common.{drop, ℤ, arith, Option, Some, append-nil}
use mathlib.Core.Logic.{inl, inr, ◌⊎◌}
use Rattle.std.proofs.lemmas.List.{drop-append-le}
use Rattle.std.proofs.lemmas.Bool.{lt-ltb}
use Rattle.strc_elab_dataflow.specs.Node.{ByPort, total}
use Rattle.strc_elab_dataflow.specs.Histories.{Run}
use Rattle.strc_elab_dataflow.specs.Flat.{Origin, Origin.Nowhere, Origin.Input, Origin.Port}
use Rattle.strc_elab_dataflow.specs.Flat.{runs_at, arrived}
use Rattle.strc_elab_dataflow.specs.Order.{counted, supply, IsOrder}
use Rattle.strc_elab_dataflow.specs.Machine.{Stop, Progress, Progress.Went, Progress.Stopped, go}
use Rattle.strc_elab_dataflow.specs.Machine.{first_fault}
use Rattle.strc_elab_dataflow.specs.Queues.{Fifo, FifoProgress, FifoProgress.FifoWent, fifo_go}
use Rattle.strc_elab_dataflow.specs.Queues.{FifoProgress.FifoStopped, IsQueued, IsAlike}
use Rattle.strc_elab_dataflow.proofs.Invariant.{IsExact, run_tells, supply_is_length}
use Rattle.strc_elab_dataflow.proofs.Queued.{machines_alike}
use Rattle.strc_elab_dataflow.specs.Cut.{IsFrom, AllIn}
use Rattle.strc_elab_dataflow.specs.Staging.{Staging, before, in_stage, counts, after, IsStaging}
use Rattle.strc_elab_dataflow.specs.Stages.{quiet, entered}
use Rattle.strc_elab_dataflow.specs.Parcels.{begun_at, IsDue, HasMoved, IsWorking}
use Rattle.strc_elab_dataflow.proofs.Cut.{arrived_same}
use Rattle.strc_elab_dataflow.proofs.Orders.{order_front, all_front}
use Rattle.strc_elab_dataflow.proofs.Frame.{spoken_after, IsFramed, AreFramed, go_framed}
use Rattle.strc_elab_dataflow.proofs.Segments.{in_next, in_not_before}
use Rattle.strc_elab_dataflow.proofs.Segments.{in_is}
use Rattle.strc_elab_dataflow.proofs.Begun.{begun_late, stages_closed, alone, alone_solved}
use Rattle.strc_elab_dataflow.proofs.Begun.{later, begun, begun_runs, Says, valid_segment}
use Rattle.strc_elab_dataflow.proofs.Begun.{front_less, old_count}
use Rattle.strc_elab_dataflow.proofs.Begun.{begun_exact, begun_own, begun_run, came_at}
use Rattle.strc_elab_dataflow.proofs.Begun.{begun_covered}

spoken_quiet : {State Cause Word : Type 0} (run other : Run State Cause Word)
    → quiet run ≡ quiet other → other ≡ spoken_after other.words (quiet run)
unfolding quiet spoken_after
spoken_quiet {Word = Word} run other e =
    ap (λ (ws : List Word). record {
      fired = other.fired;
      state = other.state;
      pushes = other.pushes;
      words = ws;
      fault = other.fault;
    }) (sym (append-nil other.words))
    ∙ ap (spoken_after other.words) (sym e)

pub quiet_spoken : {State Cause Word : Type 0} (words : List Word)
    (run other : Run State Cause Word)
    → other ≡ spoken_after words run → quiet run ≡ quiet other
unfolding quiet spoken_after
quiet_spoken words run other e = sym (ap quiet e)

-- Where an origin isn't from a part, it is outside.
unfoldable pub outside : (ℕ → Bool) → ℕ → Bool
outside part v = cond (part v) false true

pub outside_is : (part : ℕ → Bool) (v : ℕ) → outside part v ≡ true → part v ≡ false
unfolding outside
outside_is part v = by_test (part v)
  where
    by_test : (test : Bool) → cond test false true ≡ true → test ≡ false
    by_test true e = absurd (grind arith)
    by_test false e = refl

pub from_or_outside : (part : ℕ → Bool) (origin : Origin)
    → IsFrom part origin ⊎ IsFrom (outside part) origin
unfolding outside
from_or_outside part Nowhere = inl tt
from_or_outside part Input = inl tt
from_or_outside part (Port u q) = by_test (part u)
  where
    by_test : (test : Bool) → (test ≡ true) ⊎ (cond test false true ≡ true)
    by_test true = inl refl
    by_test false = inr refl

module _ {Code State Cause Word : Type 0} (plan : Staging Code State Cause Word)
    (is : IsStaging plan) (a t : ℕ) (due : IsDue plan a t) where
  abbrev pub alone' : Staging Code State Cause Word
  alone' = alone plan is a t due

  abbrev pub later' : ℕ → ByPort
  later' = later plan is a t due

  abbrev pub begun' : ℕ → ℕ
  begun' = begun plan is a t due

  abbrev pub runs' : ℕ → Run State Cause Word
  runs' = begun_runs plan is a t due

  abbrev pub own : ℕ → Bool
  own = in_stage plan.stage_of a

  abbrev pub carries : ℕ → ℕ → Bool
  carries v port = ltb port (plan.meaning.ports (plan.graph.code v))

  -- What waits at the ports of other nodes.
  unfoldable pub front : ℕ → ByPort
  front v port = drop (total (plan.meaning.popped (plan.graph.code v)) (begun' v) port)
      (arrived plan.input runs' (plan.graph.source v port))

  abbrev pub Framed : (all here : Fifo State Cause Word) → Type 0
  Framed = IsFramed plan.meaning plan.graph.size plan.graph.code plan.graph.source
      plan.graph.source plan.graph.size own carries (λ v. (after plan t v).words) runs' front

  -- The whole state after a front of the segment, with the stage's own in it.
  pub record IsThere (xs : List ℕ) (next : Fifo State Cause Word) : Type 0 where
    pub all : Fifo State Cause Word
    pub framed : Framed all next
    pub queued : IsQueued plan.meaning plan.graph plan.input all
    pub runs_are : all.runs ≡ runs_at plan.meaning plan.graph (counted begun' xs) later'
    pub exact : IsExact plan.meaning plan.graph plan.input (counted begun' xs) later'

  -- What a front of the segment comes to.
  abbrev pub Comes : List ℕ → FifoProgress State Cause Word → Type 0
  Comes xs (FifoWent next) = IsThere xs next
  Comes xs (FifoStopped stop) = first_fault (after alone' (suc t)) begun' xs ≡ Some stop

  comes_by : (xs : List ℕ) (progress : Progress State Cause Word)
      (all here : FifoProgress State Cause Word)
      → Says plan is a t due begun' xs progress
      → IsAlike plan.meaning plan.graph plan.input progress all
      → AreFramed plan.meaning plan.graph.size plan.graph.code plan.graph.source plan.graph.source
      plan.graph.size own carries (λ v. (after plan t v).words) runs' front all here
      → Comes xs here
  comes_by xs (Went now) (FifoWent all) (FifoWent next) tells alike framed = record {
    all = all;
    framed = framed;
    queued = alike.1;
    runs_are = alike.0 ∙ tells.0;
    exact = tells.1;
  }
  comes_by xs (Stopped stop) (FifoStopped other) (FifoStopped third) tells alike framed =
      tells ∙ ap {A = Stop Cause} {B = Option (Stop Cause)} Some (alike ∙ framed)
  comes_by xs (Went now) (FifoWent all) (FifoStopped third) tells alike framed = absurd framed
  comes_by xs (Went now) (FifoStopped other) here tells alike framed = absurd alike
  comes_by xs (Stopped stop) (FifoWent all) here tells alike framed = absurd alike
  comes_by xs (Stopped stop) (FifoStopped other) (FifoWent next) tells alike framed =
      absurd framed

  module _ (now : Fifo State Cause Word) (blocks : ℕ → ByPort) (words : ℕ → List Word)
      (working : IsWorking plan a t now) (moved : HasMoved plan a t blocks words) where
    abbrev here_first : Fifo State Cause Word
    here_first = entered plan a now blocks

    -- The whole state where the segment begins.
    all_first : Fifo State Cause Word
    all_first = record {
      runs = runs';
      queues = λ v port. cond (own v) (now.queues v port ++ blocks v port) (front v port ++ []);
    }

    first_framed : Framed all_first here_first
    unfolding all_first entered
    first_framed = record {
      own_runs = λ v v_own.
          begun_run plan is a t due v
          (in_next plan.stage_of a v v_own)
          ∙ begun_late plan a t v (in_not_before plan.stage_of a v v_own)
          ∙ spoken_quiet (now.runs v) (after plan t v) (working.runs_are v v_own);
      other_runs = λ v away. refl;
      own_queues = λ v port v_own carried.
          ap (λ (test : Bool). cond test (now.queues v port ++ blocks v port)
          (front v port ++ [])) v_own
          ∙ sym (ap (λ (test : Bool). cond test (now.queues v port ++ blocks v port) []) v_own);
      other_queues = λ v port away carried.
          ap (λ (test : Bool). cond test (now.queues v port ++ blocks v port)
          (front v port ++ [])) away
          ∙ sym (ap (λ (test : Bool). front v port
          ++ cond test (now.queues v port ++ blocks v port) []) away);
    }

    -- An own queue with its block is what has come without what was taken.
    queue_own : (v port : ℕ) → own v ≡ true → port < plan.meaning.ports (plan.graph.code v)
        → now.queues v port ++ blocks v port
        ≡ drop (total (plan.meaning.popped (plan.graph.code v)) (begun' v) port)
        (arrived plan.input runs' (plan.graph.source v port))
    queue_own v port v_own less =
        let inside = in_next plan.stage_of a v v_own in
        ap (λ (l : List ℤ). l ++ blocks v port) (working.queues_are v port v_own less)
        ∙ sym (drop-append-le (total (plan.meaning.popped (plan.graph.code v)) (counts plan t v)
        port) (arrived plan.input (after plan t) (plan.graph.source v port)) (blocks v port)
        (came_at plan is a t due v port inside less))
        ∙ ap (drop (total (plan.meaning.popped (plan.graph.code v)) (counts plan t v) port))
        (sym (moved.blocks_are v port (omega (arith, in_is plan.stage_of a v v_own)) less)
        ∙ sym (arrived_same plan.meaning plan.graph plan.input (before plan.stage_of (suc a)) runs'
        (begun_at plan a t) (begun_run plan is a t due)
        (plan.graph.source v port) (stages_closed plan is (suc a) v port inside)))
        ∙ ap (λ (n : ℕ). drop (total (plan.meaning.popped (plan.graph.code v)) n port)
        (arrived plan.input runs' (plan.graph.source v port)))
        (sym (begun_own plan is a t due v v_own
        ∙ old_count plan is a t due v inside))

    first_queued : IsQueued plan.meaning plan.graph plan.input all_first
    unfolding all_first front
    first_queued = record {
      faultless = exact.faultless;
      came = λ v port less. omega (
        arith,
        covered v port less,
        ap (λ (n : ℕ). total (plan.meaning.popped (plan.graph.code v)) n port) (exact.fired v),
        supply_is_length plan.meaning plan.graph plan.input is.solved.keeps begun' later' exact
            (plan.graph.source v port),
      );
      rest = λ v port less. by_test v port less (own v) refl
          ∙ ap (λ (n : ℕ). drop (total (plan.meaning.popped (plan.graph.code v)) n port)
          (arrived plan.input runs' (plan.graph.source v port))) (sym (exact.fired v));
    }
      where
        exact : IsExact plan.meaning plan.graph plan.input begun' later'
        exact = begun_exact plan is a t due

        covered : (v port : ℕ) → port < plan.meaning.ports (plan.graph.code v)
            → total (plan.meaning.popped (plan.graph.code v)) (begun' v) port
            ≤ supply plan.meaning plan.graph plan.input begun' (plan.graph.source v port)
        covered = begun_covered plan is a t due

        by_test : (v port : ℕ) → port < plan.meaning.ports (plan.graph.code v) → (test : Bool)
            → own v ≡ test
            → cond test (now.queues v port ++ blocks v port)
            (drop (total (plan.meaning.popped (plan.graph.code v)) (begun' v) port)
            (arrived plan.input runs' (plan.graph.source v port)) ++ [])
            ≡ drop (total (plan.meaning.popped (plan.graph.code v)) (begun' v) port)
            (arrived plan.input runs' (plan.graph.source v port))
        by_test v port less true e = queue_own v port e less
        by_test v port less false e = append-nil _

    -- Each front of the segment.
    pub comes_to : (xs rest : List ℕ) → plan.segment a ≡ xs ++ rest
        → Comes xs (fifo_go plan.meaning plan.graph xs (entered plan a now blocks))
    unfolding all_first
    comes_to xs rest e =
        comes_by xs (go plan.meaning plan.graph plan.input xs runs')
        (fifo_go plan.meaning plan.graph xs all_first)
        (fifo_go plan.meaning plan.graph xs here_first)
        (run_tells plan.meaning plan.graph plan.input is.solved.keeps later'
        (counts alone' (suc t))
        ((alone_solved plan is a t due).solves (suc t) due.is_round) xs begun'
        (begun_exact plan is a t due)
        (order_front plan.meaning plan.graph plan.input xs rest begun'
        (subst (IsOrder plan.meaning plan.graph plan.input begun') e
        (valid_segment plan is a t due)))
        (front_less plan is a t due xs rest e))
        (machines_alike plan.meaning plan.graph plan.input is.solved.takes_within xs all_first
        first_queued)
        (go_framed plan.meaning plan.graph.size plan.graph.code plan.graph.source plan.graph.source
        plan.graph.size own carries (λ v. (after plan t v).words) runs' front
        (λ v port carried. refl)
        (λ v port v_own less e. absurd (let f : true ≡ false =
        sym (lt-ltb port (plan.meaning.ports (plan.graph.code v)) less) ∙ e in grind arith))
        xs (all_front own xs rest (subst (AllIn own) e (is.staged.own a due.is_stage)))
        all_first here_first first_framed)
