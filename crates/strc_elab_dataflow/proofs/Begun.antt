-- Where a stage's segment begins: the stages up to it run alone, and earlier ones have done their
-- segments. Whatever later stages do, those nodes have the runs of the equations.
use Rattle.std.proofs.Common.{◌≡◌, refl, sym, ap, ◌∙◌, subst, ℕ, suc, ◌+◌, ◌<◌, ◌≤◌}
use Rattle.std.proofs.Common.{Bool, true, false, cond, List, [], ◌++◌, length, arith}
use Rattle.std.proofs.Common.{Option, Some, None}
use mathlib.Core.Logic.{inl, inr}
use Rattle.strc_elab_dataflow.specs.Node.{ByPort, total}
use Rattle.strc_elab_dataflow.specs.Histories.{Run, runs}
use Rattle.strc_elab_dataflow.specs.Flat.{runs_at, arrived}
use Rattle.strc_elab_dataflow.specs.Order.{counted, counts_after, IsOrder}
use Rattle.strc_elab_dataflow.specs.Machine.{Stop, Progress, Progress.Went, Progress.Stopped, go}
use Rattle.strc_elab_dataflow.specs.Machine.{first_fault, or_else}
use Rattle.strc_elab_dataflow.proofs.Invariant.{IsExact, Tells, run_tells, counted_grows}
use Rattle.strc_elab_dataflow.proofs.Invariant.{supply_is_length}
use Rattle.strc_elab_dataflow.proofs.WholeRun.{counted-firing_count}
use Rattle.strc_elab_dataflow.specs.Cut.{cut, IsClosed, AllIn}
use Rattle.strc_elab_dataflow.specs.Staging.{Staging, joined, before, in_stage, counts, after}
use Rattle.strc_elab_dataflow.specs.Staging.{IsSolved}
use Rattle.strc_elab_dataflow.specs.Staging.{IsStaging}
use Rattle.strc_elab_dataflow.specs.Parcels.{begun_at, IsDue}
use Rattle.strc_elab_dataflow.proofs.Cut.{cut_in, cut_out, arrived_same}
use Rattle.strc_elab_dataflow.proofs.Orders.{counted_append, counted_same, first_fault_append}
use Rattle.strc_elab_dataflow.proofs.Orders.{first_fault_same, none_first, order_front, order_rest}
use Rattle.strc_elab_dataflow.proofs.Orders.{IsCovered, covered_on}
use Rattle.strc_elab_dataflow.proofs.Reaches.{At}
use Rattle.strc_elab_dataflow.proofs.Parts.{round_done, covered_at, part_plan, part_counts}
use Rattle.strc_elab_dataflow.proofs.Parts.{part_solved, part_same, part_at}
use Rattle.strc_elab_dataflow.proofs.Segments.{before_next, in_next, in_not_before, which}
use Rattle.strc_elab_dataflow.proofs.Segments.{closed_before}
use Rattle.strc_elab_dataflow.proofs.Segments.{joined_in, kept_round, joined_count, before_not}
use Rattle.strc_elab_dataflow.proofs.Segments.{not_before}

module _ {Code State Cause Word : Type 0} (plan : Staging Code State Cause Word) where
  pub begun_early : (b t v : ℕ) → before plan.stage_of b v ≡ true
      → begun_at plan b t v ≡ after plan (suc t) v
  unfolding begun_at
  begun_early b t v e = ap (λ (test : Bool). cond test (after plan (suc t) v) (after plan t v)) e

  pub begun_late : (b t v : ℕ) → before plan.stage_of b v ≡ false
      → begun_at plan b t v ≡ after plan t v
  unfolding begun_at
  begun_late b t v e = ap (λ (test : Bool). cond test (after plan (suc t) v) (after plan t v)) e

  module _ (is : IsStaging plan) where
    pub stages_closed : (b : ℕ) → IsClosed plan.graph (before plan.stage_of b)
    stages_closed = closed_before plan.graph plan.stage_of plan.segment plan.stages
        plan.round_order is.staged

    pub joined_before : (b : ℕ) → b ≤ plan.stages
        → AllIn (before plan.stage_of b) (joined plan.segment b)
    joined_before = joined_in plan.graph plan.stage_of plan.segment plan.stages plan.round_order
        is.staged

    module _ (a t : ℕ) (due : IsDue plan a t) where
      -- The stages up to this one, alone.
      abbrev pub up_to : ℕ → Bool
      up_to = before plan.stage_of (suc a)

      abbrev pub alone : Staging Code State Cause Word
      alone = part_plan plan up_to

      pub alone_solved : IsSolved alone
      alone_solved = part_solved plan up_to is.solved (stages_closed (suc a))

      -- What comes in by the end of the round.
      abbrev pub later : ℕ → ByPort
      later = alone.inputs (suc t)

      -- The counts where the segment begins.
      abbrev pub begun : ℕ → ℕ
      begun = counted (counts alone t) (joined plan.segment a)

      abbrev pub begun_runs : ℕ → Run State Cause Word
      begun_runs = runs_at plan.meaning plan.graph begun later

      abbrev pub Says : (ℕ → ℕ) → List ℕ → Progress State Cause Word → Type 0
      Says = Tells plan.meaning plan.graph plan.input is.solved.keeps later (counts alone (suc t))
          (alone_solved.solves (suc t) due.is_round)

      order_is : alone.round_order ≡ joined plan.segment (suc a)
      order_is = kept_round plan.graph plan.stage_of plan.segment plan.stages plan.round_order
          is.staged (suc a) due.is_stage

      valid : IsOrder plan.meaning plan.graph plan.input (counts alone t)
          (joined plan.segment a ++ plan.segment a)
      unfolding joined
      valid = subst (IsOrder plan.meaning plan.graph plan.input (counts alone t)) order_is
          (alone_solved.schedule.round_finds t due.is_round)

      pub valid_segment : IsOrder plan.meaning plan.graph plan.input begun (plan.segment a)
      valid_segment = order_rest plan.meaning plan.graph plan.input (joined plan.segment a)
          (plan.segment a) (counts alone t) valid

      pub segment_done : counted begun (plan.segment a) ≡ counts alone (suc t)
      unfolding joined
      segment_done = sym (counted_append (joined plan.segment a) (plan.segment a) (counts alone t))
          ∙ subst (λ (l : List ℕ). counted (counts alone t) l ≡ counts alone (suc t)) order_is
          (round_done alone alone_solved t)

      pub front_less : (xs rest : List ℕ) → plan.segment a ≡ xs ++ rest → (v : ℕ)
          → counted begun xs v ≤ counts alone (suc t) v
      front_less xs rest e v = omega (
        arith,
        counted_grows rest (counted begun xs) v,
        ap (λ (f : ℕ → ℕ). f v) (sym (counted_append xs rest begun)
            ∙ ap (counted begun) (sym e) ∙ segment_done),
      )

      at : (now : ℕ → Run State Cause Word) × At alone alone_solved t now
      unfolding alone_solved
      at = part_at plan up_to is.solved (stages_closed (suc a)) t (omega arith) due.fine_so_far

      old_exact : IsExact plan.meaning plan.graph plan.input (counts alone t) later
      old_exact = at.1.exact (suc t) (omega arith) due.is_round

      pub old_count : (v : ℕ) → up_to v ≡ true → counts alone t v ≡ counts plan t v
      old_count v inside = ap (λ (f : ℕ → ℕ). f v) (part_counts plan up_to t)
          ∙ cut_in up_to (counts plan t) v inside

      pub new_count : (v : ℕ) → up_to v ≡ true → counts alone (suc t) v ≡ counts plan (suc t) v
      new_count v inside = ap (λ (f : ℕ → ℕ). f v) (part_counts plan up_to (suc t))
          ∙ cut_in up_to (counts plan (suc t)) v inside

      old_run : (v : ℕ) → up_to v ≡ true
          → runs_at plan.meaning plan.graph (counts alone t) later v ≡ after plan t v
      old_run v inside =
          ap (λ (f : ℕ → Run State Cause Word). f v)
          (sym (at.1.agrees (suc t) (omega arith) due.is_round) ∙ at.1.agrees t (omega arith)
          (omega arith))
          ∙ part_same plan up_to is.solved (stages_closed (suc a)) t (omega arith) v inside

      pub new_run : (v : ℕ) → up_to v ≡ true → after alone (suc t) v ≡ after plan (suc t) v
      new_run v inside =
          part_same plan up_to is.solved (stages_closed (suc a)) (suc t) due.is_round v inside

      none_joined : first_fault (after alone (suc t)) (counts alone t) (joined plan.segment a)
          ≡ None
      none_joined = none_first (before plan.stage_of a) (after alone (suc t))
          (λ v inside. ap (λ (r : Run State Cause Word). r.fault)
          (new_run v (before_next plan.stage_of a v inside)) ∙ due.fine_now v inside)
          (joined plan.segment a) (joined_before a (omega arith)) (counts alone t)

      pub begun_exact : IsExact plan.meaning plan.graph plan.input begun later
      unfolding counted
      begun_exact = by_progress (go plan.meaning plan.graph plan.input (joined plan.segment a)
          (runs_at plan.meaning plan.graph (counts alone t) later))
          (run_tells plan.meaning plan.graph plan.input is.solved.keeps later (counts alone (suc t))
          (alone_solved.solves (suc t) due.is_round) (joined plan.segment a) (counts alone t)
          old_exact
          (order_front plan.meaning plan.graph plan.input (joined plan.segment a) (plan.segment a)
          (counts alone t) valid)
          (front_less [] (plan.segment a) refl))
        where
          by_progress : (progress : Progress State Cause Word)
              → Says (counts alone t) (joined plan.segment a) progress
              → IsExact plan.meaning plan.graph plan.input begun later
          by_progress (Went now) tells = tells.1
          by_progress (Stopped stop) tells = absurd (let e : None ≡ Some stop =
              sym none_joined ∙ tells in grind arith)

      begun_count : (v : ℕ) → begun v ≡ counts alone t v + cut (before plan.stage_of a) plan.round v
      begun_count v = counted-firing_count (joined plan.segment a) (counts alone t) v
          ∙ ap (λ (n : ℕ). counts alone t v + n)
          (joined_count plan.graph plan.stage_of plan.segment plan.stages plan.round_order is.staged
          plan.round is.solved.schedule.round_counts a (omega arith) v)

      begun_before : (v : ℕ) → before plan.stage_of a v ≡ true → begun v ≡ counts alone (suc t) v
      unfolding counts_after
      begun_before v early = omega (
        arith,
        begun_count v,
        cut_in (before plan.stage_of a) plan.round v early,
        cut_in up_to plan.round v (before_next plan.stage_of a v early),
      )

      pub begun_own : (v : ℕ) → in_stage plan.stage_of a v ≡ true → begun v ≡ counts alone t v
      begun_own v own = omega (
        arith,
        begun_count v,
        cut_out (before plan.stage_of a) plan.round v (in_not_before plan.stage_of a v own),
      )

      pub begun_out : (v : ℕ) → up_to v ≡ false → begun v ≡ 0
      begun_out v outside = omega (
        arith,
        begun_count v,
        cut_out (before plan.stage_of a) plan.round v (not_before plan.stage_of a v
            (omega (arith, before_not plan.stage_of (suc a) v outside))),
        ap (λ (f : ℕ → ℕ). f v) (part_counts plan up_to t),
        cut_out up_to (counts plan t) v outside,
      )

      -- There, the nodes up to this stage have the runs that the equations give.
      pub begun_run : (v : ℕ) → up_to v ≡ true → begun_runs v ≡ begun_at plan a t v
      unfolding runs_at
      begun_run v inside = elim (which plan.stage_of a v inside) [
        | inl early ↦ ap (λ (n : ℕ). runs plan.meaning (plan.graph.code v) n (later v))
            (begun_before v early) ∙ new_run v inside ∙ sym (begun_early a t v early)
        | inr own ↦ ap (λ (n : ℕ). runs plan.meaning (plan.graph.code v) n (later v))
            (begun_own v own) ∙ old_run v inside
            ∙ sym (begun_late a t v (in_not_before plan.stage_of a v own))
      ]

      -- Nothing was taken that hadn't come.
      pub came_at : (v port : ℕ) → up_to v ≡ true → port < plan.meaning.ports (plan.graph.code v)
          → total (plan.meaning.popped (plan.graph.code v)) (counts plan t v) port
          ≤ length (arrived plan.input (after plan t) (plan.graph.source v port))
      came_at v port inside less = omega (
        arith,
        covered_at alone alone_solved t (omega arith) v port less,
        ap (λ (n : ℕ). total (plan.meaning.popped (plan.graph.code v)) n port) (old_count v inside),
        supply_is_length plan.meaning plan.graph plan.input is.solved.keeps (counts alone t) later
            old_exact (plan.graph.source v port),
        ap length (arrived_same plan.meaning plan.graph plan.input up_to
            (runs_at plan.meaning plan.graph (counts alone t) later) (after plan t) old_run
            (plan.graph.source v port) (stages_closed (suc a) v port inside)),
      )

      pub begun_covered : IsCovered plan.meaning plan.graph plan.input begun
      begun_covered = covered_on plan.meaning plan.graph plan.input is.solved.takes_within
          (joined plan.segment a) (counts alone t) (covered_at alone alone_solved t (omega arith))
          (order_front plan.meaning plan.graph plan.input (joined plan.segment a) (plan.segment a)
          (counts alone t) valid)

      -- A fault that is first in the segment is first in the round up to this stage.
      pub first_is : (stop : Stop Cause)
          → first_fault (after alone (suc t)) begun (plan.segment a) ≡ Some stop
          → first_fault (after plan (suc t)) (counts plan t) (joined plan.segment (suc a))
          ≡ Some stop
      unfolding joined or_else
      first_is stop first =
          first_fault_append (after plan (suc t)) (joined plan.segment a) (plan.segment a)
          (counts plan t)
          ∙ ap (λ (o : Option (Stop Cause)). or_else o (first_fault (after plan (suc t))
          (counted (counts plan t) (joined plan.segment a)) (plan.segment a)))
          (none_first (before plan.stage_of a) (after plan (suc t)) due.fine_now
          (joined plan.segment a)
          (joined_before a (omega arith)) (counts plan t))
          ∙ first_fault_same (in_stage plan.stage_of a) (after plan (suc t)) (after alone (suc t))
          (λ v own. sym (new_run v (in_next plan.stage_of a v own))) (plan.segment a)
          (is.staged.own a due.is_stage) (counted (counts plan t) (joined plan.segment a)) begun
          (λ v own. counted_same (joined plan.segment a) (counts plan t) (counts alone t) v
          (sym (old_count v (in_next plan.stage_of a v own))))
          ∙ first
