-- A closed part of a schedule's nodes, run alone: it reaches each round up to which its nodes have
-- no fault, whatever other nodes do.
use Rattle.std.proofs.Common.{◌≡◌, refl, sym, ap, ◌∙◌, subst, ℕ, zero, suc, ◌≤◌}
use Rattle.std.proofs.Common.{Bool, true, false, arith, Some, None}
use mathlib.Core.Path.{fun_ext}
use mathlib.Core.Logic.{inl, inr}
use Rattle.strc_elab_dataflow.specs.Histories.{Run, initial_run}
use Rattle.strc_elab_dataflow.specs.Flat.{runs_at, Solves}
use Rattle.strc_elab_dataflow.specs.Order.{counted, IsOrder}
use Rattle.strc_elab_dataflow.specs.Answer.{IsFaultless}
use Rattle.strc_elab_dataflow.proofs.WholeRun.{HasFault, after_startup, after_round}
use Rattle.strc_elab_dataflow.specs.Cut.{cut, kept, IsClosed, HasFaultIn, IsFaultlessIn}
use Rattle.strc_elab_dataflow.specs.Staging.{Staging, counts, after, IsSolved}
use Rattle.strc_elab_dataflow.proofs.Cut.{cut_zero, kept_count, cut_counts, kept_order, cut_inputs}
use Rattle.strc_elab_dataflow.proofs.Cut.{cut_solves, part_runs, runs_out}
use Rattle.strc_elab_dataflow.proofs.Reaches.{At, reaches}
use Rattle.strc_elab_dataflow.proofs.Orders.{IsCovered, covered_first, covered_on}

module _ {Code State Cause Word : Type 0} (plan : Staging Code State Cause Word)
    (solved : IsSolved plan) where
  -- The counts after start-up and after a round.
  pub startup_done : counted (λ node. 0) plan.startup_order ≡ counts plan 0
  startup_done = after_startup plan.meaning plan.graph plan.input solved.keeps plan.startup
      plan.round plan.startup_order plan.round_order plan.rounds solved.schedule plan.inputs
      solved.solves

  pub round_done : (t : ℕ) → counted (counts plan t) plan.round_order ≡ counts plan (suc t)
  round_done t = after_round plan.meaning plan.graph plan.input solved.keeps plan.startup
      plan.round plan.startup_order plan.round_order plan.rounds solved.schedule plan.inputs
      solved.solves t

  -- No node has taken more than came, at the counts of whole rounds.
  pub covered_at : (t : ℕ) → t ≤ plan.rounds
      → IsCovered plan.meaning plan.graph plan.input (counts plan t)
  covered_at zero less = subst (IsCovered plan.meaning plan.graph plan.input) startup_done
      (covered_on plan.meaning plan.graph plan.input solved.takes_within plan.startup_order
      (λ node. 0) (covered_first plan.meaning plan.graph plan.input)
      solved.schedule.startup_finds)
  covered_at (suc t) less = subst (IsCovered plan.meaning plan.graph plan.input) (round_done t)
      (covered_on plan.meaning plan.graph plan.input solved.takes_within plan.round_order
      (counts plan t) (covered_at t (omega arith)) (solved.schedule.round_finds t less))

module _ {Code State Cause Word : Type 0} (plan : Staging Code State Cause Word)
    (part : ℕ → Bool) where
  -- The same graph, where only the part's nodes fire.
  abbrev pub part_plan : Staging Code State Cause Word
  part_plan = record {
    meaning = plan.meaning;
    graph = plan.graph;
    input = plan.input;
    startup = cut part plan.startup;
    round = cut part plan.round;
    startup_order = kept part plan.startup_order;
    round_order = kept part plan.round_order;
    rounds = plan.rounds;
    stage_of = plan.stage_of;
    segment = plan.segment;
    stages = plan.stages;
    inputs = λ t. cut_inputs plan.meaning plan.graph plan.input part (counts plan t)
        (plan.inputs t);
  }

  pub part_counts : (t : ℕ) → counts part_plan t ≡ cut part (counts plan t)
  part_counts t = cut_counts part plan.startup plan.round t

  part_after : (t : ℕ) → after part_plan t
      ≡ runs_at plan.meaning plan.graph (cut part (counts plan t)) (part_plan.inputs t)
  part_after t = ap (λ (c : ℕ → ℕ). runs_at plan.meaning plan.graph c (part_plan.inputs t))
      (part_counts t)

  -- Nodes outside the part don't fire.
  pub part_out : (t v : ℕ) → part v ≡ false
      → after part_plan t v ≡ initial_run plan.meaning (plan.graph.code v)
  part_out t v outside = ap (λ (f : ℕ → Run State Cause Word). f v) (part_after t)
      ∙ runs_out plan.meaning plan.graph plan.input part (counts plan t) (part_plan.inputs t) v
      outside

  module _ (solved : IsSolved plan) (closed : IsClosed plan.graph part) where
    pub part_solved : IsSolved part_plan
    part_solved =
        record {
          keeps = solved.keeps;
          takes_within = solved.takes_within;
          schedule =
              record {
                startup_counts = λ v. kept_count part plan.startup_order v
                    ∙ ap (λ (f : ℕ → ℕ). cut part f v) (fun_ext solved.schedule.startup_counts);
                round_counts = λ v. kept_count part plan.round_order v
                    ∙ ap (λ (f : ℕ → ℕ). cut part f v) (fun_ext solved.schedule.round_counts);
                startup_finds = subst (λ (c : ℕ → ℕ). IsOrder plan.meaning plan.graph plan.input c
                    (kept part plan.startup_order)) (fun_ext (cut_zero part))
                    (kept_order plan.meaning plan.graph plan.input part closed plan.startup_order
                    (λ v. 0) solved.schedule.startup_finds);
                round_finds = λ t less. subst (λ (c : ℕ → ℕ). IsOrder plan.meaning plan.graph
                    plan.input c (kept part plan.round_order)) (sym (part_counts t))
                    (kept_order plan.meaning plan.graph plan.input part closed plan.round_order
                    (counts plan t) (solved.schedule.round_finds t less));
              };
          solves = λ t within. subst (λ (c : ℕ → ℕ). Solves plan.meaning plan.graph c plan.input
              (part_plan.inputs t)) (sym (part_counts t))
              (cut_solves plan.meaning plan.graph plan.input part closed (counts plan t)
              (plan.inputs t) (solved.solves t within));
        }

    -- The part's nodes have the same runs.
    pub part_same : (t : ℕ) → t ≤ plan.rounds → (v : ℕ) → part v ≡ true
        → after part_plan t v ≡ after plan t v
    part_same t within v inside = ap (λ (f : ℕ → Run State Cause Word). f v) (part_after t)
        ∙ part_runs plan.meaning plan.graph plan.input part closed (counts plan t) (plan.inputs t)
        (solved.solves t within) v inside

    pub fault_inside : (t : ℕ) → t ≤ plan.rounds → HasFault (after part_plan t)
        → HasFaultIn part (after plan t)
    unfolding initial_run
    fault_inside t within some = by_test (part some.node) refl
      where
        by_test : (here : Bool) → part some.node ≡ here → HasFaultIn part (after plan t)
        by_test true e = record {
          node = some.node;
          cause = some.cause;
          inside = e;
          is = ap (λ (r : Run State Cause Word). r.fault)
              (sym (part_same t within some.node e)) ∙ some.is;
        }
        by_test false e = absurd (let f : None ≡ Some some.cause =
            ap (λ (r : Run State Cause Word). r.fault) (sym (part_out t some.node e)) ∙ some.is in
            grind arith)

    pub fine_has_none : (t : ℕ) → IsFaultlessIn part (after plan t)
        → HasFaultIn part (after plan t) → ⊥
    fine_has_none t fine some = let e : None ≡ Some some.cause =
        sym (fine some.node some.inside) ∙ some.is in grind arith

    -- Where the part has no fault after t rounds, its run is there.
    pub part_at : (t : ℕ) → t ≤ plan.rounds → IsFaultlessIn part (after plan t)
        → (now : ℕ → Run State Cause Word) × At part_plan part_solved t now
    part_at t within fine = elim (reaches part_plan part_solved t within) [
      | inl there ↦ there
      | inr faults ↦ absurd (fine_has_none t fine
          (fault_inside t within (faults t (omega arith) within)))
    ]

    pub faultless_inside : (t : ℕ) → t ≤ plan.rounds → IsFaultless (after part_plan t)
        → IsFaultlessIn part (after plan t)
    faultless_inside t within fine v inside = ap (λ (r : Run State Cause Word). r.fault)
        (sym (part_same t within v inside)) ∙ fine v

    -- And it had none before.
    pub part_faultless_before : (t u : ℕ) → t ≤ u → u ≤ plan.rounds
        → IsFaultlessIn part (after plan u) → IsFaultlessIn part (after plan t)
    part_faultless_before t u less within fine = faultless_inside t (omega arith)
        ((part_at u within fine).1.faultless t less)

    -- A fault stays.
    pub part_fault_stays : (t u : ℕ) → t ≤ u → u ≤ plan.rounds
        → HasFaultIn part (after plan t) → HasFaultIn part (after plan u)
    part_fault_stays t u less within some = elim (reaches part_plan part_solved t (omega arith)) [
      | inl there ↦ absurd (fine_has_none t
          (faultless_inside t (omega arith) (there.1.faultless t (omega arith))) some)
      | inr faults ↦ fault_inside u within (faults u less within)
    ]
