-- After so many rounds the run is what the equations say, or every later solution has a fault.
use Rattle.std.proofs.Common.{◌≡◌, refl, sym, ap, ◌∙◌, subst, ℕ, zero, suc, ◌<◌, ◌≤◌}
use Rattle.std.proofs.Common.{List, [], ◌∷◌, ◌++◌, Option, Some, None, ℤ, arith}
use Rattle.std.proofs.Common.{append_assoc, append-nil}
use mathlib.Core.Logic.{inl, inr, ◌⊎◌}
use Rattle.strc_elab_dataflow.specs.Node.{Meaning}
use Rattle.strc_elab_dataflow.specs.Histories.{Run}
use Rattle.strc_elab_dataflow.specs.Flat.{Graph, runs_at}
use Rattle.strc_elab_dataflow.specs.Order.{counted}
use Rattle.strc_elab_dataflow.specs.Machine.{Progress, Progress.Went, Progress.Stopped, go}
use Rattle.strc_elab_dataflow.specs.Machine.{at_first}
use Rattle.strc_elab_dataflow.specs.Machine.{put, unless_faulted, fired_once}
use Rattle.strc_elab_dataflow.specs.Answer.{IsFaultless}
use Rattle.strc_elab_dataflow.proofs.Invariant.{IsExact, Tells}
use Rattle.strc_elab_dataflow.proofs.WholeRun.{IsAt, round_tells, next_at, startup_tells}
use Rattle.strc_elab_dataflow.proofs.WholeRun.{after_startup}
use Rattle.strc_elab_dataflow.proofs.WholeRun.{HasFault, first_has_fault}
use Rattle.strc_elab_dataflow.specs.Staging.{repeated, Staging, counts, after, IsSolved}

module _ {Code State Cause Word : Type 0} (meaning : Meaning Code State Cause Word)
    (graph : Graph Code) (input : List ℤ) where
  -- An order after what an earlier one came to.
  unfoldable pub then_go : List ℕ → Progress State Cause Word → Progress State Cause Word
  then_go order (Went now) = go meaning graph input order now
  then_go order (Stopped stop) = Stopped stop

  unless_then : (order : List ℕ) (node : ℕ) (run : Run State Cause Word) (fault : Option Cause)
      (progress : Progress State Cause Word)
      → unless_faulted node run fault (then_go order progress)
      ≡ then_go order (unless_faulted node run fault progress)
  unfolding unless_faulted then_go
  unless_then order node run None progress = refl
  unless_then order node run (Some cause) progress = refl

  pub go_append : (xs ys : List ℕ) (now : ℕ → Run State Cause Word)
      → go meaning graph input (xs ++ ys) now ≡ then_go ys (go meaning graph input xs now)
  unfolding go then_go
  go_append [] ys now = refl
  go_append (node ∷ xs) ys now =
      ap (unless_faulted node (fired_once meaning graph input now node)
      (fired_once meaning graph input now node).fault)
      (go_append xs ys (put now node (fired_once meaning graph input now node)))
      ∙ unless_then ys node (fired_once meaning graph input now node)
      (fired_once meaning graph input now node).fault
      (go meaning graph input xs (put now node (fired_once meaning graph input now node)))

module _ {Code State Cause Word : Type 0} (plan : Staging Code State Cause Word)
    (is : IsSolved plan) where
  abbrev pub At : ℕ → (ℕ → Run State Cause Word) → Type 0
  At t now = IsAt plan.meaning plan.graph plan.input is.keeps plan.startup plan.round
      plan.startup_order plan.round_order plan.rounds is.schedule plan.inputs is.solves t now

  abbrev pub Says : (j : ℕ) → j ≤ plan.rounds → (ℕ → ℕ) → List ℕ
      → Progress State Cause Word → Type 0
  Says j within = Tells plan.meaning plan.graph plan.input is.keeps (plan.inputs j)
      (counts plan j) (is.solves j within)

  abbrev pub Reached : ℕ → Type 0
  Reached t = ((now : ℕ → Run State Cause Word) × At t now)
      ⊎ ((j : ℕ) → t ≤ j → j ≤ plan.rounds → HasFault (after plan j))

  first_at : (now : ℕ → Run State Cause Word)
      → ((j : ℕ) → (within : j ≤ plan.rounds)
      → Says j within (λ node. 0) plan.startup_order (Went now)) → At 0 now
  first_at now tells =
      record {
        agrees = λ j below within. subst (λ (c : ℕ → ℕ). now
            ≡ runs_at plan.meaning plan.graph c (plan.inputs j)) start (tells j within).0;
        exact = exact_now;
        faultless = λ j below. let e : 0 ≡ j = omega arith in
            subst (λ (n : ℕ). IsFaultless (after plan n)) e
            (exact_now 0 (omega arith) (omega arith)).faultless;
      }
    where
      start : counted (λ node. 0) plan.startup_order ≡ counts plan 0
      start = after_startup plan.meaning plan.graph plan.input is.keeps plan.startup plan.round
          plan.startup_order plan.round_order plan.rounds is.schedule plan.inputs is.solves

      exact_now : (j : ℕ) → 0 ≤ j → j ≤ plan.rounds
          → IsExact plan.meaning plan.graph plan.input (counts plan 0) (plan.inputs j)
      exact_now j below within = subst
          (λ (c : ℕ → ℕ). IsExact plan.meaning plan.graph plan.input c (plan.inputs j))
          start (tells j within).1

  -- What start-up and t rounds come to.
  abbrev pub Reach : ℕ → Progress State Cause Word → Type 0
  Reach t (Went now) = At t now
  Reach t (Stopped stop) = (j : ℕ) → t ≤ j → j ≤ plan.rounds → HasFault (after plan j)

  startup_reaches : (progress : Progress State Cause Word)
      → ((j : ℕ) → (within : j ≤ plan.rounds)
      → Says j within (λ node. 0) plan.startup_order progress) → Reach 0 progress
  startup_reaches (Went now) tells = first_at now tells
  startup_reaches (Stopped stop) tells = λ j below within. first_has_fault (after plan j)
      plan.startup_order (λ node. 0) stop (tells j within)

  round_reaches : (t : ℕ) (now : ℕ → Run State Cause Word) → t < plan.rounds → At t now
      → (progress : Progress State Cause Word)
      → ((j : ℕ) → (below : t < j) → (within : j ≤ plan.rounds)
      → Says j within (counts plan t) plan.round_order progress) → Reach (suc t) progress
  round_reaches t now more at (Went next) tells = next_at plan.meaning plan.graph plan.input
      is.keeps plan.startup plan.round plan.startup_order plan.round_order plan.rounds is.schedule
      plan.inputs is.solves t now next more at tells
  round_reaches t now more at (Stopped stop) tells = λ j below within. first_has_fault
      (after plan j) plan.round_order (counts plan t) stop (tells j below within)

  then_reaches : (t : ℕ) → t < plan.rounds → (progress : Progress State Cause Word)
      → Reach t progress
      → Reach (suc t) (then_go plan.meaning plan.graph plan.input plan.round_order progress)
  unfolding then_go
  then_reaches t more (Went now) at = round_reaches t now more at
      (go plan.meaning plan.graph plan.input plan.round_order now)
      (round_tells plan.meaning plan.graph plan.input is.keeps plan.startup plan.round
      plan.startup_order plan.round_order plan.rounds is.schedule plan.inputs is.solves t now more
      at)
  then_reaches t more (Stopped stop) faults = λ j below within. faults j (omega arith) within

  -- The run of start-up and t rounds.
  abbrev pub run_of : ℕ → Progress State Cause Word
  run_of t = go plan.meaning plan.graph plan.input
      (plan.startup_order ++ repeated t plan.round_order) (at_first plan.meaning plan.graph)

  pub run_reaches : (t : ℕ) → t ≤ plan.rounds → Reach t (run_of t)
  unfolding repeated
  run_reaches zero less = subst (λ (l : List ℕ). Reach 0 (go plan.meaning plan.graph plan.input l
      (at_first plan.meaning plan.graph))) (sym (append-nil plan.startup_order))
      (startup_reaches (go plan.meaning plan.graph plan.input plan.startup_order
      (at_first plan.meaning plan.graph)) (startup_tells plan.meaning plan.graph plan.input is.keeps
      plan.startup plan.round plan.startup_order plan.round_order plan.rounds is.schedule
      plan.inputs is.solves))
  run_reaches (suc t) less =
      subst (Reach (suc t)) (sym (ap (λ (l : List ℕ). go plan.meaning plan.graph plan.input l
      (at_first plan.meaning plan.graph)) (sym (append_assoc plan.startup_order
      (repeated t plan.round_order) plan.round_order))
      ∙ go_append plan.meaning plan.graph plan.input
      (plan.startup_order ++ repeated t plan.round_order) plan.round_order
      (at_first plan.meaning plan.graph)))
      (then_reaches t less (run_of t) (run_reaches t (omega arith)))

  reached_by : (t : ℕ) (progress : Progress State Cause Word) → Reach t progress → Reached t
  reached_by t (Went now) at = inl (now, at)
  reached_by t (Stopped stop) faults = inr faults

  -- After t rounds: the run is there; or each later solution has a fault.
  pub reaches : (t : ℕ) → t ≤ plan.rounds → Reached t
  reaches t less = reached_by t (run_of t) (run_reaches t less)
