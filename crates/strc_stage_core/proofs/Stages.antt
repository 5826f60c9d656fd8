-- An actor from its start on: how many it took, and when it finished.
use Rattle.std.proofs.Common.{◌≡◌, sym, ap, ◌∙◌, subst, ℕ, suc, ◌+◌, ◌<◌, ◌≤◌, Bool, true, false}
use Rattle.std.proofs.Common.{◌||◌, eqb, List, [], ◌∷◌, length, is_some, arith, true≢false, eq-eqb}
use Rattle.std.proofs.Common.{eq-or-lt_of_le}
use mathlib.Core.Logic.{inl, inr}
use Rattle.strc_stage_core.specs.Actors.{Plain, Stage, Collector, Work, Step, Collects}
use Rattle.strc_stage_core.specs.States.{Runs}
use Rattle.strc_stage_core.proofs.Steps.{stepped, gathers}

-- Is the last of these marked, or, where there is none, was it ended before?
abbrev pub ended : {Load Stop : Type 0} → Bool → List (Plain Load Stop) → Bool
ended done [] = done
ended done (parcel ∷ parcels) = ended parcel.last parcels

module _ {State Load Stop Total : Type 0} (work : Work State Load Stop Total) where
  pub runs_taken : (a : Stage State Stop) (taken made : List (Plain Load Stop))
      (b : Stage State Stop) → Runs (Step work) a taken made b → b.taken ≡ a.taken + length taken
  runs_taken a [] [] b runs = rw (← runs) (omega arith)
  runs_taken a (p ∷ taken) (q ∷ made) b (m, step, runs) =
      omega (arith, runs_taken m taken made b runs, (stepped work a p m q step).taken)
  runs_taken a _ _ b runs = absurd runs

  pub runs_rounds : (a : Stage State Stop) (taken made : List (Plain Load Stop))
      (b : Stage State Stop) → Runs (Step work) a taken made b → b.rounds ≡ a.rounds
  runs_rounds a [] [] b runs = ap (λ s. s.rounds) (sym runs)
  runs_rounds a (p ∷ taken) (q ∷ made) b (m, step, runs) =
      runs_rounds m taken made b runs ∙ (stepped work a p m q step).rounds
  runs_rounds a _ _ b runs = absurd runs

  pub runs_finished : (a : Stage State Stop) (taken made : List (Plain Load Stop))
      (b : Stage State Stop) → Runs (Step work) a taken made b
      → b.finished ≡ ended a.finished made
  runs_finished a [] [] b runs = ap (λ s. s.finished) (sym runs)
  runs_finished a (p ∷ taken) (q ∷ made) b (m, step, runs) =
      runs_finished m taken made b runs
      ∙ ap (λ f. ended f made) (stepped work a p m q step).finished
  runs_finished a _ _ b runs = absurd runs

  -- A stage past the first keeps the mark.
  pub runs_later : (a : Stage State Stop) (taken made : List (Plain Load Stop))
      (b : Stage State Stop) → a.first ≡ false → Runs (Step work) a taken made b
      → b.finished ≡ ended a.finished taken
  runs_later a [] [] b later runs = ap (λ s. s.finished) (sym runs)
  runs_later a (p ∷ taken) (q ∷ made) b later (m, step, runs) =
      let one = stepped work a p m q step in
      runs_later m taken made b (one.first ∙ later) runs
      ∙ ap (λ f. ended f taken) (one.finished ∙ one.mark later)
  runs_later a _ _ b later runs = absurd runs

  -- Has the first stage rounds left while it has not finished?
  pub record IsInTime (stage : Stage State Stop) : Type 0 where
    pub within : stage.taken ≤ stage.rounds
    pub left : stage.finished ≡ false → stage.taken < stage.rounds

  below : (n m : ℕ) (other : Bool) → n ≤ m → (eqb n m || other) ≡ false → n < m
  below n m other le e = elim (eq-or-lt_of_le le) [
    | inl same ↦ absurd (true≢false (sym (ap (λ t. t || other) (eq-eqb n m same)) ∙ e))
    | inr less ↦ less
  ]

  pub runs_in_time : (a : Stage State Stop) (taken made : List (Plain Load Stop))
      (b : Stage State Stop) → a.first ≡ true → IsInTime a → Runs (Step work) a taken made b
      → IsInTime b
  runs_in_time a [] [] b first time runs = subst IsInTime runs time
  runs_in_time a (p ∷ taken) (q ∷ made) b first time (m, step, runs) =
      let one = stepped work a p m q step in
      runs_in_time m taken made b (one.first ∙ first) (record {
        within = omega (arith, one.taken, one.rounds, time.left one.goes);
        left = λ going. rw (one.taken, one.rounds)
            (below (suc a.taken) a.rounds (is_some p.stop) (time.left one.goes)
            (sym (one.marks first) ∙ sym one.finished ∙ going));
      }) runs
  runs_in_time a _ _ b first time runs = absurd runs

  pub gathers_taken : (a : Collector Total Stop) (taken made : List (Plain Load Stop))
      (b : Collector Total Stop) → Runs (Collects work) a taken made b
      → b.taken ≡ a.taken + length taken
  gathers_taken a [] [] b runs = rw (← runs) (omega arith)
  gathers_taken a (p ∷ taken) (q ∷ made) b (m, step, runs) =
      omega (arith, gathers_taken m taken made b runs, (gathers work a p m q step).taken)
  gathers_taken a _ _ b runs = absurd runs

  pub gathers_rounds : (a : Collector Total Stop) (taken made : List (Plain Load Stop))
      (b : Collector Total Stop) → Runs (Collects work) a taken made b → b.rounds ≡ a.rounds
  gathers_rounds a [] [] b runs = ap (λ s. s.rounds) (sym runs)
  gathers_rounds a (p ∷ taken) (q ∷ made) b (m, step, runs) =
      gathers_rounds m taken made b runs ∙ (gathers work a p m q step).rounds
  gathers_rounds a _ _ b runs = absurd runs

  pub gathers_finished : (a : Collector Total Stop) (taken made : List (Plain Load Stop))
      (b : Collector Total Stop) → Runs (Collects work) a taken made b
      → b.finished ≡ ended a.finished taken
  gathers_finished a [] [] b runs = ap (λ s. s.finished) (sym runs)
  gathers_finished a (p ∷ taken) (q ∷ made) b (m, step, runs) =
      gathers_finished m taken made b runs
      ∙ ap (λ f. ended f taken) (gathers work a p m q step).finished
  gathers_finished a _ _ b runs = absurd runs
