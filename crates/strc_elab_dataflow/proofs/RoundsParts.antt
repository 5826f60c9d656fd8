-- The parts of a graph after fission, and what a firing of one leaves as it was.
use Rattle.std.proofs.Common.{◌≡◌, refl, sym, ap, ◌∙◌, ℕ, suc, ◌<◌, ◌≤◌}
use Rattle.std.proofs.Common.{Bool, true, false, cond, eqb, ℤ, List, [], ◌++◌, arith, append-nil}
use Rattle.std.proofs.Common.{eqb-true}
use Rattle.std.proofs.lemmas.Bool.{ne_eqb, eq-eqb, eqb-false}
use Rattle.strc_elab_dataflow.specs.Node.{ByPort, Meaning}
use Rattle.strc_elab_dataflow.specs.Histories.{Run}
use Rattle.strc_elab_dataflow.specs.Flat.{Origin, Origin.Nowhere, Origin.Input, Origin.Port, Graph}
use Rattle.strc_elab_dataflow.specs.Queues.{Fifo, added}
use Rattle.strc_elab_dataflow.specs.Split.{Parts, outlet, renamed}
use Rattle.strc_elab_dataflow.specs.Split.{IsSplitGraph, AreIdle}
use Rattle.strc_elab_dataflow.proofs.RoundsSteps.{added_other, next, run_other, queue_other}

module _ (parts : Parts) where
  pub outlet_split : (v : ℕ) → parts.is_split v ≡ true
      → outlet parts v ≡ suc (parts.share v).ways
  outlet_split v e = ap (λ (t : Bool). cond t (suc (parts.share v).ways) 0) e

  pub outlet_kept : (v : ℕ) → parts.is_split v ≡ false → outlet parts v ≡ 0
  outlet_kept v e = ap (λ (t : Bool). cond t (suc (parts.share v).ways) 0) e

  pub not_same : (u v : ℕ) → parts.is_split u ≡ false → parts.is_split v ≡ true
      → eqb u v ≡ false
  not_same u v kept split = ne_eqb u v (λ e. absurd (both (sym kept ∙ ap parts.is_split e ∙ split)))
    where
      both : false ≡ true → ⊥
      both e = grind arith

  module _ {Code State Cause Word : Type 0} (meaning : Meaning Code State Cause Word)
      (graph new : Graph Code) (is : IsSplitGraph parts meaning graph new) where
    -- Different parts have different names.
    pub names_apart : (a k b l : ℕ) → k ≤ outlet parts a → l ≤ outlet parts b
        → (a ≡ b → k ≡ l → ⊥) → eqb (parts.name a k) (parts.name b l) ≡ false
    names_apart a k b l k_less l_less differ = ne_eqb (parts.name a k) (parts.name b l)
        (λ e. let same = is.apart a k b l k_less l_less e in differ same.0 same.1)

    pub nodes_apart : (a k b l : ℕ) → k ≤ outlet parts a → l ≤ outlet parts b → eqb a b ≡ false
        → eqb (parts.name a k) (parts.name b l) ≡ false
    nodes_apart a k b l k_less l_less apart =
        names_apart a k b l k_less l_less (λ e f. eqb-false a b apart e)

    -- A part that isn't the last gives nothing to the old channels.
    pub quiet : (v k : ℕ) → k < outlet parts v → (pushes : ByPort) (origin : Origin)
        → added (parts.name v k) pushes (renamed parts origin) ≡ []
    unfolding added renamed
    quiet v k inner pushes Nowhere = refl
    quiet v k inner pushes Input = refl
    quiet v k inner pushes (Port x q) =
        added_other (parts.name v k) (parts.name x (outlet parts x)) q pushes
        (names_apart x (outlet parts x) v k (omega arith) (omega arith)
        (λ e f. absurd (omega (arith, ap (outlet parts) e, f, inner))))

    -- The last part gives there what the node gave.
    pub renamed_added : (v : ℕ) (pushes : ByPort) (origin : Origin)
        → added (parts.name v (outlet parts v)) pushes (renamed parts origin)
        ≡ added v pushes origin
    unfolding added renamed
    renamed_added v pushes Nowhere = refl
    renamed_added v pushes Input = refl
    renamed_added v pushes (Port x q) = ap (λ (t : Bool). cond t (pushes q) []) (tests
        (eqb x v) refl)
      where
        tests : (t : Bool) → eqb x v ≡ t
            → eqb (parts.name x (outlet parts x)) (parts.name v (outlet parts v)) ≡ eqb x v
        tests true e = eq-eqb _ _ (ap (λ (y : ℕ). parts.name y (outlet parts y))
            (eqb-true x v e)) ∙ sym e
        tests false e = nodes_apart x (outlet parts x) v (outlet parts v) (omega arith)
            (omega arith) e ∙ sym e

    -- A firing of a node that is no part of an idle one leaves it idle.
    pub idle_frame : (old now : Fifo State Cause Word) (r w : ℕ) → parts.is_split w ≡ true
        → (y : ℕ) → ((k : ℕ) → k ≤ outlet parts w → eqb (parts.name w k) y ≡ false)
        → (state : State) (pushes : ByPort) (words : List Word)
        → AreIdle parts meaning graph old now r w
        → AreIdle parts meaning graph old (next meaning new now y state pushes words) r w
    idle_frame old now r w split y away state pushes words idle = record {
      fired = idle.fired;
      state = idle.state;
      silent = idle.silent;
      scatter_silent = words_of 0 (omega arith) ∙ idle.scatter_silent;
      gather_silent = words_of (suc ways) (omega (arith, last)) ∙ idle.gather_silent;
      copy = λ i less. record {
        fired = ap (λ (r : Run State Cause Word). r.fired) (run_of (suc i) (omega
            (arith, last, less)))
            ∙ (idle.copy i less).fired;
        state = ap (λ (r : Run State Cause Word). r.state) (run_of (suc i) (omega
            (arith, last, less)))
            ∙ (idle.copy i less).state;
        silent = words_of (suc i) (omega (arith, last, less)) ∙ (idle.copy i less).silent;
        empty = queue_of (suc i) 0 0 i (omega (arith, last, less)) (omega arith)
            ((is.split w split).to_copy i less) ∙ (idle.copy i less).empty;
        passed_on = queue_of (suc ways) i (suc i) 0 (omega (arith, last)) (omega
            (arith, last, less))
            ((is.split w split).from_copy i less) ∙ (idle.copy i less).passed_on;
      };
    }
      where
        ways : ℕ
        ways = (parts.share w).ways

        last : outlet parts w ≡ suc ways
        last = outlet_split w split

        run_of : (k : ℕ) → k ≤ outlet parts w
            → (next meaning new now y state pushes words).runs (parts.name w k)
            ≡ now.runs (parts.name w k)
        run_of k less = run_other meaning new now y state pushes words (parts.name w k)
            (away k less)

        words_of : (k : ℕ) → k ≤ outlet parts w
            → ((next meaning new now y state pushes words).runs (parts.name w k)).words
            ≡ (now.runs (parts.name w k)).words
        words_of k less = ap (λ (r : Run State Cause Word). r.words) (run_of k less)

        queue_of : (k port l q : ℕ) → k ≤ outlet parts w → l ≤ outlet parts w
            → (new.source (parts.name w k) port).origin ≡ Port (parts.name w l) q
            → (next meaning new now y state pushes words).queues (parts.name w k) port
            ≡ now.queues (parts.name w k) port
        queue_of k port l q k_less l_less e =
            queue_other meaning new now y state pushes words (parts.name w k) port (away k k_less)
            ∙ ap (λ (o : Origin). now.queues (parts.name w k) port ++ added y pushes o) e
            ∙ ap (λ (more : List ℤ). now.queues (parts.name w k) port ++ more)
            (added_other y (parts.name w l) q pushes (away l l_less))
            ∙ append-nil (now.queues (parts.name w k) port)

    -- It depends on the old graph's run of its node alone.
    pub idle_same : (old other now : Fifo State Cause Word) (r w : ℕ)
        → other.runs w ≡ old.runs w → AreIdle parts meaning graph old now r w
        → AreIdle parts meaning graph other now r w
    idle_same old other now r w e idle = record {
      fired = ap (λ (r : Run State Cause Word). r.fired) e ∙ idle.fired;
      state = ap (λ (r : Run State Cause Word). r.state) e ∙ idle.state;
      silent = ap (λ (r : Run State Cause Word). r.words) e ∙ idle.silent;
      scatter_silent = idle.scatter_silent;
      gather_silent = idle.gather_silent;
      copy = idle.copy;
    }
