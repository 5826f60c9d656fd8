-- The run of start-up and k rounds gives the answer that any solutions of the equations give, and
-- there is one answer.
use Rattle.std.proofs.Common.{◌≡◌, refl, sym, ap, ◌∙◌, subst, ℕ, zero, suc, ◌+◌, ◌*◌, ◌<◌, ◌≤◌}
use Rattle.std.proofs.Common.{Bool, true, false, cond, eqb, List, [], ◌∷◌, Option, Some, None, ℤ}
use Rattle.std.proofs.Common.{arith, mul-le-mul_right}
use mathlib.Core.Path.{fun_ext}
use mathlib.Core.Logic.{inl, inr}
use Rattle.std.proofs.lemmas.Bool.{cases_order}
use Rattle.strc_elab_dataflow.specs.Node.{ByPort, Meaning}
use Rattle.strc_elab_dataflow.specs.Histories.{Run, initial_run, runs, KeepsRates}
use Rattle.strc_elab_dataflow.specs.Flat.{Graph, runs_at, Solves}
use Rattle.strc_elab_dataflow.specs.Order.{raised, counted, firing_count, counts_after, IsSchedule}
use Rattle.strc_elab_dataflow.specs.Machine.{Stop, Progress, Progress.Went, Progress.Stopped}
use Rattle.strc_elab_dataflow.specs.Machine.{at_first}
use Rattle.strc_elab_dataflow.specs.Machine.{go, stop_at, or_else, first_fault}
use Rattle.strc_elab_dataflow.specs.Answer.{Verdict.AllWords, Verdict.StoppedInRound, verdict}
use Rattle.strc_elab_dataflow.specs.Answer.{Outcome}
use Rattle.strc_elab_dataflow.specs.Answer.{Outcome.Done, Outcome.StartupFault, Outcome.RoundFault}
use Rattle.strc_elab_dataflow.specs.Answer.{words_of, IsFaultless, IsAnswerOf, round_outcome}
use Rattle.strc_elab_dataflow.specs.Answer.{rounds}
use Rattle.strc_elab_dataflow.specs.Answer.{startup_outcome, whole_run}
use Rattle.strc_elab_dataflow.proofs.Invariant.{IsExact, Tells, run_tells}

firing_count_by : (counts : ℕ → ℕ) (order : List ℕ) (v : ℕ) (test : Bool)
    → cond test (suc (counts v)) (counts v) + firing_count order v ≡ counts v
    + cond test (suc (firing_count order v)) (firing_count order v)
firing_count_by counts order v true = omega arith
firing_count_by counts order v false = refl

pub counted-firing_count : (order : List ℕ) (counts : ℕ → ℕ) (v : ℕ)
    → counted counts order v ≡ counts v + firing_count order v
unfolding counted firing_count raised
counted-firing_count [] counts v = omega arith
counted-firing_count (node ∷ order) counts v = counted-firing_count order (raised counts node) v
    ∙ firing_count_by counts order v (eqb v node)

module _ {State Cause Word : Type 0} where
  -- Some node has a fault.
  pub record HasFault (all : ℕ → Run State Cause Word) : Type 0 where
    pub node : ℕ
    pub cause : Cause
    pub is : (all node).fault ≡ Some cause

  fault_by : (all : ℕ → Run State Cause Word) (node firing : ℕ) (fault : Option Cause)
      (others : Option (Stop Cause)) (stop : Stop Cause) → (all node).fault ≡ fault
      → (others ≡ Some stop → HasFault all)
      → or_else (stop_at node firing (all node).fired fault) others ≡ Some stop → HasFault all
  unfolding or_else stop_at
  fault_by all node firing None others stop e later h = later h
  fault_by all node firing (Some cause) others stop e later h =
      record { node = node; cause = cause; is = e }

  -- A first fault is a fault.
  pub first_has_fault : (all : ℕ → Run State Cause Word) (order : List ℕ) (counts : ℕ → ℕ)
      (stop : Stop Cause) → first_fault all counts order ≡ Some stop → HasFault all
  unfolding first_fault
  first_has_fault all [] counts stop h = absurd (grind arith)
  first_has_fault all (node ∷ order) counts stop h =
      fault_by all node (counts node) (all node).fault
      (first_fault all (raised counts node) order) stop refl
      (first_has_fault all order (raised counts node) stop) h

  faultless_has_none : (all : ℕ → Run State Cause Word) → IsFaultless all → HasFault all → ⊥
  faultless_has_none all none some = let e : None ≡ Some some.cause =
      sym (none some.node) ∙ some.is in grind arith

  module _ (after : ℕ → ℕ → Run State Cause Word) (startup round : ℕ → ℕ)
      (startup_order round_order : List ℕ) (k : ℕ) where
    -- What an answer says of the equations at all counts up to those after round k.
    abbrev pub IsSure : Outcome Cause Word → Type 0
    IsSure (Done words) = (j : ℕ) → j ≤ k → IsFaultless (after j)
    IsSure (StartupFault stop) = (j : ℕ) → j ≤ k → HasFault (after j)
    IsSure (RoundFault q stop words) = (j : ℕ) → q < j → j ≤ k → HasFault (after j)

    some_same : (o : Option (Stop Cause)) (x y : Stop Cause) → o ≡ Some x → o ≡ Some y → x ≡ y
    some_same o x y e f = cc

    -- Any answer is the one that is sure.
    pub answer_is_sure : (a b : Outcome Cause Word)
        → IsAnswerOf after startup round startup_order round_order k a
        → IsAnswerOf after startup round startup_order round_order k b → IsSure b → a ≡ b
    answer_is_sure (Done ws) (Done vs) a b sure = ap Done (a.1 ∙ sym b.1)
    answer_is_sure (Done ws) (StartupFault t) a b sure =
        absurd (faultless_has_none (after k) a.0 (sure k (omega arith)))
    answer_is_sure (Done ws) (RoundFault p t vs) a b sure =
        absurd (faultless_has_none (after k) a.0 (sure k b.0 (omega arith)))
    answer_is_sure (StartupFault s) (Done vs) a b sure =
        absurd (faultless_has_none (after 0) (sure 0 (omega arith))
        (first_has_fault (after 0) startup_order (λ node. 0) s a))
    answer_is_sure (StartupFault s) (StartupFault t) a b sure =
        ap StartupFault (some_same (first_fault (after 0) (λ node. 0) startup_order) s t a b)
    answer_is_sure (StartupFault s) (RoundFault p t vs) a b sure =
        absurd (faultless_has_none (after 0) (b.1 0 (omega arith))
        (first_has_fault (after 0) startup_order (λ node. 0) s a))
    answer_is_sure (RoundFault q s ws) (Done vs) a b sure =
        absurd (faultless_has_none (after (suc q)) (sure (suc q) a.0)
        (first_has_fault (after (suc q)) round_order (counts_after startup round q) s a.2))
    answer_is_sure (RoundFault q s ws) (StartupFault t) a b sure =
        absurd (faultless_has_none (after 0) (a.1 0 (omega arith)) (sure 0 (omega arith)))
    answer_is_sure (RoundFault q s ws) (RoundFault p t vs) a b sure =
        elim (cases_order q p) [
          | inl e ↦ same e
          | inr other ↦ elim other [
            | inl less ↦ absurd (faultless_has_none (after (suc q)) (b.1 (suc q) less)
                (first_has_fault (after (suc q)) round_order (counts_after startup round q) s a.2))
            | inr more ↦ absurd (faultless_has_none (after (suc p)) (a.1 (suc p) more)
                (sure (suc p) (omega arith) b.0))
          ]
        ]
      where
        same : q ≡ p → ◌≡◌ {A = Outcome Cause Word} (RoundFault q s ws) (RoundFault p t vs)
        same e =
            let stops : s ≡ t = some_same
            (first_fault (after (suc p)) (counts_after startup round p) round_order) s t
            (subst (λ (n : ℕ). first_fault (after (suc n))
            (counts_after startup round n) round_order ≡ Some s) e a.2) b.2 in
            let words : ws ≡ vs = a.3 ∙ ap (λ (n : ℕ). words_of (after n)) e ∙ sym b.3 in
            cc

  -- Answers of two pairs of orders differ at most in the firing that they name.
  pub same_verdict :
      (after : ℕ → ℕ → Run State Cause Word) (startup round : ℕ → ℕ)
      (startup_order round_order other_startup other_round : List ℕ) (k : ℕ)
      (a b : Outcome Cause Word)
      → IsAnswerOf after startup round startup_order round_order k a
      → IsAnswerOf after startup round other_startup other_round k b
      → IsSure after startup round other_startup other_round k b
      → verdict a ≡ verdict b
  unfolding verdict
  same_verdict after startup round so ro sp rp k (Done ws) (Done vs) a b sure =
      ap AllWords (a.1 ∙ sym b.1)
  same_verdict after startup round so ro sp rp k (Done ws) (StartupFault t) a b sure =
      absurd (faultless_has_none (after k) a.0 (sure k (omega arith)))
  same_verdict after startup round so ro sp rp k (Done ws) (RoundFault p t vs) a b sure =
      absurd (faultless_has_none (after k) a.0 (sure k b.0 (omega arith)))
  same_verdict after startup round so ro sp rp k (StartupFault s) (Done vs) a b sure =
      absurd (faultless_has_none (after 0) (sure 0 (omega arith))
      (first_has_fault (after 0) so (λ node. 0) s a))
  same_verdict after startup round so ro sp rp k (StartupFault s) (StartupFault t) a b sure = refl
  same_verdict after startup round so ro sp rp k (StartupFault s) (RoundFault p t vs) a b sure =
      absurd (faultless_has_none (after 0) (b.1 0 (omega arith))
      (first_has_fault (after 0) so (λ node. 0) s a))
  same_verdict after startup round so ro sp rp k (RoundFault q s ws) (Done vs) a b sure =
      absurd (faultless_has_none (after (suc q)) (sure (suc q) a.0)
      (first_has_fault (after (suc q)) ro (counts_after startup round q) s a.2))
  same_verdict after startup round so ro sp rp k (RoundFault q s ws) (StartupFault t) a b sure =
      absurd (faultless_has_none (after 0) (a.1 0 (omega arith)) (sure 0 (omega arith)))
  same_verdict after startup round so ro sp rp k (RoundFault q s ws) (RoundFault p t vs) a b sure =
      elim (cases_order q p) [
        | inl e ↦ (let words : ws ≡ vs = a.3 ∙ ap (λ (n : ℕ). words_of (after n)) e ∙ sym b.3 in
            ap {A = ℕ} (λ n. StoppedInRound n ws) e ∙ ap (StoppedInRound p) words)
        | inr other ↦ elim other [
          | inl less ↦ absurd (faultless_has_none (after (suc q)) (b.1 (suc q) less)
              (first_has_fault (after (suc q)) ro (counts_after startup round q) s a.2))
          | inr more ↦ absurd (faultless_has_none (after (suc p)) (a.1 (suc p) more)
              (sure (suc p) (omega arith) b.0))
        ]
      ]

module _ {Code State Cause Word : Type 0}
    (meaning : Meaning Code State Cause Word) (graph : Graph Code) (input : List ℤ)
    (keeps : (node : ℕ) → KeepsRates meaning (graph.code node))
    (startup round : ℕ → ℕ) (startup_order round_order : List ℕ) (k : ℕ)
    (schedule : IsSchedule meaning graph input startup round startup_order round_order k)
    (inputs : ℕ → ℕ → ByPort)
    (solves : (q : ℕ) → q ≤ k → Solves meaning graph (counts_after startup round q) input
    (inputs q))
  where
    abbrev pub after : ℕ → ℕ → Run State Cause Word
    after q = runs_at meaning graph (counts_after startup round q) (inputs q)

    more_rounds : (q j : ℕ) → q ≤ j → (node : ℕ)
        → counts_after startup round q node ≤ counts_after startup round j node
    unfolding counts_after
    more_rounds q j h node = omega (arith, mul-le-mul_right (round node) h)

    pub after_startup : counted (λ node. 0) startup_order ≡ counts_after startup round 0
    unfolding counts_after
    after_startup = fun_ext (λ node. omega
        (arith, counted-firing_count startup_order (λ v. 0) node, schedule.startup_counts node))

    pub after_round : (q : ℕ) → counted (counts_after startup round q) round_order
        ≡ counts_after startup round (suc q)
    unfolding counts_after
    after_round q = fun_ext (λ node. omega (
      arith,
      counted-firing_count round_order (λ v. startup v + q * round v) node,
      schedule.round_counts node,
    ))

    -- The machine's runs after q rounds are what every later solution says of them.
    pub record IsAt (q : ℕ) (now : ℕ → Run State Cause Word) : Type 0 where
      pub agrees : (j : ℕ) → q ≤ j → j ≤ k → now
          ≡ runs_at meaning graph (counts_after startup round q) (inputs j)
      pub exact : (j : ℕ) → q ≤ j → j ≤ k → IsExact meaning graph input
          (counts_after startup round q) (inputs j)
      pub faultless : (j : ℕ) → j ≤ q → IsFaultless (after j)

    abbrev IsSureAnswer : Outcome Cause Word → Type 0
    IsSureAnswer outcome = IsAnswerOf after startup round startup_order round_order k outcome
        × IsSure after startup round startup_order round_order k outcome

    pub round_tells : (q : ℕ) (now : ℕ → Run State Cause Word) → q < k → IsAt q now → (j : ℕ)
        → (below : q < j) → (within : j ≤ k)
        → Tells meaning graph input keeps (inputs j) (counts_after startup round j)
        (solves j within) (counts_after startup round q) round_order
        (go meaning graph input round_order now)
    round_tells q now more at j below within =
        rw (at.agrees j (omega arith) within)
        (run_tells meaning graph input keeps (inputs j) (counts_after startup round j)
        (solves j within) round_order (counts_after startup round q)
        (at.exact j (omega arith) within) (schedule.round_finds q more)
        (λ node. rw (after_round q) (more_rounds (suc q) j below node)))

    pub next_at : (q : ℕ) (now next : ℕ → Run State Cause Word) → q < k → IsAt q now
        → ((j : ℕ) → (below : q < j) → (within : j ≤ k)
        → Tells meaning graph input keeps (inputs j) (counts_after startup round j)
        (solves j within) (counts_after startup round q) round_order (Went next))
        → IsAt (suc q) next
    next_at q now next more at tells = record {
      agrees = λ j below within. subst (λ (c : ℕ → ℕ). next ≡ runs_at meaning graph c (inputs j))
          (after_round q) (tells j below within).0;
      exact = exact_next;
      faultless = λ j below. elim (cases_order j (suc q)) [
        | inl e ↦ subst (λ (n : ℕ). IsFaultless (after n)) (sym e)
            (exact_next (suc q) (omega arith) more).faultless
        | inr other ↦ elim other [
          | inl less ↦ at.faultless j (omega arith)
          | inr greater ↦
              absurd (omega arith)
        ]
      ];
    }
      where
        exact_next : (j : ℕ) → suc q ≤ j → j ≤ k
            → IsExact meaning graph input (counts_after startup round (suc q)) (inputs j)
        exact_next j below within = subst (λ (c : ℕ → ℕ). IsExact meaning graph input c (inputs j))
            (after_round q) (tells j below within).1

    round_gives :
        (q : ℕ) (now : ℕ → Run State Cause Word) → q < k → IsAt q now
        → (later : (ℕ → Run State Cause Word) → Outcome Cause Word)
        → ((next : ℕ → Run State Cause Word) → IsAt (suc q) next → IsSureAnswer (later next))
        → (progress : Progress State Cause Word)
        → ((j : ℕ) → (below : q < j) → (within : j ≤ k)
        → Tells meaning graph input keeps (inputs j) (counts_after startup round j)
        (solves j within) (counts_after startup round q) round_order progress)
        → IsSureAnswer (round_outcome meaning graph input round_order q
        (words_of now) progress later)
    unfolding round_outcome
    round_gives q now more at later ih (Went next) tells =
        ih next (next_at q now next more at tells)
    round_gives q now more at later ih (Stopped stop) tells = (
      (
        more,
        at.faultless,
        tells (suc q) (omega arith) more,
        ap words_of (at.agrees q (omega arith) (omega arith)),
      ),
      λ j below within. first_has_fault (after j) round_order (counts_after startup round q) stop
          (tells j below within),
    )

    rounds_give : (left q : ℕ) → q + left ≡ k → (now : ℕ → Run State Cause Word) → IsAt q now
        → IsSureAnswer (rounds meaning graph input round_order left q now)
    unfolding rounds
    rounds_give zero q e now at = (
      (
        at.faultless k (omega arith),
        ap words_of (at.agrees k (omega arith) (omega arith))
            ∙ ap (λ (n : ℕ). words_of
            (runs_at meaning graph (counts_after startup round n) (inputs k)))
            (let same : q ≡ k = omega arith in same),
      ),
      λ j within. at.faultless j (omega arith),
    )
    rounds_give (suc left) q e now at =
        round_gives q now (omega arith) at (rounds meaning graph input round_order left (suc q))
        (rounds_give left (suc q) (omega arith))
        (go meaning graph input round_order now) (round_tells q now (omega arith) at)

    first_exact : (j : ℕ) → IsExact meaning graph input (λ node. 0) (inputs j)
    unfolding runs_at runs initial_run
    first_exact j = record { fired = λ node. refl; faultless = λ node. refl }

    pub startup_tells : (j : ℕ) → (within : j ≤ k)
        → Tells meaning graph input keeps (inputs j) (counts_after startup round j)
        (solves j within) (λ node. 0) startup_order
        (go meaning graph input startup_order (at_first meaning graph))
    unfolding runs_at runs at_first
    startup_tells j within =
        run_tells meaning graph input keeps (inputs j) (counts_after startup round j)
        (solves j within) startup_order (λ node. 0) (first_exact j) schedule.startup_finds
        (λ node. rw after_startup (more_rounds 0 j (omega arith) node))

    startup_gives : (progress : Progress State Cause Word)
        → ((j : ℕ) → (within : j ≤ k) → Tells meaning graph input keeps (inputs j)
        (counts_after startup round j) (solves j within) (λ node. 0) startup_order progress)
        → IsSureAnswer (startup_outcome meaning graph input round_order k progress)
    unfolding startup_outcome
    startup_gives (Went now) tells =
        rounds_give k 0 (omega arith) now
        (record {
          agrees = λ j below within. subst
              (λ (c : ℕ → ℕ). now ≡ runs_at meaning graph c (inputs j)) after_startup
              (tells j within).0;
          exact = exact_now;
          faultless = λ j below. let e : 0 ≡ j = omega arith in
              subst (λ (n : ℕ). IsFaultless (after n)) e
              (exact_now 0 (omega arith) (omega arith)).faultless;
        })
      where
        exact_now : (j : ℕ) → 0 ≤ j → j ≤ k
            → IsExact meaning graph input (counts_after startup round 0) (inputs j)
        exact_now j below within = subst (λ (c : ℕ → ℕ). IsExact meaning graph input c (inputs j))
            after_startup (tells j within).1
    startup_gives (Stopped stop) tells = (
      tells 0 (omega arith),
      λ j within. first_has_fault (after j) startup_order (λ node. 0) stop (tells j within),
    )

    -- The run is the answer, and sure.
    pub run_gives : IsAnswerOf after startup round startup_order round_order k
        (whole_run meaning graph input round_order startup_order k)
        × IsSure after startup round startup_order round_order k
        (whole_run meaning graph input round_order startup_order k)
    unfolding whole_run
    run_gives = startup_gives (go meaning graph input startup_order (at_first meaning graph))
        startup_tells

    -- Any answer is the run's.
    pub answer_is_run : (outcome : Outcome Cause Word)
        → IsAnswerOf after startup round startup_order round_order k outcome
        → outcome ≡ whole_run meaning graph input round_order startup_order k
    answer_is_run outcome a = answer_is_sure after startup round startup_order round_order k outcome
        (whole_run meaning graph input round_order startup_order k) a run_gives.0 run_gives.1
