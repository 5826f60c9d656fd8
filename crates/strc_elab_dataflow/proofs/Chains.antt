-- Workers in a chain: the parcels between them are those of the equations, and what the collector
-- makes of them is the answer.
use Rattle.std.proofs.Common.{◌≡◌, refl, sym, ap, ◌∙◌, subst, ℕ, zero, suc, ◌+◌, ◌<◌, ◌≤◌}
use Rattle.std.proofs.Common.{List, [], ◌∷◌, ◌++◌, length, take, arith, Option, Some, None}
use Rattle.std.proofs.Common.{append_assoc, length-append}
use mathlib.Core.Logic.{inl, inr, ◌⊎◌}
use Rattle.std.proofs.Math.Seq.{take-append_seam}
use Rattle.strc_elab_dataflow.specs.Node.{ByPort}
use Rattle.strc_elab_dataflow.specs.Machine.{Stop}
use Rattle.strc_elab_dataflow.specs.Answer.{Outcome, words_of, IsFaultless}
use Rattle.strc_elab_dataflow.specs.Queues.{Fifo, FifoProgress, FifoProgress.FifoWent, fifo_go}
use Rattle.strc_elab_dataflow.specs.Queues.{FifoProgress.FifoStopped, fifo_at_first}
use Rattle.strc_elab_dataflow.specs.Staging.{Staging, after, IsStaging}
use Rattle.strc_elab_dataflow.specs.Stages.{Parcel, Parcel.Moves, Parcel.Halts, Stage, Stage.Works}
use Rattle.strc_elab_dataflow.specs.Stages.{Stage.Halted, entered, sent, step, collected}
use Rattle.strc_elab_dataflow.specs.Parcels.{IsFirstStop, IsWorking}
use Rattle.strc_elab_dataflow.specs.Workers.{IsHalted, HasHalted, AllHalted, StaysHalted}
use Rattle.strc_elab_dataflow.specs.Workers.{AreFresh, MayStep, AreSteps, AreParcels, collects}
use Rattle.strc_elab_dataflow.specs.Workers.{IsChain}
use Rattle.strc_elab_dataflow.specs.StageLaws.{ChainGivesAnswer}
use Rattle.strc_elab_dataflow.proofs.Sent.{StepComes, step_works}
use Rattle.strc_elab_dataflow.proofs.Keeping.{first_later}
use Rattle.strc_elab_dataflow.proofs.Collecting.{IsStarted, starts, start_faultless, start_works}
use Rattle.strc_elab_dataflow.proofs.Collecting.{start_words, Answers, AnswersOr, collected_gives}
use Rattle.strc_elab_dataflow.proofs.Collecting.{fresh_moved, stop_answers, started_by}

-- A halted stage gives stopped parcels alone; and so does one that gave one.
module _ {Code State Cause Word : Type 0} (plan : Staging Code State Cause Word) (a : ℕ) where
  halted_step : (parcel : Parcel Cause Word) (next : Stage State Cause Word)
      (made : Parcel Cause Word) → MayStep plan a Halted parcel next made
      → (next ≡ Halted) × IsHalted made
  unfolding step
  halted_step (Moves blocks words) next made (inl stepped) =
      (stepped.0, subst IsHalted (sym stepped.1) tt)
  halted_step (Halts stop) next made (inl stepped) =
      (stepped.0, subst IsHalted (sym stepped.1) tt)
  halted_step parcel next made (inr refused) =
      (refused.1, subst IsHalted (sym refused.2) tt)

  halted_steps : (taken given : List (Parcel Cause Word)) (last : Stage State Cause Word)
      → AreSteps plan a Halted taken given last → AllHalted given
  halted_steps [] [] last steps = tt
  halted_steps (parcel ∷ taken) (made ∷ given) last steps =
      let one = halted_step parcel steps.0 made steps.1.0 in (
        one.1,
        halted_steps taken given last (subst (λ (s : Stage State Cause Word).
            AreSteps plan a s taken given last) one.0 steps.1.1),
      )
  halted_steps [] (made ∷ given) last steps = absurd steps
  halted_steps (parcel ∷ taken) [] last steps = absurd steps

  sent_halts : (blocks : ℕ → ByPort) (words : ℕ → List Word)
      (progress : FifoProgress State Cause Word)
      → IsHalted (sent plan a blocks words progress).parcel
      → (sent plan a blocks words progress).stage ≡ Halted
  unfolding sent
  sent_halts blocks words (FifoWent next) halted = absurd halted
  sent_halts blocks words (FifoStopped stop) halted = refl

  step_halts : (stage : Stage State Cause Word) (parcel : Parcel Cause Word)
      → IsHalted (step plan a stage parcel).parcel → (step plan a stage parcel).stage ≡ Halted
  unfolding step
  step_halts (Works now) (Moves blocks words) halted = sent_halts blocks words
      (fifo_go plan.meaning plan.graph (plan.segment a) (entered plan a now blocks)) halted
  step_halts (Works now) (Halts stop) halted = refl
  step_halts Halted (Moves blocks words) halted = refl
  step_halts Halted (Halts stop) halted = refl

  halting : (stage : Stage State Cause Word) (parcel : Parcel Cause Word)
      (next : Stage State Cause Word) (made : Parcel Cause Word)
      → MayStep plan a stage parcel next made → IsHalted made → next ≡ Halted
  halting stage parcel next made (inl stepped) halted =
      stepped.0 ∙ step_halts stage parcel (subst IsHalted stepped.1 halted)
  halting stage parcel next made (inr refused) halted = refused.1

  pub stays_halted : (taken given : List (Parcel Cause Word)) (stage last : Stage State Cause Word)
      → AreSteps plan a stage taken given last → StaysHalted given
  stays_halted [] [] stage last steps = tt
  stays_halted (parcel ∷ taken) (made ∷ given) stage last steps = (
    λ halted. halted_steps taken given last (subst (λ (s : Stage State Cause Word).
        AreSteps plan a s taken given last) (halting stage parcel steps.0 made steps.1.0 halted)
        steps.1.1),
    stays_halted taken given steps.0 last steps.1.1,
  )
  stays_halted [] (made ∷ given) stage last steps = absurd steps
  stays_halted (parcel ∷ taken) [] stage last steps = absurd steps

  pub steps_length : (taken given : List (Parcel Cause Word)) (stage last : Stage State Cause Word)
      → AreSteps plan a stage taken given last → length given ≡ length taken
  steps_length [] [] stage last steps = refl
  steps_length (parcel ∷ taken) (made ∷ given) stage last steps =
      ap suc (steps_length taken given steps.0 last steps.1.1)
  steps_length [] (made ∷ given) stage last steps = absurd steps
  steps_length (parcel ∷ taken) [] stage last steps = absurd steps

module _ {Code State Cause Word : Type 0} (plan : Staging Code State Cause Word)
    (collection : List (Parcel Cause Word)) where
  -- A front of the parcels of the equations.
  pub parcels_front : (b t : ℕ) (xs ys : List (Parcel Cause Word))
      → AreParcels plan collection b t (xs ++ ys) → AreParcels plan collection b t xs
  parcels_front b t [] ys are = tt
  parcels_front b t (Moves blocks words ∷ xs) ys are =
      (are.0, parcels_front b (suc t) xs ys are.1)
  parcels_front b t (Halts (Some stop) ∷ xs) ys are = are
  parcels_front b t (Halts None ∷ xs) ys are = tt

  -- Those of the first link.
  pub fresh_parcels : (t : ℕ) (parcels : List (Parcel Cause Word)) → AreFresh collection t parcels
      → AreParcels plan collection 0 t parcels
  fresh_parcels t [] fresh = tt
  fresh_parcels t (Moves blocks words ∷ others) fresh = (
    fresh_moved plan t blocks words fresh.0.0 fresh.0.1,
    fresh_parcels (suc t) others fresh.1,
  )
  fresh_parcels t (Halts (Some stop) ∷ others) fresh = by_case fresh.0
    where
      by_case : (◌≡◌ {A = Option (Stop Cause)} (Some stop) None) ⊎ HasHalted (take t collection)
          → IsFirstStop plan 0 t stop ⊎ HasHalted (take t collection)
      by_case (inl e) = absurd (grind arith)
      by_case (inr came_back) = inr came_back
  fresh_parcels t (Halts None ∷ others) fresh = tt

  module _ (is : IsStaging plan) (a : ℕ) (is_stage : a < plan.stages) where
    -- What is given where a stage's step goes on, or stops.
    moving : (t : ℕ) (taken given : List (Parcel Cause Word)) (last : Stage State Cause Word)
        (blocks : ℕ → ByPort) (words : ℕ → List Word)
        → ((next : Fifo State Cause Word) → IsWorking plan a (suc t) next
        → AreSteps plan a (Works next) taken given last
        → AreParcels plan collection (suc a) (suc t) given)
        → (progress : FifoProgress State Cause Word) → StepComes plan a t blocks words progress
        → AreSteps plan a (sent plan a blocks words progress).stage taken given last
        → AreParcels plan collection (suc a) t
        ((sent plan a blocks words progress).parcel ∷ given)
    unfolding sent
    moving t taken given last blocks words ih (FifoWent next) comes steps =
        (comes.1, ih next comes.0 steps)
    moving t taken given last blocks words ih (FifoStopped stop) first steps = inl first

    pub worker_gives : (t : ℕ) (taken given : List (Parcel Cause Word))
        (now : Fifo State Cause Word) (last : Stage State Cause Word)
        → t + length taken ≤ plan.rounds → IsWorking plan a t now
        → AreParcels plan collection a t taken → AreSteps plan a (Works now) taken given last
        → AreParcels plan collection (suc a) t given
    unfolding step
    worker_gives t [] [] now last within working are steps = tt
    worker_gives t [] (made ∷ given) now last within working are steps = absurd steps
    worker_gives t (parcel ∷ taken) [] now last within working are steps = absurd steps
    worker_gives t (Moves blocks words ∷ taken) (made ∷ given) now last within working are steps =
        by_step steps.0 steps.1.0 steps.1.1
        (λ next next_works later. worker_gives (suc t) taken given next last (omega arith)
        next_works are.1 later)
      where
        by_step : (next : Stage State Cause Word)
            → MayStep plan a (Works now) (Moves blocks words) next made
            → AreSteps plan a next taken given last
            → ((more : Fifo State Cause Word) → IsWorking plan a (suc t) more
            → AreSteps plan a (Works more) taken given last
            → AreParcels plan collection (suc a) (suc t) given)
            → AreParcels plan collection (suc a) t (made ∷ given)
        by_step next (inl stepped) later ih =
            subst (λ (p : Parcel Cause Word). AreParcels plan collection (suc a) t (p ∷ given))
            (sym stepped.1)
            (moving t taken given last blocks words ih
            (fifo_go plan.meaning plan.graph (plan.segment a) (entered plan a now blocks))
            (step_works plan is a t is_stage (omega arith) now blocks words working are.0)
            (subst (λ (s : Stage State Cause Word). AreSteps plan a s taken given last) stepped.0
            later))
        by_step next (inr refused) later ih =
            subst (λ (p : Parcel Cause Word). AreParcels plan collection (suc a) t (p ∷ given))
            (sym refused.2) tt
    worker_gives t (Halts (Some stop) ∷ taken) (made ∷ given) now last within working are steps =
        by_step steps.1.0 are
      where
        by_step : MayStep plan a (Works now) (Halts (Some stop)) steps.0 made
            → IsFirstStop plan a t stop ⊎ HasHalted (take t collection)
            → AreParcels plan collection (suc a) t (made ∷ given)
        by_step (inl stepped) (inl first) =
            subst (λ (p : Parcel Cause Word). AreParcels plan collection (suc a) t (p ∷ given))
            (sym stepped.1) (inl (first_later plan is a t is_stage (omega arith) stop
            working.fine_so_far first))
        by_step (inl stepped) (inr came_back) =
            subst (λ (p : Parcel Cause Word). AreParcels plan collection (suc a) t (p ∷ given))
            (sym stepped.1) (inr came_back)
        by_step (inr refused) claim = absurd refused.0
    worker_gives t (Halts None ∷ taken) (made ∷ given) now last within working are steps =
        by_step steps.1.0
      where
        by_step : MayStep plan a (Works now) (Halts None) steps.0 made
            → AreParcels plan collection (suc a) t (made ∷ given)
        by_step (inl stepped) =
            subst (λ (p : Parcel Cause Word). AreParcels plan collection (suc a) t (p ∷ given))
            (sym stepped.1) tt
        by_step (inr refused) = absurd refused.0

halted_parts : {Cause Word : Type 0} (xs ys : List (Parcel Cause Word)) → HasHalted (xs ++ ys)
    → HasHalted xs ⊎ HasHalted ys
halted_parts [] ys halted = inr halted
halted_parts (parcel ∷ xs) ys (inl here) = inl (inl here)
halted_parts (parcel ∷ xs) ys (inr there) = elim (halted_parts xs ys there) [
  | inl front ↦ inl (inr front)
  | inr rest ↦ inr rest
]

outcome_same : {Cause Word : Type 0} (a b : Outcome Cause Word)
    → ◌≡◌ {A = Option (Outcome Cause Word)} (Some a) (Some b) → a ≡ b
outcome_same a b e = cc

take_front : {Cause Word : Type 0} (front parcels : List (Parcel Cause Word)) (t : ℕ)
    → length front ≡ t → take t (front ++ parcels) ≡ front
take_front front parcels t e =
    ap (λ (n : ℕ). take n (front ++ parcels)) (sym e)
    ∙ take-append_seam front parcels

module _ {Code State Cause Word : Type 0} (plan : Staging Code State Cause Word)
    (is : IsStaging plan) (collection : List (Parcel Cause Word)) where
  front_more : (front : List (Parcel Cause Word)) (blocks : ℕ → ByPort) (words : ℕ → List Word)
      → (HasHalted front → ⊥) → HasHalted (front ++ Moves blocks words ∷ []) → ⊥
  front_more front blocks words none halted =
      elim (halted_parts front (Moves blocks words ∷ []) halted) [
        | inl here ↦ none here
        | inr there ↦ elim there [ inl nothing ↦ nothing | inr nothing ↦ nothing ]
      ]

  -- What the collector makes of the parcels.
  collector_gives : (left t : ℕ) → t + left ≡ plan.rounds → (words : ℕ → List Word)
      → words ≡ words_of (after plan t) → ((j : ℕ) → j ≤ t → IsFaultless (after plan j))
      → (front parcels : List (Parcel Cause Word)) → collection ≡ front ++ parcels
      → length front ≡ t → (HasHalted front → ⊥)
      → AreParcels plan collection plan.stages t parcels
      → AnswersOr plan is (Unit {0}) (collects plan left t words parcels)
  unfolding collects collected
  collector_gives zero t e words words_are fine front parcels whole long none are =
      let at_end : t ≡ plan.rounds = omega arith in (
        fine plan.rounds (omega arith),
        words_are ∙ ap (λ (n : ℕ). words_of (after plan n)) at_end,
      )
  collector_gives (suc left) t e words words_are fine front [] whole long none are = tt
  collector_gives (suc left) t e words words_are fine front (Moves blocks new ∷ others) whole long
      none are =
      collected_gives plan is (Unit {0}) t words (Moves blocks new)
      (λ more. collects plan left (suc t) more others) (omega arith) words_are fine are.0
      (λ more more_are still_fine. collector_gives left (suc t) (omega arith) more more_are
      still_fine (front ++ Moves blocks new ∷ []) others
      (whole ∙ sym (append_assoc front (Moves blocks new ∷ []) others))
      (length-append front (Moves blocks new ∷ [])
      ∙ (let f : length front + 1 ≡ suc t = omega arith in f))
      (front_more front blocks new none) are.1)
  collector_gives (suc left) t e words words_are fine front (Halts (Some stop) ∷ others) whole long
      none (inl first) = stop_answers plan is t words stop (omega arith) words_are fine first
  collector_gives (suc left) t e words words_are fine front (Halts (Some stop) ∷ others) whole long
      none (inr came_back) =
      absurd (none (subst HasHalted (ap (take t) whole
      ∙ take_front front (Halts (Some stop) ∷ others) t long) came_back))
  collector_gives (suc left) t e words words_are fine front (Halts None ∷ others) whole long none
      are = tt

  pub collector : (now : Fifo State Cause Word) → IsStarted plan is now
      → AreParcels plan collection plan.stages 0 collection
      → AnswersOr plan is (Unit {0}) (collects plan plan.rounds 0 (words_of now.runs) collection)
  collector now started are = collector_gives plan.rounds 0 (omega arith) (words_of now.runs)
      (start_words plan is now started)
      (λ j below. let e : 0 ≡ j = omega arith in
      subst (λ (n : ℕ). IsFaultless (after plan n)) e (start_faultless plan is now started))
      [] collection refl refl (λ nothing. nothing) are

module _ {Code State Cause Word : Type 0} (plan : Staging Code State Cause Word)
    (is : IsStaging plan) (now : Fifo State Cause Word) (started : IsStarted plan is now)
    (given taken left : ℕ → List (Parcel Cause Word)) (chain : IsChain plan now given taken left)
  where
    -- The parcels that were taken from a link.
    taken_are : (b : ℕ) → b ≤ plan.stages
        → AreParcels plan (taken plan.stages) b 0 (given b)
        → AreParcels plan (taken plan.stages) b 0 (taken b)
    taken_are b less are = parcels_front plan (taken plan.stages) b 0 (taken b) (left b)
        (subst (AreParcels plan (taken plan.stages) b 0) (chain.links b less) are)

    taken_count : (b : ℕ) → b ≤ plan.stages → length (taken b) ≤ length (given b)
    taken_count b less = omega (
      arith,
      ap length (chain.links b less),
      length-append (taken b) (left b),
    )

    -- The parcels of every link.
    pub links_are : (b : ℕ) → b ≤ plan.stages
        → (length (taken b) ≤ plan.rounds) × AreParcels plan (taken plan.stages) b 0 (given b)
    links_are zero less =
        (chain.count, fresh_parcels plan (taken plan.stages) 0 (given 0) chain.fresh)
    links_are (suc a) less =
        let before = links_are a (omega arith) in
        let are = taken_are a (omega arith) before.1 in
        let steps = chain.steps a less are in (
          omega (
            arith,
            before.0,
            steps_length plan a (taken a) (given (suc a)) (Works now) steps.0 steps.1,
            taken_count (suc a) less,
          ),
          worker_gives plan (taken plan.stages) is a less 0 (taken a) (given (suc a)) now steps.0
              (omega (arith, before.0)) (start_works plan is now started a) are steps.1,
        )

    answer_by : (result : Option (Outcome Cause Word)) → AnswersOr plan is (Unit {0}) result
        → (outcome : Outcome Cause Word) → result ≡ Some outcome → Answers plan is outcome
    answer_by (Some other) answers outcome e =
        subst (Answers plan is) (outcome_same other outcome e) answers
    answer_by None answers outcome e = absurd (grind arith)

    pub chain_gives : ((b : ℕ) → b ≤ plan.stages
        → AreParcels plan (taken plan.stages) b 0 (given b))
        × ((a : ℕ) → a < plan.stages → StaysHalted (given (suc a)))
        × ((outcome : Outcome Cause Word)
        → collects plan plan.rounds 0 (words_of now.runs) (taken plan.stages) ≡ Some outcome
        → Answers plan is outcome)
    chain_gives = (
      λ b less. (links_are b less).1,
      λ a less.
          let steps = chain.steps a less
          (taken_are a (omega arith) (links_are a (omega arith)).1) in
          stays_halted plan a (taken a) (given (suc a)) (Works now) steps.0 steps.1,
      λ outcome e. answer_by (collects plan plan.rounds 0 (words_of now.runs) (taken plan.stages))
          (collector plan is (taken plan.stages) now started
          (taken_are plan.stages (omega arith) (links_are plan.stages (omega arith)).1)) outcome e,
    )

-- Workers in a chain.
pub chain_gives_answer : {Code State Cause Word : Type 0} → ChainGivesAnswer Code State Cause Word
chain_gives_answer plan now given taken left is went chain =
    chain_gives plan is now (started_by plan is (fifo_go plan.meaning plan.graph
    plan.startup_order (fifo_at_first plan.meaning plan.graph plan.input)) now went
    (starts plan is)) given taken left chain
