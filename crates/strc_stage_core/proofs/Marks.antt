-- A marked parcel is that of the last round, or it is stopped.
use Rattle.std.proofs.Common.{◌≡◌, refl, sym, ap, ◌∙◌, subst, ℕ, zero, suc, ◌+◌, ◌<◌, Bool, true}
use Rattle.std.proofs.Common.{false, ◌||◌, eqb, List, [], ◌∷◌, ◌++◌, length, Option, Some, is_some}
use Rattle.std.proofs.Common.{IsSome, slice_get, option_to_list, arith, eqb-true, true≢false}
use mathlib.Core.Logic.{◌⊎◌, inl, inr}
use Rattle.strc_stage_core.specs.Actors.{Plain, Stage, Collector, Work, Step}
use Rattle.strc_stage_core.specs.States.{Runs, Start, Core, AreFresh, Chained, IsState}
use Rattle.strc_stage_core.specs.Events.{taken_by}
use Rattle.strc_stage_core.proofs.Runs.{some_is}
use Rattle.strc_stage_core.proofs.Steps.{stepped}
use Rattle.strc_stage_core.proofs.Taking.{head_taken}

-- Of parcels from this number on.
abbrev pub Marked : {Load Stop : Type 0} → ℕ → ℕ → List (Plain Load Stop) → Type 0
Marked rounds number [] = Unit {0}
Marked rounds number (parcel ∷ parcels) =
    (parcel.last ≡ true → (suc number ≡ rounds) ⊎ IsSome parcel.stop)
    × Marked rounds (suc number) parcels

module _ {Load Stop : Type 0} where
  pub marked_front : (rounds number : ℕ) (front others : List (Plain Load Stop))
      → Marked rounds number (front ++ others) → Marked rounds number front
  marked_front rounds number [] others marked = tt
  marked_front rounds number (p ∷ front) others (here, marked) =
      (here, marked_front rounds (suc number) front others marked)

  pub marked_at : (rounds number : ℕ) (front : List (Plain Load Stop)) (p : Plain Load Stop)
      (others : List (Plain Load Stop)) → Marked rounds number (front ++ (p ∷ others))
      → p.last ≡ true → (suc (number + length front) ≡ rounds) ⊎ IsSome p.stop
  marked_at rounds number [] p others (here, marked) last = elim (here last) [
    | inl e ↦ inl (omega (arith, e))
    | inr is ↦ inr is
  ]
  marked_at rounds number (q ∷ front) p others (here, marked) last =
      elim (marked_at rounds (suc number) front p others marked last) [
        | inl e ↦ inl (omega (arith, e))
        | inr is ↦ inr is
      ]

module _ {State Load Stop Total : Type 0} (work : Work State Load Stop Total) where
  -- The mark of the first stage.
  first_mark : (n m : ℕ) (due stop : Option Stop) → (IsSome due → IsSome stop)
      → (eqb n m || is_some due) ≡ true → (n ≡ m) ⊎ IsSome stop
  first_mark n m due stop stays e = by_test (eqb n m) refl
    where
      by_test : (test : Bool) → eqb n m ≡ test → (n ≡ m) ⊎ IsSome stop
      by_test true is = inl (eqb-true n m is)
      by_test false is = inr (stays (sym (ap (λ t. t || is_some due) is) ∙ e))

  pub runs_marks : (rounds : ℕ) (a : Stage State Stop) (taken made : List (Plain Load Stop))
      (b : Stage State Stop) → a.first ≡ true → a.rounds ≡ rounds → Runs (Step work) a taken made b
      → Marked rounds a.taken made
  runs_marks rounds a [] [] b first same runs = tt
  runs_marks rounds a (p ∷ taken) (q ∷ made) b first same (m, step, runs) =
      let one = stepped work a p m q step in (
        λ last. first_mark (suc a.taken) rounds p.stop q.stop one.stopped
            (ap (λ r. eqb (suc a.taken) r || is_some p.stop) (sym same)
            ∙ sym (one.marks first) ∙ last),
        subst (λ n. Marked rounds n made) one.taken
            (runs_marks rounds m taken made b (one.first ∙ first) (one.rounds ∙ same) runs),
      )
  runs_marks rounds a _ _ b first same runs = absurd runs

  -- The others keep it.
  pub runs_mark : (rounds number : ℕ) (a : Stage State Stop) (taken made : List (Plain Load Stop))
      (b : Stage State Stop) → a.first ≡ false → Runs (Step work) a taken made b
      → Marked rounds number taken → Marked rounds number made
  runs_mark rounds number a [] [] b later runs marked = tt
  runs_mark rounds number a (p ∷ taken) (q ∷ made) b later (m, step, runs) (here, marked) =
      let one = stepped work a p m q step in (
        λ last. stays q (here (sym (one.mark later) ∙ last)) one.stopped,
        runs_mark rounds (suc number) m taken made b (one.first ∙ later) runs marked,
      )
    where
      stays : (q : Plain Load Stop) → (suc number ≡ rounds) ⊎ IsSome p.stop
          → (IsSome p.stop → IsSome q.stop) → (suc number ≡ rounds) ⊎ IsSome q.stop
      stays q (inl e) f = inl e
      stays q (inr is) f = inr (f is)
  runs_mark rounds number a _ _ b later runs marked = absurd runs

  module _ (first : Collector Total Stop) (free : List (Plain Load Stop)) where
    pub made_marked : (head : Bool) (rounds : ℕ) (done : Bool) (stage₀ : Stage State Stop)
        (stage : Stage State Stop) (taken made : List (Plain Load Stop))
        → AreFresh head rounds done (stage₀ ∷ [])
        → (head ≡ false → Marked rounds 0 taken) → Runs (Step work) stage₀ taken made stage
        → Marked rounds 0 made
    made_marked true rounds done stage₀ stage taken made (fresh, none) marked runs =
        subst (λ n. Marked rounds n made) fresh.none_taken
        (runs_marks rounds stage₀ taken made stage fresh.first_is fresh.rounds_are runs)
    made_marked false rounds done stage₀ stage taken made (fresh, none) marked runs =
        runs_mark rounds 0 stage₀ taken made stage fresh.first_is runs (marked refl)

    -- On the link after a stage.
    link_marked : (head : Bool) (rounds : ℕ) (done : Bool)
        (stages₀ stages : List (Stage State Stop)) (links : List (List (Plain Load Stop)))
        (hands : List (Option (Plain Load Stop)))
        (c : Collector Total Stop) (taken back : List (Plain Load Stop))
        → Chained work first free stages₀ stages links hands c taken back
        → AreFresh head rounds done stages₀ → first.taken ≡ 0
        → (head ≡ false → Marked rounds 0 taken)
        → (actor : ℕ) (p : Plain Load Stop) (rest : List (Plain Load Stop))
        → actor < length stages → slice_get links actor ≡ Some (p ∷ rest) → p.last ≡ true
        → (suc (taken_by (suc actor) stages c) ≡ rounds) ⊎ IsSome p.stop
    link_marked head rounds done (stage₀ ∷ stages₀) (stage ∷ stages) (link ∷ links) (hand ∷ hands)
        c taken back (given, received, runs, e, chain) (fresh, all_fresh) none marked zero p
        rest within comes last =
        let made : Marked rounds 0 given = marked_front rounds 0 given (option_to_list hand)
        (made_marked head rounds done stage₀ stage taken (given ++ option_to_list hand) (fresh, tt)
        marked runs) in
        elim (marked_at rounds 0 received p rest (subst (Marked rounds 0)
        (e ∙ ap (λ l. received ++ l) (some_is link (p ∷ rest) comes)) made) last) [
          | inl same ↦ inl (omega (
            arith,
            same,
            head_taken work first free false rounds done stages₀
                stages links hands c received back chain all_fresh none,
          ))
          | inr is ↦ inr is
        ]
    link_marked head rounds done (stage₀ ∷ stages₀) (stage ∷ stages) (link ∷ links) (hand ∷ hands)
        c taken back (given, received, runs, e, chain) (fresh, all_fresh) none marked
        (suc actor) p rest within comes last =
        link_marked false rounds done stages₀ stages links hands c received back chain all_fresh
        none (λ later. marked_front rounds 0 received link (subst (Marked rounds 0) e
        (marked_front rounds 0 given (option_to_list hand)
        (made_marked head rounds done stage₀ stage taken (given ++ option_to_list hand) (fresh, tt)
        marked runs)))) actor p rest (omega (arith, within)) comes last
    link_marked head rounds done [] [] (link ∷ []) (hand ∷ []) c taken back chain fresh none marked
        actor p rest within comes last = absurd (omega (arith, within))
    link_marked head rounds done _ _ _ _ c taken back chain fresh none marked actor p rest within
        comes last = absurd chain

  module _ (start : Start State Load Stop Total) (core : Core State Load Stop Total)
      (state : IsState work start core) where
    pub next_marked : (actor : ℕ) (p : Plain Load Stop) (rest : List (Plain Load Stop))
        → actor < length core.stages → slice_get core.links actor ≡ Some (p ∷ rest)
        → p.last ≡ true
        → (suc (taken_by (suc actor) core.stages core.collector) ≡ start.collector.rounds)
        ⊎ IsSome p.stop
    next_marked = link_marked start.collector start.free true start.collector.rounds start.done
        start.stages core.stages core.links core.hands core.collector state.taken state.taken
        state.chain state.begun.fresh state.begun.none_taken
        (λ e. absurd (true≢false e))
