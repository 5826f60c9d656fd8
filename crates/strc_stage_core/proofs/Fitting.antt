-- A test that each actor hands on is passed by all parcels of every state.
use Rattle.std.proofs.Common.{◌≡◌, refl, sym, ap, ◌∙◌, subst, ℕ, zero, suc, ◌+◌, ◌<◌, ◌≤◌, Bool}
use Rattle.std.proofs.Common.{true, List, [], ◌∷◌, ◌++◌, length, Option, Some, slice_get}
use Rattle.std.proofs.Common.{option_to_list, arith, zero-add, suc-add, append_assoc, length-append}
use Rattle.std.proofs.Common.{cond, eqb, eq-eqb, ne_eqb}
use Rattle.std.proofs.lemmas.Bool.{cases_eq}
use Rattle.std.proofs.lemmas.Option.{slice_get_within}
use mathlib.Core.Logic.{◌⊎◌, inl, inr}
use Rattle.strc_stage_core.specs.Actors.{Plain, Stage, Collector, Work, Step, Collects}
use Rattle.strc_stage_core.specs.States.{Runs, Start, Core, IsState}
use Rattle.strc_stage_core.specs.Events.{before}
use Rattle.strc_stage_core.specs.Invariants.{AllFirst, AreHandedOn, after}
use Rattle.strc_stage_core.proofs.Counts.{taken_is, taken_within_rounds, lengths}
use Rattle.strc_stage_core.proofs.Runs.{some_is, none_not_some}
use Rattle.strc_stage_core.proofs.Kahn.{Carried, HandOn, carried_round}

module _ {A : Type 0} (passes : A → Bool) where
  all_shrink : (count : ℕ) (front others : List A) → AllFirst count passes (front ++ others)
      → AllFirst count passes front
  all_shrink zero front others all = tt
  all_shrink (suc count) [] others all = tt
  all_shrink (suc count) (item ∷ front) others (here, all) =
      (here, all_shrink count front others all)

  all_fewer : (count more : ℕ) (items : List A) → count ≤ more → AllFirst more passes items
      → AllFirst count passes items
  all_fewer zero more items le all = tt
  all_fewer (suc count) zero items le all = absurd (omega (arith, le))
  all_fewer (suc count) (suc more) [] le all = tt
  all_fewer (suc count) (suc more) (item ∷ items) le (here, all) =
      (here, all_fewer count more items (omega (arith, le)) all)

  -- The first so many past a front that passes.
  pub all_append : (count : ℕ) (front others : List A) → AllFirst (length front) passes front
      → AllFirst count passes others → AllFirst (length front + count) passes (front ++ others)
  all_append count [] others all rest = rw (zero-add count) rest
  all_append count (item ∷ front) others (here, all) rest =
      rw (suc-add (length front) count) (here, all_append count front others all rest)

  -- One that is so many away from the front.
  all_at : (before : List A) (item : A) (others : List A)
      → AllFirst (suc (length before)) passes (before ++ (item ∷ others)) → passes item ≡ true
  all_at [] item others (here, all) = here
  all_at (x ∷ before) item others (here, all) = all_at before item others all

  -- What comes past a front.
  all_drop : (count : ℕ) (front others : List A)
      → AllFirst (length front + count) passes (front ++ others) → AllFirst count passes others
  all_drop count [] others all = rw zero-add at all
  all_drop count (item ∷ front) others all =
      all_drop count front others (rw (suc-add (length front) count) at all).1

module _ {State Load Stop Total : Type 0} (work : Work State Load Stop Total)
    (first : Collector Total Stop) (free : List (Plain Load Stop))
    (passes : ℕ → Plain Load Stop → Bool) where
  abbrev Pass : ℕ → ℕ → List (Plain Load Stop) → Type 0
  Pass actor count parcels = AllFirst count (passes actor) parcels

  hand_on : (actor : ℕ) (stages₀ : List (Stage State Stop))
      → AllFirst (length free) (passes 0) free
      → ((place number : ℕ) (stage₀ stage : Stage State Stop) (count : ℕ)
      (taken result : List (Plain Load Stop)) → number ≡ actor + place
      → slice_get stages₀ place ≡ Some stage₀ → Runs (Step work) stage₀ taken result stage
      → AllFirst count (passes number) taken → AllFirst count (passes (suc number)) result)
      → ((number : ℕ) (collector : Collector Total Stop) (count : ℕ)
      (taken result : List (Plain Load Stop)) → number ≡ actor + length stages₀
      → Runs (Collects work) first taken result collector
      → AllFirst count (passes number) taken → AllFirst count (passes 0) result)
      → HandOn work first free Pass actor stages₀
  hand_on actor [] begins by_stages by_collector = λ count taken result collector runs pass.
      all_append (passes 0) count free result begins
      (by_collector actor collector count taken result (omega arith) runs pass)
  hand_on actor (stage₀ ∷ stages₀) begins by_stages by_collector = (
    λ count taken result stage runs pass.
        by_stages 0 actor stage₀ stage count taken result (omega arith) refl runs pass,
    hand_on (suc actor) stages₀ begins
        (λ place number s₀ s count taken result e is runs pass.
        by_stages (suc place) number s₀ s count taken result (omega (arith, e)) is runs pass)
        (λ number collector count taken result e runs pass.
        by_collector number collector count taken result (omega (arith, e)) runs pass),
  )

  link_passes : (test : Plain Load Stop → Bool) (many count : ℕ)
      (received link given hand : List (Plain Load Stop)) → given ≡ received ++ link
      → length received + count ≤ many → AllFirst many test (given ++ hand)
      → AllFirst count test link
  link_passes test many count received link given hand e le pass =
      all_drop test count received link (all_fewer test (length received + count) many
      (received ++ link) le (subst (AllFirst many test) e (all_shrink test many given hand pass)))

  -- On the link after an actor, the last one being that of the collector.
  links_pass : (bound count : ℕ) (actor : ℕ) (stages₀ stages : List (Stage State Stop))
      (links : List (List (Plain Load Stop))) (hands : List (Option (Plain Load Stop)))
      (c : Collector Total Stop) (taken back : List (Plain Load Stop))
      → Carried work first free Pass actor (bound + count) stages₀ stages links hands c taken back
      → length taken ≤ bound → length back ≤ bound
      → (place number : ℕ) (link : List (Plain Load Stop)) → slice_get links place ≡ Some link
      → ((place < length stages) × (number ≡ suc (actor + place)))
      ⊎ ((place ≡ length stages) × (number ≡ 0))
      → AllFirst count (passes number) link
  links_pass bound count actor (stage₀ ∷ stages₀) (stage ∷ stages) (l ∷ links) (hand ∷ hands) c
      taken back (given, received, runs, e, holds, result, chain) few few_back zero
      number link is (inl (within, number_is)) =
      let number_next : number ≡ suc actor = omega (arith, number_is) in
      rw (number_next, ← (some_is l link is)) (link_passes (passes (suc actor)) (bound + count)
      count received l given (option_to_list hand) e (omega (
        arith,
        few,
        taken_is work first free (Step work) stage₀ taken given hand stage runs,
        ap length e,
        length-append received l,
      )) result)
  links_pass bound count actor (stage₀ ∷ stages₀) (stage ∷ stages) (l ∷ links) (hand ∷ hands) c
      taken back (given, received, runs, e, holds, result, chain) few few_back zero
      number link is (inr (last, number_is)) = absurd (omega (arith, last))
  links_pass bound count actor (stage₀ ∷ stages₀) (stage ∷ stages) (l ∷ links) (hand ∷ hands) c
      taken back (given, received, runs, e, holds, result, chain) few few_back (suc place)
      number link is where_is =
      let fewer : length received ≤ bound = omega (
        arith,
        few,
        taken_is work first free (Step work) stage₀ taken given hand stage runs,
        ap length e,
        length-append received l,
      ) in links_pass bound count (suc actor) stages₀ stages links hands c received back chain fewer
      few_back place number link is (further where_is)
    where
      further : ((suc place < suc (length stages)) × (number ≡ suc (actor + suc place)))
          ⊎ ((suc place ≡ suc (length stages)) × (number ≡ 0))
          → ((place < length stages) × (number ≡ suc (suc actor + place)))
          ⊎ ((place ≡ length stages) × (number ≡ 0))
      further (inl (a, b)) = inl (omega (arith, a), omega (arith, b))
      further (inr (a, b)) = inr (omega (arith, a), b)
  links_pass bound count actor [] [] (l ∷ []) (hand ∷ []) c taken back
      (given, runs, e, holds, result) few few_back zero number link is (inl (within, other)) =
      absurd (omega (arith, within))
  links_pass bound count actor [] [] (l ∷ []) (hand ∷ []) c taken back
      (given, runs, e, holds, result) few few_back zero number link is (inr (here, last)) =
      rw (last, ← (some_is l link is)) (link_passes (passes 0) (length free + (bound + count))
      count back l (free ++ given) (option_to_list hand) e (omega (arith, few_back))
      (subst (AllFirst (length free + (bound + count)) (passes 0))
      (sym (append_assoc free given (option_to_list hand))) result))
  links_pass bound count actor [] [] (l ∷ []) (hand ∷ []) c taken back chain few few_back
      (suc place) number link is where_is = absurd (none_not_some link is)
  links_pass bound count actor _ _ _ _ c taken back chain few few_back place number link is
      where_is = absurd chain

  hand_passes : (test : Plain Load Stop → Bool) (many : ℕ) (given : List (Plain Load Stop))
      (hand : Option (Plain Load Stop)) (parcel : Plain Load Stop) → hand ≡ Some parcel
      → length given + length (option_to_list hand) ≤ many
      → AllFirst many test (given ++ option_to_list hand) → test parcel ≡ true
  hand_passes test many given hand parcel e le pass =
      all_at test given parcel [] (all_fewer test (suc (length given)) many
      (given ++ (parcel ∷ []))
      (omega (arith, le, ap (λ h. length (option_to_list h)) e))
      (subst (λ h. AllFirst many test (given ++ option_to_list h)) e pass))

  -- In an actor's hand.
  hands_pass : (bound : ℕ) (actor : ℕ) (stages₀ stages : List (Stage State Stop))
      (links : List (List (Plain Load Stop))) (hands : List (Option (Plain Load Stop)))
      (c : Collector Total Stop) (taken back : List (Plain Load Stop))
      → Carried work first free Pass actor bound stages₀ stages links hands c taken back
      → length taken ≤ bound
      → (place number : ℕ) (parcel : Plain Load Stop)
      → slice_get hands place ≡ Some (Some parcel)
      → ((place < length stages) × (number ≡ suc (actor + place)))
      ⊎ ((place ≡ length stages) × (number ≡ 0))
      → passes number parcel ≡ true
  hands_pass bound actor (stage₀ ∷ stages₀) (stage ∷ stages) (link ∷ links) (hand ∷ hands) c taken
      back (given, received, runs, e, holds, result, chain) few zero number parcel held
      (inl (within, number_is)) =
      let number_next : number ≡ suc actor = omega (arith, number_is) in
      rw number_next (hand_passes (passes (suc actor)) bound given hand parcel
      (some_is hand (Some parcel) held) (omega (
        arith,
        few,
        taken_is work first free (Step work) stage₀ taken given hand stage runs,
      )) result)
  hands_pass bound actor (stage₀ ∷ stages₀) (stage ∷ stages) (link ∷ links) (hand ∷ hands) c taken
      back chain few zero number parcel held (inr (last, number_is)) =
      absurd (omega (arith, last))
  hands_pass bound actor (stage₀ ∷ stages₀) (stage ∷ stages) (link ∷ links) (hand ∷ hands) c taken
      back (given, received, runs, e, holds, result, chain) few (suc place) number parcel
      held where_is =
      let fewer : length received ≤ bound = omega (
        arith,
        few,
        taken_is work first free (Step work) stage₀ taken given hand stage runs,
        ap length e,
        length-append received link,
      ) in hands_pass bound (suc actor) stages₀ stages links hands c received back chain fewer place
      number parcel held (further where_is)
    where
      further : ((suc place < suc (length stages)) × (number ≡ suc (actor + suc place)))
          ⊎ ((suc place ≡ suc (length stages)) × (number ≡ 0))
          → ((place < length stages) × (number ≡ suc (suc actor + place)))
          ⊎ ((place ≡ length stages) × (number ≡ 0))
      further (inl (a, b)) = inl (omega (arith, a), omega (arith, b))
      further (inr (a, b)) = inr (omega (arith, a), b)
  hands_pass bound actor [] [] (link ∷ []) (hand ∷ []) c taken back chain few zero number parcel
      held (inl (within, other)) = absurd (omega (arith, within))
  hands_pass bound actor [] [] (link ∷ []) (hand ∷ []) c taken back
      (given, runs, e, holds, result) few zero number parcel held (inr (here, last)) =
      rw last (hand_passes (passes 0) (length free + bound) (free ++ given) hand parcel
      (some_is hand (Some parcel) held) (omega (
        arith,
        few,
        length-append free given,
        taken_is work first free (Collects work) first taken given hand c runs,
      )) (subst (AllFirst (length free + bound) (passes 0))
      (sym (append_assoc free given (option_to_list hand))) result))
  hands_pass bound actor [] [] (link ∷ []) (hand ∷ []) c taken back chain few (suc place) number
      parcel held where_is = absurd (none_not_some (Some parcel) held)
  hands_pass bound actor _ _ _ _ c taken back chain few place number parcel held where_is =
      absurd chain

module _ {State Load Stop Total : Type 0} (work : Work State Load Stop Total)
    (start : Start State Load Stop Total) (core : Core State Load Stop Total)
    (state : IsState work start core) (passes : ℕ → Plain Load Stop → Bool)
    (handed : AreHandedOn work start passes) where
  all_carried : (count : ℕ) → Carried work start.collector start.free (λ actor n parcels.
      AllFirst n (passes actor) parcels) 0 count start.stages core.stages core.links core.hands
      core.collector state.taken state.taken
  all_carried count = carried_round work start.collector start.free
      (λ actor n parcels. AllFirst n (passes actor) parcels)
      (λ actor n front others. all_shrink (passes actor) n front others)
      (λ actor n more parcels. all_fewer (passes actor) n more parcels)
      start.stages core.stages core.links core.hands core.collector state.taken
      (hand_on work start.collector start.free passes 0 start.stages handed.free
      (λ place number s₀ s n taken result e is runs pass.
      handed.by_stages number s₀ s n taken result
      (ap (slice_get start.stages) (e ∙ zero-add place) ∙ is) runs pass)
      (λ number c n taken result e runs pass.
      handed.by_collector c n taken result runs
      (subst (λ m. AllFirst n (passes m) taken) (e ∙ zero-add (length start.stages)) pass)))
      state.chain tt
      (omega (arith, state.begun.free_parcels, state.begun.some_stage)) count

  pub all_links_pass : (actor count : ℕ) (link : List (Plain Load Stop))
      → actor ≤ length core.stages
      → slice_get core.links (before (length core.stages) actor) ≡ Some link
      → AllFirst count (passes actor) link
  unfolding before
  all_links_pass zero count link le is = links_pass work start.collector start.free passes
      start.collector.rounds count 0 start.stages core.stages core.links core.hands core.collector
      state.taken state.taken (all_carried (start.collector.rounds + count))
      (taken_within_rounds work start core state) (taken_within_rounds work start core state)
      (length core.stages) 0 link is (inr (refl, refl))
  all_links_pass (suc actor) count link le is = links_pass work start.collector start.free passes
      start.collector.rounds count 0 start.stages core.stages core.links core.hands core.collector
      state.taken state.taken (all_carried (start.collector.rounds + count))
      (taken_within_rounds work start core state) (taken_within_rounds work start core state)
      actor (suc actor) link is (inl (omega (arith, le), omega arith))

  pub all_hands_pass : (actor : ℕ) (parcel : Plain Load Stop)
      → slice_get core.hands actor ≡ Some (Some parcel)
      → passes (after (length core.stages) actor) parcel ≡ true
  unfolding after
  all_hands_pass actor parcel held =
      hands_pass work start.collector start.free passes start.collector.rounds 0 start.stages
      core.stages core.links core.hands core.collector state.taken state.taken
      (all_carried start.collector.rounds) (taken_within_rounds work start core state) actor
      (cond (eqb actor (length core.stages)) 0 (suc actor)) parcel held (elim
      (cases_eq actor (length core.stages)) [
        | inl e ↦ inr (e, ap (λ t. cond t 0 (suc actor)) (eq-eqb actor (length core.stages) e))
        | inr ne ↦ inl (
          omega (
            arith,
            ne,
            slice_get_within core.hands actor (Some parcel) held,
            (lengths work start core state).2,
          ),
          ap (λ t. cond t 0 (suc actor)) (ne_eqb actor (length core.stages) ne)
              ∙ ap suc (sym (zero-add actor)),
        )
      ])
