-- The number of events that have been: it grows by one, up to a bound.
use Rattle.std.proofs.Common.{◌≡◌, refl, sym, ap, ◌∙◌, subst, ℕ, zero, suc, ◌+◌, ◌*◌, ◌<◌, ◌≤◌}
use Rattle.std.proofs.Common.{true, List, [], ◌∷◌, ◌++◌, length, Option, Some, None, slice_get, set}
use Rattle.std.proofs.Common.{option_to_list, arith, mul_assoc}
use Rattle.strc_stage_core.specs.Actors.{Plain, Stage, Collector, Work}
use Rattle.strc_stage_core.specs.States.{Start, Core, Chained, IsState}
use Rattle.strc_stage_core.specs.Events.{Event, Take, Give, all_taken, in_hands, acts, most_acts}
use Rattle.strc_stage_core.specs.Events.{Happen}
use Rattle.strc_stage_core.specs.Events.{Does, Happens, on_links, weight}
use Rattle.strc_stage_core.proofs.Runs.{some_is, holding_not_free, none_not_some}
use Rattle.strc_stage_core.proofs.Steps.{stepped, gathers}
use Rattle.strc_stage_core.proofs.Events.{state_after}
use Rattle.strc_stage_core.proofs.Stages.{gathers_rounds}
use Rattle.strc_stage_core.proofs.Counts.{takes_within, taken_within_rounds, hands_within_takes}
use Rattle.strc_stage_core.proofs.Counts.{lengths}
use Rattle.strc_stage_core.proofs.Counts.{weight-state}

in_hands-taking : {A : Type 0} (hands : List (Option A)) (actor : ℕ) (q : A)
    → slice_get hands actor ≡ Some None → in_hands (set hands actor (Some q)) ≡ suc (in_hands hands)
in_hands-taking [] actor q free = absurd (none_not_some None free)
in_hands-taking (None ∷ hands) zero q free = refl
in_hands-taking (Some x ∷ hands) zero q free = absurd (holding_not_free x free)
in_hands-taking (None ∷ hands) (suc actor) q free = in_hands-taking hands actor q free
in_hands-taking (Some x ∷ hands) (suc actor) q free = ap suc (in_hands-taking hands actor q free)

in_hands-giving : {A : Type 0} (hands : List (Option A)) (actor : ℕ) (p : A)
    → slice_get hands actor ≡ Some (Some p) → suc (in_hands (set hands actor None)) ≡ in_hands hands
in_hands-giving [] actor p held = absurd (none_not_some (Some p) held)
in_hands-giving (None ∷ hands) zero p held = absurd (holding_not_free p (sym held))
in_hands-giving (Some x ∷ hands) zero p held = refl
in_hands-giving (None ∷ hands) (suc actor) p held = in_hands-giving hands actor p held
in_hands-giving (Some x ∷ hands) (suc actor) p held = ap suc (in_hands-giving hands actor p held)

-- What a link holds, and the hand beside it, are part of the whole.
link_within : {A : Type 0} (links : List (List A)) (actor : ℕ) (link : List A)
    → slice_get links actor ≡ Some link → length link ≤ on_links links
link_within [] actor link is = absurd (none_not_some link is)
link_within (l ∷ links) zero link is = omega (arith, ap length (some_is l link is))
link_within (l ∷ links) (suc actor) link is = omega (arith, link_within links actor link is)

module _ {State Load Stop Total : Type 0} (work : Work State Load Stop Total) where
  does_takes : (actor : ℕ) (stages : List (Stage State Stop)) (c : Collector Total Stop)
      (p : Plain Load Stop) (stages' : List (Stage State Stop)) (c' : Collector Total Stop)
      (q : Plain Load Stop) → Does work actor stages c p stages' c' q
      → all_taken stages' c' ≡ suc (all_taken stages c)
  does_takes zero [] c p stages' c' q (does, e) = rw e (gathers work c p c' q does).taken
  does_takes zero (stage ∷ stages) c p stages' c' q (later, step, e, same) =
      rw (e, same) (omega (arith, (stepped work stage p later q step).taken))
  does_takes (suc actor) [] c p stages' c' q does = absurd does
  does_takes (suc actor) (stage ∷ stages) c p stages' c' q (later, e, does) =
      rw e (omega (arith, does_takes actor stages c p later c' q does))

  last_rounds : (first : Collector Total Stop) (free : List (Plain Load Stop))
      (stages₀ stages : List (Stage State Stop)) (links : List (List (Plain Load Stop)))
      (hands : List (Option (Plain Load Stop))) (c : Collector Total Stop)
      (taken back : List (Plain Load Stop))
      → Chained work first free stages₀ stages links hands c taken back → c.rounds ≡ first.rounds
  last_rounds first free (stage₀ ∷ stages₀) (stage ∷ stages) (link ∷ links) (hand ∷ hands) c taken
      back (given, received, runs, e, chain) =
      last_rounds first free stages₀ stages links hands c received back chain
  last_rounds first free [] [] (link ∷ []) (hand ∷ []) c taken back (given, runs, e) =
      gathers_rounds work first taken (given ++ option_to_list hand) c runs
  last_rounds first free _ _ _ _ c taken back chain = absurd chain

  module _ (start : Start State Load Stop Total) (core : Core State Load Stop Total)
      (state : IsState work start core) where
    pub rounds_stay : core.collector.rounds ≡ start.collector.rounds
    rounds_stay = last_rounds start.collector start.free start.stages core.stages core.links
        core.hands core.collector state.taken state.taken state.chain

    pub acts_within : acts core ≤ most_acts core
    unfolding acts most_acts
    acts_within = omega (
      arith,
      takes_within work start.collector start.free core.collector.rounds true
          start.collector.rounds start.done start.stages core.stages core.links core.hands
          core.collector state.taken state.taken state.chain state.begun.fresh
          state.begun.none_taken
          (omega (arith, taken_within_rounds work start core state, rounds_stay)),
      mul_assoc 2 core.collector.rounds (suc (length core.stages)),
    )

    -- The bound is the same in every state of one start.
    pub most_acts-state : most_acts core
        ≡ 2 * start.collector.rounds * suc (length start.stages)
    unfolding most_acts
    most_acts-state = ap (λ r. 2 * r * suc (length core.stages)) rounds_stay
        ∙ ap (λ n. 2 * start.collector.rounds * suc n) (lengths work start core state).0

    -- No link has more than all parcels.
    pub link_has_room : (actor : ℕ) (link : List (Plain Load Stop))
        → slice_get core.links actor ≡ Some link → length link ≤ 2 * length core.stages
    unfolding weight
    link_has_room actor link is = omega (
      arith,
      weight-state work start core state,
      link_within core.links actor link is,
    )

    -- The link after an actor that holds a parcel has room for one more of them all.
    pub room_is_left : (actor : ℕ) (parcel : Plain Load Stop) (link : List (Plain Load Stop))
        → slice_get core.hands actor ≡ Some (Some parcel) → slice_get core.links actor ≡ Some link
        → length link < 2 * length core.stages
    unfolding weight
    room_is_left actor parcel link held is = omega (
      arith,
      weight-state work start core state,
      link_within core.links actor link is,
      in_hands-giving core.hands actor parcel held,
    )

    pub acts_grow : (event : Event) (new : Core State Load Stop Total)
        → Happens work core event new → acts new ≡ suc (acts core)
    unfolding acts
    acts_grow (Take actor) new happens = omega (
      arith,
      does_takes actor core.stages core.collector happens.parcel new.stages new.collector
          happens.result happens.does,
      ap in_hands happens.hands_are,
      in_hands-taking core.hands actor happens.result happens.free,
      hands_within_takes work start core state,
    )
    acts_grow (Give actor) new happens = omega (
      arith,
      ap (λ l. all_taken l new.collector) happens.stages_are,
      ap (all_taken core.stages) happens.collector_is,
      ap in_hands happens.hands_are,
      in_hands-giving core.hands actor happens.parcel happens.held,
      hands_within_takes work start core state,
    )

  -- Events one after another.
  pub happen_acts : (start : Start State Load Stop Total) (events : List Event)
      (old new : Core State Load Stop Total) → IsState work start old
      → Happen work old events new
      → IsState work start new × (acts new ≡ acts old + length events)
  happen_acts start [] old new state same =
      (subst (IsState work start) same state, omega (arith, ap acts same))
  happen_acts start (event ∷ events) old new state (between, happens, happen) =
      let (end, count) = happen_acts start events between new
      (state_after work start old event between state happens) happen in
      (end, omega (arith, count, acts_grow start old state event between happens))

  pub happen_within : (start : Start State Load Stop Total) (events : List Event)
      (old new : Core State Load Stop Total) → IsState work start old
      → Happen work old events new
      → length events ≤ 2 * start.collector.rounds * suc (length start.stages)
  happen_within start events old new state happen =
      let (end, count) = happen_acts start events old new state happen in
      omega (arith, count, acts_within start new end, most_acts-state start new end)
