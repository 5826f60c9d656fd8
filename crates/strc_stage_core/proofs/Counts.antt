-- How many parcels are where, and how many were taken.
use Rattle.std.proofs.Common.{◌≡◌, refl, sym, ap, ◌∙◌, ℕ, suc, ◌+◌, ◌*◌, ◌<◌, ◌≤◌, Bool, true}
use Rattle.std.proofs.Common.{false, List, [], ◌∷◌, ◌++◌, length, Option, Some, None}
use Rattle.std.proofs.Common.{option_to_list, arith, length-append, mul-suc}
use Rattle.strc_stage_core.specs.Actors.{Plain, Stage, Collector, Work, Step, Collects}
use Rattle.strc_stage_core.specs.States.{Runs, Start, Core, AreFresh, Chained, IsState}
use Rattle.strc_stage_core.specs.Events.{all_taken, in_hands, on_links, weight}
use Rattle.strc_stage_core.proofs.Runs.{runs_length}
use Rattle.strc_stage_core.proofs.Stages.{runs_taken, runs_rounds, runs_in_time, gathers_taken}

in_hands-cons : {A : Type 0} (hand : Option A) (hands : List (Option A))
    → in_hands (hand ∷ hands) ≡ length (option_to_list hand) + in_hands hands
in_hands-cons None hands = omega arith
in_hands-cons (Some x) hands = omega arith

module _ {State Load Stop Total : Type 0} (work : Work State Load Stop Total)
    (first : Collector Total Stop) (free : List (Plain Load Stop)) where
  -- The state's four lists are in step.
  pub chain_lengths : (stages₀ stages : List (Stage State Stop))
      (links : List (List (Plain Load Stop))) (hands : List (Option (Plain Load Stop)))
      (c : Collector Total Stop) (taken back : List (Plain Load Stop))
      → Chained work first free stages₀ stages links hands c taken back
      → (length stages ≡ length stages₀) × (length links ≡ suc (length stages))
      × (length hands ≡ suc (length stages))
  chain_lengths (stage₀ ∷ stages₀) (stage ∷ stages) (link ∷ links) (hand ∷ hands) c taken back
      (given, received, runs, e, chain) =
      let (a, b, d) = chain_lengths stages₀ stages links hands c received back chain in
      (ap suc a, ap suc b, ap suc d)
  chain_lengths [] [] (link ∷ []) (hand ∷ []) c taken back chain = (refl, refl, refl)
  chain_lengths _ _ _ _ c taken back chain = absurd chain

  -- What an actor took is what it gave and holds.
  pub taken_is : {Actor : Type 0}
      (Does : Actor → Plain Load Stop → Actor → Plain Load Stop → Type 0) (a : Actor)
      (taken given : List (Plain Load Stop)) (hand : Option (Plain Load Stop))
      (b : Actor) → Runs Does a taken (given ++ option_to_list hand) b
      → length taken ≡ length given + length (option_to_list hand)
  taken_is Does a taken given hand b runs =
      runs_length Does a taken (given ++ option_to_list hand) b runs
      ∙ length-append given (option_to_list hand)

  -- No parcel is lost, none is made.
  pub weigh : (stages₀ stages : List (Stage State Stop))
      (links : List (List (Plain Load Stop))) (hands : List (Option (Plain Load Stop)))
      (c : Collector Total Stop) (taken back : List (Plain Load Stop))
      → Chained work first free stages₀ stages links hands c taken back
      → (on_links links + in_hands hands) + length back ≡ length taken + length free
  weigh (stage₀ ∷ stages₀) (stage ∷ stages) (link ∷ links) (hand ∷ hands) c taken back
      (given, received, runs, e, chain) = omega (
        arith,
        weigh stages₀ stages links hands c received back chain,
        in_hands-cons hand hands,
        taken_is (Step work) stage₀ taken given hand stage runs,
        ap length e,
        length-append received link,
      )
  weigh [] [] (link ∷ []) (hand ∷ []) c taken back (given, runs, e) = omega (
    arith,
    in_hands-cons hand [],
    taken_is (Collects work) first taken given hand c runs,
    ap length e,
    length-append free given,
    length-append back link,
  )
  weigh _ _ _ _ c taken back chain = absurd chain

  -- Each actor took at most as many as the first of them.
  pub takes_within : (bound : ℕ) (head : Bool) (rounds : ℕ) (done : Bool)
      (stages₀ stages : List (Stage State Stop)) (links : List (List (Plain Load Stop)))
      (hands : List (Option (Plain Load Stop))) (c : Collector Total Stop)
      (taken back : List (Plain Load Stop))
      → Chained work first free stages₀ stages links hands c taken back
      → AreFresh head rounds done stages₀ → first.taken ≡ 0 → length taken ≤ bound
      → all_taken stages c ≤ bound * suc (length stages)
  takes_within bound head rounds done (stage₀ ∷ stages₀) (stage ∷ stages) (link ∷ links)
      (hand ∷ hands) c taken back (given, received, runs, e, chain) (fresh, all_fresh) none
      few =
      let fewer : length received ≤ bound = omega (
        arith,
        few,
        taken_is (Step work) stage₀ taken given hand stage runs,
        ap length e,
        length-append received link,
      ) in omega (
        arith,
        takes_within bound false rounds done stages₀ stages links hands c received back chain
            all_fresh none fewer,
        runs_taken work stage₀ taken (given ++ option_to_list hand) stage runs,
        fresh.none_taken,
        few,
        mul-suc bound (suc (length stages)),
      )
  takes_within bound head rounds done [] [] (link ∷ []) (hand ∷ []) c taken back (given, runs, e)
      fresh none few =
      omega (
        arith,
        gathers_taken work first taken (given ++ option_to_list hand) c runs,
        none,
        few,
      )
  takes_within bound head rounds done _ _ _ _ c taken back chain fresh none few = absurd chain

  -- Each held parcel was taken.
  pub hands_within : (stages₀ stages : List (Stage State Stop))
      (links : List (List (Plain Load Stop))) (hands : List (Option (Plain Load Stop)))
      (c : Collector Total Stop) (taken back : List (Plain Load Stop))
      → Chained work first free stages₀ stages links hands c taken back
      → in_hands hands ≤ all_taken stages c
  hands_within (stage₀ ∷ stages₀) (stage ∷ stages) (link ∷ links) (hand ∷ hands)
      c taken back (given, received, runs, e, chain) = omega (
        arith,
        hands_within stages₀ stages links hands c received back chain,
        in_hands-cons hand hands,
        taken_is (Step work) stage₀ taken given hand stage runs,
        runs_taken work stage₀ taken (given ++ option_to_list hand) stage runs,
      )
  hands_within [] [] (link ∷ []) (hand ∷ []) c taken back (given, runs, e) =
      omega (
        arith,
        in_hands-cons hand [],
        taken_is (Collects work) first taken given hand c runs,
        gathers_taken work first taken (given ++ option_to_list hand) c runs,
      )
  hands_within _ _ _ _ c taken back chain = absurd chain

module _ {State Load Stop Total : Type 0} (work : Work State Load Stop Total) where
  -- The first stage takes at most a parcel for each round.
  head_in_time : (first : Collector Total Stop) (free : List (Plain Load Stop)) (rounds : ℕ)
      (done : Bool) (stages₀ stages : List (Stage State Stop))
      (links : List (List (Plain Load Stop))) (hands : List (Option (Plain Load Stop)))
      (c : Collector Total Stop) (taken back : List (Plain Load Stop))
      → Chained work first free stages₀ stages links hands c taken back
      → AreFresh true rounds done stages₀ → (done ≡ false → 0 < rounds) → 0 < length stages₀
      → length taken ≤ rounds
  head_in_time first free rounds done (stage₀ ∷ stages₀) (stage ∷ stages) (link ∷ links)
      (hand ∷ hands) c taken back (given, received, runs, e, chain) (fresh, all_fresh) goes
      some =
      let time = runs_in_time work stage₀ taken (given ++ option_to_list hand) stage
      fresh.first_is (record {
        within = omega (arith, fresh.none_taken);
        left = λ going. omega (
          arith,
          fresh.none_taken,
          fresh.rounds_are,
          goes (sym fresh.finished_is ∙ going),
        );
      }) runs in omega (
        arith,
        time.within,
        runs_taken work stage₀ taken (given ++ option_to_list hand) stage runs,
        runs_rounds work stage₀ taken (given ++ option_to_list hand) stage runs,
        fresh.none_taken,
        fresh.rounds_are,
      )
  head_in_time first free rounds done [] [] (link ∷ []) (hand ∷ []) c taken back chain fresh goes
      some = absurd (omega (arith, some))
  head_in_time first free rounds done _ _ _ _ c taken back chain fresh goes some = absurd chain

  module _ (start : Start State Load Stop Total) (core : Core State Load Stop Total)
      (state : IsState work start core) where
    pub lengths : (length core.stages ≡ length start.stages)
        × (length core.links ≡ suc (length core.stages))
        × (length core.hands ≡ suc (length core.stages))
    lengths = chain_lengths work start.collector start.free start.stages core.stages core.links
        core.hands core.collector state.taken state.taken state.chain

    pub taken_within_rounds : length state.taken ≤ start.collector.rounds
    taken_within_rounds = head_in_time start.collector start.free start.collector.rounds start.done
        start.stages core.stages core.links core.hands core.collector state.taken state.taken
        state.chain state.begun.fresh state.begun.goes state.begun.some_stage

    pub hands_within_takes : in_hands core.hands ≤ all_taken core.stages core.collector
    hands_within_takes = hands_within work start.collector start.free start.stages core.stages
        core.links core.hands core.collector state.taken state.taken state.chain

    -- All parcels are the free ones that there were at first.
    pub weight-state : weight core ≡ 2 * length core.stages
    unfolding weight
    weight-state = omega (
      arith,
      weigh work start.collector start.free start.stages core.stages core.links core.hands
          core.collector state.taken state.taken state.chain,
      state.begun.free_parcels,
      lengths.0,
    )
