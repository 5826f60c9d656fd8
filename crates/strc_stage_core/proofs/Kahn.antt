-- Kahn's principle on a ring: a property of the first so many parcels that come to an actor, which
-- each actor hands on, holds in every state of as many as you like.
use Rattle.std.proofs.Common.{◌≡◌, sym, subst, ℕ, zero, suc, ◌+◌, ◌<◌, ◌≤◌, List, [], ◌∷◌, ◌++◌}
use Rattle.std.proofs.Common.{length, Option, option_to_list, arith, append_assoc}
use Rattle.strc_stage_core.specs.Actors.{Plain, Stage, Collector, Work, Step, Collects}
use Rattle.strc_stage_core.specs.States.{Runs, Chained}

module _ {State Load Stop Total : Type 0} (work : Work State Load Stop Total)
    (first : Collector Total Stop) (free : List (Plain Load Stop))
    -- of the first so many that come to an actor; those on the last link come to actor 0
    (Holds : ℕ → ℕ → List (Plain Load Stop) → Type 0)
  where
    -- A state in which the property holds of what each actor took, and of what it gave and holds.
    abbrev pub Carried : ℕ → ℕ → List (Stage State Stop) → List (Stage State Stop)
        → List (List (Plain Load Stop)) → List (Option (Plain Load Stop)) → Collector Total Stop
        → List (Plain Load Stop) → List (Plain Load Stop) → Type 0
    Carried actor count (stage₀ ∷ stages₀) (stage ∷ stages) (link ∷ links) (hand ∷ hands) collector
        taken back =
        (given : List (Plain Load Stop)) × (received : List (Plain Load Stop))
        × Runs (Step work) stage₀ taken (given ++ option_to_list hand) stage
        × (given ≡ received ++ link)
        × Holds actor count taken
        × Holds (suc actor) count (given ++ option_to_list hand)
        × Carried (suc actor) count stages₀ stages links hands collector received back
    Carried actor count [] [] (link ∷ []) (hand ∷ []) collector taken back =
        (given : List (Plain Load Stop))
        × Runs (Collects work) first taken (given ++ option_to_list hand) collector
        × (free ++ given ≡ back ++ link)
        × Holds actor count taken
        × Holds 0 (length free + count) (free ++ (given ++ option_to_list hand))
    Carried actor count _ _ _ _ collector taken back = ⊥

    -- What each actor does with the property, from this one on.
    abbrev pub HandOn : ℕ → List (Stage State Stop) → Type 0
    HandOn actor [] = (count : ℕ) (taken result : List (Plain Load Stop))
        (collector : Collector Total Stop) → Runs (Collects work) first taken result collector
        → Holds actor count taken → Holds 0 (length free + count) (free ++ result)
    HandOn actor (stage₀ ∷ stages₀) =
        ((count : ℕ) (taken result : List (Plain Load Stop)) (stage : Stage State Stop)
        → Runs (Step work) stage₀ taken result stage
        → Holds actor count taken → Holds (suc actor) count result)
        × HandOn (suc actor) stages₀

    module _ (shrinks : (actor count : ℕ) (front others : List (Plain Load Stop))
        → Holds actor count (front ++ others) → Holds actor count front) where
      pub chain_carried : (actor count : ℕ) (stages₀ stages : List (Stage State Stop))
          (links : List (List (Plain Load Stop))) (hands : List (Option (Plain Load Stop)))
          (c : Collector Total Stop) (taken back : List (Plain Load Stop)) → HandOn actor stages₀
          → Chained work first free stages₀ stages links hands c taken back
          → Holds actor count taken
          → Carried actor count stages₀ stages links hands c taken back
      chain_carried actor count (stage₀ ∷ stages₀) (stage ∷ stages) (link ∷ links) (hand ∷ hands) c
          taken
          back (here, further) (given, received, runs, e, chain) holds =
          let result : Holds (suc actor) count (given ++ option_to_list hand) =
          here count taken (given ++ option_to_list hand) stage runs holds in
          let next : Holds (suc actor) count received = shrinks (suc actor) count received link
          (subst (Holds (suc actor) count) e
          (shrinks (suc actor) count given (option_to_list hand) result)) in (
            given,
            received,
            runs,
            e,
            holds,
            result,
            chain_carried (suc actor) count stages₀ stages links hands c received back further
                chain next,
          )
      chain_carried actor count [] [] (link ∷ []) (hand ∷ []) c taken back on (given, runs, e)
          holds = (
            given,
            runs,
            e,
            holds,
            on count taken (given ++ option_to_list hand) c runs
                holds,
          )
      chain_carried actor count _ _ _ _ c taken back on chain holds = absurd chain

      -- So it holds of more of what came back.
      carried_back : (actor count : ℕ) (stages₀ stages : List (Stage State Stop))
          (links : List (List (Plain Load Stop))) (hands : List (Option (Plain Load Stop)))
          (c : Collector Total Stop) (taken back : List (Plain Load Stop))
          → Carried actor count stages₀ stages links hands c taken back
          → Holds 0 (length free + count) back
      carried_back actor count (stage₀ ∷ stages₀) (stage ∷ stages) (link ∷ links) (hand ∷ hands) c
          taken back (given, received, runs, e, holds, result, chain) =
          carried_back (suc actor) count stages₀ stages links hands c received back chain
      carried_back actor count [] [] (link ∷ []) (hand ∷ []) c taken back
          (given, runs, e, holds, result) =
          shrinks 0 (length free + count) back link (subst (Holds 0 (length free + count)) e
          (shrinks 0 (length free + count) (free ++ given) (option_to_list hand)
          (subst (Holds 0 (length free + count))
          (sym (append_assoc free given (option_to_list hand))) result)))
      carried_back actor count _ _ _ _ c taken back chain = absurd chain

      -- Turns of the ring.
      turns : ℕ → ℕ
      turns zero = 0
      turns (suc n) = length free + turns n

      turns_reach : (n : ℕ) → 0 < length free → n ≤ turns n
      unfolding turns
      turns_reach zero some = omega arith
      turns_reach (suc n) some = omega (arith, turns_reach n some)

      module _ (fewer : (actor count more : ℕ) (parcels : List (Plain Load Stop)) → count ≤ more
          → Holds actor more parcels → Holds actor count parcels)
          (stages₀ stages : List (Stage State Stop)) (links : List (List (Plain Load Stop)))
          (hands : List (Option (Plain Load Stop))) (c : Collector Total Stop)
          (taken : List (Plain Load Stop)) (on : HandOn 0 stages₀)
          (chain : Chained work first free stages₀ stages links hands c taken taken)
          (none : Holds 0 0 taken) where
        turned : (n : ℕ) → Holds 0 (turns n) taken
        unfolding turns
        turned zero = none
        turned (suc n) = carried_back 0 (turns n) stages₀ stages links hands c taken taken
            (chain_carried 0 (turns n) stages₀ stages links hands c taken taken on chain (turned n))

        -- Of as many as you like.
        pub carried_round : 0 < length free → (count : ℕ)
            → Carried 0 count stages₀ stages links hands c taken taken
        carried_round some count = chain_carried 0 count stages₀ stages links hands c taken taken on
            chain
            (fewer 0 count (turns count) taken (turns_reach count some) (turned count))
