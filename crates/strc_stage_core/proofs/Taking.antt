-- An actor that may take a parcel has not finished, and has rounds left.
use Rattle.std.proofs.Common.{◌≡◌, refl, sym, ap, ◌∙◌, ℕ, zero, suc, ◌<◌, ◌≤◌, Bool, true, false}
use Rattle.std.proofs.Common.{not, ◌&&◌, List, [], ◌∷◌, ◌++◌, length, Option, Some, None, slice_get}
use Rattle.std.proofs.Common.{option_to_list, arith, length-append, true≢false}
use Rattle.std.proofs.lemmas.Bool.{and_parts}
use Rattle.strc_stage_core.specs.Actors.{Plain, Stage, Collector, Work, Step}
use Rattle.strc_stage_core.specs.States.{Start, Core, AreFresh, Chained, IsState}
use Rattle.strc_stage_core.specs.Events.{Take, before, is_loaded, is_free, is_holding, is_finished}
use Rattle.strc_stage_core.specs.Events.{may}
use Rattle.strc_stage_core.specs.Events.{taken_by, HasRounds}
use Rattle.strc_stage_core.proofs.Runs.{some_is, none_not_some}
use Rattle.strc_stage_core.proofs.Stages.{runs_taken, runs_rounds, runs_in_time, gathers_taken}
use Rattle.strc_stage_core.proofs.Acts.{rounds_stay}
use Rattle.strc_stage_core.proofs.Counts.{taken_is, taken_within_rounds}

not_true : (b : Bool) → not b ≡ true → b ≡ false
not_true true e = sym e
not_true false e = refl

pub loaded_is : {A : Type 0} (o : Option (List A)) → is_loaded o ≡ true
    → (parcel : A) × (rest : List A) × (o ≡ Some (parcel ∷ rest))
loaded_is None e = absurd (true≢false (sym e))
loaded_is (Some []) e = absurd (true≢false (sym e))
loaded_is (Some (p ∷ rest)) e = (p, rest, refl)

pub free_is : {A : Type 0} (o : Option (Option A)) → is_free o ≡ true → o ≡ Some None
free_is None e = absurd (true≢false (sym e))
free_is (Some None) e = refl
free_is (Some (Some x)) e = absurd (true≢false (sym e))

pub holding_is : {A : Type 0} (o : Option (Option A)) → is_holding o ≡ true
    → (parcel : A) × (o ≡ Some (Some parcel))
holding_is None e = absurd (true≢false (sym e))
holding_is (Some None) e = absurd (true≢false (sym e))
holding_is (Some (Some x)) e = (x, refl)

module _ {State Stop Total : Type 0} where
  has_rounds : (actor : ℕ) (stages : List (Stage State Stop)) (c : Collector Total Stop)
      (rounds : ℕ) → is_finished actor stages c ≡ false → taken_by actor stages c < rounds
      → ((stage : Stage State Stop) → slice_get stages actor ≡ Some stage → stage.rounds ≡ rounds)
      → c.rounds ≡ rounds → HasRounds actor stages c
  has_rounds zero [] c rounds goes less stage_is collector_is =
      (goes, omega (arith, less, collector_is))
  has_rounds zero (stage ∷ stages) c rounds goes less stage_is collector_is =
      (goes, omega (arith, less, stage_is stage refl))
  has_rounds (suc actor) [] c rounds goes less stage_is collector_is = absurd (true≢false goes)
  has_rounds (suc actor) (stage ∷ stages) c rounds goes less stage_is collector_is =
      has_rounds actor stages c rounds goes less stage_is collector_is

module _ {State Load Stop Total : Type 0} where
  -- What an allowed take says.
  pub record MayTake (core : Core State Load Stop Total) (actor : ℕ) : Type 0 where
    pub goes : is_finished actor core.stages core.collector ≡ false
    pub free : slice_get core.hands actor ≡ Some None
    pub parcel : Plain Load Stop
    pub rest : List (Plain Load Stop)
    pub comes : slice_get core.links (before (length core.stages) actor) ≡ Some (parcel ∷ rest)

  pub may_take : (core : Core State Load Stop Total) (actor : ℕ) → may core (Take actor) ≡ true
      → MayTake core actor
  unfolding may
  may_take core actor e =
      let (goes, others) = and_parts (not (is_finished actor core.stages core.collector))
      (is_free (slice_get core.hands actor)
      && is_loaded (slice_get core.links (before (length core.stages) actor))) e in
      let (free, loaded) = and_parts (is_free (slice_get core.hands actor))
      (is_loaded (slice_get core.links (before (length core.stages) actor))) others in
      let (parcel, rest, is) = loaded_is
      (slice_get core.links (before (length core.stages) actor)) loaded in record {
        goes = not_true (is_finished actor core.stages core.collector) goes;
        free = free_is (slice_get core.hands actor) free;
        parcel = parcel;
        rest = rest;
        comes = is;
      }

module _ {State Load Stop Total : Type 0} (work : Work State Load Stop Total) where
  module _ (first : Collector Total Stop) (free : List (Plain Load Stop)) where
    pub head_taken : (head : Bool) (rounds : ℕ) (done : Bool)
        (stages₀ stages : List (Stage State Stop)) (links : List (List (Plain Load Stop)))
        (hands : List (Option (Plain Load Stop)))
        (c : Collector Total Stop) (taken back : List (Plain Load Stop))
        → Chained work first free stages₀ stages links hands c taken back
        → AreFresh head rounds done stages₀ → first.taken ≡ 0
        → taken_by 0 stages c ≡ length taken
    head_taken head rounds done (stage₀ ∷ stages₀) (stage ∷ stages) (link ∷ links) (hand ∷ hands) c
        taken back (given, received, runs, e, chain) (fresh, all_fresh) none = omega (
          arith,
          runs_taken work stage₀ taken (given ++ option_to_list hand) stage runs,
          fresh.none_taken,
        )
    head_taken head rounds done [] [] (link ∷ []) (hand ∷ []) c taken back (given, runs, e) fresh
        none = omega (
          arith,
          gathers_taken work first taken (given ++ option_to_list hand) c runs,
          none,
        )
    head_taken head rounds done _ _ _ _ c taken back chain fresh none = absurd chain

    each_within : (bound actor : ℕ) (head : Bool) (rounds : ℕ) (done : Bool)
        (stages₀ stages : List (Stage State Stop)) (links : List (List (Plain Load Stop)))
        (hands : List (Option (Plain Load Stop))) (c : Collector Total Stop)
        (taken back : List (Plain Load Stop))
        → Chained work first free stages₀ stages links hands c taken back
        → AreFresh head rounds done stages₀ → first.taken ≡ 0 → length taken ≤ bound
        → taken_by actor stages c ≤ bound
    each_within bound zero head rounds done stages₀ stages links hands c taken back chain fresh none
        few = omega (
          arith,
          few,
          head_taken head rounds done stages₀ stages links hands c taken back chain fresh none,
        )
    each_within bound (suc actor) head rounds done (stage₀ ∷ stages₀) (stage ∷ stages)
        (link ∷ links) (hand ∷ hands) c taken back (given, received, runs, e, chain)
        (fresh, all_fresh) none few =
        each_within bound actor false rounds done stages₀ stages links hands c received back chain
        all_fresh none (omega (
          arith,
          few,
          taken_is work first free (Step work) stage₀ taken given hand stage runs,
          ap length e,
          length-append received link,
        ))
    each_within bound (suc actor) head rounds done [] [] (link ∷ []) (hand ∷ []) c taken back chain
        fresh none few = omega arith
    each_within bound (suc actor) head rounds done _ _ _ _ c taken back chain fresh none few =
        absurd chain

    next_in_time : (bound : ℕ) (actor : ℕ) (head : Bool) (rounds : ℕ) (done : Bool)
        (stages₀ stages : List (Stage State Stop)) (links : List (List (Plain Load Stop)))
        (hands : List (Option (Plain Load Stop))) (c : Collector Total Stop)
        (taken back : List (Plain Load Stop)) (p : Plain Load Stop) (rest : List (Plain Load Stop))
        → Chained work first free stages₀ stages links hands c taken back
        → AreFresh head rounds done stages₀ → first.taken ≡ 0 → length taken ≤ bound
        → slice_get links actor ≡ Some (p ∷ rest) → is_finished (suc actor) stages c ≡ false
        → taken_by (suc actor) stages c < bound
    next_in_time bound zero head rounds done (stage₀ ∷ stages₀) (stage ∷ stages) (link ∷ links)
        (hand ∷ hands) c taken back p rest (given, received, runs, e, chain)
        (fresh, all_fresh) none few comes going = omega (
          arith,
          few,
          taken_is work first free (Step work) stage₀ taken given hand stage runs,
          ap length e,
          length-append received link,
          ap length (some_is link (p ∷ rest) comes),
          head_taken false rounds done stages₀ stages links hands c received back chain all_fresh
              none,
        )
    next_in_time bound (suc actor) head rounds done (stage₀ ∷ stages₀) (stage ∷ stages)
        (link ∷ links) (hand ∷ hands) c taken back p rest (given, received, runs, e, chain)
        (fresh, all_fresh) none few comes going =
        let fewer : length received ≤ bound = omega (
          arith,
          few,
          taken_is work first free (Step work) stage₀ taken given hand stage runs,
          ap length e,
          length-append received link,
        ) in next_in_time bound actor false rounds done stages₀ stages links hands c received back p
        rest chain all_fresh none fewer comes going
    next_in_time bound actor head rounds done [] [] (link ∷ []) (hand ∷ []) c taken back p rest
        chain fresh none few comes going = absurd (true≢false going)
    next_in_time bound actor head rounds done _ _ _ _ c taken back p rest chain fresh none few comes
        going = absurd chain

    -- All stages have the rounds that they began with.
    stage_rounds : (actor : ℕ) (head : Bool) (rounds : ℕ) (done : Bool)
        (stages₀ stages : List (Stage State Stop)) (links : List (List (Plain Load Stop)))
        (hands : List (Option (Plain Load Stop))) (c : Collector Total Stop)
        (taken back : List (Plain Load Stop)) (stage : Stage State Stop)
        → Chained work first free stages₀ stages links hands c taken back
        → AreFresh head rounds done stages₀ → slice_get stages actor ≡ Some stage
        → stage.rounds ≡ rounds
    stage_rounds zero head rounds done (stage₀ ∷ stages₀) (s ∷ stages) (link ∷ links) (hand ∷ hands)
        c taken back stage (given, received, runs, e, chain) (fresh, all_fresh) is =
        ap (λ x. x.rounds) (sym (some_is s stage is))
        ∙ runs_rounds work stage₀ taken (given ++ option_to_list hand) s runs ∙ fresh.rounds_are
    stage_rounds (suc actor) head rounds done (stage₀ ∷ stages₀) (s ∷ stages) (link ∷ links)
        (hand ∷ hands) c taken back stage (given, received, runs, e, chain) (fresh, all_fresh)
        is = stage_rounds actor false rounds done stages₀ stages links hands c received back stage
        chain all_fresh is
    stage_rounds actor head rounds done [] [] (link ∷ []) (hand ∷ []) c taken back stage chain fresh
        is = absurd (none_not_some stage is)
    stage_rounds actor head rounds done _ _ _ _ c taken back stage chain fresh is = absurd chain

    first_in_time : (rounds : ℕ) (done : Bool) (stages₀ stages : List (Stage State Stop))
        (links : List (List (Plain Load Stop))) (hands : List (Option (Plain Load Stop)))
        (c : Collector Total Stop) (taken back : List (Plain Load Stop))
        → Chained work first free stages₀ stages links hands c taken back
        → AreFresh true rounds done stages₀ → (done ≡ false → 0 < rounds) → 0 < length stages₀
        → is_finished 0 stages c ≡ false → taken_by 0 stages c < rounds
    first_in_time rounds done (stage₀ ∷ stages₀) (stage ∷ stages) (link ∷ links) (hand ∷ hands) c
        taken back (given, received, runs, e, chain) (fresh, all_fresh) goes some going =
        let time = runs_in_time work stage₀ taken (given ++ option_to_list hand) stage
        fresh.first_is (record {
          within = omega (arith, fresh.none_taken);
          left = λ unfinished. omega (
            arith,
            fresh.none_taken,
            fresh.rounds_are,
            goes (sym fresh.finished_is ∙ unfinished),
          );
        }) runs in omega (
          arith,
          time.left going,
          runs_rounds work stage₀ taken (given ++ option_to_list hand) stage runs,
          fresh.rounds_are,
        )
    first_in_time rounds done [] [] (link ∷ []) (hand ∷ []) c taken back chain fresh goes some
        going = absurd (omega (arith, some))
    first_in_time rounds done _ _ _ _ c taken back chain fresh goes some going = absurd chain

  module _ (start : Start State Load Stop Total) (core : Core State Load Stop Total)
      (state : IsState work start core) where
    pub stage_rounds_are : (actor : ℕ) (stage : Stage State Stop)
        → slice_get core.stages actor ≡ Some stage → stage.rounds ≡ start.collector.rounds
    stage_rounds_are actor stage is = stage_rounds start.collector start.free actor true
        start.collector.rounds start.done start.stages core.stages core.links core.hands
        core.collector state.taken state.taken stage state.chain state.begun.fresh is

    pub each_within_rounds : (actor : ℕ)
        → taken_by actor core.stages core.collector ≤ start.collector.rounds
    each_within_rounds actor = each_within start.collector start.free start.collector.rounds actor
        true start.collector.rounds start.done start.stages core.stages core.links core.hands
        core.collector state.taken state.taken state.chain state.begun.fresh state.begun.none_taken
        (taken_within_rounds work start core state)

    pub taker_in_time : (actor : ℕ) → may core (Take actor) ≡ true
        → taken_by actor core.stages core.collector < start.collector.rounds
    unfolding before
    taker_in_time zero allowed = first_in_time start.collector start.free start.collector.rounds
        start.done start.stages core.stages core.links core.hands core.collector state.taken
        state.taken state.chain state.begun.fresh state.begun.goes state.begun.some_stage
        (may_take core 0 allowed).goes
    taker_in_time (suc actor) allowed =
        let take = may_take core (suc actor) allowed in
        next_in_time start.collector start.free start.collector.rounds actor true
        start.collector.rounds start.done start.stages core.stages core.links core.hands
        core.collector state.taken state.taken take.parcel take.rest state.chain
        state.begun.fresh state.begun.none_taken (taken_within_rounds work start core state)
        take.comes take.goes

    pub taker_has_rounds : (actor : ℕ) → may core (Take actor) ≡ true
        → HasRounds actor core.stages core.collector
    taker_has_rounds actor allowed = has_rounds actor core.stages core.collector
        start.collector.rounds (may_take core actor allowed).goes (taker_in_time actor allowed)
        (stage_rounds_are actor) (rounds_stay work start core state)
