-- Each event takes a state to a state.
use Rattle.std.proofs.Common.{◌≡◌, sym, ap, ◌∙◌, ℕ, zero, suc, List, [], ◌∷◌, ◌++◌, length, Option}
use Rattle.std.proofs.Common.{Some, None, slice_get, set, append_assoc}
use Rattle.strc_stage_core.specs.Actors.{Plain, Stage, Collector, Work, Step, Collects}
use Rattle.strc_stage_core.specs.States.{Start, Core, Chained, IsState}
use Rattle.strc_stage_core.specs.Events.{Event, Take, Give, before, Does, Takes, Gives, Happens}
use Rattle.strc_stage_core.proofs.Runs.{some_is, holding_not_free, none_not_some, runs_take}
use Rattle.strc_stage_core.proofs.Runs.{runs_give}

module _ {State Load Stop Total : Type 0} (work : Work State Load Stop Total) where
  pub does_length : (actor : ℕ) (stages : List (Stage State Stop)) (c : Collector Total Stop)
      (p : Plain Load Stop) (stages' : List (Stage State Stop)) (c' : Collector Total Stop)
      (q : Plain Load Stop) → Does work actor stages c p stages' c' q
      → length stages' ≡ length stages
  does_length zero [] c p stages' c' q (does, e) = ap length e
  does_length zero (stage ∷ stages) c p stages' c' q (later, step, e, same) = ap length e
  does_length (suc actor) [] c p stages' c' q does = absurd does
  does_length (suc actor) (stage ∷ stages) c p stages' c' q (later, e, does) =
      ap length e ∙ ap suc (does_length actor stages c p later c' q does)

  module _ (first : Collector Total Stop) (free : List (Plain Load Stop)) where
    -- The first of these actors takes a parcel, wherever it comes from.
    pub take_first : (stages₀ stages : List (Stage State Stop))
        (links : List (List (Plain Load Stop))) (hands : List (Option (Plain Load Stop)))
        (c : Collector Total Stop) (taken back : List (Plain Load Stop))
        (stages' : List (Stage State Stop)) (c' : Collector Total Stop) (p q : Plain Load Stop)
        → Chained work first free stages₀ stages links hands c taken back
        → slice_get hands 0 ≡ Some None
        → Does work 0 stages c p stages' c' q
        → Chained work first free stages₀ stages' links (set hands 0 (Some q)) c'
        (taken ++ (p ∷ [])) back
    take_first (stage₀ ∷ stages₀) (stage ∷ stages) (link ∷ links) (None ∷ hands) c taken back
        stages' c' p q (given, received, runs, e, chain) free_hand
        (later, step, stages_are, c_is) =
        rw (stages_are, c_is) (
          given,
          received,
          runs_take (Step work) stage₀ taken given stage later p q runs step,
          e,
          chain,
        )
    take_first (stage₀ ∷ stages₀) (stage ∷ stages) (link ∷ links) (Some x ∷ hands) c taken back
        stages' c' p q chain free_hand does = absurd (holding_not_free x free_hand)
    take_first [] [] (link ∷ []) (None ∷ []) c taken back stages' c' p q
        (given, runs, e) free_hand (collects, stages_are) =
        rw stages_are (given, runs_take (Collects work) first taken given c c' p q runs collects, e)
    take_first [] [] (link ∷ []) (Some x ∷ []) c taken back stages' c' p q chain free_hand does =
        absurd (holding_not_free x free_hand)
    take_first _ _ _ _ c taken back stages' c' p q chain free_hand does = absurd chain

    -- A parcel goes from the last link.
    pub take_back : (stages₀ stages : List (Stage State Stop))
        (links : List (List (Plain Load Stop))) (hands : List (Option (Plain Load Stop)))
        (c : Collector Total Stop) (taken back : List (Plain Load Stop)) (p : Plain Load Stop)
        (rest : List (Plain Load Stop))
        → Chained work first free stages₀ stages links hands c taken back
        → slice_get links (length stages) ≡ Some (p ∷ rest)
        → Chained work first free stages₀ stages (set links (length stages) rest) hands c taken
        (back ++ (p ∷ []))
    take_back (stage₀ ∷ stages₀) (stage ∷ stages) (link ∷ links) (hand ∷ hands) c taken back p rest
        (given, received, runs, e, chain) comes = (
          given,
          received,
          runs,
          e,
          take_back stages₀ stages links hands c received back p rest chain comes,
        )
    take_back [] [] (link ∷ []) (hand ∷ []) c taken back p rest (given, runs, e) comes = (
      given,
      runs,
      e ∙ ap (λ (l : List (Plain Load Stop)). back ++ l)
          (some_is link (p ∷ rest) comes) ∙ sym (append_assoc back (p ∷ []) rest),
    )
    take_back _ _ _ _ c taken back p rest chain comes = absurd chain

    -- An actor past the first takes from the link before it.
    pub take_next : (actor : ℕ) (stages₀ stages : List (Stage State Stop))
        (links : List (List (Plain Load Stop))) (hands : List (Option (Plain Load Stop)))
        (c : Collector Total Stop) (taken back : List (Plain Load Stop))
        (stages' : List (Stage State Stop)) (c' : Collector Total Stop) (p q : Plain Load Stop)
        (rest : List (Plain Load Stop))
        → Chained work first free stages₀ stages links hands c taken back
        → slice_get links actor ≡ Some (p ∷ rest)
        → slice_get hands (suc actor) ≡ Some None
        → Does work (suc actor) stages c p stages' c' q
        → Chained work first free stages₀ stages' (set links actor rest)
        (set hands (suc actor) (Some q)) c' taken back
    take_next zero (stage₀ ∷ stages₀) (stage ∷ stages) (link ∷ links) (hand ∷ hands) c taken back
        stages' c' p q rest (given, received, runs, e, chain) comes free_hand
        (later, stages_are, does) =
        rw stages_are (
          given,
          received ++ (p ∷ []),
          runs,
          e ∙ ap (λ (l : List (Plain Load Stop)). received ++ l) (some_is link (p ∷ rest) comes)
              ∙ sym (append_assoc received (p ∷ []) rest),
          take_first stages₀ stages links hands c received back later c' p q chain free_hand does,
        )
    take_next (suc actor) (stage₀ ∷ stages₀) (stage ∷ stages) (link ∷ links) (hand ∷ hands) c taken
        back stages' c' p q rest (given, received, runs, e, chain) comes free_hand
        (later, stages_are, does) =
        rw stages_are (
          given,
          received,
          runs,
          e,
          take_next actor stages₀ stages links hands c received back later c' p q rest chain comes
              free_hand does,
        )
    take_next actor [] [] (link ∷ []) (hand ∷ []) c taken back stages' c' p q rest chain comes
        free_hand does = absurd does
    take_next actor _ _ _ _ c taken back stages' c' p q rest chain comes free_hand does =
        absurd chain

    -- An actor gives what it holds.
    pub give_at : (actor : ℕ) (stages₀ stages : List (Stage State Stop))
        (links : List (List (Plain Load Stop))) (hands : List (Option (Plain Load Stop)))
        (c : Collector Total Stop) (taken back : List (Plain Load Stop)) (p : Plain Load Stop)
        (queue : List (Plain Load Stop))
        → Chained work first free stages₀ stages links hands c taken back
        → slice_get hands actor ≡ Some (Some p)
        → slice_get links actor ≡ Some queue
        → Chained work first free stages₀ stages (set links actor (queue ++ (p ∷ [])))
        (set hands actor None) c taken back
    give_at zero (stage₀ ∷ stages₀) (stage ∷ stages) (link ∷ links) (None ∷ hands) c taken back p
        queue chain held is = absurd (holding_not_free p (sym held))
    give_at zero (stage₀ ∷ stages₀) (stage ∷ stages) (link ∷ links) (Some x ∷ hands) c taken back p
        queue (given, received, runs, e, chain) held is =
        rw (← (some_is x p (some_is (Some x) (Some p) held)), ← (some_is link queue is)) (
          given ++ (x ∷ []),
          received,
          runs_give (Step work) stage₀ taken given stage x runs,
          ap (λ (l : List (Plain Load Stop)). l ++ (x ∷ [])) e
              ∙ append_assoc received link (x ∷ []),
          chain,
        )
    give_at (suc actor) (stage₀ ∷ stages₀) (stage ∷ stages) (link ∷ links) (hand ∷ hands) c taken
        back p queue (given, received, runs, e, chain) held is = (
          given,
          received,
          runs,
          e,
          give_at actor stages₀ stages links hands c received back p queue chain held is,
        )
    give_at zero [] [] (link ∷ []) (None ∷ []) c taken back p queue chain held is =
        absurd (holding_not_free p (sym held))
    give_at zero [] [] (link ∷ []) (Some x ∷ []) c taken back p queue (given, runs, e) held is =
        rw (← (some_is x p (some_is (Some x) (Some p) held)), ← (some_is link queue is)) (
          given ++ (x ∷ []),
          runs_give (Collects work) first taken given c x runs,
          sym (append_assoc free given (x ∷ []))
              ∙ ap (λ (l : List (Plain Load Stop)). l ++ (x ∷ [])) e
              ∙ append_assoc back link (x ∷ []),
        )
    give_at (suc actor) [] [] (link ∷ []) (hand ∷ []) c taken back p queue chain held is =
        absurd (none_not_some (Some p) held)
    give_at actor _ _ _ _ c taken back p queue chain held is = absurd chain

  takes_state : (start : Start State Load Stop Total) (old : Core State Load Stop Total)
      (actor : ℕ) (new : Core State Load Stop Total) → IsState work start old
      → Takes work old actor new → IsState work start new
  unfolding before
  takes_state start old zero new state takes = record {
    begun = state.begun;
    taken = state.taken ++ (takes.parcel ∷ []);
    chain = rw (takes.links_are, takes.hands_are) (
        take_first start.collector start.free start.stages old.stages
        (set old.links (length old.stages) takes.rest) old.hands old.collector state.taken
        (state.taken ++ (takes.parcel ∷ [])) new.stages new.collector takes.parcel takes.result
        (take_back start.collector start.free start.stages old.stages old.links old.hands
        old.collector state.taken state.taken takes.parcel takes.rest state.chain takes.comes)
        takes.free takes.does
        );
  }
  takes_state start old (suc actor) new state takes = record {
    begun = state.begun;
    taken = state.taken;
    chain = rw (takes.links_are, takes.hands_are) (
        take_next start.collector start.free actor start.stages old.stages old.links old.hands
        old.collector state.taken state.taken new.stages new.collector takes.parcel takes.result
        takes.rest state.chain takes.comes takes.free takes.does
        );
  }

  gives_state : (start : Start State Load Stop Total) (old : Core State Load Stop Total)
      (actor : ℕ) (new : Core State Load Stop Total) → IsState work start old
      → Gives old actor new → IsState work start new
  gives_state start old actor new state gives = record {
    begun = state.begun;
    taken = state.taken;
    chain = rw (gives.links_are, gives.hands_are, gives.stages_are, gives.collector_is) (
        give_at start.collector start.free actor start.stages old.stages old.links old.hands
        old.collector state.taken state.taken gives.parcel gives.queue state.chain gives.held
        gives.link_is
        );
  }

  pub state_after : (start : Start State Load Stop Total) (old : Core State Load Stop Total)
      (event : Event) (new : Core State Load Stop Total) → IsState work start old
      → Happens work old event new → IsState work start new
  state_after start old (Take actor) new state happens =
      takes_state start old actor new state happens
  state_after start old (Give actor) new state happens =
      gives_state start old actor new state happens
