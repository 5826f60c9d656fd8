-- The states of a ring of stages and a collector: which parcels are where.
use Rattle.std.specs.Prelude.{◌≡◌, ◌⊎◌, ℕ, ◌*◌, ◌<◌, Bool, true, false, List, [], ◌∷◌, ◌++◌, length}
use Rattle.std.specs.Prelude.{map, Option, None, IsSome, option_to_list}
use Rattle.strc_stage_core.specs.Actors.{Plain, Stage, Collector, Work, Step, Collects}

-- An actor that takes the first parcels, one by one, and makes the second ones of them.
abbrev pub Runs : {Actor Parcel : Type 0} → (Actor → Parcel → Actor → Parcel → Type 0) → Actor
    → List Parcel → List Parcel → Actor → Type 0
Runs Does before [] [] after = before ≡ after
Runs {Actor} Does before (parcel ∷ taken) (result ∷ made) after =
    (between : Actor) × Does before parcel between result × Runs Does between taken made after
Runs Does before _ _ after = ⊥

-- What a ring begins with: stages and collector, and the free parcels on the link from the
-- collector to the first stage; and whether all have finished already.
pub record Start (State Load Stop Total : Type 0) : Type 0 where
  pub stages : List (Stage State Stop)
  pub free : List (Plain Load Stop)
  pub collector : Collector Total Stop
  pub done : Bool

-- Stages and collector now; the link after each of them, in order, and what each holds, those of
-- the collector last.
pub record Core (State Load Stop Total : Type 0) : Type 0 where
  pub stages : List (Stage State Stop)
  pub links : List (List (Plain Load Stop))
  pub hands : List (Option (Plain Load Stop))
  pub collector : Collector Total Stop

module _ {State Stop : Type 0} where
  -- Stages that have taken nothing; only the head of a ring is its first.
  pub record IsFresh (first : Bool) (rounds : ℕ) (done : Bool) (stage : Stage State Stop) : Type 0
    where
      pub first_is : stage.first ≡ first
      pub rounds_are : stage.rounds ≡ rounds
      pub none_taken : stage.taken ≡ 0
      pub finished_is : stage.finished ≡ done
      pub no_stop : done ≡ false → stage.stop ≡ None

  abbrev pub AreFresh : Bool → ℕ → Bool → List (Stage State Stop) → Type 0
  AreFresh first rounds done [] = Unit {0}
  AreFresh first rounds done (stage ∷ stages) =
      IsFresh first rounds done stage × AreFresh false rounds done stages

module _ {State Load Stop Total : Type 0} where
  -- Two free parcels for each stage. All have finished at first where there are no rounds, or
  -- where the collector has a stop already, as after a fault of start-up.
  pub record IsStart (start : Start State Load Stop Total) : Type 0 where
    pub some_stage : 0 < length start.stages
    pub free_parcels : length start.free ≡ 2 * length start.stages
    pub fresh : AreFresh true start.collector.rounds start.done start.stages
    pub none_taken : start.collector.taken ≡ 0
    pub finished_is : start.collector.finished ≡ start.done
    pub goes : start.done ≡ false → 0 < start.collector.rounds
    pub no_stop : start.done ≡ false → start.collector.stop ≡ None
    pub why_done : start.done ≡ true → (start.collector.rounds ≡ 0) ⊎ IsSome start.collector.stop

  -- The state before any event: no actor holds a parcel, the free ones are on the last link.
  unfoldable pub first_core : Start State Load Stop Total → Core State Load Stop Total
  first_core start = record {
    stages = start.stages;
    links = map (λ stage. []) start.stages ++ (start.free ∷ []);
    hands = map (λ stage. None) start.stages ++ (None ∷ []);
    collector = start.collector;
  }

module _ {State Load Stop Total : Type 0} (work : Work State Load Stop Total) where
  -- From some stage on: each actor's steps over what it took make what it gave and holds; what it
  -- gave is what the next one took and what is on the link between them. The last link holds what
  -- is left of the free parcels and of what the collector gave; `back` was taken from there.
  abbrev pub Chained : Collector Total Stop → List (Plain Load Stop) → List (Stage State Stop)
      → List (Stage State Stop) → List (List (Plain Load Stop)) → List (Option (Plain Load Stop))
      → Collector Total Stop → List (Plain Load Stop) → List (Plain Load Stop) → Type 0
  Chained first free (stage₀ ∷ stages₀) (stage ∷ stages) (link ∷ links) (hand ∷ hands) collector
      taken back =
      (given : List (Plain Load Stop)) × (received : List (Plain Load Stop))
      × Runs (Step work) stage₀ taken (given ++ option_to_list hand) stage
      × (given ≡ received ++ link)
      × Chained first free stages₀ stages links hands collector received back
  Chained first free [] [] (link ∷ []) (hand ∷ []) collector taken back =
      (given : List (Plain Load Stop))
      × Runs (Collects work) first taken (given ++ option_to_list hand) collector
      × (free ++ given ≡ back ++ link)
  Chained first free _ _ _ _ collector taken back = ⊥

  -- The ring: what was taken from the last link is what the first stage took.
  pub record IsState (start : Start State Load Stop Total) (core : Core State Load Stop Total)
      : Type 0 where
    pub begun : IsStart start
    pub taken : List (Plain Load Stop)
    pub chain : Chained start.collector start.free start.stages core.stages core.links core.hands
        core.collector taken taken
