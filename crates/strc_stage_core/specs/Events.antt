-- The two events of a ring, when they are allowed, what they change, and how many there can be. An
-- actor takes the first parcel of the link before it and holds what it makes of it; an actor gives
-- what it holds to the link after it.
use Rattle.std.specs.Prelude.{◌≡◌, ℕ, zero, suc, ◌+◌, ◌-◌, ◌*◌, ◌<◌, Bool, true, false, not, ◌&&◌}
use Rattle.std.specs.Prelude.{List, [], ◌∷◌, ◌++◌, length, set, Option, Some, None, slice_get}
pub use Rattle.strc_stage_core.specs.declared.event.Event.{Event}
pub use Rattle.strc_stage_core.specs.declared.event.Event.TheVariants.{Take, Give}
use Rattle.strc_stage_core.specs.Actors.{Plain, Stage, Collector, Work, Step, Collects}
use Rattle.strc_stage_core.specs.States.{Core}

-- The link before an actor; before the first stage it is the collector's, the last.
unfoldable pub before : ℕ → ℕ → ℕ
before stages zero = stages
before stages (suc actor) = actor

-- A link with a parcel; a hand that is there and empty; one that is there and isn't.
abbrev pub is_loaded : {A : Type 0} → Option (List A) → Bool
is_loaded (Some (parcel ∷ parcels)) = true
is_loaded _ = false

abbrev pub is_free : {A : Type 0} → Option (Option A) → Bool
is_free (Some None) = true
is_free _ = false

abbrev pub is_holding : {A : Type 0} → Option (Option A) → Bool
is_holding (Some (Some parcel)) = true
is_holding _ = false

module _ {State Stop Total : Type 0} where
  -- Has an actor taken its last parcel?
  abbrev pub is_finished : ℕ → List (Stage State Stop) → Collector Total Stop → Bool
  is_finished zero [] collector = collector.finished
  is_finished zero (stage ∷ stages) collector = stage.finished
  is_finished (suc actor) [] collector = true
  is_finished (suc actor) (stage ∷ stages) collector = is_finished actor stages collector

  -- An actor that has not finished, and has rounds left.
  abbrev pub HasRounds : ℕ → List (Stage State Stop) → Collector Total Stop → Type 0
  HasRounds zero [] collector =
      (collector.finished ≡ false) × (collector.taken < collector.rounds)
  HasRounds zero (stage ∷ stages) collector =
      (stage.finished ≡ false) × (stage.taken < stage.rounds)
  HasRounds (suc actor) [] collector = ⊥
  HasRounds (suc actor) (stage ∷ stages) collector = HasRounds actor stages collector

  -- How many parcels an actor took.
  abbrev pub taken_by : ℕ → List (Stage State Stop) → Collector Total Stop → ℕ
  taken_by zero [] collector = collector.taken
  taken_by zero (stage ∷ stages) collector = stage.taken
  taken_by (suc actor) [] collector = 0
  taken_by (suc actor) (stage ∷ stages) collector = taken_by actor stages collector

  -- How many all of them took.
  abbrev pub all_taken : List (Stage State Stop) → Collector Total Stop → ℕ
  all_taken [] collector = collector.taken
  all_taken (stage ∷ stages) collector = stage.taken + all_taken stages collector

-- How many parcels actors hold, and how many are on links.
abbrev pub in_hands : {A : Type 0} → List (Option A) → ℕ
in_hands [] = 0
in_hands (None ∷ hands) = in_hands hands
in_hands (Some parcel ∷ hands) = suc (in_hands hands)

abbrev pub on_links : {A : Type 0} → List (List A) → ℕ
on_links [] = 0
on_links (link ∷ links) = length link + on_links links

module _ {State Load Stop Total : Type 0} where
  -- Is an event allowed? Room on links is never short.
  unfoldable pub may : Core State Load Stop Total → Event → Bool
  may core (Take actor) = not (is_finished actor core.stages core.collector)
      && (is_free (slice_get core.hands actor)
      && is_loaded (slice_get core.links (before (length core.stages) actor)))
  may core (Give actor) = is_holding (slice_get core.hands actor)

  -- Has the collector given back its last parcel?
  unfoldable pub is_over : Core State Load Stop Total → Bool
  is_over core = core.collector.finished
      && is_free (slice_get core.hands (length core.stages))

  -- The parcels that links and actors hold.
  unfoldable pub weight : Core State Load Stop Total → ℕ
  weight core = on_links core.links + in_hands core.hands

  -- How many events have been: each parcel taken is given, but for those still held.
  unfoldable pub acts : Core State Load Stop Total → ℕ
  acts core = 2 * all_taken core.stages core.collector - in_hands core.hands

  -- How many there can be: each actor takes and gives once a round.
  unfoldable pub most_acts : Core State Load Stop Total → ℕ
  most_acts core = 2 * core.collector.rounds * suc (length core.stages)

  -- An actor gives the parcel that it holds; it goes to the back of the link after it.
  pub record Gives (old : Core State Load Stop Total) (actor : ℕ)
      (new : Core State Load Stop Total) : Type 0 where
    pub parcel : Plain Load Stop
    pub queue : List (Plain Load Stop)
    pub held : slice_get old.hands actor ≡ Some (Some parcel)
    pub link_is : slice_get old.links actor ≡ Some queue
    pub stages_are : new.stages ≡ old.stages
    pub collector_is : new.collector ≡ old.collector
    pub links_are : new.links ≡ set old.links actor (queue ++ (parcel ∷ []))
    pub hands_are : new.hands ≡ set old.hands actor None

module _ {State Load Stop Total : Type 0} (work : Work State Load Stop Total) where
  -- One step of the actor of this number, from the first actors to the second ones.
  abbrev pub Does : ℕ → List (Stage State Stop) → Collector Total Stop → Plain Load Stop
      → List (Stage State Stop) → Collector Total Stop → Plain Load Stop → Type 0
  Does zero [] collector parcel stages' collector' result =
      Collects work collector parcel collector' result × (stages' ≡ [])
  Does zero (stage ∷ stages) collector parcel stages' collector' result =
      (later : Stage State Stop)
      × Step work stage parcel later result
      × (stages' ≡ later ∷ stages)
      × (collector' ≡ collector)
  Does (suc actor) [] collector parcel stages' collector' result = ⊥
  Does (suc actor) (stage ∷ stages) collector parcel stages' collector' result =
      (later : List (Stage State Stop))
      × (stages' ≡ stage ∷ later)
      × Does actor stages collector parcel later collector' result

  -- An actor with an empty hand takes a parcel: its step makes what it then holds.
  pub record Takes (old : Core State Load Stop Total) (actor : ℕ)
      (new : Core State Load Stop Total) : Type 0 where
    pub parcel : Plain Load Stop
    pub rest : List (Plain Load Stop)
    pub result : Plain Load Stop
    pub comes : slice_get old.links (before (length old.stages) actor) ≡ Some (parcel ∷ rest)
    pub free : slice_get old.hands actor ≡ Some None
    pub does : Does actor old.stages old.collector parcel new.stages new.collector result
    pub links_are : new.links ≡ set old.links (before (length old.stages) actor) rest
    pub hands_are : new.hands ≡ set old.hands actor (Some result)

  abbrev pub Happens : Core State Load Stop Total → Event → Core State Load Stop Total → Type 0
  Happens old (Take actor) new = Takes old actor new
  Happens old (Give actor) new = Gives old actor new

  -- Events, each after the one before it.
  abbrev pub Happen : Core State Load Stop Total → List Event → Core State Load Stop Total → Type 0
  Happen old [] new = old ≡ new
  Happen old (event ∷ events) new =
      (between : Core State Load Stop Total)
      × Happens old event between
      × Happen between events new
