-- What a ring that is over has done, and what the collector makes of what it took.
use Rattle.std.specs.Prelude.{◌≡◌, ◌⊎◌, ℕ, ◌*◌, ◌<◌, true, false, List, [], ◌∷◌, ◌++◌, length}
use Rattle.std.specs.Prelude.{Option, Some, None, IsSome, slice_get}
use Rattle.strc_stage_core.specs.Actors.{Plain, Collector, Work, Collects}
use Rattle.strc_stage_core.specs.States.{Runs, Start, Core}

module _ {Load Stop : Type 0} where
  -- None of these is stopped.
  abbrev pub AreRunning : List (Plain Load Stop) → Type 0
  AreRunning [] = Unit {0}
  AreRunning (parcel ∷ parcels) = (parcel.stop ≡ None) × AreRunning parcels

  -- All are stopped; and all are from the first stopped one on.
  abbrev pub AreStopped : List (Plain Load Stop) → Type 0
  AreStopped [] = Unit {0}
  AreStopped (parcel ∷ parcels) = IsSome parcel.stop × AreStopped parcels

  abbrev pub StayStopped : List (Plain Load Stop) → Type 0
  StayStopped [] = Unit {0}
  StayStopped (parcel ∷ parcels) =
      (IsSome parcel.stop → AreStopped parcels) × StayStopped parcels

  -- A list with a last parcel: it is that of the last round, or it is stopped.
  pub record EndsBy (rounds : ℕ) (parcels : List (Plain Load Stop)) : Type 0 where
    pub front : List (Plain Load Stop)
    pub last : Plain Load Stop
    pub is : parcels ≡ front ++ (last ∷ [])
    pub why : (length parcels ≡ rounds) ⊎ IsSome last.stop

module _ {State Load Stop Total : Type 0} (work : Work State Load Stop Total) where
  -- What is gathered of these loads, in order.
  abbrev pub gathered_of : Total → List (Plain Load Stop) → Total
  gathered_of total [] = total
  gathered_of total (parcel ∷ parcels) = gathered_of (work.gathered total parcel.load) parcels

  -- A collector with a stop: it gathered what came before the first parcel that was stopped, or for
  -- which it had no memory.
  pub record IsDecided (first : Collector Total Stop) (taken : List (Plain Load Stop)) (stop : Stop)
      (total : Total) : Type 0 where
    pub front : List (Plain Load Stop)
    pub parcel : Plain Load Stop
    pub rest : List (Plain Load Stop)
    pub is : taken ≡ front ++ (parcel ∷ rest)
    pub running : AreRunning front
    pub total_is : total ≡ gathered_of first.total front
    pub why : (parcel.stop ≡ Some stop) ⊎ ((parcel.stop ≡ None) × (stop ≡ work.no_memory))

  -- Without a stop none that it took was stopped, and it gathered them all.
  pub record IsGathered (first : Collector Total Stop) (taken : List (Plain Load Stop))
      (total : Total) : Type 0 where
    pub running : AreRunning taken
    pub total_is : total ≡ gathered_of first.total taken

  abbrev pub Gathers : Collector Total Stop → List (Plain Load Stop) → Option Stop → Total → Type 0
  Gathers first taken None total = IsGathered first taken total
  Gathers first taken (Some stop) total = IsDecided first taken stop total

  -- Of a ring that is over: what the first stage took, and what the collector took. They are as
  -- many; nothing is held, and all parcels are on the last link again.
  pub record IsEnded (start : Start State Load Stop Total) (core : Core State Load Stop Total)
      : Type 0 where
    pub come : List (Plain Load Stop)
    pub taken : List (Plain Load Stop)
    pub given : List (Plain Load Stop)
    pub gathers : Runs (Collects work) start.collector taken given core.collector
    pub as_many : length taken ≡ length come
    pub none_done : start.done ≡ true → come ≡ []
    -- the last that the first stage took is that of the last round, or the first that came back
    -- stopped
    pub come_ends : start.done ≡ false
        → (ends : EndsBy start.collector.rounds come) × AreRunning ends.front
    pub taken_ends : start.done ≡ false → EndsBy start.collector.rounds taken
    pub empty : (actor : ℕ) → actor < length core.stages → slice_get core.links actor ≡ Some []
    pub back : List (Plain Load Stop)
    pub back_is : slice_get core.links (length core.stages) ≡ Some back
    pub all_back : length back ≡ 2 * length core.stages
