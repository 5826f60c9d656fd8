-- Parcels, stages and the collector as plain data, and what one step of each is. What a stage
-- computes is a parameter.
use Rattle.std.specs.Prelude.{◌≡◌, ◌⊎◌, ℕ, suc, Bool, false, cond, ◌||◌, eqb, Option, Some, None}
use Rattle.std.specs.Prelude.{is_some}

-- A parcel: what it carries, the stop that was set on it, and whether it is marked as the last.
pub record Plain (Load Stop : Type 0) : Type 0 where
  pub load : Load
  pub stop : Option Stop
  pub last : Bool

-- A stage: what its steps work on, whether it is the first, the number of rounds, how many parcels
-- it took, the stop of the parcel that it made last, and whether that one was marked.
pub record Stage (State Stop : Type 0) : Type 0 where
  pub inner : State
  pub first : Bool
  pub rounds : ℕ
  pub taken : ℕ
  pub stop : Option Stop
  pub finished : Bool

-- The collector: what it gathered, and its first stop.
pub record Collector (Total Stop : Type 0) : Type 0 where
  pub total : Total
  pub rounds : ℕ
  pub taken : ℕ
  pub stop : Option Stop
  pub finished : Bool

-- What stages and collector do with what a parcel carries.
pub record Work (State Load Stop Total : Type 0) : Type 0 where
  -- the stop that a stage's work on a load comes to by itself
  pub due_stop : State → Load → Option Stop
  -- a stage, and the load, after work that ended with this stop
  pub next_state : State → Load → Option Stop → State
  pub next_load : State → Load → Option Stop → Load
  -- the stop of work for which there was no memory
  pub no_memory : Stop
  -- what is gathered, with a load more; and what the load is after it
  pub gathered : Total → Load → Total
  pub emptied : Load → Option Stop → Load

-- The first of two.
abbrev pub or_else : {A : Type 0} → Option A → Option A → Option A
or_else (Some x) other = Some x
or_else None other = other

module _ {State Load Stop : Type 0} where
  -- Does a parcel go through a stage as it is? So does a stopped one, and each one after a stop.
  unfoldable pub is_passing : Stage State Stop → Plain Load Stop → Bool
  is_passing stage parcel = is_some parcel.stop || is_some stage.stop

  -- The first stage marks the parcel of the last round, or the first that came back stopped.
  unfoldable pub is_marked : Stage State Stop → Plain Load Stop → Bool
  is_marked stage parcel = cond stage.first
      (eqb (suc stage.taken) stage.rounds || is_some parcel.stop) parcel.last

module _ {State Load Stop Total : Type 0} (work : Work State Load Stop Total) where
  -- The stop of the parcel that a stage makes of this one, if memory suffices.
  unfoldable pub stop_of : Stage State Stop → Plain Load Stop → Option Stop
  stop_of stage parcel =
      or_else parcel.stop (or_else stage.stop (work.due_stop stage.inner parcel.load))

  -- A stage, and the parcel that it makes, after a step with this stop.
  unfoldable pub next : Stage State Stop → Plain Load Stop → Option Stop → Stage State Stop
  next stage parcel stop = record {
    inner = cond (is_passing stage parcel) stage.inner
        (work.next_state stage.inner parcel.load stop);
    first = stage.first;
    rounds = stage.rounds;
    taken = suc stage.taken;
    stop = stop;
    finished = is_marked stage parcel;
  }

  unfoldable pub made : Stage State Stop → Plain Load Stop → Option Stop → Plain Load Stop
  made stage parcel stop = record {
    load = cond (is_passing stage parcel) parcel.load
        (work.next_load stage.inner parcel.load stop);
    stop = stop;
    last = is_marked stage parcel;
  }

  -- Unless a parcel passes, there may be no memory for it.
  abbrev pub MayStop : Bool → Option Stop → Option Stop → Type 0
  MayStop passing due stop = (stop ≡ due) ⊎ ((passing ≡ false) × (stop ≡ Some work.no_memory))

  -- A stage that has not finished takes a parcel and makes another of it. The stop is its one
  -- choice.
  unfoldable pub Step : Stage State Stop → Plain Load Stop → Stage State Stop → Plain Load Stop
      → Type 0
  Step stage parcel later result =
      (stop : Option Stop)
      × (stage.finished ≡ false)
      × MayStop (is_passing stage parcel) (stop_of stage parcel) stop
      × (later ≡ next stage parcel stop)
      × (result ≡ made stage parcel stop)

  -- The collector gathers until the first stop.
  unfoldable pub collected : Collector Total Stop → Plain Load Stop → Option Stop
      → Collector Total Stop
  collected collector parcel stop = record {
    total = cond (is_some (or_else collector.stop stop)) collector.total
        (work.gathered collector.total parcel.load);
    rounds = collector.rounds;
    taken = suc collector.taken;
    stop = or_else collector.stop stop;
    finished = parcel.last;
  }

  -- What the collector gives back: a stopped parcel as it is, else an emptied one.
  unfoldable pub returned : Plain Load Stop → Option Stop → Plain Load Stop
  returned parcel stop = record {
    load = cond (is_some parcel.stop) parcel.load (work.emptied parcel.load stop);
    stop = stop;
    last = parcel.last;
  }

  -- A collector that has not finished takes a parcel and makes a free one of it.
  unfoldable pub Collects : Collector Total Stop → Plain Load Stop → Collector Total Stop
      → Plain Load Stop → Type 0
  Collects collector parcel later result =
      (stop : Option Stop)
      × (collector.finished ≡ false)
      × MayStop (is_some parcel.stop) parcel.stop stop
      × (later ≡ collected collector parcel stop)
      × (result ≡ returned parcel stop)
