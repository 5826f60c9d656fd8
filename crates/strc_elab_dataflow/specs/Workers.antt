-- Workers in a chain, one for each stage, and a collector at its end: the parcels that were given
-- and taken between them so far. A step may run out of memory.
use Rattle.std.specs.Prelude.{◌≡◌, ℕ, zero, suc, ◌<◌, ◌≤◌, ◌⊎◌, List, [], ◌∷◌, ◌++◌, length, take}
use Rattle.std.specs.Prelude.{Option, Some, None}
use Rattle.strc_elab_dataflow.specs.Answer.{Outcome, Outcome.Done}
use Rattle.strc_elab_dataflow.specs.Queues.{Fifo}
use Rattle.strc_elab_dataflow.specs.Staging.{Staging}
use Rattle.strc_elab_dataflow.specs.Stages.{Parcel, Parcel.Moves, Parcel.Halts, Stage, Stage.Works}
use Rattle.strc_elab_dataflow.specs.Stages.{Stage.Halted, step, collected}
use Rattle.strc_elab_dataflow.specs.Parcels.{HasMoved, IsFirstStop}

module _ {Cause Word : Type 0} where
  -- A parcel that is stopped; one that isn't.
  abbrev pub IsHalted : Parcel Cause Word → Type 0
  IsHalted (Moves blocks words) = ⊥
  IsHalted (Halts stop) = Unit {0}

  abbrev pub IsMoving : Parcel Cause Word → Type 0
  IsMoving (Moves blocks words) = Unit {0}
  IsMoving (Halts stop) = ⊥

  -- A list with a stopped parcel; one of stopped parcels alone; one in which nothing moves after
  -- the first stop.
  abbrev pub HasHalted : List (Parcel Cause Word) → Type 0
  HasHalted [] = ⊥
  HasHalted (parcel ∷ others) = IsHalted parcel ⊎ HasHalted others

  abbrev pub AllHalted : List (Parcel Cause Word) → Type 0
  AllHalted [] = Unit {0}
  AllHalted (parcel ∷ others) = IsHalted parcel × AllHalted others

  abbrev pub StaysHalted : List (Parcel Cause Word) → Type 0
  StaysHalted [] = Unit {0}
  StaysHalted (parcel ∷ others) = (IsHalted parcel → AllHalted others) × StaysHalted others

  -- The parcels that the first stage is given, from number t on: empty ones; some that memory
  -- stopped; and some that come back stopped, when the collector has taken a stop before.
  module _ (collection : List (Parcel Cause Word)) where
    abbrev pub IsFresh : ℕ → Parcel Cause Word → Type 0
    IsFresh t (Moves blocks words) =
        ((node port : ℕ) → blocks node port ≡ []) × ((node : ℕ) → words node ≡ [])
    IsFresh t (Halts stop) = (stop ≡ None) ⊎ HasHalted (take t collection)

    abbrev pub AreFresh : ℕ → List (Parcel Cause Word) → Type 0
    AreFresh t [] = Unit {0}
    AreFresh t (parcel ∷ others) = IsFresh t parcel × AreFresh (suc t) others

module _ {Code State Cause Word : Type 0} (plan : Staging Code State Cause Word) where
  -- A stage takes a parcel: it does its step; or memory runs out, at a parcel that isn't stopped.
  abbrev pub MayStep : ℕ → Stage State Cause Word → Parcel Cause Word → Stage State Cause Word
      → Parcel Cause Word → Type 0
  MayStep a stage parcel next given =
      ((next ≡ (step plan a stage parcel).stage) × (given ≡ (step plan a stage parcel).parcel))
      ⊎ (IsMoving parcel × (next ≡ Halted) × (given ≡ Halts None))

  -- The steps of a stage, from the first parcel taken to the last.
  abbrev pub AreSteps : ℕ → Stage State Cause Word → (taken given : List (Parcel Cause Word))
      → Stage State Cause Word → Type 0
  AreSteps a stage [] [] last = stage ≡ last
  AreSteps a stage (parcel ∷ taken) (made ∷ given) last =
      (next : Stage State Cause Word) × (MayStep a stage parcel next made
      × AreSteps a next taken given last)
  AreSteps a stage taken given last = ⊥

  -- The parcels before stage b from number t on are those of the equations up to the first stop,
  -- which is the first one of its round; nothing is said of one that names no fault, of one that
  -- came back, nor of what is after a stop.
  abbrev pub AreParcels : (collection : List (Parcel Cause Word)) → (b t : ℕ)
      → List (Parcel Cause Word) → Type 0
  AreParcels collection b t [] = Unit {0}
  AreParcels collection b t (Moves blocks words ∷ others) =
      HasMoved plan b t blocks words × AreParcels collection b (suc t) others
  AreParcels collection b t (Halts (Some stop) ∷ others) =
      IsFirstStop plan b t stop ⊎ HasHalted (take t collection)
  AreParcels collection b t (Halts None ∷ others) = Unit {0}

  -- What the collector makes of the parcels from number q on, where so many are left.
  unfoldable pub collects : (left q : ℕ) → (ℕ → List Word) → List (Parcel Cause Word)
      → Option (Outcome Cause Word)
  collects zero q words parcels = Some (Done words)
  collects (suc left) q words [] = None
  collects (suc left) q words (parcel ∷ others) = collected plan q words parcel
      (λ more. collects left (suc q) more others)

  -- Any state of the chain: by link, the parcels that were given before stage b so far, those that
  -- were taken from there and those that are left; the collector takes from the last link. The
  -- steps are asked of a stage only where it took the parcels of the equations.
  pub record IsChain (now : Fifo State Cause Word)
      (given taken left : ℕ → List (Parcel Cause Word)) : Type 0 where
    pub links : (b : ℕ) → b ≤ plan.stages → given b ≡ taken b ++ left b
    pub count : length (taken 0) ≤ plan.rounds
    pub fresh : AreFresh (taken plan.stages) 0 (given 0)
    pub steps : (a : ℕ) → a < plan.stages → AreParcels (taken plan.stages) a 0 (taken a)
        → (last : Stage State Cause Word)
        × AreSteps a (Works now) (taken a) (given (suc a)) last
