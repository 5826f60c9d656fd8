-- Properties of parcels that each actor hands on, round by round (Kahn's principle: what comes to
-- an actor is what the others give of what came to them before).
use Rattle.std.specs.Prelude.{◌≡◌, ℕ, zero, suc, ◌<◌, Bool, true, cond, eqb, List, [], ◌∷◌, length}
use Rattle.std.specs.Prelude.{Some, slice_get}
use Rattle.strc_stage_core.specs.Actors.{Plain, Stage, Collector, Work, Step, Collects}
use Rattle.strc_stage_core.specs.States.{Runs, Start}

-- The first so many of a list pass a test.
abbrev pub AllFirst : {A : Type 0} → ℕ → (A → Bool) → List A → Type 0
AllFirst zero passes items = Unit {0}
AllFirst (suc count) passes [] = Unit {0}
AllFirst (suc count) passes (item ∷ items) = (passes item ≡ true) × AllFirst count passes items

-- A test for each actor of the parcels that come to it. The free parcels pass that of the first
-- stage; and of each actor: if the first so many that it takes pass its test, then so many of
-- those that it makes pass that of the next one. The one after the collector is the first stage.
pub record AreHandedOn {State Load Stop Total : Type 0} (work : Work State Load Stop Total)
    (start : Start State Load Stop Total) (passes : ℕ → Plain Load Stop → Bool) : Type 0 where
  pub free : AllFirst (length start.free) (passes 0) start.free
  pub by_stages : (actor : ℕ) (stage₀ stage : Stage State Stop) (count : ℕ)
      (taken result : List (Plain Load Stop))
      → slice_get start.stages actor ≡ Some stage₀
      → Runs (Step work) stage₀ taken result stage
      → AllFirst count (passes actor) taken
      → AllFirst count (passes (suc actor)) result
  pub by_collector : (collector : Collector Total Stop) (count : ℕ)
      (taken result : List (Plain Load Stop))
      → Runs (Collects work) start.collector taken result collector
      → AllFirst count (passes (length start.stages)) taken
      → AllFirst count (passes 0) result

-- The actor after this one; after the collector it is the first stage.
unfoldable pub after : ℕ → ℕ → ℕ
after stages actor = cond (eqb actor stages) 0 (suc actor)

-- What is handed on from actor to actor, shown by single steps, with a test of stages that their
-- steps keep.
pub record IsHandedOnByStep {State Load Stop Total : Type 0} (work : Work State Load Stop Total)
    (start : Start State Load Stop Total) (passes : ℕ → Plain Load Stop → Bool)
    (stays : ℕ → Stage State Stop → Bool) : Type 0 where
  pub free : AllFirst (length start.free) (passes 0) start.free
  pub first : (actor : ℕ) (stage₀ : Stage State Stop)
      → slice_get start.stages actor ≡ Some stage₀
      → stays actor stage₀ ≡ true
  pub by_step : (actor : ℕ) (stage later : Stage State Stop) (parcel result : Plain Load Stop)
      → actor < length start.stages
      → Step work stage parcel later result
      → stays actor stage ≡ true
      → passes actor parcel ≡ true
      → (stays actor later ≡ true) × (passes (suc actor) result ≡ true)
  pub by_collector : (collector later : Collector Total Stop) (parcel result : Plain Load Stop)
      → Collects work collector parcel later result
      → passes (length start.stages) parcel ≡ true
      → passes 0 result ≡ true
