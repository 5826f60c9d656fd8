-- A test that single steps hand on is handed on by runs.
use Rattle.std.proofs.Common.{◌≡◌, ℕ, zero, suc, ◌<◌, Bool, true, List, [], ◌∷◌, length, Some}
use Rattle.std.proofs.Common.{slice_get}
use Rattle.std.proofs.lemmas.Option.{slice_get_within}
use Rattle.strc_stage_core.specs.Actors.{Plain, Stage, Collector, Work, Step, Collects}
use Rattle.strc_stage_core.specs.States.{Runs, Start}
use Rattle.strc_stage_core.specs.Invariants.{AllFirst, AreHandedOn}

module _ {Actor Parcel : Type 0} (Does : Actor → Parcel → Actor → Parcel → Type 0)
    (takes makes : Parcel → Bool) (Stays : Actor → Type 0)
    (step : (before after : Actor) (parcel result : Parcel) → Does before parcel after result
    → Stays before → takes parcel ≡ true → Stays after × (makes result ≡ true)) where
  runs_pass : (count : ℕ) (before : Actor) (taken made : List Parcel) (after : Actor)
      → Runs Does before taken made after → Stays before → AllFirst count takes taken
      → AllFirst count makes made
  runs_pass zero before taken made after runs stays all = tt
  runs_pass (suc count) before [] [] after runs stays all = tt
  runs_pass (suc count) before (p ∷ taken) (q ∷ made) after (between, does, runs) stays
      (here, all) =
      let (later, passes) = step before between p q does stays here in
      (passes, runs_pass count between taken made after runs later all)
  runs_pass (suc count) before _ _ after runs stays all = absurd runs

module _ {State Load Stop Total : Type 0} (work : Work State Load Stop Total)
    (start : Start State Load Stop Total) (passes : ℕ → Plain Load Stop → Bool)
    (Stays : ℕ → Stage State Stop → Type 0) where
  pub handed_by_steps : AllFirst (length start.free) (passes 0) start.free
      → ((actor : ℕ) (stage₀ : Stage State Stop) → slice_get start.stages actor ≡ Some stage₀
      → Stays actor stage₀)
      → ((actor : ℕ) (stage later : Stage State Stop) (parcel result : Plain Load Stop)
      → actor < length start.stages → Step work stage parcel later result → Stays actor stage
      → passes actor parcel ≡ true → Stays actor later × (passes (suc actor) result ≡ true))
      → ((collector later : Collector Total Stop) (parcel result : Plain Load Stop)
      → Collects work collector parcel later result
      → passes (length start.stages) parcel ≡ true → passes 0 result ≡ true)
      → AreHandedOn work start passes
  handed_by_steps free first by_step by_collector = record {
    free = free;
    by_stages = λ actor stage₀ stage count taken result is runs all.
        runs_pass (Step work) (passes actor) (passes (suc actor)) (Stays actor)
        (λ before after p q does stays pass. by_step actor before after p q
        (slice_get_within start.stages actor stage₀ is) does stays pass)
        count stage₀ taken result stage runs (first actor stage₀ is) all;
    by_collector = λ collector count taken result runs all.
        runs_pass (Collects work) (passes (length start.stages)) (passes 0) (λ c. Unit {0})
        (λ before after p q does stays pass. (tt, by_collector before after p q does pass))
        count start.collector taken result collector runs tt all;
  }
