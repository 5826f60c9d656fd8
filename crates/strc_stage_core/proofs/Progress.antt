-- While the collector has not given its last parcel, some event is allowed.
use Rattle.std.proofs.Common.{◌≡◌, refl, sym, ap, ◌∙◌, ℕ, suc, ◌<◌, Bool, true, false, not, ◌&&◌}
use Rattle.std.proofs.Common.{List, [], ◌∷◌, ◌++◌, length, Option, Some, None, slice_get}
use Rattle.std.proofs.Common.{option_to_list, arith, append-nil}
use mathlib.Core.Logic.{◌⊎◌, inl, inr}
use Rattle.strc_stage_core.specs.Actors.{Plain, Stage, Collector, Work, Step}
use Rattle.strc_stage_core.specs.States.{Runs, Start, Core, AreFresh, Chained, IsState}
use Rattle.strc_stage_core.specs.Events.{Event, Take, Give, before, is_loaded, is_free, is_holding}
use Rattle.strc_stage_core.specs.Events.{is_finished, in_hands, on_links, may, is_over, weight}
use Rattle.strc_stage_core.proofs.Stages.{ended, runs_finished, runs_later, gathers_finished}
use Rattle.strc_stage_core.proofs.Counts.{weight-state, lengths}

-- Some actor holds a parcel.
abbrev Giving : {A : Type 0} → List (Option A) → Type 0
Giving hands = (actor : ℕ) × (is_holding (slice_get hands actor) ≡ true)

module _ {State Load Stop Total : Type 0} where
  -- Some actor past the first of these can take a parcel.
  record Taking (stages : List (Stage State Stop)) (links : List (List (Plain Load Stop)))
      (hands : List (Option (Plain Load Stop))) (c : Collector Total Stop) : Type 0 where
    actor : ℕ
    goes : is_finished (suc actor) stages c ≡ false
    free : is_free (slice_get hands (suc actor)) ≡ true
    loaded : is_loaded (slice_get links actor) ≡ true

  -- Nothing is held, all parcels are on the last link, and the first of these actors goes on.
  record Quiet (stages : List (Stage State Stop)) (links : List (List (Plain Load Stop)))
      (hands : List (Option (Plain Load Stop))) (c : Collector Total Stop) : Type 0 where
    goes : is_finished 0 stages c ≡ false
    free : is_free (slice_get hands 0) ≡ true
    none_held : in_hands hands ≡ 0
    last : List (Plain Load Stop)
    last_is : slice_get links (length stages) ≡ Some last
    all : on_links links ≡ length last

  abbrev Outlook : List (Stage State Stop) → List (List (Plain Load Stop))
      → List (Option (Plain Load Stop)) → Collector Total Stop → Type 0
  Outlook stages links hands c =
      Giving hands ⊎ (Taking stages links hands c ⊎ Quiet stages links hands c)

module _ {State Load Stop Total : Type 0} (work : Work State Load Stop Total)
    (first : Collector Total Stop) (free : List (Plain Load Stop)) where
  -- An actor past the first has finished where the mark was among what it took.
  pub head_finished : (rounds : ℕ) (done : Bool) (stages₀ stages : List (Stage State Stop))
      (links : List (List (Plain Load Stop))) (hands : List (Option (Plain Load Stop)))
      (c : Collector Total Stop) (taken back : List (Plain Load Stop))
      → Chained work first free stages₀ stages links hands c taken back
      → AreFresh false rounds done stages₀ → first.finished ≡ done
      → is_finished 0 stages c ≡ ended done taken
  head_finished rounds done (stage₀ ∷ stages₀) (stage ∷ stages) (link ∷ links) (hand ∷ hands) c
      taken back (given, received, runs, e, chain) (fresh, all_fresh) same =
      runs_later work stage₀ taken (given ++ option_to_list hand) stage fresh.first_is runs
      ∙ ap (λ f. ended f taken) fresh.finished_is
  head_finished rounds done [] [] (link ∷ []) (hand ∷ []) c taken back (given, runs, e) fresh
      same = gathers_finished work first taken (given ++ option_to_list hand) c runs
      ∙ ap (λ f. ended f taken) same
  head_finished rounds done _ _ _ _ c taken back chain fresh same = absurd chain

  some_outlook : (head : Bool) (rounds : ℕ) (done : Bool) (stages₀ stages : List (Stage State Stop))
      (links : List (List (Plain Load Stop))) (hands : List (Option (Plain Load Stop)))
      (c : Collector Total Stop) (taken back : List (Plain Load Stop))
      → Chained work first free stages₀ stages links hands c taken back
      → AreFresh head rounds done stages₀ → first.finished ≡ done
      → (c.finished && is_free (slice_get hands (length stages))) ≡ false
      → Outlook stages links hands c
  some_outlook head rounds done (stage₀ ∷ stages₀) (stage ∷ stages) (link ∷ links) (hand ∷ hands) c
      taken back (given, received, runs, e, chain) (fresh, all_fresh) same more =
      elim (some_outlook false rounds done stages₀ stages links hands c received back chain
      all_fresh same more) [
        | inl (actor, held) ↦ inl (suc actor, held)
        | inr (inl take) ↦ inr (inl (record {
          actor = suc take.actor;
          goes = take.goes;
          free = take.free;
          loaded = take.loaded;
        }))
        | inr (inr quiet) ↦ here hand link runs e quiet
      ]
    where
      going : (given received : List (Plain Load Stop))
          → Runs (Step work) stage₀ taken (given ++ []) stage
          → given ≡ received ++ [] → is_finished 0 stages c ≡ false
          → is_finished 0 stages c ≡ ended done received → stage.finished ≡ false
      going given received runs e unfinished is =
          runs_finished work stage₀ taken (given ++ []) stage runs
          ∙ ap (λ f. ended f (given ++ [])) fresh.finished_is
          ∙ ap (ended done) (append-nil given ∙ e ∙ append-nil received)
          ∙ sym is ∙ unfinished

      here : (hand : Option (Plain Load Stop)) (link : List (Plain Load Stop))
          → Runs (Step work) stage₀ taken (given ++ option_to_list hand) stage
          → given ≡ received ++ link → Quiet stages links hands c
          → Outlook (stage ∷ stages) (link ∷ links) (hand ∷ hands) c
      here (Some x) link runs e quiet = inl (0, refl)
      here None (p ∷ link) runs e quiet = inr (inl (record {
        actor = 0;
        goes = quiet.goes;
        free = quiet.free;
        loaded = refl;
      }))
      here None [] runs e quiet = inr (inr (record {
        goes = going given received runs e quiet.goes (head_finished rounds done stages₀ stages
            links hands c received back chain all_fresh same);
        free = refl;
        none_held = quiet.none_held;
        last = quiet.last;
        last_is = quiet.last_is;
        all = omega (arith, quiet.all);
      }))
  some_outlook head rounds done [] [] (link ∷ []) (Some x ∷ []) c taken back chain fresh same more =
      inl (0, refl)
  some_outlook head rounds done [] [] (link ∷ []) (None ∷ []) c taken back chain fresh same more =
      inr (inr (record {
        goes = first_false c.finished more;
        free = refl;
        none_held = refl;
        last = link;
        last_is = refl;
        all = omega arith;
      }))
    where
      first_false : (b : Bool) → (b && true) ≡ false → b ≡ false
      first_false true e = e
      first_false false e = refl
  some_outlook head rounds done _ _ _ _ c taken back chain fresh same more = absurd chain

module _ {State Load Stop Total : Type 0} (work : Work State Load Stop Total)
    (start : Start State Load Stop Total) (core : Core State Load Stop Total)
    (state : IsState work start core) where
  pub progress : is_over core ≡ false → (event : Event) × (may core event ≡ true)
  unfolding is_over may before weight
  progress more =
      elim (some_outlook work start.collector start.free true start.collector.rounds start.done
      start.stages core.stages core.links core.hands core.collector state.taken state.taken
      state.chain state.begun.fresh state.begun.finished_is more) [
        | inl (actor, held) ↦ (Give actor, held)
        | inr (inl take) ↦ (
          Take (suc take.actor),
          all_true (is_finished (suc take.actor)
              core.stages core.collector) (is_free (slice_get core.hands (suc take.actor)))
              (is_loaded (slice_get core.links take.actor)) take.goes take.free take.loaded,
        )
        | inr (inr quiet) ↦ (
          Take 0,
          all_true (is_finished 0 core.stages core.collector)
              (is_free (slice_get core.hands 0))
              (is_loaded (slice_get core.links (length core.stages))) quiet.goes quiet.free
              (ap is_loaded quiet.last_is ∙ loaded quiet.last (omega (
                arith,
                weight-state work start core state,
                quiet.none_held,
                quiet.all,
                state.begun.some_stage,
                (lengths work start core state).0,
              ))),
        )
      ]
    where
      all_true : (a b d : Bool) → a ≡ false → b ≡ true → d ≡ true → (not a && (b && d)) ≡ true
      all_true a b d x y z = rw (x, y, z) refl

      loaded : (l : List (Plain Load Stop)) → 0 < length l → is_loaded (Some l) ≡ true
      loaded [] h = absurd (omega (arith, h))
      loaded (x ∷ l) h = refl
