-- Events by their moves, in the words of the core.
use Rattle.std.proofs.Common.{◌≡◌, refl, sym, ap, ◌∙◌, subst, ℕ, Bool, true, false, not, ◌&&◌, List}
use Rattle.std.proofs.Common.{map, set, length, Some, slice_get}
use Rattle.std.specs.Global.{Vec}
use Rattle.std.proofs.lemmas.List.{length-map}
use Rattle.strc_stage_core.specs.declared.event.Event.{Event}
use Rattle.strc_stage_core.specs.declared.event.Event.TheVariants.{Take, Give}
use Rattle.strc_stage_core.specs.Actors.{Stage, Collector, Work}
use Rattle.strc_stage_core.specs.States.{Core}
use Rattle.strc_stage_core.specs.Events.{before, is_finished, is_free, is_holding, is_loaded}
use Rattle.strc_stage_core.specs.Events.{is_over}
use Rattle.strc_stage_core.specs.Events.{may, Does, Takes}
use Rattle.strc_stage_core.specs.Moves.{queues, Pulls}
use Rattle.strc_stage_core.proofs.Reading.{finished_collector, takes_by, take_loaded}
use Rattle.strc_sched_outcome.specs.declared.stop.Stop.{Stop}
use Rattle.strc_stage_core.specs.Parcels.{ParcelView, Load}
use Rattle.strc_stage_core.specs.declared.ring.Parts.{Parts}
use Rattle.strc_stage_core.specs.Seeing.{core_of_parts}

module _ {State Load Stop Total : Type 0} (core : Core State Load Stop Total) where
  pub allows_take : (event : Event) (actor stages : ℕ) (done : Bool) → event ≡ Take actor
      → stages ≡ length core.stages → done ≡ is_finished actor core.stages core.collector
      → (not done && (is_free (slice_get core.hands actor)
      && is_loaded (slice_get core.links (before stages actor)))) ≡ may core event
  unfolding may
  allows_take event actor stages done is count same = rw (is, count, same) refl

  pub allows_give : (event : Event) (actor : ℕ) → event ≡ Give actor
      → is_holding (slice_get core.hands actor) ≡ may core event
  unfolding may
  allows_give event actor is = rw is refl

  over_is : (stages : ℕ) → stages ≡ length core.stages
      → (is_finished stages core.stages core.collector
      && is_free (slice_get core.hands stages)) ≡ is_over core
  unfolding is_over
  over_is stages count = ap (λ b. b && is_free (slice_get core.hands stages))
      (finished_collector stages core.stages core.collector count)
      ∙ ap (λ n. core.collector.finished && is_free (slice_get core.hands n)) count

  -- The collector has taken its last parcel, and then given it; or not.
  pub over_taken : (stages again : ℕ) (done free : Bool) → stages ≡ length core.stages
      → again ≡ length core.stages → done ≡ is_finished stages core.stages core.collector
      → done ≡ true → free ≡ is_free (slice_get core.hands again) → free ≡ is_over core
  over_taken stages again done free count more is yes_is hand =
      hand ∙ rw (more, ← count, ← over_is stages count, ← is, yes_is) refl

  pub over_not_taken : (stages : ℕ) (done : Bool) → stages ≡ length core.stages
      → done ≡ is_finished stages core.stages core.collector → done ≡ false
      → done ≡ is_over core
  over_not_taken stages done count is no_is = rw (← over_is stages count, ← is, no_is) refl

module _ {S C State Total : Type 0} (see : S → Stage State Stop) (sees : C → Collector Total Stop)
  where
    pub from_is : (parts : Parts S C) (actor from stages : ℕ) → from ≡ before stages actor
        → stages ≡ length parts.stages.items
        → from ≡ before (length (core_of_parts see sees parts).stages) actor
    from_is parts actor from stages is count =
        is ∙ ap (λ n. before n actor) (count ∙ sym (length-map parts.stages.items see))

    pub from_loaded : (parts : Parts S C) (actor from : ℕ)
        → from ≡ before (length (core_of_parts see sees parts).stages) actor
        → may (core_of_parts see sees parts) (Take actor) ≡ true
        → is_loaded (slice_get (queues parts.links.items) from) ≡ true
    from_loaded parts actor from is allowed =
        rw is (take_loaded (core_of_parts see sees parts) actor allowed)

    pub takes_parts : (work : Work State Load Stop Total) (old new : Parts S C) (actor from : ℕ)
        (pulled : List (Vec ParcelView)) (parcel result : ParcelView)
        → may (core_of_parts see sees old) (Take actor) ≡ true
        → from ≡ before (length (core_of_parts see sees old).stages) actor
        → Pulls (queues old.links.items) from parcel (queues pulled)
        → new.links.items ≡ pulled
        → Does work actor (map see old.stages.items) (sees old.collector) parcel
        (map see new.stages.items) (sees new.collector) result
        → new.held.items ≡ set old.held.items actor (Some result)
        → Takes work (core_of_parts see sees old) actor (core_of_parts see sees new)
    takes_parts work old new actor from pulled parcel result allowed is pulls links_are does
        hands_are = takes_by work (core_of_parts see sees old) (core_of_parts see sees new) actor
        parcel result allowed
        (subst (λ n. Pulls (queues old.links.items) n parcel (queues new.links.items)) is
        (subst (λ l. Pulls (queues old.links.items) from parcel (queues l)) (sym links_are) pulls))
        does hands_are
