-- An event of a ring's parts: the links' room stays, and so do states.
use Rattle.std.proofs.Common.{◌≡◌, sym, ap, ◌∙◌, subst, suc, ◌*◌, ◌≤◌, Bool, true, false}
use Rattle.std.proofs.Common.{length}
use Rattle.strc_stage_core.specs.declared.event.Event.{Event}
use Rattle.strc_stage_core.specs.Actors.{Stage, Collector, Work}
use Rattle.strc_stage_core.specs.States.{Start, Core, IsState}
use Rattle.strc_stage_core.specs.Events.{Happens, acts, most_acts, may, is_over}
use Rattle.strc_stage_core.specs.Moves.{rooms, AreRoomy}
use Rattle.strc_stage_core.proofs.Acts.{acts_grow, acts_within, most_acts-state}
use Rattle.strc_stage_core.proofs.Counts.{lengths}
use Rattle.strc_stage_core.proofs.Events.{state_after}
use Rattle.strc_stage_core.proofs.Progress.{progress}
use Rattle.strc_sched_outcome.specs.declared.stop.Stop.{Stop}
use Rattle.strc_stage_core.specs.Parcels.{Load}
use Rattle.strc_stage_core.specs.declared.ring.Parts.{Parts}
use Rattle.strc_stage_core.specs.Seeing.{core_of_parts, HasRoom}

module _ {State Load Stop Total : Type 0} (work : Work State Load Stop Total) where
  -- A state of some start.
  abbrev Some : Core State Load Stop Total → Type 0
  Some core = (start : Start State Load Stop Total) × IsState work start core

  pub some_after : (old new : Core State Load Stop Total) (event : Event) → Some old
      → Happens work old event new → Some new
  some_after old new event (start, state) happens =
      (start, state_after work start old event new state happens)

  pub state_kept : (core old new : Core State Load Stop Total) (event : Event) → core ≡ old
      → Happens work core event new
      → (start : Start State Load Stop Total) → IsState work start old → IsState work start new
  state_kept core old new event same happens start state =
      state_after work start core event new (subst (IsState work start) (sym same) state) happens

  pub counted : (core old new : Core State Load Stop Total) (event : Event) → core ≡ old
      → Some core → Happens work core event new
      → (acts new ≡ suc (acts old)) × (most_acts new ≡ most_acts old)
      × (acts new ≤ most_acts new)
  counted core old new event same (start, state) happens =
      let after = state_after work start core event new state happens in (
        acts_grow work start core state event new happens ∙ ap (λ x. suc (acts x)) same,
        most_acts-state work start new after ∙ sym (most_acts-state work start core state)
            ∙ ap most_acts same,
        acts_within work start new after,
      )

  same_count : (old new : Core State Load Stop Total) (event : Event) → Some old
      → Happens work old event new → length new.stages ≡ length old.stages
  same_count old new event (start, state) happens =
      (lengths work start new (state_after work start old event new state happens)).0
      ∙ sym (lengths work start old state).0

  -- A ring that isn't over goes on.
  pub goes_on : (core self : Core State Load Stop Total) (over : Bool) → core ≡ self → Some core
      → over ≡ is_over core → over ≡ false
      → (is_over self ≡ false) × ((event : Event) × (may self event ≡ true))
  goes_on core self over same (start, state) is going =
      let more : is_over core ≡ false = sym is ∙ going in
      let (event, allowed) = progress work start core state more in
      (ap is_over (sym same) ∙ more, (event, ap (λ x. may x event) (sym same) ∙ allowed))

module _ {S C State Total : Type 0} (see : S → Stage State Stop) (sees : C → Collector Total Stop)
  where
    pub room_stays : (work : Work State Load Stop Total) (old new : Parts S C) (event : Event)
        → Some work (core_of_parts see sees old)
        → Happens work (core_of_parts see sees old) event (core_of_parts see sees new)
        → rooms new.links.items ≡ rooms old.links.items → HasRoom see sees old
        → HasRoom see sees new
    room_stays work old new event state happens same room =
        subst (AreRoomy (2 * length (core_of_parts see sees new).stages)) (sym same)
        (subst (λ n. AreRoomy (2 * n) (rooms old.links.items)) (sym (same_count work
        (core_of_parts see sees old) (core_of_parts see sees new) event state happens)) room)
