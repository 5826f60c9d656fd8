-- The parts that a ring begins with.
use Rattle.std.proofs.Common.{◌≡◌, refl, sym, subst, ℕ, List, [], ◌∷◌, ◌++◌, map, replicate}
use Rattle.std.proofs.Common.{length, Option, None}
use Rattle.std.proofs.lemmas.List.{length-map}
use Rattle.std.proofs.lemmas.Simd.{splat_is_map}
use Rattle.std.specs.Global.{Vec}
use Rattle.strc_stage_core.specs.Actors.{Stage, Collector, Work}
use Rattle.strc_stage_core.specs.States.{IsStart, IsState, first_core}
use Rattle.strc_stage_core.specs.States.{Start as CoreStart}
use Rattle.strc_stage_core.specs.Moves.{queues}
use Rattle.strc_stage_core.proofs.Starting.{first_state}
use Rattle.strc_sched_outcome.specs.declared.stop.Stop.{Stop}
use Rattle.strc_stage_core.specs.Parcels.{ParcelView, Load}
use Rattle.strc_stage_core.specs.declared.ring.Parts.{Parts}
use Rattle.strc_stage_core.specs.declared.ring.Start.{Start}
use Rattle.strc_stage_core.specs.Seeing.{core_of_parts, start_of}

module _ {S C State Total : Type 0} (see : S → Stage State Stop) (sees : C → Collector Total Stop)
    (start : Start S C) (links : Vec (Vec ParcelView)) (held : Vec (Option ParcelView))
    (links_count hands_count : ℕ)
    (counts_links : links_count ≡ length start.stages.items)
    (counts_hands : hands_count ≡ length start.stages.items)
    (links_are : queues links.items ≡ replicate links_count [] ++ start.free.items ∷ [])
    (held_are : held.items ≡ replicate hands_count None ++ None ∷ []) where
  abbrev pub parts : Parts S C
  parts = record {
    stages = start.stages;
    links = links;
    held = held;
    collector = start.collector;
  }

  abbrev first : CoreStart State Load Stop Total
  first = start_of see sees start

  pub parts_are_first : core_of_parts see sees parts ≡ first_core first
  unfolding first_core
  parts_are_first =
      let count = length-map start.stages.items see in
      rw (
        links_are,
        held_are,
        counts_links,
        counts_hands,
        splat_is_map {Y = List ParcelView} (map see start.stages.items) (length start.stages.items)
            [] count,
        splat_is_map {Y = Option ParcelView} (map see start.stages.items)
            (length start.stages.items) None count,
      ) refl

  pub parts_are_state : (work : Work State Load Stop Total) → IsStart first
      → (begin : CoreStart State Load Stop Total)
      × IsState work begin (core_of_parts see sees parts)
  parts_are_state work begun = (
    first,
    subst (IsState work first) (sym parts_are_first) (first_state work first begun),
  )
