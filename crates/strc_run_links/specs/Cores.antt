-- A ring as the core sees it, through a view of its stages and one of its collector.
use Rattle.strc_stage_core.specs.Actors.{Stage, Collector, Work, Step, Collects}
use Rattle.strc_stage_core.specs.Parcels.{ParcelView, Load}
use Rattle.strc_stage_core.specs.Seeing.{start_of, core_of_parts}
use Rattle.strc_stage_core.specs.States.{IsStart, IsState}
use Rattle.strc_stage_core.specs.declared.ring.Parts.{Parts}
use Rattle.strc_stage_core.specs.declared.ring.Start.{Start}
use Rattle.strc_sched_outcome.specs.declared.stop.Stop.{Stop}
use Rattle.strc_run_links.specs.States.{IsRing}

-- Where each step is seen as one of the core, a ring is seen as a state.
abbrev pub RingsAreStates : (State Total : Type 0) → {S C : Type 0}
    → (S → ParcelView → S → ParcelView → Type 0)
    → (C → ParcelView → C → ParcelView → Type 0) → Type 0
RingsAreStates State Total {S} {C} Does Gathers =
    (work : Work State Load Stop Total)
    (see : S → Stage State Stop) (sees : C → Collector Total Stop)
    → ((s : S) (p : ParcelView) (t : S) (q : ParcelView) → Does s p t q
    → Step work (see s) p (see t) q)
    → ((c : C) (p : ParcelView) (d : C) (q : ParcelView) → Gathers c p d q
    → Collects work (sees c) p (sees d) q)
    → (start : Start S C) (parts : Parts S C) → IsRing Does Gathers start parts
    → IsStart (start_of see sees start)
    → IsState work (start_of see sees start) (core_of_parts see sees parts)
