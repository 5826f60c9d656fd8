-- A ring of stages and a collector, and how the core sees it, through a view of each.
use Rattle.std.specs.Prelude.{◌*◌, List, map, length, Option}
use Rattle.strc_stage_core.specs.Actors.{Stage, Collector}
use Rattle.strc_stage_core.specs.Moves.{queues, rooms, AreRoomy}
use Rattle.strc_stage_core.specs.States.{Core}
use Rattle.strc_stage_core.specs.States.{Start as CoreStart}
use Rattle.strc_sched_outcome.specs.declared.stop.Stop.{Stop}
use Rattle.strc_stage_core.specs.Parcels.{ParcelView, Load}
use Rattle.strc_stage_core.specs.declared.ring.Parts.{Parts}
use Rattle.strc_stage_core.specs.declared.ring.Start.{Start}

-- Stages and collector; the link after each of them, in order, and what each holds, those of the
-- collector last.
pub record Ring (S C : Type 0) : Type 0 where
  pub stages : List S
  pub links : List (List ParcelView)
  pub hands : List (Option ParcelView)
  pub collector : C

abbrev pub ring_of : {S C : Type 0} → Parts S C → Ring S C
ring_of parts = record {
  stages = parts.stages.items;
  links = queues parts.links.items;
  hands = parts.held.items;
  collector = parts.collector;
}

module _ {S C State Total : Type 0} (see : S → Stage State Stop) (sees : C → Collector Total Stop)
  where
    -- The core that a ring is, and that parts are.
    abbrev pub core_of : Ring S C → Core State Load Stop Total
    core_of ring = record {
      stages = map see ring.stages;
      links = ring.links;
      hands = ring.hands;
      collector = sees ring.collector;
    }

    abbrev pub core_of_parts : Parts S C → Core State Load Stop Total
    core_of_parts parts = core_of (ring_of parts)

    -- What a ring begins with. All have finished at first where the collector has.
    abbrev pub start_of : Start S C → CoreStart State Load Stop Total
    start_of start = record {
      stages = map see start.stages.items;
      free = start.free.items;
      collector = sees start.collector;
      done = (sees start.collector).finished;
    }

    -- Each link has room for all parcels.
    abbrev pub HasRoom : Parts S C → Type 0
    HasRoom parts =
        AreRoomy (2 * length (core_of_parts parts).stages) (rooms parts.links.items)
