-- Stages as the definitions see them.
use Rattle.std.specs.Prelude.{◌≡◌, true, Option, Some, None, is_some, if◌then◌else◌}
use Rattle.strc_stage_core.specs.Actors as actors
use Rattle.strc_sched_orders.specs.Greedy.{firings_of}
use Rattle.strc_sched_laws.specs.Machine.{MachineView}
use Rattle.strc_sched_outcome.specs.declared.stop.Stop.{Stop}
use Rattle.strc_sched_machine.specs.Batches.{IsOrderOf, units_of}
use Rattle.strc_sched_rings.specs.Circuits.{circuit_view}
use Rattle.strc_sched_machine.specs.Running.{IsMachine, machine_view}
use Rattle.strc_stage_steps.specs.Steps.{StageState}
use Rattle.strc_stage_steps.specs.Tapes.{AreAfter}
use Rattle.strc_stage_steps.specs.declared.stage.StageParts.{StageParts}

-- What it works on, while no step of its own was stopped.
abbrev pub state_of : StageParts → StageState
state_of parts = record {
  circuit = circuit_view parts.circuit;
  order = firings_of (units_of parts.order);
  entering = parts.entering.items;
  leaving = parts.leaving.items;
  tapes = parts.tapes.items;
  blocks = parts.blocks.items;
  tape_count = parts.tape_count;
  machine = if parts.broken then None else Some (machine_view parts.machine);
}

abbrev pub see : StageParts → actors.Stage StageState Stop
see parts = record {
  inner = state_of parts;
  first = parts.first;
  rounds = parts.rounds;
  taken = parts.taken;
  stop = parts.stop;
  finished = parts.finished;
}

-- Its machine and its order are of its circuit, its tapes are in order, and it has a stop where a
-- step was stopped.
pub record IsStage (parts : StageParts) : Type 0 where
  pub machine : IsMachine (circuit_view parts.circuit) parts.machine
  pub order : IsOrderOf (circuit_view parts.circuit) parts.order
  pub tapes : AreAfter 0 parts.tapes.items
  pub stopped : parts.broken ≡ true → is_some parts.stop ≡ true
