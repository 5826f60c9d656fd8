-- What dealing out is worth.
use Rattle.std.specs.Prelude.{◌≡◌, ℕ, ◌≤◌, ℤ, List, length, Some, slice_get, slice_index}
use Rattle.strc_elab_dataflow.specs.Streams as trees
use Rattle.strc_elab_graph.specs.Graphs.{NodeCode, Graph, Channel, IsGraph}
use Rattle.strc_sched_orders.specs.Schedules.{ScheduleParts}
use Rattle.strc_sched_laws.specs.Circuits.{IsCircuit}
use Rattle.strc_sched_laws.specs.Fits.{Queues}
use Rattle.strc_sched_laws.specs.Machine.{CircuitView, MachineView}
use Rattle.strc_sched_laws.specs.Planned.{IsPlanned}
use Rattle.strc_sched_laws.specs.Simulation.{Simulates}
use Rattle.strc_stage_plan.specs.SplitLaws.{new_graph}
use Rattle.strc_stage_plan.specs.Named.{new_origins}
use Rattle.strc_stage_plan.specs.Runs.{dealt_from}
use Rattle.strc_stage_steps.specs.Dealt.{HaveRoom, IsDealt}
use Rattle.strc_stage_steps.specs.Origins.{AreOrigins}

-- The origins that fission gives say what each node stands for.
abbrev pub FissionsHaveOrigins : Type 0
FissionsHaveOrigins =
    (old : Graph) (schedule : ScheduleParts) (round : List ℕ) (ways : ℕ)
    → IsPlanned old schedule
    → AreOrigins old.nodes (new_graph old schedule round ways).nodes (new_origins old round ways)

-- Where a machine holds the state that start-up came to, the one that it is dealt out to holds the
-- state dealt out.
abbrev pub DealtMachinesHold : Type 0
DealtMachinesHold =
    (tree : trees.Stream NodeCode) (old : Graph) (schedule : ScheduleParts) (round : List ℕ)
    (ways : ℕ) (started : Queues) (circuit : CircuitView) (old_sizes sizes : List ℕ)
    (input : List ℤ) (before after : MachineView)
    → IsGraph old → IsPlanned old schedule → IsCircuit old circuit
    → Simulates old old_sizes input started before
    → IsDealt circuit (new_graph old schedule round ways) (new_origins old round ways) sizes before
    after
    → Simulates (new_graph old schedule round ways) sizes input
    (dealt_from tree old schedule round ways started) after

-- Where rings of these sizes have room for the state dealt out, they have it for what waits after
-- start-up.
abbrev pub DealtStatesHaveRoom : Type 0
DealtStatesHaveRoom =
    (tree : trees.Stream NodeCode) (old : Graph) (schedule : ScheduleParts) (round : List ℕ)
    (ways : ℕ) (started : Queues) (circuit : CircuitView) (old_sizes sizes : List ℕ)
    (input : List ℤ) (before : MachineView)
    → IsGraph old → IsPlanned old schedule → IsCircuit old circuit
    → Simulates old old_sizes input started before
    → ((number : ℕ) (channel : Channel)
    → slice_get (new_graph old schedule round ways).channels number ≡ Some channel
    → length ((dealt_from tree old schedule round ways started).queues channel.target.node
    channel.target.port) ≤ slice_index sizes number)
    → HaveRoom circuit (new_graph old schedule round ways) (new_origins old round ways) sizes
    before
