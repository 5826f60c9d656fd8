-- Batches run by a ring of stages.
use Rattle.std.specs.Prelude.{◌≡◌, ◌⊎◌, ℕ, suc, ◌+◌, ◌*◌, ◌≤◌, true, List, Option, Some, None}
use Rattle.std.specs.Prelude.{slice_get}
use Rattle.strc_work_meaning.specs.declared.word.Word.{Word}
use Rattle.strc_elab_dataflow.specs.Answer.{Outcome.Done}
use Rattle.strc_elab_dataflow.specs.Flat as flat
use Rattle.strc_elab_dataflow.specs.Queues.{fifo_rounds}
use Rattle.strc_elab_dataflow.specs.Ranges.{stage_within}
use Rattle.strc_elab_dataflow.specs.Staging.{IsStaged}
use Rattle.strc_elab_graph.specs.Graphs.{NodeCode, Channel}
use Rattle.strc_elab_graph.specs.Meaning.{node_meaning}
use Rattle.strc_elab_graph.specs.Rates.{pushes_at}
use Rattle.strc_startup.specs.Rates.{push_at}
use Rattle.strc_sched_laws.specs.Fits.{Queues}
use Rattle.strc_sched_laws.specs.Machine.{CircuitView, MachineView}
use Rattle.strc_stage_core.specs.Events.{is_over}
use Rattle.strc_stage_core.specs.States.{Start, Core, IsState}
use Rattle.strc_sched_outcome.specs.declared.stop.Stop.{Stop}
use Rattle.strc_sched_outcome.specs.declared.stop.Stop.TheVariants as stop
use Rattle.strc_stage_core.specs.Parcels.{Load}
use Rattle.strc_stage_plan.specs.Cuts.{segment_of}
use Rattle.strc_stage_steps.specs.Beginnings.{IsBeginning}
use Rattle.strc_stage_steps.specs.Laws.{TellsOutcome}
use Rattle.strc_stage_steps.specs.Runnings.{Running, IsRunning}
use Rattle.strc_stage_steps.specs.Steps.{StageState, Gathered, stage_work}
use Rattle.strc_batch_plans.specs.Batched.{Batching, GoesByBatches, in_batches, order_of}

-- From a state on each firing pushes as many items onto a channel.
abbrev pub PushesStay : Running → flat.Graph NodeCode → (from : Queues) → Type 0
PushesStay running by_source from =
    (number : ℕ) (channel : Channel) → slice_get running.graph.channels number ≡ Some channel
    → (firing : ℕ) → (from.runs channel.source.node).fired ≤ firing
    → pushes_at (by_source.code channel.source.node) firing channel.source.port
    ≡ push_at running.graph.nodes 1 channel.source

-- Batches that go on from what a machine has come to can be run by stages, each a step a batch,
-- where the batch's order is cut into stages from these bounds on.
abbrev pub BatchesAreRunning : Type 0
BatchesAreRunning =
    (running : Running) (by_source : flat.Graph NodeCode) (from : Queues) (batch : Batching)
    (m n : ℕ) (circuit : CircuitView) (later : MachineView) (bound : (stage : ℕ) → ℕ) (last : ℕ)
    (goes : GoesByBatches running by_source from batch m n circuit later)
    → PushesStay running by_source from
    → IsStaged by_source (stage_within bound last) (segment_of bound (order_of batch)) (suc last)
    (order_of batch)
    → IsRunning (in_batches running batch) by_source goes.mid n bound last circuit

-- So where a ring of them is over and nothing stopped it, it has come to the words of all the
-- rounds, round by round.
abbrev pub BatchRingsTell : Type 0
BatchRingsTell =
    (running : Running) (by_source : flat.Graph NodeCode) (from : Queues) (batch : Batching)
    (m n : ℕ) (circuit : CircuitView) (later : MachineView) (bound : (stage : ℕ) → ℕ) (last : ℕ)
    (start : Start StageState Load Stop Gathered) (core : Core StageState Load Stop Gathered)
    → GoesByBatches running by_source from batch m n circuit later
    → PushesStay running by_source from
    → IsStaged by_source (stage_within bound last) (segment_of bound (order_of batch)) (suc last)
    (order_of batch)
    → IsBeginning (in_batches running batch) bound last circuit later n start
    → IsState stage_work start core → is_over core ≡ true → core.collector.stop ≡ None
    → TellsOutcome running.graph.nodes core.collector.total None
    (fifo_rounds node_meaning by_source circuit.input running.order (m + n * batch.rounds) 0 from)

-- A ring that is over was stopped by nothing, or wanted memory.
abbrev pub WantedAtMostMemory : Option Stop → Type 0
WantedAtMostMemory why = (why ≡ None) ⊎ (why ≡ Some stop.NoMemory)

-- And where the rounds come to their end, such a ring stops for nothing but memory.
abbrev pub BatchRingsEnd : Type 0
BatchRingsEnd =
    (running : Running) (by_source : flat.Graph NodeCode) (from : Queues) (batch : Batching)
    (m n : ℕ) (circuit : CircuitView) (later : MachineView) (bound : (stage : ℕ) → ℕ) (last : ℕ)
    (start : Start StageState Load Stop Gathered) (core : Core StageState Load Stop Gathered)
    (words : ℕ → List Word)
    → GoesByBatches running by_source from batch m n circuit later
    → PushesStay running by_source from
    → IsStaged by_source (stage_within bound last) (segment_of bound (order_of batch)) (suc last)
    (order_of batch)
    → IsBeginning (in_batches running batch) bound last circuit later n start
    → IsState stage_work start core → is_over core ≡ true
    → fifo_rounds node_meaning by_source circuit.input running.order (m + n * batch.rounds) 0 from
    ≡ Done words
    → WantedAtMostMemory core.collector.stop
