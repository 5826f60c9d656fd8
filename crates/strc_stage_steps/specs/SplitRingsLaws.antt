-- Rings of stages over a planned program's graph after fission, whose round is fused.
use Rattle.std.specs.Prelude.{◌≡◌, ℕ, suc, ◌<◌, ◌^◌, true, List, Option}
use Rattle.strc_work_meaning.specs.declared.fault.Cause.{Cause}
use Rattle.strc_work_meaning.specs.declared.word.Word.{Word}
use Rattle.strc_elab_dataflow.specs.Answer.{Outcome}
use Rattle.strc_elab_dataflow.specs.Order.{firing_count}
use Rattle.strc_elab_graph.specs.Graphs.{Graph}
use Rattle.strc_elab_stream.specs.Instances.{Stream}
use Rattle.strc_sched_orders.specs.Firings.{none_fired}
use Rattle.strc_sched_orders.specs.Peaks.{AreRaised}
use Rattle.strc_sched_orders.specs.Sizing.{round_rates_on}
use Rattle.strc_sched_laws.specs.Circuits.{IsCircuit}
use Rattle.strc_sched_laws.specs.Machine.{CircuitView, MachineView}
use Rattle.strc_sched_laws.specs.Simulation.{Simulates}
use Rattle.strc_fiss.specs.Splitting.{split_greatest, split_last}
use Rattle.strc_fiss.specs.Ways.{fission_of}
use Rattle.strc_stage_plan.specs.Fusions.{ComesToAnswerIn}
use Rattle.strc_stage_plan.specs.SplitLaws.{new_graph}
use Rattle.strc_stage_plan.specs.Runs.{parts_of}
use Rattle.strc_stage_plan.specs.Fused.{FusedRun, IsFusedRun, graph_of, named_order_of}
use Rattle.strc_stage_plan.specs.Fused.{order_of, state_of}
use Rattle.strc_stage_steps.specs.SplitCutLaws.{IsFusedFission}
use Rattle.strc_stage_plan.specs.Cuts.{IsCutOf}
use Rattle.strc_stage_core.specs.Events.{is_over}
use Rattle.strc_stage_core.specs.States.{Start, Core, IsState}
use Rattle.strc_sched_outcome.specs.declared.stop.Stop.{Stop}
use Rattle.strc_stage_core.specs.Parcels.{Load}
use Rattle.strc_stage_steps.specs.Beginnings.{IsBeginning}
use Rattle.strc_stage_steps.specs.Laws.{TellsOutcome}
use Rattle.strc_stage_steps.specs.Runnings.{Running, IsRunning}
use Rattle.strc_stage_steps.specs.Steps.{StageState, Gathered, stage_work}

-- the graph after fission
abbrev pub nodes_of : FusedRun → Graph
nodes_of run = new_graph run.old run.schedule run.round run.ways

-- its fused rounds, over rings of these sizes
abbrev pub running_after : FusedRun → (sizes : List ℕ) → Running
running_after run sizes = record {
  graph = nodes_of run;
  counts = firing_count (order_of run);
  order = order_of run;
  sizes = sizes;
}

-- a ring has room for the greatest number of items that its channel has in start-up, and in one
-- fused round after fission
abbrev pub HaveSizes : FusedRun → (sizes : List ℕ) → Type 0
HaveSizes run sizes =
    AreRaised (round_rates_on (nodes_of run)
    (split_last (fission_of run.old run.round run.ways) run.old run.schedule.greatest
    run.schedule.last)) none_fired (order_of run)
    (split_greatest (fission_of run.old run.round run.ways) run.old run.schedule.greatest
    run.schedule.last) sizes

-- so many rounds of a stream's program after fission and fusion, cut into stages from these bounds
-- on, and the circuit of its graph with the program's input
pub record IsCutRun (run : FusedRun) (limit : ℕ) (sizes : List ℕ) (stream : Stream)
    (bound : (stage : ℕ) → ℕ) (last : ℕ) (circuit : CircuitView) : Type 0 where
  pub fused : IsFusedRun run limit
  pub few : run.rounds < 2 ^ 32
  pub fission : IsFusedFission stream run.old run.schedule run.round run.ways limit run.fused
  pub cut : IsCutOf (nodes_of run) run.fused bound (suc last)
  pub sizes_are : HaveSizes run sizes
  pub is_circuit : IsCircuit (nodes_of run) circuit
  pub reads_it : circuit.input ≡ run.input

-- Such a run goes on from the state that start-up left, dealt out to the parts, as stages ask for,
-- where a machine holds that state.
abbrev pub SplitGraphsAreRunning : Type 0
SplitGraphsAreRunning =
    (run : FusedRun) (limit : ℕ) (sizes : List ℕ) (stream : Stream) (bound : (stage : ℕ) → ℕ)
    (last : ℕ) (circuit : CircuitView) (started : MachineView)
    → IsCutRun run limit sizes stream bound last circuit
    → Simulates (nodes_of run) sizes circuit.input (state_of run) started
    → IsRunning (running_after run sizes) (graph_of run) (state_of run) run.rounds bound last
    circuit

-- What a collector has come to is an outcome that is the answer of the program's stream equations
-- by the order of the round; out of memory tells nothing.
pub record TellsAnswer (run : FusedRun) (total : Gathered) (why : Option Stop) : Type 0 where
  pub outcome : Outcome Cause Word
  pub tells : TellsOutcome (nodes_of run).nodes total why outcome
  pub answers : ComesToAnswerIn (named_order_of run) run.tree run.schedule run.input run.rounds
      (parts_of run.tree run.old run.schedule run.round run.ways) outcome

-- So a ring of stages over it that is over, by whatever events, has come to the answer.
abbrev pub SplitRingsAnswer : Type 0
SplitRingsAnswer =
    (run : FusedRun) (limit : ℕ) (sizes : List ℕ) (stream : Stream) (bound : (stage : ℕ) → ℕ)
    (last : ℕ) (circuit : CircuitView) (started : MachineView)
    (start : Start StageState Load Stop Gathered) (core : Core StageState Load Stop Gathered)
    → IsCutRun run limit sizes stream bound last circuit
    → Simulates (nodes_of run) sizes circuit.input (state_of run) started
    → IsBeginning (running_after run sizes) bound last circuit started run.rounds start
    → IsState stage_work start core → is_over core ≡ true
    → TellsAnswer run core.collector.total core.collector.stop
