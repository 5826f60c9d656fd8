-- The fused rounds after fission go on from the state that start-up left as stages ask for, where
-- rings have room in the first of them.
use Rattle.std.proofs.Common.{◌≡◌, refl, sym, ap, ◌∙◌, ℕ, suc, ◌≤◌, ◌<◌, List, Some}
use Rattle.std.proofs.Common.{length, slice_get, Option, true, false, true≢false, None}
use Rattle.std.specs.Option.{option_map_or}
use Rattle.std.proofs.lemmas.Option.{slice_get-get_or, slice_get_within}
use Rattle.strc_elab_dataflow.specs.Streams.{any_code}
use Rattle.strc_elab_graph.specs.Carriers.{carries_in, carries_out, JoinsCarriers}
use Rattle.strc_elab_graph.specs.Graphs.{NodeCode, Channel}
use Rattle.strc_elab_graph.specs.Rates.{pushes_at}
use Rattle.strc_startup.specs.Rates.{push_at}
use Rattle.strc_elab_stream.specs.Instances.{Stream}
use Rattle.strc_sched_laws.specs.ByChannels.{IsByChannels}
use Rattle.strc_sched_laws.specs.Machine.{CircuitView, MachineView}
use Rattle.strc_sched_laws.specs.Simulation.{Simulates}
use Rattle.strc_sched_laws.proofs.Supplies.{element}
use Rattle.strc_elab_dataflow.specs.Ranges.{stage_within}
use Rattle.strc_elab_dataflow.specs.Staging.{IsStaged}
use Rattle.strc_stage_plan.proofs.ByChannels.{split_graphs_are_by_channels}
use Rattle.strc_stage_plan.proofs.ByChannels.{split_copies_have_own_windows}
use Rattle.strc_stage_steps.proofs.Staged.{split_cuts_are_staged}
use Rattle.strc_stage_plan.specs.Fused.{FusedRun, IsFusedRun, graph_of, order_of, state_of}
use Rattle.strc_stage_plan.proofs.Fused.{graphs_resume, rounds_balance}
use Rattle.strc_stage_plan.specs.Cuts.{segment_of}
use Rattle.strc_stage_steps.specs.Runnings.{HasRoom, IsRunning}
use Rattle.strc_stage_steps.proofs.Room.{rounds_have_room}
use Rattle.strc_stage_steps.specs.SplitRingsLaws.{nodes_of, running_after, IsCutRun}
use Rattle.strc_stage_steps.proofs.Own.{fires_there, numbered, steady, repeats}

source_found : (found : Option NodeCode) (port : ℕ)
    → option_map_or (λ code. carries_out code port) found false ≡ true
    → (code : NodeCode) × (found ≡ Some code)
source_found None port e = absurd (true≢false (sym e))
source_found (Some code) port e = (code, refl)

target_found : (found : Option NodeCode) (port : ℕ)
    → option_map_or (λ code. carries_in code port) found false ≡ true
    → (code : NodeCode) × (found ≡ Some code)
target_found None port e = absurd (true≢false (sym e))
target_found (Some code) port e = (code, refl)

module _ (run : FusedRun) (limit : ℕ) (is : IsFusedRun run limit) where
  pub joins : IsByChannels (graph_of run) (nodes_of run)
  joins = split_graphs_are_by_channels run.tree run.old run.schedule run.round run.ways is.program
      is.is is.planned is.known

  pub code_there : (number : ℕ) → number < length (nodes_of run).nodes
      → slice_get (nodes_of run).nodes number ≡ Some ((graph_of run).code number)
  code_there number less = slice_get-get_or (nodes_of run).nodes number (any_code run.tree) less

  module _ (number : ℕ) (channel : Channel)
      (there : slice_get (nodes_of run).channels number ≡ Some channel) where
    carriers : JoinsCarriers (nodes_of run).nodes channel
    carriers = element (JoinsCarriers (nodes_of run).nodes) (nodes_of run).channels number channel
        joins.joined there

    pub source_there : channel.source.node < length (nodes_of run).nodes
    source_there =
        let (code, found) = source_found (slice_get (nodes_of run).nodes channel.source.node)
        channel.source.port carriers.source in
        slice_get_within (nodes_of run).nodes channel.source.node code found

    pub target_there : channel.target.node < length (nodes_of run).nodes
    target_there =
        let (code, found) = target_found (slice_get (nodes_of run).nodes channel.target.node)
        channel.target.port carriers.target in
        slice_get_within (nodes_of run).nodes channel.target.node code found

    pub push_is : push_at (nodes_of run).nodes 1 channel.source
        ≡ pushes_at ((graph_of run).code channel.source.node) 1 channel.source.port
    push_is = ap (λ (found : Option NodeCode).
        option_map_or (λ node. pushes_at node 1 channel.source.port) found 0)
        (code_there channel.source.node source_there)

    pub pushes_same : (firing : ℕ) → ((state_of run).runs channel.source.node).fired ≤ firing
        → pushes_at ((graph_of run).code channel.source.node) firing channel.source.port
        ≡ push_at (nodes_of run).nodes 1 channel.source
    pushes_same firing later =
        (steady run limit is channel.source.node source_there).pushes firing channel.source.port
        later
        ∙ sym push_is

module _ (run : FusedRun) (limit : ℕ) (sizes : List ℕ) (stream : Stream)
    (bound : (stage : ℕ) → ℕ) (last : ℕ) (circuit : CircuitView) (started : MachineView)
    (is : IsCutRun run limit sizes stream bound last circuit)
    (holds : Simulates (nodes_of run) sizes circuit.input (state_of run) started)
    (room : HasRoom (running_after run sizes) (graph_of run) (state_of run) 0) where
  staged : IsStaged (graph_of run) (stage_within bound last) (segment_of bound (order_of run))
      (suc last) (order_of run)
  staged =
      let by_stream = split_cuts_are_staged stream run.old run.schedule run.round run.ways limit
      run.fused bound last is.fission is.cut in
      record {
        own = by_stream.own;
        order = by_stream.order;
        within = by_stream.within;
        backward = by_stream.backward;
      }

  pub is_running : IsRunning (running_after run sizes) (graph_of run) (state_of run) run.rounds
      bound last circuit
  is_running = record {
    resumption = graphs_resume run limit (stage_within bound last)
        (segment_of bound (order_of run)) (suc last) is.fused staged;
    joins = joins run limit is.fused;
    is_circuit = is.is_circuit;
    windows = λ node firing within. split_copies_have_own_windows run.tree run.old run.schedule
        run.round run.ways is.fused.program is.fused.is is.fused.planned is.fused.known node
        firing;
    nodes = fires_there run limit is.fused;
    reads = holds.reads;
    pushes = pushes_same run limit is.fused;
    numbered = numbered run limit is.fused is.few;
    room = λ round less. rounds_have_room (running_after run sizes) (graph_of run) (state_of run)
        (joins run limit is.fused) (repeats run limit is.fused)
        (rounds_balance run limit is.fused) room round;
  }
