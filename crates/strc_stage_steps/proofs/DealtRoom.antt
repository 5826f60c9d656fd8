-- What waits after start-up has room where the state dealt out has.
use Rattle.std.proofs.Common.{◌≡◌, refl, sym, ap, ◌∙◌, ℕ, suc, ◌+◌, ◌<◌, ◌≤◌, ℤ}
use Rattle.std.proofs.Common.{List, length, Some, slice_get, arith, true, false, true≢false}
use Rattle.std.specs.Prelude.{slice_index}
use Rattle.strc_elab_dataflow.specs.Streams as trees
use Rattle.strc_elab_graph.specs.Graphs.{NodeCode, Graph, Channel, IsGraph, JoinsPorts, input_ports}
use Rattle.strc_elab_graph.specs.Rates.{fires_by_rounds}
use Rattle.strc_elab_graph.specs.declared.graph.Fission.{Fission}
use Rattle.strc_sched_orders.specs.Schedules.{ScheduleParts}
use Rattle.strc_sched_laws.specs.Circuits.{IsCircuit}
use Rattle.strc_sched_laws.specs.Fits.{Queues}
use Rattle.strc_sched_laws.specs.Machine.{CircuitView, MachineView}
use Rattle.strc_sched_laws.specs.Planned.{IsPlanned}
use Rattle.strc_sched_laws.specs.Simulation.{Simulates}
use Rattle.strc_fiss.specs.Numbers.{is_dealt, last_part, base}
use Rattle.strc_fiss.specs.Splitting.{new_code, renamed_channel, to_copy, from_copy}
use Rattle.strc_fiss.specs.Ways.{fission_of}
use Rattle.strc_fiss.proofs.Each.{Each, all_each}
use Rattle.strc_fiss.proofs.Shares.{there_by}
use Rattle.strc_stage_plan.specs.SplitLaws.{new_graph}
use Rattle.strc_stage_plan.specs.Named.{new_origins, old_node}
use Rattle.strc_stage_plan.specs.Runs.{dealt_from}
use Rattle.strc_stage_plan.proofs.Members.{In, each_in, each_from}
use Rattle.strc_stage_plan.proofs.NewChannels.{copy_within, each_new, gather_within}
use Rattle.strc_stage_plan.proofs.NewNumbers.{IsNumber, code_there, origin_is}
use Rattle.strc_stage_steps.specs.Dealt.{HaveRoom, waiting_at}
use Rattle.strc_stage_steps.specs.DealtLaws.{DealtStatesHaveRoom}
use Rattle.strc_stage_steps.specs.Origins.{is_inside}
use Rattle.strc_stage_steps.proofs.Nodes.{some_same}
use Rattle.strc_stage_steps.proofs.Numbers.{later_inside}
use Rattle.strc_stage_steps.proofs.Waiting.{slice_in, queue_first, waiting_is}

module _ (tree : trees.Stream NodeCode) (old : Graph) (schedule : ScheduleParts)
    (round : List ℕ) (ways : ℕ) (started : Queues) (circuit : CircuitView)
    (old_sizes sizes : List ℕ) (input : List ℤ) (before : MachineView) (is : IsGraph old)
    (planned : IsPlanned old schedule) (wired : IsCircuit old circuit)
    (holds : Simulates old old_sizes input started before)
    (fits : (number : ℕ) (channel : Channel)
    → slice_get (new_graph old schedule round ways).channels number ≡ Some channel
    → length ((dealt_from tree old schedule round ways started).queues channel.target.node
    channel.target.port) ≤ slice_index sizes number) where
  abbrev share : ℕ → Fission
  share = fission_of old round ways

  abbrev new : Graph
  new = new_graph old schedule round ways

  abbrev plain : (node : ℕ) (code : NodeCode) → slice_get old.nodes node ≡ Some code
      → fires_by_rounds code ≡ false
  plain = planned.unfissioned

  -- what waits has room, unless the channel ends inside
  abbrev HasIts : Channel → Type 0
  HasIts channel = (number : ℕ) (code : NodeCode)
      → slice_get new.channels number ≡ Some channel
      → slice_get new.nodes channel.target.node ≡ Some code → is_inside code ≡ false
      → length (waiting_at circuit before
      (old_node (new_origins old round ways) channel.target.node) channel.target.port)
      ≤ slice_index sizes number

  renamed_fits : (own : Channel) → In own old.channels → HasIts (renamed_channel share own)
  renamed_fits own there number code at target outside =
      let joins = each_in (JoinsPorts old.nodes) own old.channels
      (all_each (JoinsPorts old.nodes) old.channels is.channels) there in
      let node = own.target.node in
      let inside : node < length old.nodes =
      there_by input_ports old.nodes own.target.node own.target.port joins.target in
      let first : IsNumber share old.nodes plain (base share node) node 0 = record {
        inside = inside;
        within = omega arith;
        at = omega arith;
      } in
      let waits = ap length
      (ap (λ (n : ℕ). waiting_at circuit before n own.target.port)
      (origin_is share old.nodes plain (base share node) node 0 first)
      ∙ waiting_is old started circuit old_sizes input before wired holds own there
      ∙ sym (queue_first tree old schedule round ways started node own.target.port)) in
      omega (arith, waits, fits number (renamed_channel share own) at)

  inner_fits : (channel : Channel) (node part : ℕ) → node < length old.nodes
      → is_dealt (share node) ≡ true → suc part ≤ last_part share node
      → channel.target.node ≡ base share node + suc part → HasIts channel
  inner_fits channel node part inside e within ends number code at target outside =
      let own : IsNumber share old.nodes plain channel.target.node node (suc part) = record {
        inside = inside;
        within = within;
        at = sym ends;
      } in
      let code_is = some_same code (new_code share old.nodes node (suc part)) (sym target
      ∙ code_there share old.nodes plain channel.target.node node (suc part) own) in
      absurd (true≢false (sym (later_inside share old.nodes plain channel.target.node node
      (suc part) own e part refl) ∙ ap is_inside (sym code_is) ∙ outside))

  each_fits : Each HasIts new.channels
  each_fits =
      each_new share old schedule.greatest schedule.last HasIts
      (each_from (λ channel. HasIts (renamed_channel share channel)) old.channels renamed_fits)
      (λ v i inside e less. inner_fits (to_copy (base share v) i).channel v i inside e
      (copy_within share v i e less) refl)
      (λ v i inside e less. inner_fits (from_copy (base share v) (share v).ways i).channel v
      (share v).ways inside e (gather_within share v e) refl)

  pub have_room : HaveRoom circuit new (new_origins old round ways) sizes before
  have_room number channel code at target outside =
      each_in HasIts channel new.channels each_fits (slice_in new.channels number channel at)
      number code at target outside

pub dealt_states_have_room : DealtStatesHaveRoom
dealt_states_have_room tree old schedule round ways started circuit old_sizes sizes input before is
    planned wired holds fits =
    have_room tree old schedule round ways started circuit old_sizes sizes input before is planned
    wired holds fits
