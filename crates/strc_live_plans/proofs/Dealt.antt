-- What start-up left has room in the graph after fission, and so is dealt out there.
use Rattle.std.proofs.Common.{◌≡◌, refl, sym, ap, ◌∙◌, subst, ℕ, ◌*◌, ◌≤◌, arith}
use Rattle.std.proofs.Common.{ℤ, List, [], length, Some, slice_get, slice_index}
use mathlib.Core.Path.{fun_ext}
use Rattle.strc_elab_dataflow.specs.Flat as flat
use Rattle.strc_elab_dataflow.specs.Flat.{Origin, Origin.Nowhere, Origin.Input, Origin.Port}
use Rattle.strc_elab_dataflow.specs.Node.{total}
use Rattle.strc_elab_dataflow.specs.Order as orders
use Rattle.strc_elab_dataflow.specs.Restart.{restarted_meaning, restarted, taken_in}
use Rattle.strc_elab_dataflow.specs.Streams as trees
use Rattle.strc_elab_graph.specs.FlatGraphs.{IsProgram}
use Rattle.strc_elab_graph.specs.Graphs.{NodeCode, Graph, Channel}
use Rattle.strc_elab_graph.specs.Meaning.{node_meaning}
use Rattle.strc_fiss.specs.declared.split.Origin as parts
use Rattle.strc_sched_laws.specs.Fits.{Queues}
use Rattle.strc_sched_laws.specs.Machine.{CircuitView, MachineView}
use Rattle.strc_stage_plan.specs.Fused.{FusedRun, IsFusedRun, graph_of as flow_of, order_of}
use Rattle.strc_stage_plan.specs.Fused.{state_of}
use Rattle.strc_stage_plan.specs.Named.{new_origins}
use Rattle.strc_stage_plan.specs.Plans.{PlanParts, IsPlan, graph_of, transformed_of}
use Rattle.strc_stage_steps.specs.Dealt.{HaveRoom, IsDealt}
use Rattle.strc_stage_steps.specs.Plans.{HasStarted, Suffices}
use Rattle.strc_stage_steps.specs.Runnings.{HasRoom}
use Rattle.strc_stage_steps.specs.SplitRingsLaws.{nodes_of, running_after}
use Rattle.strc_stage_steps.proofs.DealtRoom.{dealt_states_have_room}
use Rattle.strc_stage_steps.proofs.Plans.{graph_is, have_sizes, is_fused_run, origins_are, run}
use Rattle.strc_stage_steps.proofs.Plans.{threshold, ways}
use Rattle.strc_stage_steps.proofs.SplitRingsRoom.{room_at_first}
use Rattle.strc_stage_steps.proofs.Started.{IsLeft, is_left}
use Rattle.strc_live_plans.specs.Startups.{HasBegun}

-- ---- before any firing what waits is what is in the queues

module _ (graph : flat.Graph NodeCode) (from : Queues) (node port : ℕ) where
  none_yet : (counts : ℕ → ℕ)
      → orders.counted (orders.counts_after (λ v. 0) counts 0) [] ≡ (λ v. 0)
  unfolding orders.counted orders.counts_after
  none_yet counts = fun_ext (λ v. let none : 0 * counts v ≡ 0 = omega arith in omega (arith, none))

  none_given : (origin : Origin)
      → orders.supply_of (restarted_meaning node_meaning) (restarted from graph) [] (λ v. 0)
      (taken_in origin) ≡ 0
  unfolding orders.supply_of taken_in total
  none_given Nowhere = refl
  none_given Input = refl
  none_given (Port source source_port) = refl

  fill_at_first : (counts : ℕ → ℕ)
      → orders.fill (restarted_meaning node_meaning) (restarted from graph) []
      (orders.counted (orders.counts_after (λ v. 0) counts 0) []) node port
      ≡ length (from.queues node port)
  unfolding orders.fill orders.supply restarted total
  fill_at_first counts =
      let given = none_given (graph.source node port).origin in
      ap (λ (c : ℕ → ℕ). orders.fill (restarted_meaning node_meaning) (restarted from graph) [] c
      node port) (none_yet counts)
      ∙ omega (arith, given)

-- ---- so the queues have room

module _ (tree : trees.Stream NodeCode) (plan : PlanParts) (begin : List ℤ)
    (old circuit : CircuitView) (started : MachineView) (program : IsProgram tree (graph_of plan))
    (begun : HasBegun plan begin old circuit started) where
  abbrev is : IsPlan plan
  is = begun.can.ready.is

  abbrev has : HasStarted plan begin old circuit started
  has = begun.startup

  abbrev sizes : List ℕ
  sizes = plan.split.schedule.sizes

  enough : Suffices plan begin 0
  enough = record { few = omega arith; supplied = omega (arith, begun.can.just) }

  left : IsLeft tree (graph_of plan) plan.schedule program is.planned begun.can.ready.known begin 0
      enough.supplied old begun.can.ready.wired begun.can.ready.reads_it has.first has.is_first
      has.left
  left = is_left tree (graph_of plan) plan.schedule program is.planned begun.can.ready.known begin
      0 enough.supplied old begun.can.ready.wired begun.can.ready.reads_it has.first has.is_first
      has.left has.went

  abbrev its : FusedRun
  its = run plan is begun.can.ready.graph begun.can.ready.known tree program begin 0 enough
      left.now left.went

  fused : IsFusedRun its (threshold plan is)
  fused = is_fused_run plan is begun.can.ready.graph begun.can.ready.known tree program begin 0
      enough left.now left.went

  room : HasRoom (running_after its sizes) (flow_of its) (state_of its) 0
  room = room_at_first its (threshold plan is) fused sizes
      (have_sizes plan is begun.can.ready.graph begun.can.ready.known tree program begin 0 enough
      left.now left.went)

  waits_fit : (number : ℕ) (channel : Channel)
      → slice_get (nodes_of its).channels number ≡ Some channel
      → length ((state_of its).queues channel.target.node channel.target.port)
      ≤ slice_index sizes number
  waits_fit number channel there =
      let waits = fill_at_first (flow_of its) (state_of its) channel.target.node
      channel.target.port (orders.firing_count (order_of its)) in
      omega (arith, waits, room [] (order_of its) refl number channel there)

  have_room : HaveRoom old (nodes_of its)
      (new_origins (graph_of plan) plan.round_counts (ways plan is)) sizes has.left
  have_room = dealt_states_have_room tree (graph_of plan) plan.schedule plan.round_counts
      (ways plan is) left.now old plan.schedule.sizes sizes begin has.left begun.can.ready.graph
      is.planned begun.can.ready.wired left.simulates waits_fit

  pub is_dealt_out : IsDealt old (transformed_of plan) plan.split.origins sizes has.left started
  is_dealt_out =
      has.dealt (subst (λ (g : Graph). HaveRoom old g plan.split.origins sizes has.left)
      (sym (graph_is plan is))
      (subst (λ (l : List parts.Origin). HaveRoom old (nodes_of its) l sizes has.left)
      (sym (origins_are plan is)) have_room))
