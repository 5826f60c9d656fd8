-- What start-up of a plan stands on, and how it ends.
use Rattle.std.proofs.Common.{◌≡◌, sym, ap, ◌∙◌, subst, ℕ, zero, suc, ℤ, List}
use Rattle.std.proofs.Common.{Bool, true, false, cond, nat_lt, Result, Ok, Err}
use Rattle.std.specs.Prelude.{IfOk}
use Rattle.std.proofs.lemmas.Option.{slice_get_within, get_or_from_slice_get}
use Rattle.strc_lex_names.specs.declared.memory.NoMemory.{NoMemory}
use Rattle.strc_elab_graph.specs.Graphs as graphs
use Rattle.strc_elab_graph.specs.Graphs.{Graph, NodeCode, IsGraph}
use Rattle.strc_elab_graph.specs.NodeView.{GraphParts, graph_view}
use Rattle.strc_elab_graph.specs.declared.graph.Fission.{Fission}
use Rattle.strc_work_meaning.specs.declared.word.Word.{Word}
use Rattle.strc_sched_laws.specs.Circuits.{IsCircuit, IsFirst}
use Rattle.strc_sched_laws.specs.Laws.{startup_order}
use Rattle.strc_sched_laws.specs.Machine.{CircuitView, MachineView, Went, order_run}
use Rattle.strc_sched_laws.specs.Planned.{AreKnown}
use Rattle.strc_sched_machine.specs.Actors.{AreClosed, IsClosedNode, AreStartable, CanStartNode}
use Rattle.strc_sched_machine.specs.Actors.{CanStartCopy}
use Rattle.strc_sched_machine.specs.Running.{HasGone, machine_view}
use Rattle.strc_sched_outcome.specs.declared.stop.Stop.{Stop}
use Rattle.strc_sched_outcome.specs.declared.stop.Stop.TheVariants as stops
use Rattle.strc_sched_machine.proofs.Startable.{all_start}
use Rattle.strc_fiss.specs.Numbers.{is_dealt}
use Rattle.strc_fiss.specs.Splitting.{code_at, copied, new_code, part_of}
use Rattle.strc_fiss.specs.Ways.{fission_of}
use Rattle.strc_fiss.specs.declared.split.Origin.{Origin}
use Rattle.strc_stage_plan.specs.SplitLaws.{new_graph}
use Rattle.strc_stage_plan.proofs.NewNumbers.{code_there, number_of, old_there}
use Rattle.strc_stage_steps.specs.Dealt.{HaveRoom, IsDealt}
use Rattle.strc_stage_steps.specs.Origins.{AreOrigins}
use Rattle.strc_stage_steps.proofs.Numbers as dealing
use Rattle.strc_stage_plan.specs.Plans.{IsPlan, PlanParts, graph_of}
use Rattle.strc_stage_steps.specs.Plans.{IsReadyFor}
use Rattle.strc_stage_steps.proofs.Plans.{graph_is, origins_are}
use Rattle.strc_stage_cut.specs.Startups.{HasDealt, IsDealtOf, IsFaultOf, IsStartup, IsStartupIn}
use Rattle.strc_stage_cut.specs.declared.startup.Startup.{Startup}
use Rattle.strc_stage_cut.specs.declared.startup.Startup.TheVariants as startup

-- the names in each filter are known
pub all_known : (graph : Graph) → AreClosed graph.nodes → AreKnown graph
all_known graph closed filter is =
    let code : NodeCode = graphs.Filter is.1 filter in
    subst IsClosedNode (get_or_from_slice_get graph.nodes is.0 code code is.2)
    (closed is.0 code (slice_get_within graph.nodes is.0 code is.2))

-- before start-up
pub is_ready : (plan : PlanParts) (graph : GraphParts) (input : List ℤ) (circuit : CircuitView)
    → IsPlan plan → IsGraph (graph_of plan) → graph ≡ plan.graph
    → IsCircuit (graph_view graph) circuit → circuit.input ≡ input
    → AreClosed (graph_view graph).nodes → IsReadyFor plan input circuit
is_ready plan graph input circuit is lawful same wired reads closed = record {
  is = is;
  graph = lawful;
  known = all_known (graph_of plan)
      (subst (λ (g : GraphParts). AreClosed (graph_view g).nodes) same closed);
  wired = subst (λ (g : GraphParts). IsCircuit (graph_view g) circuit) same wired;
  reads_it = reads;
}

pub first_is : (plan : PlanParts) (graph : GraphParts) (sizes : List ℕ) (machine : MachineView)
    → graph ≡ plan.graph → sizes ≡ plan.schedule.sizes
    → IsFirst (graph_view graph) sizes machine
    → IsFirst (graph_of plan) plan.schedule.sizes machine
first_is plan graph sizes machine same sized first =
    subst (λ (l : List ℕ). IsFirst (graph_of plan) l machine) sized
    (subst (λ (g : GraphParts). IsFirst (graph_view g) sizes machine) same first)

-- ---- nodes after fission

copy_starts : (code : NodeCode) → CanStartNode code → CanStartCopy (copied code)
copy_starts (graphs.Filter name filter) starts = starts
copy_starts graphs.Identity starts = tt
copy_starts (graphs.FileReader text) starts = tt
copy_starts (graphs.FileWriter text) starts = tt
copy_starts (graphs.Splitter splitter) starts = tt
copy_starts (graphs.Joiner weights) starts = tt
copy_starts (graphs.Scatter fission) starts = tt
copy_starts (graphs.Copy other fission) starts = tt
copy_starts (graphs.Gather fission) starts = tt

part_starts : (code : NodeCode) (fission : Fission) (part : ℕ) → CanStartNode code
    → CanStartNode (part_of code fission part)
part_starts code fission zero starts = tt
part_starts code fission (suc copy) starts = by_test (nat_lt copy fission.ways)
  where
    by_test : (t : Bool)
        → CanStartNode (cond t (graphs.Copy (copied code) fission) (graphs.Gather fission))
    by_test true = copy_starts code starts
    by_test false = tt

module _ (plan : PlanParts) (is : IsPlan plan) where
  abbrev ways : ℕ
  ways = is.transformation.ways

  abbrev share : ℕ → Fission
  share = fission_of (graph_of plan) plan.round_counts ways

  abbrev new : Graph
  new = new_graph (graph_of plan) plan.schedule plan.round_counts ways

  starts_at : (node part : ℕ) → CanStartNode (code_at (graph_of plan).nodes node)
      → CanStartNode (new_code share (graph_of plan).nodes node part)
  starts_at node part starts = by_test (is_dealt (share node))
    where
      by_test : (t : Bool) → CanStartNode (cond t
          (part_of (code_at (graph_of plan).nodes node) (share node) part)
          (code_at (graph_of plan).nodes node))
      by_test true = part_starts (code_at (graph_of plan).nodes node) (share node) part starts
      by_test false = starts

  new_starts : AreStartable new.nodes
  new_starts number code less =
      let (v, k, own) = number_of share (graph_of plan).nodes is.planned.unfissioned number less in
      let old = code_at (graph_of plan).nodes v in
      let there = old_there share (graph_of plan).nodes is.planned.unfissioned number v k own in
      let starts = subst CanStartNode (get_or_from_slice_get (graph_of plan).nodes v old old there)
      (all_start (graph_of plan) plan.schedule is.planned v old
      (slice_get_within (graph_of plan).nodes v old there)) in
      subst CanStartNode
      (sym (get_or_from_slice_get new.nodes number (new_code share (graph_of plan).nodes v k) code
      (code_there share (graph_of plan).nodes is.planned.unfissioned number v k own)))
      (starts_at v k starts)

  pub parts_start : (graph : GraphParts) → graph ≡ plan.split.graph
      → AreStartable (graph_view graph).nodes
  parts_start graph same =
      subst (λ (g : Graph). AreStartable g.nodes)
      (sym (ap (λ (g : GraphParts). graph_view g) same ∙ graph_is plan is)) new_starts

  pub parts_have_origins : (codes : List NodeCode) (graph : GraphParts) (origins : List Origin)
      → codes ≡ (graph_of plan).nodes → graph ≡ plan.split.graph
      → origins ≡ plan.split.origins → AreOrigins codes (graph_view graph).nodes origins
  parts_have_origins codes graph origins same_codes same same_origins =
      subst (λ (l : List NodeCode). AreOrigins l (graph_view graph).nodes origins)
      (sym same_codes)
      (subst (λ (g : Graph). AreOrigins (graph_of plan).nodes g.nodes origins)
      (sym (ap (λ (g : GraphParts). graph_view g) same ∙ graph_is plan is))
      (subst (AreOrigins (graph_of plan).nodes new.nodes)
      (sym (same_origins ∙ origins_are plan is))
      (dealing.origins_are share (graph_of plan).nodes is.planned.unfissioned)))

-- ---- how it ends

module _ (plan : PlanParts) (old : CircuitView) (before after : MachineView) where
  abbrev IsDealtBy : GraphParts → List Origin → (sizes : List ℕ) → Type 0
  IsDealtBy graph origins sizes =
      HaveRoom old (graph_view graph) origins sizes before
      → IsDealt old (graph_view graph) origins sizes before after

  pub has_dealt : (graph : GraphParts) (origins : List Origin) (sizes : List ℕ)
      → graph ≡ plan.split.graph → origins ≡ plan.split.origins
      → IsDealtBy graph origins sizes → HasDealt plan sizes old before after
  has_dealt graph origins sizes same same_origins dealt =
      subst (λ (l : List Origin). IsDealtBy plan.split.graph l sizes) same_origins
      (subst (λ (g : GraphParts). IsDealtBy g origins sizes) same dealt)

module _ (plan : PlanParts) (sizes : List ℕ) (input : List ℤ) (old : CircuitView)
    (first : MachineView) (ready : IsReadyFor plan input old)
    (is_first : IsFirst (graph_of plan) plan.schedule.sizes first) where
  pub left_so : (left : MachineView) (result : Result Startup NoMemory)
      → order_run old (startup_order plan.schedule) first ≡ Went left
      → IfOk result (IsDealtOf plan sizes old left input)
      → IfOk result (IsStartupIn plan sizes input)
  left_so left (Ok (startup.Ended circuit machine)) went dealt = record {
    old = old;
    ready = ready;
    first = first;
    is_first = is_first;
    left = left;
    went = went;
    dealt = dealt;
  }
  left_so left (Ok (startup.Faulted node firing cause)) went dealt = absurd dealt
  left_so left (Err refused) went dealt = tt

  -- a stop of start-up is a fault of the plan
  pub fault_so : (after : MachineView) (before : List (List Word)) (stop : Stop)
      (result : Result Startup NoMemory)
      → HasGone (order_run old (startup_order plan.schedule) first) (Err stop) before after
      → IfOk result (IsFaultOf stop) → IfOk result (IsStartupIn plan sizes input)
  fault_so after before (stops.Fault node firing cause) (Ok ended) gone told =
      subst (IsStartupIn plan sizes input) (sym told) (record {
        old = old;
        first = first;
        ready = ready;
        is_first = is_first;
        stopped = gone.0;
      })
  fault_so after before stops.NoMemory (Ok ended) gone told = absurd told
  fault_so after before stop (Err refused) gone told = tt

-- over the plan's own sizes
pub started_so : (plan : PlanParts) (sizes : List ℕ) (input : List ℤ)
    (result : Result Startup NoMemory) → sizes ≡ plan.split.schedule.sizes
    → IfOk result (IsStartupIn plan sizes input) → IfOk result (IsStartup plan input)
started_so plan sizes input (Ok (startup.Ended circuit machine)) same left = (
  record {
    old = left.old;
    ready = left.ready;
    startup = record {
      first = left.first;
      is_first = left.is_first;
      left = left.left;
      went = left.went;
      circuit_is = left.dealt.circuit_is;
      input_is = left.dealt.input_is;
      dealt = subst (λ (l : List ℕ). HasDealt plan l left.old left.left (machine_view machine))
          same left.dealt.dealt;
    };
  },
  left.dealt.can_run,
)
started_so plan sizes input (Ok (startup.Faulted node firing cause)) same faulted = faulted
started_so plan sizes input (Err refused) same left = tt
