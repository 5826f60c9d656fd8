-- The rounds of a plan, from the state that start-up left, come to the answer of its program.
use Rattle.std.proofs.Common.{◌≡◌, refl, sym, ap, ◌∙◌, subst, ℕ, zero, suc, ◌*◌, ◌<◌}
use Rattle.std.proofs.Common.{◌≤◌, ◌^◌, arith, ℤ, List, [], ◌∷◌, length, Some, true}
use Rattle.std.proofs.Common.{None, slice_get, slice_index}
use Rattle.std.proofs.Math.Nat.{mul-le-mul_right}
use mathlib.Core.Path.{fun_ext}
use Rattle.strc_work_meaning.specs.declared.fault.Cause.{Cause}
use Rattle.strc_work_meaning.specs.declared.word.Word.{Word}
use Rattle.strc_elab_dataflow.specs.Answer.{Outcome, IsAnswer, Outcome.Done, Outcome.StartupFault}
use Rattle.strc_elab_dataflow.specs.Answer.{Outcome.RoundFault, stream_runs}
use Rattle.strc_elab_dataflow.specs.Flat as flat
use Rattle.strc_elab_dataflow.specs.Flat.{Origin, Origin.Nowhere, Origin.Input, Origin.Port}
use Rattle.strc_elab_dataflow.specs.Machine.{Stop}
use Rattle.strc_elab_dataflow.specs.Node.{total}
use Rattle.strc_elab_dataflow.specs.Order as orders
use Rattle.strc_elab_dataflow.specs.Queues.{fifo_rounds}
use Rattle.strc_elab_dataflow.specs.Streams as trees
use Rattle.strc_elab_graph.specs.FlatGraphs.{IsProgram}
use Rattle.strc_elab_graph.specs.Graphs.{NodeCode, Graph, Channel}
use Rattle.strc_elab_graph.specs.Meaning.{node_meaning}
use Rattle.strc_balance.specs.Balance.{count_at}
use Rattle.strc_sched_orders.specs.Order.{firing_count}
use Rattle.strc_sched_laws.specs.Circuits.{IsCircuit}
use Rattle.strc_sched_laws.specs.Fits.{Queues}
use Rattle.strc_sched_laws.specs.Laws.{startup_order, round_order}
use Rattle.strc_sched_laws.specs.Machine as machines
use Rattle.strc_sched_laws.specs.Machine.{CircuitView, MachineView, Ending, FaultedAtFirst}
use Rattle.strc_sched_laws.specs.Machine.{Stopped, after_startup, order_run, rounds_run, whole_run}
use Rattle.strc_sched_laws.specs.RingAnswer.{Tells}
use Rattle.strc_sched_laws.specs.Simulation.{Simulates}
use Rattle.strc_sched_laws.proofs.Orders.{firing_count_is}
use Rattle.strc_sched_laws.proofs.RingRuns.{ring_runs}
use Rattle.strc_sched_laws.proofs.Rounds.{round_nodes}
use Rattle.strc_stage_core.specs.Events.{before}
use Rattle.strc_stage_core.specs.Events.{is_over}
use Rattle.strc_stage_core.specs.Parts.{AreJoined, core_of}
use Rattle.strc_stage_core.specs.States.{Start, Core, IsState}
use Rattle.strc_stage_core.proofs.Joining.{joined_state}
use Rattle.strc_sched_outcome.specs.declared.stop as parcels
use Rattle.strc_stage_core.specs.Parcels.{ParcelView}
use Rattle.strc_stage_core.specs.Parcels.{Load}
use Rattle.strc_elab_dataflow.specs.Chains.{IsResumption}
use Rattle.strc_elab_dataflow.proofs.RestartChains.{restarted_is_staging}
use Rattle.strc_elab_dataflow.specs.Restart.{restarted_meaning, restarted, taken_in}
use Rattle.strc_elab_dataflow.specs.Staging.{IsStaged, in_stage, joined, IsFromUpTo}
use Rattle.strc_elab_dataflow.specs.Cut.{AllIn}
use Rattle.strc_fiss.specs.declared.split.Origin as parts
use Rattle.strc_stage_plan.specs.Fusions.{ComesToAnswerIn}
use Rattle.strc_stage_plan.specs.Named.{new_origins}
use Rattle.strc_stage_plan.specs.Runs.{parts_of}
use Rattle.strc_stage_plan.proofs.FusedRuns.{fused_answers_kept}
use Rattle.strc_stage_plan.proofs.ByChannels.{split_copies_have_own_windows}
use Rattle.strc_stage_plan.specs.Fused.{FusedRun, IsFusedRun, graph_of as flow_of, order_of}
use Rattle.strc_stage_plan.specs.Fused.{state_of, named_order_of, resumed}
use Rattle.strc_stage_plan.proofs.Fused.{graphs_resume, rounds_balance}
use Rattle.strc_stage_plan.specs.Plans.{PlanParts, IsPlan, graph_of}
use Rattle.strc_stage_steps.specs.Beginnings.{IsBeginning}
use Rattle.strc_stage_steps.specs.Laws.{TellsOutcome}
use Rattle.strc_stage_steps.specs.Carrying.{CollectorPart, GoesInRounds, StagePart}
use Rattle.strc_stage_steps.specs.Runnings as runnings
use Rattle.strc_stage_steps.specs.Runnings.{HasRoom, Running, CanGoOn}
use Rattle.strc_stage_steps.specs.Steps.{StageState, Gathered, stage_work}
use Rattle.strc_stage_steps.specs.CrossingBlocks.{FitsBefore}
use Rattle.strc_stage_steps.proofs.Carrying.{rings_are_in_rounds}
use Rattle.strc_stage_steps.proofs.ParcelsFit.{parcels_fit}
use Rattle.strc_stage_steps.proofs.OneMachine.{rounds_run_alike}
use Rattle.strc_stage_steps.proofs.Room.{rounds_have_room}
use Rattle.strc_stage_steps.specs.Dealt.{HaveRoom, IsDealt}
use Rattle.strc_stage_steps.proofs.Holding.{dealt_machines_hold}
use Rattle.strc_stage_steps.proofs.DealtRoom.{dealt_states_have_room}
use Rattle.strc_stage_steps.specs.SplitRingsLaws.{IsCutRun}
use Rattle.strc_stage_steps.specs.SplitRingsLaws.{nodes_of, running_after, TellsAnswer}
use Rattle.strc_stage_steps.specs.Plans.{GoesOn, PlanParcelsFit, PlanRingsHaveRoom}
use Rattle.strc_stage_steps.specs.Plans.{ComesToAnswer, HasStarted, IsCut, IsPlanAnswer}
use Rattle.strc_stage_steps.specs.Plans.{IsReadyFor, PlanFaultsAnswer, PlanRingsAnswer}
use Rattle.strc_stage_steps.specs.Plans.{PlanRingsAreInRounds, PlanRoundsAnswer, PlansKeepTapes}
use Rattle.strc_stage_steps.specs.Plans.{RoundsTellAnswer}
use Rattle.strc_stage_steps.specs.Plans.{Suffices, TellsPlanAnswer, running_of}
use Rattle.strc_stage_steps.proofs.Naming.{IsOfOrder, named_so, of_order, tapes_are_old}
use Rattle.strc_stage_steps.proofs.Own.{fires_there, number_bound, numbered, repeats}
use Rattle.strc_stage_steps.proofs.Plans.{graph_is, have_sizes, is_cut_run, is_fused_run, order_is}
use Rattle.strc_stage_steps.proofs.Plans.{origins_are, run, running_is, threshold, ways}
use Rattle.strc_stage_steps.proofs.Rings.{graphs_are_running}
use Rattle.strc_stage_steps.proofs.Rings.{rings_answer}
use Rattle.strc_stage_steps.proofs.SplitRingsRoom.{room_at_first}
use Rattle.strc_stage_steps.proofs.Running.{joins}
use Rattle.strc_stage_steps.proofs.Started.{IsLeft, is_left}

-- ---- before any firing what waits is what is in the queues

module _ (graph : flat.Graph NodeCode) (from : Queues) (node port : ℕ) where
  none_yet : (counts : ℕ → ℕ)
      → orders.counted (orders.counts_after (λ v. 0) counts 0) [] ≡ (λ v. 0)
  unfolding orders.counted orders.counts_after
  none_yet counts = fun_ext (λ v. let none : 0 * counts v ≡ 0 = omega arith in omega (arith, none))

  none_given : (origin : Origin)
      → orders.supply_of (restarted_meaning node_meaning) (restarted from graph) [] (λ v. 0)
      (taken_in origin) ≡ 0
  unfolding orders.supply_of taken_in total
  none_given Nowhere = refl
  none_given Input = refl
  none_given (Port source source_port) = refl

  fill_at_first : (counts : ℕ → ℕ)
      → orders.fill (restarted_meaning node_meaning) (restarted from graph) []
      (orders.counted (orders.counts_after (λ v. 0) counts 0) []) node port
      ≡ length (from.queues node port)
  unfolding orders.fill orders.supply restarted total
  fill_at_first counts =
      let again = restarted from graph in
      let given = none_given (graph.source node port).origin in
      ap (λ (c : ℕ → ℕ). orders.fill (restarted_meaning node_meaning) (restarted from graph) [] c
      node port) (none_yet counts)
      ∙ omega (arith, given)

-- one stage has all nodes
one_stage : (graph : flat.Graph NodeCode) (order : List ℕ)
    → IsStaged graph (λ node. 0) (λ stage. order) 1 order
unfolding joined in_stage
one_stage graph order = record {
  own = λ stage less. all_in stage less order;
  order = refl;
  within = λ node. omega arith;
  backward = λ node port. from_there (graph.source node port).origin;
}
  where
    all_in : (stage : ℕ) → stage < 1 → (l : List ℕ) → AllIn (in_stage (λ node. 0) stage) l
    all_in zero less [] = tt
    all_in zero less (node ∷ l) = (refl, all_in zero less l)
    all_in (suc stage) less l = absurd (omega (arith, less))

    from_there : (origin : Origin) → IsFromUpTo (λ node. 0) 0 origin
    from_there Nowhere = tt
    from_there Input = tt
    from_there (Port node port) = omega arith

module _ (tree : trees.Stream NodeCode) (plan : PlanParts) (input : List ℤ) (rounds : ℕ)
    (old circuit : CircuitView) (started : MachineView) (program : IsProgram tree (graph_of plan))
    (ready : IsReadyFor plan input old) (enough : Suffices plan input rounds)
    (has : HasStarted plan input old circuit started) where
  abbrev is : IsPlan plan
  is = ready.is

  abbrev sizes : List ℕ
  sizes = plan.split.schedule.sizes

  -- ---- the state that start-up left

  left : IsLeft tree (graph_of plan) plan.schedule program is.planned ready.known input rounds
      enough.supplied old ready.wired ready.reads_it has.first has.is_first has.left
  left = is_left tree (graph_of plan) plan.schedule program is.planned ready.known input rounds
      enough.supplied old ready.wired ready.reads_it has.first has.is_first has.left has.went

  abbrev its : FusedRun
  its = run plan is ready.graph ready.known tree program input rounds enough left.now left.went

  fused : IsFusedRun its (threshold plan is)
  fused = is_fused_run plan is ready.graph ready.known tree program input rounds enough left.now
      left.went

  room : HasRoom (running_after its sizes) (flow_of its) (state_of its) 0
  room = room_at_first its (threshold plan is) fused sizes
      (have_sizes plan is ready.graph ready.known tree program input rounds enough left.now
      left.went)

  waits_fit : (number : ℕ) (channel : Channel)
      → slice_get (nodes_of its).channels number ≡ Some channel
      → length ((state_of its).queues channel.target.node channel.target.port)
      ≤ slice_index sizes number
  waits_fit number channel there =
      let waits = fill_at_first (flow_of its) (state_of its) channel.target.node
      channel.target.port (orders.firing_count (order_of its)) in
      omega (arith, waits, room [] (order_of its) refl number channel there)

  have_room : HaveRoom old (nodes_of its)
      (new_origins (graph_of plan) plan.round_counts (ways plan is)) sizes has.left
  have_room = dealt_states_have_room tree (graph_of plan) plan.schedule plan.round_counts
      (ways plan is) left.now old plan.schedule.sizes sizes input has.left ready.graph is.planned
      ready.wired left.simulates waits_fit

  dealt : IsDealt old (nodes_of its)
      (new_origins (graph_of plan) plan.round_counts (ways plan is)) sizes has.left started
  dealt =
      subst (λ (l : List parts.Origin). IsDealt old (nodes_of its) l sizes has.left started)
      (origins_are plan is)
      (subst (λ (g : Graph). IsDealt old g plan.split.origins sizes has.left started)
      (graph_is plan is)
      (has.dealt (subst (λ (g : Graph). HaveRoom old g plan.split.origins sizes has.left)
      (sym (graph_is plan is))
      (subst (λ (l : List parts.Origin). HaveRoom old (nodes_of its) l sizes has.left)
      (sym (origins_are plan is)) have_room))))

  holds : Simulates (nodes_of its) sizes input (state_of its) started
  holds = dealt_machines_hold tree (graph_of plan) plan.schedule plan.round_counts (ways plan is)
      left.now old plan.schedule.sizes sizes input has.left started ready.graph is.planned
      ready.wired left.simulates dealt

  holds_own : Simulates (nodes_of its) sizes circuit.input (state_of its) started
  holds_own = subst (λ (l : List ℤ). Simulates (nodes_of its) sizes l (state_of its) started)
      (sym has.input_is) holds

  same_running : running_of plan ≡ running_after its sizes
  same_running = running_is plan is ready.graph ready.known tree program input rounds enough
      left.now left.went

  -- ---- what its rounds come to, by the nodes before fission

  abbrev startup_counts : ℕ → ℕ
  startup_counts = firing_count (startup_order plan.schedule)

  abbrev round_counts : ℕ → ℕ
  round_counts = firing_count (round_order plan.schedule)

  module _ (outcome : Outcome Cause Word)
      (come : ComesToAnswerIn (named_order_of its) tree plan.schedule input rounds
      (parts_of tree (graph_of plan) plan.schedule plan.round_counts (ways plan is)) outcome)
    where
      module _ (q : ℕ) (stop : Stop Cause) (words : ℕ → List Word)
          (e : come.answer ≡ RoundFault q stop words) where
        told : IsAnswer node_meaning tree input startup_counts round_counts
            (startup_order plan.schedule) (named_order_of its) rounds (RoundFault q stop words)
        told = subst (IsAnswer node_meaning tree input startup_counts round_counts
            (startup_order plan.schedule) (named_order_of its) rounds) e come.is_answer

        at : IsOfOrder (stream_runs node_meaning tree input startup_counts round_counts (suc q))
            (orders.counts_after startup_counts round_counts q) (named_order_of its) stop
        at = of_order
            (stream_runs node_meaning tree input startup_counts round_counts (suc q))
            (orders.counts_after startup_counts round_counts q) (named_order_of its) stop told.2

        same_count : firing_count (named_order_of its) stop.node ≡ round_counts stop.node
        same_count = sym (firing_count_is (named_order_of its) stop.node)
            ∙ come.finds.round_counts stop.node

        fault_within : (stop.node < length (graph_of plan).nodes) × (stop.firing < 2 ^ 64)
        unfolding orders.counts_after
        fault_within =
            let inside = round_nodes (graph_of plan) plan.schedule is.planned stop.node
            (omega (arith, at.fires, same_count)) in
            let each : ℕ = round_counts stop.node in
            let startup_is = is.planned.schedule.startup_order.all stop.node in
            let each_is = is.planned.schedule.round_order.all stop.node in
            let more : suc q * each ≤ rounds * each = mul-le-mul_right each told.0 in
            let same : rounds * each ≡ rounds * count_at is.planned.round stop.node =
            ap (λ (n : ℕ). rounds * n) each_is in
            let bound = number_bound (count_at is.planned.startup stop.node)
            (count_at is.planned.round stop.node) rounds (is.planned.startup_within stop.node)
            (is.planned.round_within stop.node) enough.few in
            (inside, omega (arith, at.firing, same_count, startup_is, more, same, bound))

      answers : ComesToAnswer tree plan input rounds outcome
      answers = record {
        answer = come.answer;
        is_answer = subst (λ (order : List ℕ). IsAnswer node_meaning tree input startup_counts
            round_counts (startup_order plan.schedule) order rounds come.answer)
            (sym (order_is plan is ready.graph ready.known tree program input rounds enough left.now
            left.went))
            come.is_answer;
        named = named_so plan is come.answer outcome come.same fault_within;
      }

  -- ---- by stages

  module _ (bound : (stage : ℕ) → ℕ) (last : ℕ)
      (start : Start StageState Load parcels.Stop.Stop Gathered)
      (core : Core StageState Load parcels.Stop.Stop Gathered) (cut : IsCut plan bound (suc last))
      (begun : IsBeginning (running_of plan) bound last circuit started rounds start)
      (state : IsState stage_work start core) where
    cut_run : IsCutRun its (threshold plan is) sizes is.whole.stream bound last circuit
    cut_run = is_cut_run plan is ready.graph ready.known tree program input rounds enough left.now
        left.went bound last circuit cut has.circuit_is has.input_is

    begun_so : IsBeginning (running_after its sizes) bound last circuit started rounds start
    begun_so = subst (λ (r : Running). IsBeginning r bound last circuit started rounds start)
        same_running begun

    fits : (actor : ℕ) (parcel : ParcelView) (rest : List ParcelView) → actor ≤ suc last
        → slice_get core.links (before (length core.stages) actor) ≡ Some (parcel ∷ rest)
        → parcel.stop ≡ None → FitsBefore (running_of plan) bound last actor parcel.load
    fits actor parcel rest most there going =
        subst (λ (r : Running). FitsBefore r bound last actor parcel.load) (sym same_running)
        (parcels_fit (running_after its sizes) (flow_of its) (state_of its) rounds bound last
        circuit started start core
        (graphs_are_running its (threshold plan is) sizes is.whole.stream bound last circuit
        started cut_run holds_own)
        holds_own begun_so state actor parcel rest most there going)

  in_rounds : (bound : (stage : ℕ) → ℕ) (last : ℕ)
      (start : Start StageState Load parcels.Stop.Stop Gathered) (parts : List StagePart)
      (end : CollectorPart) → IsCut plan bound (suc last)
      → IsBeginning (running_of plan) bound last circuit started rounds start
      → AreJoined stage_work start parts end
      → GoesInRounds (running_of plan) rounds bound last circuit started start.free parts end
  in_rounds bound last start parts end cut begun joined =
      let state = joined_state stage_work start parts end joined in
      let is_running = graphs_are_running its (threshold plan is) sizes is.whole.stream bound last
      circuit started (cut_run bound last start (core_of parts end) cut begun state) holds_own in
      let (inputs, staging) = restarted_is_staging (runnings.resumed (running_after its sizes)
      (flow_of its) (state_of its) rounds bound last) is_running.resumption in
      subst (λ (r : Running). GoesInRounds r rounds bound last circuit started start.free parts
      end) (sym same_running)
      (record {
        by_source = flow_of its;
        from = state_of its;
        holds = holds_own;
        is_running = is_running;
        inputs = inputs;
        staging = staging;
        in_rounds = rings_are_in_rounds (running_after its sizes) (flow_of its) (state_of its)
            rounds bound last circuit started inputs start parts end is_running holds_own staging
            (begun_so bound last start (core_of parts end) cut begun state) joined;
      })

  module _ (bound : (stage : ℕ) → ℕ) (last : ℕ)
      (start : Start StageState Load parcels.Stop.Stop Gathered)
      (core : Core StageState Load parcels.Stop.Stop Gathered) (cut : IsCut plan bound (suc last))
      (begun : IsBeginning (running_of plan) bound last circuit started rounds start)
      (state : IsState stage_work start core) (over : is_over core ≡ true) where
    ring_tells : TellsAnswer its core.collector.total core.collector.stop
    ring_tells =
        rings_answer its (threshold plan is) sizes is.whole.stream bound last circuit started
        start core (cut_run bound last start core cut begun state) holds_own
        (begun_so bound last start core cut begun state) state over

    ring_answer : TellsPlanAnswer tree plan input rounds core.collector.total core.collector.stop
    ring_answer = record {
      outcome = ring_tells.outcome;
      tells = subst (λ (g : Graph). TellsOutcome g.nodes core.collector.total core.collector.stop
          ring_tells.outcome) (sym (graph_is plan is)) ring_tells.tells;
      comes = answers ring_tells.outcome ring_tells.answers;
    }

  -- ---- by one machine

  wired : IsCircuit (nodes_of its) circuit
  wired = subst (λ (g : Graph). IsCircuit g circuit) (graph_is plan is) has.circuit_is

  resumes : IsResumption
      (resumed its (λ node. 0) (λ stage. order_of its) 1)
  resumes = graphs_resume its (threshold plan is) (λ node. 0) (λ stage. order_of its) 1 fused
      (one_stage (flow_of its) (order_of its))

  goes_on : CanGoOn (running_after its sizes) (flow_of its) (state_of its) rounds circuit
  goes_on = record {
    faultless = resumes.faultless;
    keeps = resumes.keeps;
    takes_within = resumes.takes_within;
    schedule = resumes.schedule;
    joins = joins its (threshold plan is) fused;
    is_circuit = wired;
    windows = λ node firing within. split_copies_have_own_windows tree (graph_of plan)
        plan.schedule plan.round_counts (ways plan is) program ready.graph is.planned ready.known
        node firing;
    nodes = fires_there its (threshold plan is) fused;
    numbered = numbered its (threshold plan is) fused enough.few;
    room = λ round less. rounds_have_room (running_after its sizes) (flow_of its) (state_of its)
        (joins its (threshold plan is) fused) (repeats its (threshold plan is) fused)
        (rounds_balance its (threshold plan is) fused) room round;
  }

  rings_have_room : GoesOn plan rounds circuit started
  rings_have_room = record {
    by_source = flow_of its;
    from = state_of its;
    holds = subst (λ (g : Graph). Simulates g sizes circuit.input (state_of its) started)
        (sym (graph_is plan is)) holds_own;
    rounds_go_on = subst (λ (r : Running). CanGoOn r (flow_of its) (state_of its) rounds circuit)
        (sym same_running) goes_on;
  }

  abbrev rounds_outcome : Outcome Cause Word
  rounds_outcome = fifo_rounds node_meaning (flow_of its) circuit.input (order_of its) rounds 0
      (state_of its)

  rounds_come : ComesToAnswerIn (named_order_of its) tree plan.schedule input rounds
      (parts_of tree (graph_of plan) plan.schedule plan.round_counts (ways plan is))
      rounds_outcome
  rounds_come =
      subst (λ (l : List ℤ). ComesToAnswerIn (named_order_of its) tree plan.schedule input rounds
      (parts_of tree (graph_of plan) plan.schedule plan.round_counts (ways plan is))
      (fifo_rounds node_meaning (flow_of its) l (order_of its) rounds 0 (state_of its)))
      (sym has.input_is)
      (fused_answers_kept tree (graph_of plan) plan.schedule plan.round_counts (ways plan is)
      input rounds left.now (threshold plan is) its.fused program fused.is fused.planned
      fused.known fused.own fused.placed fused.fusion fused.supplied fused.went)

  rounds_tell : RoundsTellAnswer tree plan input rounds circuit started
  rounds_tell = record {
    outcome = rounds_outcome;
    tells = subst (λ (r : Running). Tells (length r.graph.nodes) rounds_outcome
        (rounds_run circuit r.order rounds 0 started)) (sym same_running)
        (rounds_run_alike (running_after its sizes) (flow_of its) (state_of its) rounds circuit
        started goes_on holds_own);
    comes = answers rounds_outcome rounds_come;
  }

pub plan_rings_answer : PlanRingsAnswer
plan_rings_answer tree plan input rounds old circuit started bound last start core program ready
    enough has cut begun state over =
    ring_answer tree plan input rounds old circuit started program ready enough has bound last
    start core cut begun state over

pub plan_rounds_answer : PlanRoundsAnswer
plan_rounds_answer tree plan input rounds old circuit started program ready enough has =
    rounds_tell tree plan input rounds old circuit started program ready enough has

pub plan_rings_have_room : PlanRingsHaveRoom
plan_rings_have_room tree plan input rounds old circuit started program ready enough has =
    rings_have_room tree plan input rounds old circuit started program ready enough has

pub plan_parcels_fit : PlanParcelsFit
plan_parcels_fit tree plan input rounds old circuit started bound last start core program ready
    enough has cut begun state actor parcel rest most there going =
    fits tree plan input rounds old circuit started program ready enough has bound last start core
    cut begun state actor parcel rest most there going

pub plan_rings_are_in_rounds : PlanRingsAreInRounds
plan_rings_are_in_rounds tree plan input rounds old circuit started bound last start parts end
    program ready enough has cut begun joined =
    in_rounds tree plan input rounds old circuit started program ready enough has bound last start
    parts end cut begun joined

pub plans_keep_tapes : PlansKeepTapes
plans_keep_tapes plan is = tapes_are_old plan is

-- ---- a fault of start-up

abbrev stop_of : (node firing : ℕ) → Cause → machines.Progress → Stop Cause
stop_of node firing cause (machines.Went machine) =
    record { node = node; firing = firing; cause = cause }
stop_of node firing cause (machines.Stopped n f c) = record { node = n; firing = f; cause = c }

module _ (tree : trees.Stream NodeCode) (plan : PlanParts) (input : List ℤ) (rounds : ℕ)
    (node firing : ℕ) (cause : Cause) (round : MachineView → Ending) where
  fault_told : (outcome : Outcome Cause Word) (progress : machines.Progress)
      → progress ≡ machines.Stopped node firing cause
      → IsAnswer node_meaning tree input (firing_count (startup_order plan.schedule))
      (firing_count (round_order plan.schedule)) (startup_order plan.schedule)
      (round_order plan.schedule) rounds outcome
      → Tells (length (graph_of plan).nodes) outcome (after_startup round progress)
      → IsPlanAnswer tree plan input rounds
      (StartupFault (record { node = node; firing = firing; cause = cause }))
  fault_told outcome (machines.Went machine) e is tells = absurd (cc)
  fault_told (Done words) (machines.Stopped n f c) e is tells = absurd tells
  fault_told (RoundFault q stop words) (machines.Stopped n f c) e is tells = absurd tells
  fault_told (StartupFault stop) (machines.Stopped n f c) e is tells =
      subst (λ (s : Stop Cause). IsPlanAnswer tree plan input rounds (StartupFault s))
      (tells ∙ same_stop n f c e) is
    where
      same_stop : (n f : ℕ) (c : Cause)
          → machines.Stopped n f c ≡ machines.Stopped node firing cause
          → record { node = n; firing = f; cause = c }
          ≡ stop_of node firing cause (machines.Stopped node firing cause)
      same_stop n f c e = ap (stop_of node firing cause) e

pub plan_faults_answer : PlanFaultsAnswer
plan_faults_answer tree plan input rounds old first node firing cause program ready enough is_first
    ran =
    let answered = ring_runs tree (graph_of plan) plan.schedule input rounds old first program
    ready.is.planned ready.known enough.few enough.supplied ready.wired ready.reads_it is_first in
    fault_told tree plan input rounds node firing cause
    (rounds_run old (round_order plan.schedule) rounds 0) answered.0
    (order_run old (startup_order plan.schedule) first) ran answered.1 answered.2
