-- What a plan comes to by batches, by a ring of stages, is the answer of the stream equations.
use Rattle.std.proofs.Common.{◌≡◌, refl, sym, ap, ap₂, ◌∙◌, subst, ℕ, suc, ◌+◌, ◌*◌, ◌/◌, ◌%◌, ◌<◌}
use Rattle.std.proofs.Common.{◌≤◌, ◌^◌, ℤ, List, length, inl, inr, Vec, Option, Some, None}
use Rattle.std.proofs.Common.{Result, Ok, Err, IfOk}
use Rattle.std.specs.Prelude.{IfNone, IfSome}
use Rattle.std.specs.Global.{Global}
use mathlib.Core.Path.{fun_ext}
use Rattle.strc_elab_dataflow.specs.Answer as flow
use Rattle.strc_elab_dataflow.specs.Answer.{Outcome.Done, Outcome.RoundFault}
use Rattle.strc_elab_dataflow.specs.Answer.{Outcome.StartupFault}
use Rattle.strc_elab_dataflow.specs.Order as orders
use Rattle.strc_elab_dataflow.specs.Staging.{repeated}
use Rattle.strc_elab_dataflow.specs.Streams as trees
use Rattle.strc_work_meaning.specs.declared.fault.Cause.{Cause}
use Rattle.strc_work_meaning.specs.declared.word.Word.{Word}
use Rattle.strc_elab_graph.specs.FlatGraphs.{IsProgram}
use Rattle.strc_elab_graph.specs.Graphs.{IsGraph, NodeCode}
use Rattle.strc_elab_stream.specs.Flattening.{tree_of}
use Rattle.strc_sched_orders.specs.Firings.{Firings}
use Rattle.strc_sched_orders.specs.Greedy.{firings_of}
use Rattle.strc_sched_laws.specs.Laws.{round_order}
use Rattle.strc_sched_laws.specs.Machine.{CircuitView, Ended, MachineView}
use Rattle.strc_sched_laws.specs.Machine.{rounds_run}
use Rattle.strc_sched_outcome.specs.declared.outcome.Outcome.{Outcome}
use Rattle.strc_sched_outcome.specs.declared.outcome.Outcome.TheVariants as outcome
use Rattle.strc_sched_outcome.specs.declared.outcome.Round.TheVariants as round
use Rattle.strc_sched_outcome.specs.declared.outcome.Tape.{Tape}
use Rattle.strc_sched_rings.specs.Circuits.{circuit_view}
use Rattle.strc_sched_rings.specs.declared.circuit.Circuit.{Circuit}
use Rattle.strc_sched_machine.specs.Running.{machine_view}
use Rattle.strc_sched_machine.specs.declared.machine.Machine.{Machine}
use Rattle.strc_stage_core.specs.Actors as actors
use Rattle.strc_stage_core.specs.Parcels.{Load}
use Rattle.strc_stage_core.specs.States.{Start}
use Rattle.strc_sched_outcome.specs.declared.stop.Stop.{Stop}
use Rattle.strc_sched_outcome.specs.declared.stop.Stop.TheVariants as stop
use Rattle.strc_stage_plan.specs.Plans.{PlanParts, graph_of, transformed_of}
use Rattle.strc_stage_steps.specs.Beginnings.{IsBeginning}
use Rattle.strc_stage_steps.specs.Collectors.{total_of}
use Rattle.strc_stage_steps.specs.Laws.{TellsOutcome}
use Rattle.strc_stage_steps.specs.Plans.{TellsPlanAnswer, need_of}
use Rattle.strc_stage_steps.specs.Runnings.{Running}
use Rattle.strc_stage_steps.specs.Steps.{Gathered, StageState}
use Rattle.strc_stage_steps.specs.declared.collector.CollectorParts.{CollectorParts}
use Rattle.strc_stage_cut.specs.Bounds.{bound_in, last_of}
use Rattle.strc_stage_cut.specs.Fired.{running_by}
use Rattle.strc_stage_cut.specs.Launches.{start_of}
use Rattle.strc_stage_cut.specs.Startups.{HasLeft, IsStartupIn}
use Rattle.strc_stage_cut.specs.declared.startup.Startup.{Startup}
use Rattle.strc_stage_cut.specs.declared.startup.Startup.TheVariants as startups
use Rattle.strc_stage.specs.Answers.{AnswersPlan, IsOutcomeOf, IsTold}
use Rattle.strc_stage.specs.Naming.{IsRenamed}
use Rattle.strc_stage.specs.Running.{EndsSo}
use Rattle.strc_stage.proofs.Renamed.{told_so}
use Rattle.strc_lex_names.specs.declared.memory.NoMemory.{NoMemory}
use Rattle.strc_run_links.specs.declared.failure.Failure.{Failure}
use Rattle.strc_batch_cut.specs.Picks.{AreAmong}
use Rattle.strc_batch_plans.specs.Batched.{in_batches}
use Rattle.strc_batch_plans.specs.Plans.{WentThrough, running_in}
use Rattle.strc_batch_plans.specs.Rings.{WantedAtMostMemory}
use Rattle.strc_batch_plans.proofs.Plans.{plan_batch_rings_answer, plan_batch_rings_end}
use Rattle.strc_batch_plans.proofs.Plans.{plan_batches_have_room, plan_rounds_end_by_batches}
use Rattle.strc_batch.specs.Batches.{BatchParts, IsBatchOf, batching}
use Rattle.strc_batch.specs.Sizes.{group_bound, last_group}
use Rattle.strc_batch.proofs.Finest.{cut_among}
use Rattle.strc_batch.proofs.Sharing.{counted}
use Rattle.strc_run_batches.specs.Batched.{Faults, IsNeverDone, NeverGoes}
use Rattle.strc_run_batches.specs.Ringed.{ComesByRing, HasRunStages, IsFault}
use Rattle.strc_run_batches.specs.Ringed.{TellsTapes}
use Rattle.strc_run_batches.proofs.Answering.{all_is, run, started}
use Rattle.strc_run_batches.proofs.Resized.{resized}

-- an answer's outcome is one without a fault where nothing stopped the collector
never_done : (plan : PlanParts) (codes : List NodeCode) (total : Gathered)
    (answer : flow.Outcome Cause Word) (own renamed : Outcome)
    → TellsOutcome codes total None answer → IsTold codes answer own → IsRenamed plan own renamed
    → IsNeverDone renamed → ⊥
never_done plan codes total (Done words) (outcome.Done tapes) (outcome.Done others) tells told
    are never = never others refl
never_done plan codes total (Done words) (outcome.Done tapes)
    (outcome.Fault node firing round.Startup cause others) tells told are never = are
never_done plan codes total (Done words) (outcome.Done tapes)
    (outcome.Fault node firing (round.At q) cause others) tells told are never = are
never_done plan codes total (Done words) (outcome.Fault node firing round.Startup cause tapes)
    renamed tells told are never = told
never_done plan codes total (Done words) (outcome.Fault node firing (round.At q) cause tapes)
    renamed tells told are never = told
never_done plan codes total (StartupFault why) own renamed tells told are never = tells
never_done plan codes total (RoundFault q why words) own renamed tells told are never = tells

-- the tapes of an outcome that nothing stopped, or that it has none
pub tells_so : (plan : PlanParts) (ended : CollectorParts) → ended.stop ≡ None → (own : Outcome)
    → EndsSo plan (total_of ended) ended.stop own → (found : Option (Vec Tape Global))
    → IfSome found (λ tapes. own ≡ outcome.Done tapes) → IfNone found (IsNeverDone own)
    → TellsTapes plan ended found
tells_so plan ended none own ends (Some tapes) done never =
    (none, subst (EndsSo plan (total_of ended) ended.stop) done ends)
tells_so plan ended none own ends None done never =
    inr (record { no_stop = none; outcome = own; ends = ends; never = never })

pub no_tapes_so : (plan : PlanParts) (ended : CollectorParts) (why : Stop) → ended.stop ≡ Some why
    → (result : Result (Option (Vec Tape Global)) NoMemory)
    → IfOk result (λ found. (found ≡ None) × IsFault (Some why))
    → IfOk result (TellsTapes plan ended)
no_tapes_so plan ended why is (Ok found) (none, fault) =
    subst (TellsTapes plan ended) (sym none) (inl (subst IsFault (sym is) fault))
no_tapes_so plan ended why is (Err refused) told = tt

-- the machine that start-up left
pub left_so : (plan : PlanParts) (sizes others : List ℕ) (input : List ℤ) (circuit : Circuit)
    (machine : Machine) (startup : Startup) → others ≡ sizes
    → startup ≡ startups.Ended circuit machine → IsStartupIn plan others input startup
    → HasLeft plan sizes input circuit machine
left_so plan sizes others input circuit machine startup same ended is =
    subst (λ (l : List ℕ). HasLeft plan l input circuit machine) same
    (subst (IsStartupIn plan others input) ended is)

-- the machine after the rounds that are no whole batch, and that there is none
module _ (plan : PlanParts) (batch : BatchParts) (circuit : CircuitView) (machine : MachineView)
    (rounds each : ℕ) (found : Option Machine) (same : each ≡ batch.rounds) where
  pub went_so : (later : Machine) → found ≡ Some later
      → IfSome found (λ last. WentThrough plan (rounds % each) circuit machine (machine_view last))
      → WentThrough plan (rounds % batch.rounds) circuit machine (machine_view later)
  went_so later is went =
      subst (λ (k : ℕ). WentThrough plan (rounds % k) circuit machine (machine_view later)) same
      (subst (λ (o : Option Machine). IfSome o (λ last. WentThrough plan (rounds % each) circuit
      machine (machine_view last))) is went)

  pub never_so : found ≡ None
      → IfNone found (NeverGoes circuit
      (repeated (rounds % each) (round_order plan.split.schedule)) machine)
      → NeverGoes circuit (repeated (rounds % batch.rounds) (round_order plan.split.schedule))
      machine
  never_so is never =
      subst (λ (k : ℕ). NeverGoes circuit (repeated (rounds % k) (round_order plan.split.schedule))
      machine) same
      (subst (λ (o : Option Machine). IfNone o (NeverGoes circuit
      (repeated (rounds % each) (round_order plan.split.schedule)) machine)) is never)

-- a stop is no fault where memory is the most that was wanted
no_fault : (why : Option Stop) → IsFault why → WantedAtMostMemory why → ⊥
no_fault None fault wanted = fault
no_fault (Some stop.NoMemory) fault wanted = fault
no_fault (Some (stop.Fault node firing cause)) fault (inl none) = cc
no_fault (Some (stop.Fault node firing cause)) fault (inr memory) = cc

module _ (plan : PlanParts) (input : List ℤ) (rounds : ℕ) (batch : BatchParts)
    (few : rounds < 2 ^ 32) (supplied : need_of plan rounds ≤ length input)
    (nodes : 0 < length (graph_of plan).nodes) (is : IsBatchOf plan batch)
    (circuit : Circuit) (machine : Machine)
    (left : HasLeft plan batch.sizes input circuit machine)
    (graph : IsGraph (transformed_of plan)) where
  abbrev m : ℕ
  m = rounds % batch.rounds

  abbrev n : ℕ
  n = rounds / batch.rounds

  all : rounds % batch.rounds + rounds / batch.rounds * batch.rounds ≡ rounds
  all = all_is plan input rounds batch few supplied nodes is circuit machine left

  -- ---- the machine after the rounds that are no whole batch

  pub later_rings : (later : MachineView)
      → WentThrough plan (rounds % batch.rounds) (circuit_view circuit) (machine_view machine) later
      → length later.rings ≡ length (transformed_of plan).channels
  later_rings later went =
      let whole = left.ready.is.whole in
      (plan_batches_have_room (tree_of whole.stream) plan input (group_bound plan)
      (last_group plan) batch.rounds m n batch.sizes left.old (circuit_view circuit)
      (machine_view machine) later
      (run plan input rounds batch few supplied nodes is circuit machine left
      (tree_of whole.stream) whole.program) went).goes.holds.each_ring

  module _ (bounds : List ℕ) where
    abbrev made : (counts : Firings) → (order : List ℕ) → Running
    made counts order = record {
      graph = transformed_of plan;
      counts = counts;
      order = order;
      sizes = batch.sizes;
    }

    -- stages that fire a batch's units run the batches
    begins : (later : MachineView) (steps : ℕ) (start : Start StageState Load Stop Gathered)
        → IsBeginning (running_by plan batch.units) (bound_in bounds) (last_of bounds)
        (circuit_view circuit) later steps start
        → IsBeginning
        (in_batches (running_in plan batch.sizes) (batching plan batch.rounds)) (bound_in bounds)
        (last_of bounds) (circuit_view circuit) later steps start
    begins later steps start begun =
        subst (λ (r : Running). IsBeginning r (bound_in bounds) (last_of bounds)
        (circuit_view circuit) later steps start)
        (ap₂ (λ (c : Firings) (o : List ℕ). made c o)
        (fun_ext (λ node. counted plan batch left.ready.is graph nodes is node)) is.firings_are)
        (resized (transformed_of plan) (orders.firing_count (firings_of batch.units))
        (firings_of batch.units) plan.split.schedule.sizes batch.sizes (bound_in bounds)
        (last_of bounds) (circuit_view circuit) later steps start begun)

    -- ---- its answer

    module _ (found : Option (Vec Tape Global))
        (has : HasRunStages plan batch bounds (circuit_view circuit) (machine_view machine) rounds
        found) where
      among : AreAmong (bound_in bounds) (suc (last_of bounds)) (group_bound plan)
          (suc (last_group plan))
      among = cut_among plan left.ready.is graph nodes (bound_in bounds) (suc (last_of bounds))
          has.ran.ring_is.cut

      tells : (tree : trees.Stream NodeCode) → IsProgram tree (graph_of plan)
          → has.ended.stop ≡ None
          → TellsPlanAnswer tree plan input
          (rounds % batch.rounds + rounds / batch.rounds * batch.rounds) (total_of has.ended) None
      tells tree program none =
          let (core, state, over, same) = has.ran.drives in
          subst (λ (t : Gathered). TellsPlanAnswer tree plan input
          (rounds % batch.rounds + rounds / batch.rounds * batch.rounds) t None)
          (ap (λ (k : actors.Collector Gathered Stop). k.total) same)
          (plan_batch_rings_answer tree plan input (group_bound plan) (last_group plan)
          batch.rounds m n batch.sizes left.old (circuit_view circuit) (machine_view machine)
          has.later (bound_in bounds) (last_of bounds) (start_of has.ran.ring) core
          (run plan input rounds batch few supplied nodes is circuit machine left tree program)
          has.went has.ran.ring_is.cut among
          (begins has.later n (start_of has.ran.ring) has.ran.ring_is.beginning) state over
          (ap (λ (k : actors.Collector Gathered Stop). k.stop) same ∙ none))

      -- the outcome that nothing stopped tells the answer
      told : (tree : trees.Stream NodeCode) (program : IsProgram tree (graph_of plan))
          (none : has.ended.stop ≡ None) (renamed : Outcome)
          (ends : EndsSo plan (total_of has.ended) has.ended.stop renamed)
          → IsTold (transformed_of plan).nodes (tells tree program none).outcome ends.own
      told tree program none renamed ends =
          ends.tells (tells tree program none).outcome
          (subst (λ (why : Option Stop). TellsOutcome (transformed_of plan).nodes
          (total_of has.ended) why (tells tree program none).outcome) (sym none)
          (tells tree program none).tells)

      pub answers : (tapes : Vec Tape Global) → has.ended.stop ≡ None
          → EndsSo plan (total_of has.ended) has.ended.stop (outcome.Done tapes)
          → AnswersPlan plan input rounds (outcome.Done tapes)
      answers tapes none ends = λ tree program.
          let known = tells tree program none in
          subst (λ (k : ℕ). IsOutcomeOf tree plan input k (outcome.Done tapes)) all (record {
            answer = known.comes.answer;
            is_answer = known.comes.is_answer;
            told = told_so plan left.ready.is known.comes.answer known.outcome ends.own
                (outcome.Done tapes) known.comes.named
                (told tree program none (outcome.Done tapes) ends) ends.renamed;
          })

      -- and where it tells of no tapes, the rounds don't come to their end
      pub no_end : TellsTapes plan has.ended None → (words : List (List Word))
          → rounds_run (circuit_view circuit) (round_order plan.split.schedule) rounds 0
          (machine_view machine) ≡ Ended words → ⊥
      no_end (inl fault) words end =
          let whole = left.ready.is.whole in
          let (core, state, over, same) = has.ran.drives in
          no_fault has.ended.stop fault
          (subst WantedAtMostMemory (ap (λ (k : actors.Collector Gathered Stop). k.stop) same)
          (plan_batch_rings_end (tree_of whole.stream) plan input (group_bound plan)
          (last_group plan) batch.rounds m n batch.sizes left.old (circuit_view circuit)
          (machine_view machine) has.later (bound_in bounds) (last_of bounds)
          (start_of has.ran.ring) core words
          (run plan input rounds batch few supplied nodes is circuit machine left
          (tree_of whole.stream) whole.program)
          has.went has.ran.ring_is.cut among
          (begins has.later n (start_of has.ran.ring) has.ran.ring_is.beginning) state over
          (subst (λ (k : ℕ). rounds_run (circuit_view circuit) (round_order plan.split.schedule) k
          0 (machine_view machine) ≡ Ended words) (sym all) end)))
      no_end (inr none) words end =
          let whole = left.ready.is.whole in
          let known = tells (tree_of whole.stream) whole.program none.no_stop in
          never_done plan (transformed_of plan).nodes (total_of has.ended) known.outcome
          none.ends.own none.outcome known.tells
          (told (tree_of whole.stream) whole.program none.no_stop none.outcome none.ends)
          none.ends.renamed none.never

    -- ---- what is found

    never_ends : NeverGoes (circuit_view circuit)
        (repeated (rounds % batch.rounds) (round_order plan.split.schedule)) (machine_view machine)
        → (words : List (List Word))
        → rounds_run (circuit_view circuit) (round_order plan.split.schedule) rounds 0
        (machine_view machine) ≡ Ended words → ⊥
    never_ends never words end =
        let whole = left.ready.is.whole in
        let ends = plan_rounds_end_by_batches (tree_of whole.stream) plan input (group_bound plan)
        (last_group plan) batch.rounds m n batch.sizes left.old (circuit_view circuit)
        (machine_view machine) words
        (run plan input rounds batch few supplied nodes is circuit machine left
        (tree_of whole.stream) whole.program)
        (subst (λ (k : ℕ). rounds_run (circuit_view circuit) (round_order plan.split.schedule) k 0
        (machine_view machine) ≡ Ended words) (sym all) end) in
        never ends.later ends.went

    faults_by : ((words : List (List Word))
        → rounds_run (circuit_view circuit) (round_order plan.split.schedule) rounds 0
        (machine_view machine) ≡ Ended words → ⊥)
        → Faults plan batch.sizes input rounds
    faults_by never = inr (record {
      old = left.old;
      ready = left.ready;
      circuit = circuit_view circuit;
      started = machine_view machine;
      startup = started plan input rounds batch few supplied nodes is circuit machine left;
      no_end = never;
    })

    pub ring_answers : (result : Result (Option (Vec Tape Global)) Failure)
        → IfOk result
        (ComesByRing plan batch bounds (circuit_view circuit) (machine_view machine) rounds)
        → IfOk result (λ found. IfSome found
        (λ tapes. AnswersPlan plan input rounds (outcome.Done tapes)))
    ring_answers (Ok (Some tapes)) (inl has) =
        answers (Some tapes) has tapes has.tells.0 has.tells.1
    ring_answers (Ok (Some tapes)) (inr (none, never)) = cc
    ring_answers (Ok None) comes = tt
    ring_answers (Err failure) comes = tt

    pub ring_faults : (result : Result (Option (Vec Tape Global)) Failure)
        → IfOk result
        (ComesByRing plan batch bounds (circuit_view circuit) (machine_view machine) rounds)
        → IfOk result (λ found. IfNone found (Faults plan batch.sizes input rounds))
    ring_faults (Ok (Some tapes)) comes = tt
    ring_faults (Ok None) (inl has) = faults_by (no_end None has has.tells)
    ring_faults (Ok None) (inr (none, never)) = faults_by (never_ends never)
    ring_faults (Err failure) comes = tt
