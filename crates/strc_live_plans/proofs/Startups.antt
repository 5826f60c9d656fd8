-- Start-up over just the items that it reads goes as over any longer input.
use Rattle.std.proofs.Common.{◌≡◌, refl, sym, ap, ◌∙◌, subst, ℕ, ◌+◌, ◌*◌, ◌<◌, ◌^◌, arith}
use Rattle.std.proofs.Common.{ℤ, List, [], ◌++◌, length, slice_index, inl, inr}
use Rattle.std.proofs.lemmas.Bool.{cases_eq}
use Rattle.std.proofs.lemmas.List.{ext_get_or, get_or-replicate, length-replicate}
use Rattle.std.proofs.lemmas.Option.{slice_get_within}
use Rattle.strc_work_meaning.specs.declared.fault.Cause.{Cause}
use Rattle.strc_work_meaning.specs.declared.word.Word.{Word}
use Rattle.strc_elab_dataflow.specs.Order.{counts_after}
use Rattle.strc_elab_graph.specs.Graphs.{Graph, FileReader}
use Rattle.strc_sched_orders.specs.Order.{firing_count}
use Rattle.strc_sched_laws.specs.Circuits.{IsCircuit, IsFirst}
use Rattle.strc_sched_laws.specs.Laws.{startup_order, round_order, counts_at}
use Rattle.strc_sched_laws.specs.Machine.{CircuitView, MachineView, Progress, Went, Stopped}
use Rattle.strc_sched_laws.specs.Machine.{order_run}
use Rattle.strc_sched_laws.specs.Rings.{Ring}
use Rattle.strc_sched_laws.proofs.Inputs.{reader_reads}
use Rattle.strc_stage_plan.specs.Plans.{PlanParts, graph_of, transformed_of}
use Rattle.strc_stage_steps.specs.Dealt.{IsDealt}
use Rattle.strc_stage_steps.specs.Plans.{IsReadyFor, need_of}
use Rattle.strc_stage_steps.proofs.PlanRuns.{plan_faults_answer}
use Rattle.strc_live_laws.specs.Windows.{window, IsReader, IsShifted, GoAlike}
use Rattle.strc_live_laws.proofs.Live.{both_went, both_stopped, same_place}
use Rattle.strc_live_laws.proofs.Windows.{windows_law}
use Rattle.strc_live_plans.specs.Startups.{CanBegin, StartupsGoAlike}
use Rattle.strc_live_plans.specs.Startups.{StartupFaultsAnswer}
use Rattle.strc_live_plans.proofs.Readers.{one_reader}

abbrev made : List (List ℤ) → List ℕ → List Ring → List (List Word) → MachineView
made fields fired rings words = record {
  fields = fields;
  fired = fired;
  rings = rings;
  words = words;
}

-- machines at the same place, without a past, are the same
same_machine : (reader : ℕ) (own whole : MachineView)
    → IsShifted reader 0 (λ node. []) own whole → whole ≡ own
same_machine reader own whole shifted =
    let fired : whole.fired ≡ own.fired =
    ext_get_or 0 whole.fired own.fired (sym shifted.each_fired)
    (λ node less. elim (cases_eq node reader) [
      | inl same ↦
          subst (λ (place : ℕ). slice_index whole.fired place ≡ slice_index own.fired place)
          (sym same) (omega (arith, shifted.reads))
      | inr differs ↦ shifted.fired node differs
    ]) in
    let words : whole.words ≡ own.words =
    ext_get_or [] whole.words own.words (sym shifted.each_words)
    (λ node less. shifted.words node) in
    ap (λ (l : List (List ℤ)). made l whole.fired whole.rings whole.words) (sym shifted.fields)
    ∙ ap (λ (l : List ℕ). made own.fields l whole.rings whole.words) fired
    ∙ ap (λ (l : List Ring). made own.fields own.fired l whole.words) (sym shifted.rings)
    ∙ ap (λ (l : List (List Word)). made own.fields own.fired own.rings l) words

-- a circuit with other items is one of the same graph
pub circuit_over : (graph : Graph) (circuit : CircuitView) (items : List ℤ)
    → IsCircuit graph circuit → IsCircuit graph (window items circuit)
circuit_over graph circuit items is = record {
  codes = is.codes;
  inputs = is.inputs;
  outputs = is.outputs;
  input_nodes = is.input_nodes;
  output_nodes = is.output_nodes;
}

-- what is dealt out doesn't depend on the items
dealt_over : (plan : PlanParts) (old : CircuitView) (left started : MachineView) (items : List ℤ)
    → IsDealt old (transformed_of plan) plan.split.origins plan.split.schedule.sizes left started
    → IsDealt (window items old) (transformed_of plan) plan.split.origins
    plan.split.schedule.sizes left started
dealt_over plan old left started items dealt = record {
  each_fields = dealt.each_fields;
  each_fired = dealt.each_fired;
  each_words = dealt.each_words;
  each_ring = dealt.each_ring;
  whole = dealt.whole;
  parts = dealt.parts;
  waiting = dealt.waiting;
  inside = dealt.inside;
}

module _ (plan : PlanParts) (begin : List ℤ) (old : CircuitView)
    (can : CanBegin plan begin old) where
  abbrev startup : List ℕ
  startup = startup_order plan.schedule

  pub one_input_is : IsReader (graph_of plan).nodes can.node
  one_input_is = one_reader (graph_of plan).nodes can.ready.is.whole.program.one_input can.node
      can.text can.reads

  reader_is : IsReader old.codes can.node
  reader_is = subst (λ codes. IsReader codes can.node) (sym can.ready.wired.codes) one_input_is

  pub need_is : (rounds : ℕ) → need_of plan rounds
      ≡ firing_count startup can.node
      + rounds * firing_count (round_order plan.schedule) can.node
  unfolding counts_after
  need_is rounds = reader_reads (graph_of plan).nodes can.node (counts_at plan.schedule rounds)
      can.text can.ready.is.whole.program.one_input can.reads

  begin_is : length begin ≡ firing_count startup can.node
  begin_is = omega (arith, can.just, need_is 0)

  few : length begin < 2 ^ 64
  few = omega (
    arith,
    begin_is,
    can.ready.is.planned.schedule.startup_order.all can.node,
    can.ready.is.planned.startup_within can.node,
  )

  ready_for : (more : List ℤ) → IsReadyFor plan (begin ++ more) (window (begin ++ more) old)
  ready_for more = record {
    is = can.ready.is;
    graph = can.ready.graph;
    known = can.ready.known;
    wired = circuit_over (graph_of plan) old (begin ++ more) can.ready.wired;
    reads_it = refl;
  }

  module _ (first : MachineView) (is_first : IsFirst (graph_of plan) plan.schedule.sizes first)
    where
      reader_there : can.node < length first.fired
      reader_there = omega (
        arith,
        ap (λ (l : List ℕ). length l) is_first.fired
            ∙ length-replicate (length (graph_of plan).nodes) 0,
        slice_get_within (graph_of plan).nodes can.node (FileReader can.text) can.reads,
      )

      none_read : slice_index first.fired can.node ≡ 0
      none_read = ap (λ (l : List ℕ). slice_index l can.node) is_first.fired
          ∙ get_or-replicate (length (graph_of plan).nodes) can.node 0 0
          (slice_get_within (graph_of plan).nodes can.node (FileReader can.text) can.reads)

      startup_alike : (more : List ℤ) (progress : Progress) → order_run old startup first ≡ progress
          → GoAlike can.node 0 (λ node. []) (length begin) progress
          (order_run (window (begin ++ more) old) startup first)
      startup_alike more progress ran =
          let all : slice_index first.fired can.node + firing_count startup can.node
          ≡ length begin = omega (arith, none_read, begin_is) in
          let goes = windows_law old startup can.node [] begin more (λ node. []) first first
          reader_is (omega (arith, few)) (same_place can.node first reader_there)
          (omega (arith, all)) in
          subst (λ (own : Progress). GoAlike can.node 0 (λ node. []) (length begin) own
          (order_run (window (begin ++ more) old) startup first))
          (ap (λ (l : List ℤ). order_run (window l old) startup first) (sym can.ready.reads_it)
          ∙ ran)
          (subst (λ (n : ℕ). GoAlike can.node 0 (λ node. []) n
          (order_run (window begin old) startup first)
          (order_run (window (begin ++ more) old) startup first)) all goes)

      pub startup_went : (left : MachineView) → order_run old startup first ≡ Went left
          → (more : List ℤ) → order_run (window (begin ++ more) old) startup first ≡ Went left
      startup_went left ran more =
          let (whole, went, alike, number) =
          both_went can.node 0 (λ node. []) (length begin) left
          (order_run (window (begin ++ more) old) startup first)
          (startup_alike more (Went left) ran) in
          went ∙ ap Went (same_machine can.node left whole alike)

      -- it read all of them
      pub startup_read : (left : MachineView) → order_run old startup first ≡ Went left
          → slice_index left.fired can.node ≡ length begin
      startup_read left ran =
          (both_went can.node 0 (λ node. []) (length begin) left
          (order_run (window (begin ++ []) old) startup first)
          (startup_alike [] (Went left) ran)).3

      pub startup_stopped : (node firing : ℕ) (cause : Cause)
          → order_run old startup first ≡ Stopped node firing cause → (more : List ℤ)
          → order_run (window (begin ++ more) old) startup first ≡ Stopped node firing cause
      startup_stopped node firing cause ran more =
          both_stopped can.node 0 (λ node. []) (length begin) node firing cause
          (order_run (window (begin ++ more) old) startup first)
          (startup_alike more (Stopped node firing cause) ran)

pub startups_law : StartupsGoAlike
startups_law plan begin more old circuit started begun =
    let its = begun.startup in (
      ready_for plan begin old begun.can more,
      record {
        first = its.first;
        is_first = its.is_first;
        left = its.left;
        went = startup_went plan begin old begun.can its.first its.is_first its.left its.went more;
        circuit_is = circuit_over (transformed_of plan) circuit (begin ++ more) its.circuit_is;
        input_is = refl;
        dealt = λ room. dealt_over plan old its.left started (begin ++ more) (its.dealt room);
      },
    )

pub startup_faults_law : StartupFaultsAnswer
startup_faults_law tree plan begin more rounds old first node firing cause program can enough
    is_first ran =
    plan_faults_answer tree plan (begin ++ more) rounds (window (begin ++ more) old) first node
    firing cause program (ready_for plan begin old can more) enough is_first
    (startup_stopped plan begin old can first is_first node firing cause ran more)
