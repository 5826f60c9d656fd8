-- A stage's circuit and machine, parted from those of the whole graph.
use Rattle.std.proofs.Common.{◌≡◌, sym, ap, ◌∙◌, subst, ℕ, suc, ◌<◌, ◌≤◌}
use Rattle.std.proofs.Common.{List, [], length, map, get_or, replicate, arith, inl, inr}
use Rattle.std.specs.Prelude.{slice_get, slice_index, slice_index_or, Option, Some}
use Rattle.std.specs.Option.{option_map_or}
use Rattle.std.proofs.lemmas.Bool.{cases_lt}
use Rattle.std.proofs.lemmas.List.{get_or_past, get_or-map, get_or-replicate, get_or_read}
use Rattle.std.proofs.lemmas.List.{length-replicate}
use Rattle.std.proofs.lemmas.Option.{slice_get_past, slice_get_within, get_or_from_slice_get}
use Rattle.circular_buffer.specs.Buffer.{buffer}
use Rattle.strc_work_meaning.specs.declared.word.Word.{Word}
use Rattle.strc_elab_graph.specs.Graphs.{Channel, NodeCode, JoinsPorts, inputs_at, input_ports}
use Rattle.strc_elab_graph.specs.Graphs.{outputs_at, output_ports}
use Rattle.strc_sched_orders.specs.declared.unit as units
use Rattle.strc_sched_laws.specs.Circuits.{IsCircuit}
use Rattle.strc_sched_laws.specs.Machine.{CircuitView, MachineView, words_at}
use Rattle.strc_sched_laws.specs.Rings.{Ring, ring_at}
use Rattle.strc_sched_laws.specs.Wiring.{PortRings, ports_at}
use Rattle.strc_sched_laws.proofs.Supplies.{element}
use Rattle.strc_sched_rings.specs.Parts.{IsOutside, IsPartOf, IsPartCircuit}
use Rattle.strc_sched_rings.proofs.PartCircuits.{parts_are_part_circuits}
use Rattle.strc_sched_machine.specs.Parts.{IsPart}
use Rattle.strc_stage_plan.specs.Plans.{PlanParts, transformed_of}
use Rattle.strc_stage_steps.specs.Beginnings.{IsCircuitOf, IsMachineOf, is_own}
use Rattle.strc_stage_steps.specs.Runnings.{Running, round_pushes}
use Rattle.strc_stage_cut.specs.Bounds.{bound_in, last_of}
use Rattle.strc_stage_cut.specs.Cuts.{IsCutAt}
use Rattle.strc_stage_cut.specs.Fired.{running_by}
use Rattle.strc_stage_cut.specs.Links.{carried_between}
use Rattle.strc_stage_cut.proofs.Carried.{crossing_is}
use Rattle.strc_stage_cut.proofs.Ranges.{own_from, own_below, is_outside}

abbrev empty_ring : ℕ → Ring
empty_ring room = buffer [] room

-- a bound that is read
pub bound_read : (bounds : List ℕ) (stage place own : ℕ) → 2 ≤ length bounds
    → stage ≤ suc (last_of bounds) → place ≡ stage → own ≡ get_or bounds place own
    → own ≡ bound_in bounds stage
bound_read bounds stage place own some most is read =
    get_or_read bounds place own (omega (arith, some, most, is)) read 0
    ∙ ap (bound_in bounds) is

-- a stage's part of a circuit and of a machine
pub record IsParted (plan : PlanParts) (fired : List units.Unit.Unit) (bounds : List ℕ)
    (circuit own : CircuitView) (rooms : List ℕ) (before part : MachineView)
    (stage first next : ℕ) : Type 0 where
  pub at : IsCutAt plan bounds
  pub most : stage ≤ last_of bounds
  pub first_is : first ≡ bound_in bounds stage
  pub next_is : next ≡ bound_in bounds (suc stage)
  pub whole : IsCircuit (transformed_of plan) circuit
  pub of : IsPartOf first next circuit own
  pub rooms_are : rooms
      ≡ map (carried_between (transformed_of plan) (running_by plan fired).counts bounds)
      (transformed_of plan).channels
  pub each_fields : length before.fields ≡ length (transformed_of plan).nodes
  pub each_fired : length before.fired ≡ length (transformed_of plan).nodes
  pub is : IsPart (transformed_of plan) first next rooms before part

-- a port is one of a node that is there
pub port_there : (nodes : List NodeCode) (node port : ℕ) → port < inputs_at nodes node
    → node < length nodes
port_there nodes node port less = elim (cases_lt node (length nodes)) [
  | inl within ↦ within
  | inr past ↦ absurd (omega (
    arith,
    less,
    ap (λ (code : Option NodeCode). option_map_or input_ports code 0)
        (slice_get_past nodes node past),
  ))
]

pub source_there : (nodes : List NodeCode) (node port : ℕ) → port < outputs_at nodes node
    → node < length nodes
source_there nodes node port less = elim (cases_lt node (length nodes)) [
  | inl within ↦ within
  | inr past ↦ absurd (omega (
    arith,
    less,
    ap (λ (code : Option NodeCode). option_map_or output_ports code 0)
        (slice_get_past nodes node past),
  ))
]

none_anywhere : {A : Type 0} (count node : ℕ)
    → get_or (replicate {A = List A} count []) node [] ≡ []
none_anywhere {A} count node = elim (cases_lt node count) [
  | inl less ↦ get_or-replicate count node [] [] less
  | inr past ↦ get_or_past (replicate {A = List A} count []) node []
      (omega (arith, past, length-replicate {A = List A} count []))
]

module _ (plan : PlanParts) (fired : List units.Unit.Unit) (bounds : List ℕ)
    (circuit own : CircuitView) (rooms : List ℕ) (before part : MachineView)
    (stage first next : ℕ)
    (parted : IsParted plan fired bounds circuit own rooms before part stage first next) where
  abbrev running : Running
  running = running_by plan fired

  abbrev carried : Channel → ℕ
  carried = carried_between (transformed_of plan) (running_by plan fired).counts bounds

  abbrev bound : ℕ → ℕ
  bound = bound_in bounds

  abbrev last : ℕ
  last = last_of bounds

  abbrev IsOwn : ℕ → Type 0
  IsOwn node = is_own running bound last circuit before stage node

  from : (node : ℕ) → IsOwn node → first ≤ node
  from node is = omega (
    arith,
    parted.first_is,
    own_from plan bound last parted.at.cut stage node is,
  )

  below : (node : ℕ) → node < length (transformed_of plan).nodes → IsOwn node → node < next
  below node less is = omega (
    arith,
    parted.next_is,
    own_below plan bound last parted.at.cut stage node less is,
  )

  outside : (node : ℕ) → (IsOwn node → ⊥) → IsOutside first next node
  outside node other = subst (λ (n : ℕ). IsOutside n next node) (sym parted.first_is)
      (subst (λ (n : ℕ). IsOutside (bound stage) n node) (sym parted.next_is)
      (is_outside plan bound last parted.at.cut stage node parted.most other))

  -- ---- the circuit

  part_circuit : IsPartCircuit (transformed_of plan) first next own
  part_circuit =
      parts_are_part_circuits (transformed_of plan) circuit own first next parted.whole parted.of

  codes_are : (node : ℕ) → IsOwn node
      → slice_get own.codes node ≡ slice_get circuit.codes node
  codes_are node is = elim (cases_lt node (length (transformed_of plan).nodes)) [
    | inl less ↦ part_circuit.own node (from node is) (below node less is)
        ∙ ap (λ (l : List NodeCode). slice_get l node) (sym parted.whole.codes)
    | inr past ↦ slice_get_past own.codes node (omega (arith, past, part_circuit.each))
        ∙ sym (slice_get_past circuit.codes node
        (omega (arith, past, ap length parted.whole.codes)))
  ]

  pub circuit_of : IsCircuitOf running bound last circuit before stage own
  circuit_of = record {
    each = part_circuit.each ∙ sym (ap length parted.whole.codes);
    codes = codes_are;
    inputs = λ node is. ap (λ (l : PortRings). ports_at l node) parted.of.inputs;
    outputs = λ node is. ap (λ (l : PortRings). ports_at l node) parted.of.outputs;
    input = λ node code is there reads. parted.of.input;
  }

  -- ---- the machine

  fields_are : (node : ℕ) → IsOwn node
      → slice_index_or part.fields node [] ≡ slice_index_or before.fields node []
  fields_are node is = elim (cases_lt node (length (transformed_of plan).nodes)) [
    | inl less ↦ parted.is.fields node (from node is) (below node less is)
    | inr past ↦
        get_or_past part.fields node [] (omega (arith, past, parted.is.each_fields))
        ∙ sym (get_or_past before.fields node [] (omega (arith, past, parted.each_fields)))
  ]

  fired_is : (node : ℕ) → IsOwn node
      → slice_index part.fired node ≡ slice_index before.fired node
  fired_is node is = elim (cases_lt node (length (transformed_of plan).nodes)) [
    | inl less ↦ parted.is.fired node (from node is) (below node less is)
    | inr past ↦
        get_or_past part.fired node 0 (omega (arith, past, parted.is.each_fired))
        ∙ sym (get_or_past before.fired node 0 (omega (arith, past, parted.each_fired)))
  ]

  module _ (number : ℕ) (channel : Channel)
      (there : slice_get (transformed_of plan).channels number ≡ Some channel) where
    joins : JoinsPorts (transformed_of plan).nodes channel
    joins = element (JoinsPorts (transformed_of plan).nodes) (transformed_of plan).channels number
        channel parted.at.graph.channels there

    ending_is : IsOwn channel.target.node
        → ring_at part.rings number ≡ ring_at before.rings number
    ending_is is =
        parted.is.ended number channel there (from channel.target.node is)
        (below channel.target.node (port_there (transformed_of plan).nodes channel.target.node
        channel.target.port joins.target) is)

    room_is : slice_index rooms number ≡ carried channel
    room_is =
        ap (λ (l : List ℕ). slice_index l number) parted.rooms_are
        ∙ get_or-map carried (transformed_of plan).channels number
        channel 0
        (slice_get_within (transformed_of plan).channels number channel there)
        ∙ ap carried
        (get_or_from_slice_get (transformed_of plan).channels number channel channel there)

    leaving_is : (source : channel.source.node < length (transformed_of plan).nodes)
        → IsOwn channel.source.node → (IsOwn channel.target.node → ⊥)
        → ring_at part.rings number ≡ buffer [] (round_pushes running channel)
    leaving_is source is other =
        parted.is.begun number channel there (outside channel.target.node other)
        (from channel.source.node is) (below channel.source.node source is)
        ∙ ap (λ (n : ℕ). empty_ring n) (room_is
        ∙ crossing_is running bounds channel (λ same. other (sym same ∙ is)))

  pub machine_of : IsMachineOf running bound last circuit before stage part
  machine_of = record {
    each_fields = parted.is.each_fields;
    each_fired = parted.is.each_fired;
    each_ring = parted.is.each_ring;
    each_words = ap length parted.is.words
        ∙ length-replicate (length (transformed_of plan).nodes) [];
    fields = fields_are;
    fired = fired_is;
    ending = ending_is;
    leaving = λ number channel there is other. leaving_is number channel there
        (source_there (transformed_of plan).nodes channel.source.node channel.source.port
        (joins number channel there).source) is other;
    words = λ node. ap (λ (l : List (List Word)). words_at l node) parted.is.words
        ∙ none_anywhere (length (transformed_of plan).nodes) node;
  }
