-- A machine after fission to which all has been handed on.
use Rattle.std.proofs.Common.{◌≡◌, sym, ap, ◌∙◌, ℕ, ◌<◌, ℤ, arith, true, false}
use Rattle.std.proofs.Common.{List, [], length, get_or, map, replicate, inr, Some}
use Rattle.std.proofs.Common.{slice_get, cond, Bool}
use Rattle.std.specs.Prelude.{slice_index, None}
use Rattle.std.proofs.lemmas.List.{get_or-map, get_or-replicate, length-map, length-replicate}
use Rattle.std.proofs.lemmas.Option.{slice_get-get_or, slice_get_within}
use Rattle.circular_buffer.specs.Buffer.{buffer}
use Rattle.strc_work_meaning.specs.declared.word.Word.{Word}
use Rattle.strc_elab_graph.specs.Graphs.{NodeCode, Graph, Channel}
use Rattle.strc_elab_graph.specs.Meaning.{node_fields}
use Rattle.strc_sched_laws.specs.Circuits.{IsFirst}
use Rattle.strc_sched_laws.specs.Machine.{CircuitView, MachineView}
use Rattle.strc_sched_laws.specs.Rings.{Ring, at_port, extended, items_at, ring_at}
use Rattle.strc_sched_laws.specs.Wiring.{ports_at}
use Rattle.strc_sched_machine.specs.Actors.{fields_of}
use Rattle.strc_sched_machine.specs.Keeping.{HasPlace, kept_at}
use Rattle.strc_sched_machine.specs.Running.{IsMachine, machine_view}
use Rattle.strc_sched_machine.specs.declared.machine.Machine.{Machine}
use Rattle.strc_fiss.specs.declared.split.Origin.{Origin}
use Rattle.strc_stage_steps.specs.Dealt.{HaveRoom, IsDealt, starting, waiting_at}
use Rattle.strc_stage_steps.specs.Handing.{HasFilled, HasHanded, items_before}
use Rattle.strc_stage_steps.specs.Handing.{maybe_inside, ring_before}
use Rattle.strc_stage_plan.specs.Named.{old_node}
use Rattle.strc_stage_steps.specs.Origins.{is_inside}
use Rattle.strc_stage_steps.proofs.FilledChannels.{all_join}
use Rattle.strc_stage_steps.proofs.Nodes.{kept, not_whole}

-- a machine has a place for each node of its circuit
pub has_place : (circuit : CircuitView) (machine : Machine) (node : ℕ) → IsMachine circuit machine
    → node < length circuit.codes → HasPlace (machine_view machine) node
has_place circuit machine node is less = record {
  fields =
      let many = length-map machine.actors.items fields_of in
      let each = is.actors.each in
      omega (arith, many, each, less);
  fired = let each = is.fired in omega (arith, each, less);
  words =
      let many = length-map machine.words.items (λ words. words.items) in
      let each = is.words in
      omega (arith, many, each, less);
}

-- and before its first firing one for each of its graph
module _ (graph : Graph) (sizes : List ℕ) (first : MachineView) (is : IsFirst graph sizes first)
  where
    pub first_fields : length first.fields ≡ length graph.nodes
    first_fields = ap length is.fields ∙ length-map graph.nodes node_fields

    pub first_fired : length first.fired ≡ length graph.nodes
    first_fired = ap length is.fired ∙ length-replicate (length graph.nodes) 0

    pub first_words : length first.words ≡ length graph.nodes
    first_words = ap length is.words ∙ length-replicate (length graph.nodes) []

    pub first_place : (number : ℕ) → number < length graph.nodes → HasPlace first number
    first_place number less = record {
      fields = let each = first_fields in omega (arith, each, less);
      fired = let each = first_fired in omega (arith, each, less);
      words = let each = first_words in omega (arith, each, less);
    }

    -- a node has what it starts with
    pub first_kept : (number : ℕ) (code : NodeCode) → slice_get graph.nodes number ≡ Some code
        → kept_at first number ≡ starting code
    first_kept number code there =
        let less = slice_get_within graph.nodes number code there in
        ap (λ (l : List (List ℤ)). kept (get_or l number []) (get_or first.fired number 0)
        (get_or first.words number [])) is.fields
        ∙ ap (λ (l : List ℕ). kept (get_or (map node_fields graph.nodes) number [])
        (get_or l number 0) (get_or first.words number [])) is.fired
        ∙ ap (λ (l : List (List Word)). kept (get_or (map node_fields graph.nodes) number [])
        (get_or (replicate (length graph.nodes) 0) number 0) (get_or l number [])) is.words
        ∙ ap (λ (l : List ℤ). kept l (get_or (replicate (length graph.nodes) 0) number 0)
        (get_or (replicate (length graph.nodes) []) number []))
        (get_or-map node_fields graph.nodes number code [] less
        ∙ ap node_fields (code_is less))
        ∙ ap (λ (n : ℕ). kept (node_fields code) n
        (get_or (replicate (length graph.nodes) []) number []))
        (get_or-replicate (length graph.nodes) number 0 0 less)
        ∙ ap (kept (node_fields code) 0)
        (get_or-replicate (length graph.nodes) number [] [] less)
      where
        code_is : number < length graph.nodes → get_or graph.nodes number code ≡ code
        code_is less =
            let e : Some (get_or graph.nodes number code) ≡ Some code =
            sym (slice_get-get_or graph.nodes number code less) ∙ there in cc

-- ---- all that was handed on

module _ (circuit : CircuitView) (graph : Graph) (origins : List Origin) (sizes : List ℕ)
    (before first left given after : MachineView) (is : IsFirst graph sizes first)
    (handed : HasHanded graph.nodes origins (length graph.nodes) before first left given)
    (filled : HasFilled (items_before circuit graph.nodes origins left) graph.channels
    (length graph.channels) given after)
    (room : HaveRoom circuit graph origins sizes before) where
  same_kept : (number : ℕ) → kept_at after number ≡ kept_at given number
  same_kept number =
      ap (λ (l : List (List ℤ)). kept (get_or l number []) (get_or after.fired number 0)
      (get_or after.words number [])) filled.fields
      ∙ ap (λ (l : List ℕ). kept (get_or given.fields number []) (get_or l number 0)
      (get_or after.words number [])) filled.fired
      ∙ ap (λ (l : List (List Word)). kept (get_or given.fields number [])
      (get_or given.fired number 0) (get_or l number [])) filled.words

  -- a ring has its items, as many as it has room for
  ring_is : (number : ℕ) (channel : Channel) → slice_get graph.channels number ≡ Some channel
      → ring_at after.rings number
      ≡ extended (items_at before.rings (ring_before circuit graph.nodes origins channel))
      (buffer [] (slice_index sizes number))
  ring_is number channel there =
      filled.filled number channel (slice_get_within graph.channels number channel there) there
      ∙ ap (λ (l : List Ring). extended
      (items_before circuit graph.nodes origins left channel)
      (buffer [] (ring_at l number).capacity)) handed.rings
      ∙ ap (λ (r : Ring). extended (items_before circuit graph.nodes origins left channel)
      (buffer [] r.capacity)) (is.rings.first number channel there)
      ∙ ap (λ (l : List Ring). extended
      (items_at l (ring_before circuit graph.nodes origins channel))
      (buffer [] (slice_index sizes number))) handed.left_rings

  by_test : (number : ℕ) (channel : Channel) (code : NodeCode) (test : Bool)
      → slice_get graph.channels number ≡ Some channel
      → slice_get graph.nodes channel.target.node ≡ Some code → is_inside code ≡ test
      → ring_at after.rings number
      ≡ extended (items_at before.rings (cond test None (at_port (ports_at circuit.inputs
      (old_node origins channel.target.node)) channel.target.port)))
      (buffer [] (slice_index sizes number))
  by_test number channel code test there target e =
      ring_is number channel there
      ∙ ap (λ (t : Bool). extended (items_at before.rings (cond t None
      (at_port (ports_at circuit.inputs (old_node origins channel.target.node))
      channel.target.port))) (buffer [] (slice_index sizes number)))
      (ap maybe_inside target ∙ e)

  pub dealt_is : IsDealt circuit graph origins sizes before after
  dealt_is = record {
    each_fields = ap length filled.fields ∙ handed.many.fields ∙ first_fields graph sizes first is;
    each_fired = ap length filled.fired ∙ handed.many.fired ∙ first_fired graph sizes first is;
    each_words = ap length filled.words ∙ handed.many.words ∙ first_words graph sizes first is;
    each_ring = filled.each ∙ ap length handed.rings ∙ is.rings.each;
    whole = λ number code there own.
        same_kept number
        ∙ handed.handed number (slice_get_within graph.nodes number code there)
        (record { code = code; there = there; whole = own });
    parts = λ number code there part.
        same_kept number
        ∙ handed.others number (inr (not_whole graph.nodes number code there part))
        ∙ first_kept graph sizes first is number code there;
    waiting = λ number channel code there target outside.
        by_test number channel code false there target outside
        ∙ all_join (waiting_at circuit before (old_node origins channel.target.node)
        channel.target.port) (slice_index sizes number)
        (room number channel code there target outside);
    inside = λ number channel code there target within.
        by_test number channel code true there target within
        ∙ all_join [] (slice_index sizes number) (omega arith);
  }
