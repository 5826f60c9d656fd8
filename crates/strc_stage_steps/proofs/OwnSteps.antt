-- A machine over rings of which some nodes are looked at alone: after a firing of one of them it is
-- as the one over queues, at these nodes and at the channels that touch them.
use Rattle.std.proofs.Common.{◌≡◌, refl, sym, ap, ◌∙◌, subst, ℕ, suc, ◌+◌, ◌-◌, ◌<◌, ◌≤◌, ◌^◌}
use Rattle.std.proofs.Common.{ℤ, Bool, true, false, cond, eqb, List, [], ◌++◌, length, drop, Option}
use Rattle.std.proofs.Common.{Some, slice_get, slice_index, slice_index_or, inl, inr, ◌⊎◌, arith}
use Rattle.std.specs.Prelude.{if◌then◌else◌}
use Rattle.std.proofs.Common.{eqb-true}
use Rattle.std.proofs.lemmas.Bool.{cases_eq, eqb-false, lt-ltb}
use Rattle.std.proofs.lemmas.Option.{same_Some}
use Rattle.std.proofs.lemmas.List.{append-nil, get_or-set_same, get_or-set_other, length-set}
use Rattle.std.proofs.lemmas.List.{drop-drop}
use Rattle.circular_buffer.specs.Buffer.{buffer}
use Rattle.strc_work_meaning.specs.declared.fault.Cause.{Cause}
use Rattle.strc_work_meaning.specs.declared.word.Word.{Word}
use Rattle.strc_elab_dataflow.specs.Flat as flat
use Rattle.strc_elab_dataflow.specs.Flat.{Origin}
use Rattle.strc_elab_dataflow.specs.Histories.{Run, after_firing}
use Rattle.strc_elab_dataflow.specs.Machine.{Stop}
use Rattle.strc_elab_dataflow.specs.Node as generic
use Rattle.strc_elab_dataflow.specs.Node.{ByPort, Fired.Fires, Fired.Faults}
use Rattle.strc_elab_dataflow.specs.Queues.{FifoProgress, FifoProgress.FifoWent, added, moved}
use Rattle.strc_elab_dataflow.specs.Queues.{FifoProgress.FifoStopped, holds, fronts}
use Rattle.strc_elab_dataflow.specs.Queues.{fifo_after, fifo_if, fifo_fire}
use Rattle.strc_elab_graph.specs.Graphs.{NodeCode, FileReader, Channel, Graph, gives_words}
use Rattle.strc_elab_graph.specs.Meaning.{node_meaning, node_fired}
use Rattle.strc_elab_graph.specs.Rates.{pops_at}
use Rattle.strc_sched_laws.specs.ByChannels.{IsByChannels}
use Rattle.strc_sched_laws.specs.Circuits.{IsCircuit}
use Rattle.strc_sched_laws.specs.Fits.{Queues, FitThen}
use Rattle.strc_sched_laws.specs.Machine as machines
use Rattle.strc_sched_laws.specs.Machine.{CircuitView, MachineView, one_more, words_at}
use Rattle.strc_sched_laws.specs.Machine.{step_at, next_step, after_step}
use Rattle.strc_sched_laws.specs.NodeSteps.{ArePlaced, Moves, Matches, Shows, finds_in, sees_of}
use Rattle.strc_sched_laws.specs.NodeSteps.{HasOwnWindow}
use Rattle.strc_sched_laws.specs.Rings.{Ring, ring_at, items_at}
use Rattle.strc_sched_laws.specs.Steps as steps
use Rattle.strc_sched_laws.specs.Steps.{Step, maybe_step, node_step}
use Rattle.strc_sched_laws.specs.Wiring.{ports_at}
use Rattle.strc_sched_laws.proofs.Advancing.{next_queues, next_machine, put_here, put_other}
use Rattle.strc_sched_laws.proofs.Ends.{are_placed, idle_empty, carrier_fed}
use Rattle.strc_sched_laws.proofs.NodeSteps.{node_matches}
use Rattle.strc_sched_laws.proofs.Orders.{is_reader}
use Rattle.strc_sched_laws.proofs.Simulation.{ring_holds}

-- a channel begins or ends at a node that is looked at
abbrev pub Touches : (own : ℕ → Bool) → Channel → Type 0
Touches own channel = (own channel.source.node ≡ true) ⊎ (own channel.target.node ≡ true)

-- at these nodes the machine is as the one over queues; words are looked at where nodes have tapes
pub record SimulatesOwn (graph : Graph) (own : ℕ → Bool) (size : ℕ → Channel → ℕ)
    (input : List ℤ) (now : Queues) (machine : MachineView) : Type 0 where
  pub each_fields : length machine.fields ≡ length graph.nodes
  pub each_fired : length machine.fired ≡ length graph.nodes
  pub each_ring : length machine.rings ≡ length graph.channels
  pub each_words : length machine.words ≡ length graph.nodes
  pub fields : (node : ℕ) → node < length graph.nodes → own node ≡ true
      → slice_index_or machine.fields node [] ≡ (now.runs node).state
  pub fired : (node : ℕ) → node < length graph.nodes → own node ≡ true
      → slice_index machine.fired node ≡ (now.runs node).fired
  pub rings : (number : ℕ) (channel : Channel) → slice_get graph.channels number ≡ Some channel
      → Touches own channel
      → ring_at machine.rings number
      ≡ buffer (now.queues channel.target.node channel.target.port) (size number channel)
  pub reads : (node : ℕ) (text : List ℕ) → slice_get graph.nodes node ≡ Some (FileReader text)
      → own node ≡ true → now.queues node 0 ≡ drop (now.runs node).fired input
  pub words : (node : ℕ) (code : NodeCode) → slice_get graph.nodes node ≡ Some code
      → gives_words code ≡ true → own node ≡ true
      → words_at machine.words node ≡ (now.runs node).words

-- no channel that touches them holds more than its room, and their firings have numbers
pub record FitOwn (channels : List Channel) (own : ℕ → Bool) (size : ℕ → Channel → ℕ)
    (now : Queues) : Type 0 where
  pub items : (number : ℕ) (channel : Channel) → slice_get channels number ≡ Some channel
      → Touches own channel
      → length (now.queues channel.target.node channel.target.port) ≤ size number channel
  pub firings : (node : ℕ) → own node ≡ true → (now.runs node).fired < 2 ^ 64

-- both went on alike, or both stopped at the same fault
abbrev pub IsAlikeOwn : Graph → (own : ℕ → Bool) → (size : ℕ → Channel → ℕ) → (input : List ℤ)
    → FifoProgress (List ℤ) Cause Word → machines.Progress → Type 0
IsAlikeOwn graph own size input (FifoWent now) (machines.Went machine) =
    SimulatesOwn graph own size input now machine
IsAlikeOwn graph own size input (FifoStopped stop) (machines.Stopped node firing cause) =
    stop ≡ record { node = node; firing = firing; cause = cause }
IsAlikeOwn _ _ _ _ _ _ = ⊥

module _ (by_source : flat.Graph NodeCode) (graph : Graph) (joins : IsByChannels by_source graph)
    (circuit : CircuitView) (is : IsCircuit graph circuit) (own : ℕ → Bool)
    (size : ℕ → Channel → ℕ) (now : Queues) (machine : MachineView)
    (simulates : SimulatesOwn graph own size circuit.input now machine) (node : ℕ)
    (within : node < length graph.nodes) (is_own : own node ≡ true)
    (there : slice_get graph.nodes node ≡ Some (by_source.code node)) where
  abbrev input : List ℤ
  input = circuit.input

  abbrev code : NodeCode
  code = by_source.code node

  abbrev firing : ℕ
  firing = (now.runs node).fired

  abbrev state : List ℤ
  state = (now.runs node).state

  abbrev inputs : List (Option ℕ)
  inputs = ports_at circuit.inputs node

  abbrev outputs : List (Option ℕ)
  outputs = ports_at circuit.outputs node

  abbrev count : ℕ
  count = length graph.nodes

  module _ (fields : List ℤ) (pushes : ByPort) (words : List Word) (after : List Ring)
      (moves : Moves inputs outputs (pops_at code firing) pushes machine.rings after) where
    abbrev run : Run (List ℤ) Cause Word
    run = after_firing node_meaning code (now.runs node) (Fires fields pushes words)

    abbrev next : Queues
    next = next_queues by_source now node fields pushes words

    abbrev later : MachineView
    later = next_machine machine node fields after words

    run_here : (other : ℕ) → other ≡ node → next.runs other ≡ run
    run_here = put_here now.runs node run

    run_other : (other : ℕ) → (other ≡ node → ⊥) → next.runs other ≡ now.runs other
    run_other = put_other now.runs node run

    next_fields : (other : ℕ) → other < count → own other ≡ true
        → slice_index_or later.fields other [] ≡ (next.runs other).state
    unfolding after_firing
    next_fields other less mine = elim (cases_eq other node) [
      | inl same ↦
          ap (λ (place : ℕ). slice_index_or later.fields place []) same
          ∙ get_or-set_same machine.fields node fields []
          (omega (arith, within, simulates.each_fields))
          ∙ sym (ap (λ (r : Run (List ℤ) Cause Word). r.state) (run_here other same))
      | inr differs ↦
          get_or-set_other machine.fields node other fields [] differs
          ∙ simulates.fields other less mine
          ∙ sym (ap (λ (r : Run (List ℤ) Cause Word). r.state) (run_other other differs))
    ]

    counts_one : (next.runs node).fired < 2 ^ 64
        → one_more (slice_index machine.fired node) ≡ suc firing
    unfolding after_firing
    counts_one few =
        let counted = ap (λ (r : Run (List ℤ) Cause Word). r.fired) (run_here node refl) in
        ap one_more (simulates.fired node within is_own)
        ∙ ap (λ (test : Bool). if test then suc firing else firing)
        (lt-ltb firing (2 ^ 64 - 1) (omega (arith, few, counted)))

    next_fired : (next.runs node).fired < 2 ^ 64 → (other : ℕ) → other < count
        → own other ≡ true → slice_index later.fired other ≡ (next.runs other).fired
    unfolding after_firing
    next_fired few other less mine = elim (cases_eq other node) [
      | inl same ↦
          ap (slice_index later.fired) same
          ∙ get_or-set_same machine.fired node (one_more (slice_index machine.fired node)) 0
          (omega (arith, within, simulates.each_fired))
          ∙ counts_one few
          ∙ sym (ap (λ (r : Run (List ℤ) Cause Word). r.fired) (run_here other same))
      | inr differs ↦
          get_or-set_other machine.fired node other
          (one_more (slice_index machine.fired node)) 0 differs
          ∙ simulates.fired other less mine
          ∙ sym (ap (λ (r : Run (List ℤ) Cause Word). r.fired) (run_other other differs))
    ]

    -- ---- the program's input

    rest_read : (other : ℕ) (text : List ℕ)
        → slice_get graph.nodes other ≡ Some (FileReader text) → own other ≡ true
        → (same : Bool) → eqb other node ≡ same
        → drop (cond same (pops_at code firing 0) 0) (now.queues other 0)
        ≡ drop (next.runs other).fired input
    unfolding after_firing
    rest_read other text reader mine true e =
        let here = eqb-true other node e in
        let is_reader : code ≡ FileReader text = same_Some code (FileReader text)
        (sym there ∙ ap (slice_get graph.nodes) (sym here) ∙ reader) in
        let one : (now.runs other).fired + 1 ≡ suc firing = omega (
          arith,
          ap (λ (n : ℕ). (now.runs n).fired) here,
        ) in
        ap (λ (c : NodeCode). drop (pops_at c firing 0) (now.queues other 0)) is_reader
        ∙ ap (drop 1) (simulates.reads other text reader mine)
        ∙ drop-drop 1 (now.runs other).fired input
        ∙ ap (λ (n : ℕ). drop n input) one
        ∙ sym (ap (λ (r : Run (List ℤ) Cause Word). drop r.fired input) (run_here other here))
    rest_read other text reader mine false e =
        simulates.reads other text reader mine
        ∙ sym (ap (λ (r : Run (List ℤ) Cause Word). drop r.fired input)
        (run_other other (eqb-false other node e)))

    next_reads : (other : ℕ) (text : List ℕ)
        → slice_get graph.nodes other ≡ Some (FileReader text) → own other ≡ true
        → next.queues other 0 ≡ drop (next.runs other).fired input
    unfolding moved added
    next_reads other text reader mine =
        ap (λ (origin : Origin). drop (cond (eqb other node) (pops_at code firing 0) 0)
        (now.queues other 0) ++ added node pushes origin) (joins.inputs other text reader)
        ∙ append-nil (drop (cond (eqb other node) (pops_at code firing 0) 0) (now.queues other 0))
        ∙ rest_read other text reader mine (eqb other node) refl

    -- ---- words

    next_words : (other : ℕ) (its : NodeCode) → slice_get graph.nodes other ≡ Some its
        → gives_words its ≡ true → own other ≡ true
        → words_at later.words other ≡ (next.runs other).words
    unfolding after_firing
    next_words other its found gives mine = elim (cases_eq other node) [
      | inl same ↦
          ap (words_at later.words) same
          ∙ get_or-set_same machine.words node (words_at machine.words node ++ words) []
          (omega (arith, within, simulates.each_words))
          ∙ ap (λ (l : List Word). l ++ words) (simulates.words node its
          (ap (slice_get graph.nodes) (sym same) ∙ found) gives is_own)
          ∙ sym (ap (λ (r : Run (List ℤ) Cause Word). r.words) (run_here other same))
      | inr differs ↦
          get_or-set_other machine.words node other (words_at machine.words node ++ words) []
          differs
          ∙ simulates.words other its found gives mine
          ∙ sym (ap (λ (r : Run (List ℤ) Cause Word). r.words) (run_other other differs))
    ]

    -- ---- both machines

    pub next_simulates : FitOwn graph.channels own size next
        → SimulatesOwn graph own size input next later
    next_simulates fit = record {
      each_fields = length-set machine.fields node fields ∙ simulates.each_fields;
      each_fired = length-set machine.fired node (one_more (slice_index machine.fired node))
          ∙ simulates.each_fired;
      each_ring = moves.each ∙ simulates.each_ring;
      each_words = length-set machine.words node (words_at machine.words node ++ words)
          ∙ simulates.each_words;
      fields = next_fields;
      fired = next_fired (fit.firings node is_own);
      rings = λ number channel listed touches.
          ring_holds by_source graph joins circuit is node (pops_at code firing) pushes
          machine.rings after moves number channel listed now firing (size number channel) refl
          (simulates.rings number channel listed touches)
          (fit.items number channel listed touches);
      reads = next_reads;
      words = next_words;
    }

  -- ---- what the step is

  step_is : next_step circuit machine node
      ≡ node_step code firing state inputs outputs input machine.rings
  step_is =
      ap (λ (n : ℕ). step_at circuit machine node n) (simulates.fired node within is_own)
      ∙ ap (λ (l : List ℤ). maybe_step (slice_get circuit.codes node) firing l inputs outputs
      circuit.input machine.rings) (simulates.fields node within is_own)
      ∙ ap (λ (found : Option NodeCode). maybe_step found firing state inputs outputs
      circuit.input machine.rings)
      (ap (λ (codes : List NodeCode). slice_get codes node) is.codes ∙ there)

  placed : ArePlaced inputs outputs (length machine.rings)
  placed = subst (λ (n : ℕ). ArePlaced inputs outputs n) (sym simulates.each_ring)
      (are_placed by_source graph joins circuit is node)

  shows : Shows inputs machine.rings (now.queues node) code
  shows = record {
    holds = λ port carries.
        let (number, channel, listed, ends, ring) =
        carrier_fed by_source graph joins circuit is node code there port carries in
        ap (items_at machine.rings) ring
        ∙ ap (λ (r : Ring). r.items) (simulates.rings number channel listed
        (inr (ap (λ end. own end.node) ends ∙ is_own)))
        ∙ ap (λ end. now.queues end.node end.port) ends;
    empty = idle_empty by_source graph joins circuit is node code there;
  }

  step_matches : HasOwnWindow code firing
      → Matches inputs outputs (pops_at code firing) machine.rings
      (finds_in code firing (now.queues node))
      (node_fired code firing state (sees_of code firing (now.queues node)))
      (next_step circuit machine node)
  step_matches window =
      subst (Matches inputs outputs (pops_at code firing) machine.rings
      (finds_in code firing (now.queues node))
      (node_fired code firing state (sees_of code firing (now.queues node)))) (sym step_is)
      (node_matches inputs outputs machine.rings placed (now.queues node) code firing state input
      shows
      (λ reader. let reads = is_reader code reader in
      simulates.reads node reads.0 (there ∙ ap Some reads.1) is_own)
      window)

  -- a firing that finds its windows or doesn't
  abbrev found_progress : Bool → generic.Fired (List ℤ) Cause Word
      → FifoProgress (List ℤ) Cause Word
  found_progress true fired = fifo_after node_meaning by_source now node fired
  found_progress false fired = FifoWent now

  progress_is : (found : Bool) → fifo_if node_meaning by_source now node found
      ≡ found_progress found (node_meaning.fire code firing state
      (fronts node_meaning by_source node firing (now.queues node)))
  unfolding fifo_if
  progress_is true = refl
  progress_is false = refl

  fire_is : fifo_fire node_meaning by_source now node
      ≡ found_progress (finds_in code firing (now.queues node))
      (node_fired code firing state (sees_of code firing (now.queues node)))
  unfolding fifo_fire holds fronts
  fire_is = progress_is (finds_in code firing (now.queues node))

  abbrev stop_of : ℕ → Cause → Stop Cause
  stop_of number cause = record { node = node; firing = number; cause = cause }

  found_alike : (found : Bool) (fired : generic.Fired (List ℤ) Cause Word) (step : Step)
      → Matches inputs outputs (pops_at code firing) machine.rings found fired step
      → FitThen (FitOwn graph.channels own size) (found_progress found fired)
      → IsAlikeOwn graph own size input (found_progress found fired) (after_step machine node step)
  unfolding fifo_after
  found_alike false fired steps.Stays matches fit = simulates
  found_alike true (Fires fields pushes words) (steps.Goes its after printed) matches fit =
      subst (λ (l : List ℤ). SimulatesOwn graph own size input
      (next_queues by_source now node fields pushes words)
      (next_machine machine node l after printed)) (sym matches.0)
      (subst (λ (l : List Word). SimulatesOwn graph own size input
      (next_queues by_source now node fields pushes words)
      (next_machine machine node fields after l)) (sym matches.1)
      (next_simulates fields pushes words after matches.2 fit))
  found_alike true (Faults cause) (steps.Faults its) matches fit =
      ap (λ (n : ℕ). stop_of n cause) (sym (simulates.fired node within is_own))
      ∙ ap (stop_of (slice_index machine.fired node)) (sym matches)
  found_alike found fired step matches fit = absurd matches

  -- a firing of one of these nodes
  pub fire_alike : HasOwnWindow code firing
      → FitThen (FitOwn graph.channels own size) (fifo_fire node_meaning by_source now node)
      → IsAlikeOwn graph own size input (fifo_fire node_meaning by_source now node)
      (after_step machine node (next_step circuit machine node))
  fire_alike window fit =
      subst (λ (progress : FifoProgress (List ℤ) Cause Word). IsAlikeOwn graph own size input
      progress (after_step machine node (next_step circuit machine node))) (sym fire_is)
      (found_alike (finds_in code firing (now.queues node))
      (node_fired code firing state (sees_of code firing (now.queues node)))
      (next_step circuit machine node) (step_matches window)
      (subst (FitThen (FitOwn graph.channels own size)) fire_is fit))
