-- After a firing that finds its windows the machine over rings is as the one over queues.
use Rattle.std.proofs.Common.{◌≡◌, refl, sym, ap, ◌∙◌, ℕ, suc, ◌+◌, ◌-◌, ◌<◌, ◌^◌}
use Rattle.std.proofs.Common.{ℤ, Bool, true, false, cond, eqb, List, [], ◌++◌, length, drop, Option}
use Rattle.std.proofs.Common.{Some, slice_get, slice_index, slice_index_or, inl, inr, arith}
use Rattle.std.specs.Prelude.{slice_set, if◌then◌else◌}
use Rattle.std.proofs.Common.{eqb-true}
use Rattle.std.proofs.lemmas.Bool.{cases_eq, ne_eqb, eq-eqb, eqb-false, lt-ltb}
use Rattle.std.proofs.lemmas.Option.{same_Some}
use Rattle.std.proofs.lemmas.List.{append-nil, get_or-set_same, get_or-set_other, length-set}
use Rattle.std.proofs.lemmas.List.{drop-drop}
use Rattle.strc_work_meaning.specs.declared.fault.Cause.{Cause}
use Rattle.strc_work_meaning.specs.declared.word.Word.{Word}
use Rattle.strc_elab_dataflow.specs.Flat.{Origin}
use Rattle.strc_elab_dataflow.specs.Flat as flat
use Rattle.strc_elab_dataflow.specs.Histories.{Run, after_firing}
use Rattle.strc_elab_dataflow.specs.Machine.{put}
use Rattle.strc_elab_dataflow.specs.Node.{ByPort, Fired.Fires}
use Rattle.strc_elab_dataflow.specs.Queues.{added, moved}
use Rattle.strc_elab_graph.specs.Graphs.{NodeCode, FileReader, Graph}
use Rattle.strc_sched_laws.specs.ByChannels.{IsByChannels}
use Rattle.strc_elab_graph.specs.Meaning.{node_meaning}
use Rattle.strc_elab_graph.specs.Rates.{pops_at}
use Rattle.strc_sched_laws.specs.Circuits.{IsCircuit}
use Rattle.strc_sched_laws.specs.Fits.{Queues, FitNow}
use Rattle.strc_sched_laws.specs.Machine.{CircuitView, MachineView, one_more, words_at}
use Rattle.strc_sched_laws.specs.Machine.{more_words}
use Rattle.strc_sched_laws.specs.Rings.{Ring}
use Rattle.strc_sched_laws.specs.Wiring.{ports_at}
use Rattle.strc_sched_laws.specs.NodeSteps.{Moves}
use Rattle.strc_sched_laws.specs.Simulation.{Simulates}
use Rattle.strc_sched_laws.proofs.Simulation.{ring_holds}

-- what has been put is there, and what was elsewhere still is

pub put_here : {A : Type 0} (now : ℕ → A) (node : ℕ) (run : A) (other : ℕ) → other ≡ node
    → put now node run other ≡ run
unfolding put
put_here now node run other same =
    ap (λ (test : Bool). cond test run (now other)) (eq-eqb other node same)

pub put_other : {A : Type 0} (now : ℕ → A) (node : ℕ) (run : A) (other : ℕ) → (other ≡ node → ⊥)
    → put now node run other ≡ now other
unfolding put
put_other now node run other differs =
    ap (λ (test : Bool). cond test run (now other)) (ne_eqb other node differs)

-- the queues after a firing of a node, and the machine

module _ (running : flat.Graph NodeCode) (now : Queues) (node : ℕ) where
  abbrev pub next_queues : (fields : List ℤ) → (pushes : ByPort) → (words : List Word) → Queues
  next_queues fields pushes words = record {
    runs = put now.runs node (after_firing node_meaning (running.code node) (now.runs node)
        (Fires fields pushes words));
    queues = moved node_meaning running node (now.runs node).fired now.queues pushes;
  }

abbrev pub next_machine : MachineView → (node : ℕ) → (fields : List ℤ) → (rings : List Ring)
    → (words : List Word) → MachineView
next_machine machine node fields rings words = record {
  fields = slice_set machine.fields node fields;
  fired = slice_set machine.fired node (one_more (slice_index machine.fired node));
  rings = rings;
  words = more_words machine.words node words;
}

module _ (running : flat.Graph NodeCode) (graph : Graph) (joins : IsByChannels running graph)
    (circuit : CircuitView) (is : IsCircuit graph circuit) (sizes : List ℕ) (input : List ℤ)
    (now : Queues) (machine : MachineView)
    (simulates : Simulates graph sizes input now machine) (node : ℕ)
    (within : node < length graph.nodes)
    (there : slice_get graph.nodes node ≡ Some (running.code node)) where
  abbrev code : NodeCode
  code = running.code node

  abbrev firing : ℕ
  firing = (now.runs node).fired

  abbrev state : List ℤ
  state = (now.runs node).state

  abbrev inputs : List (Option ℕ)
  inputs = ports_at circuit.inputs node

  abbrev outputs : List (Option ℕ)
  outputs = ports_at circuit.outputs node

  abbrev count : ℕ
  count = length graph.nodes

  module _ (fields : List ℤ) (pushes : ByPort) (words : List Word) (after : List Ring)
      (moves : Moves inputs outputs (pops_at code firing) pushes machine.rings after) where
    abbrev run : Run (List ℤ) Cause Word
    run = after_firing node_meaning code (now.runs node) (Fires fields pushes words)

    abbrev next : Queues
    next = next_queues running now node fields pushes words

    abbrev later : MachineView
    later = next_machine machine node fields after words

    run_here : (other : ℕ) → other ≡ node → next.runs other ≡ run
    run_here = put_here now.runs node run

    run_other : (other : ℕ) → (other ≡ node → ⊥) → next.runs other ≡ now.runs other
    run_other = put_other now.runs node run

    next_fields : (other : ℕ) → other < count
        → slice_index_or later.fields other [] ≡ (next.runs other).state
    unfolding after_firing
    next_fields other less = elim (cases_eq other node) [
      | inl same ↦
          ap (λ (place : ℕ). slice_index_or later.fields place []) same
          ∙ get_or-set_same machine.fields node fields []
          (omega (arith, within, simulates.each_fields))
          ∙ sym (ap (λ (own : Run (List ℤ) Cause Word). own.state) (run_here other same))
      | inr differs ↦
          get_or-set_other machine.fields node other fields [] differs
          ∙ simulates.fields other less
          ∙ sym (ap (λ (own : Run (List ℤ) Cause Word). own.state) (run_other other differs))
    ]

    -- firings are counted
    counts_one : (next.runs node).fired < 2 ^ 64
        → one_more (slice_index machine.fired node) ≡ suc firing
    unfolding after_firing
    counts_one few =
        let counted = ap (λ (own : Run (List ℤ) Cause Word). own.fired) (run_here node refl) in
        ap one_more (simulates.fired node within)
        ∙ ap (λ (test : Bool). if test then suc firing else firing)
        (lt-ltb firing (2 ^ 64 - 1) (omega (arith, few, counted)))

    next_fired : (next.runs node).fired < 2 ^ 64 → (other : ℕ) → other < count
        → slice_index later.fired other ≡ (next.runs other).fired
    unfolding after_firing
    next_fired few other less = elim (cases_eq other node) [
      | inl same ↦
          ap (slice_index later.fired) same
          ∙ get_or-set_same machine.fired node (one_more (slice_index machine.fired node)) 0
          (omega (arith, within, simulates.each_fired))
          ∙ counts_one few
          ∙ sym (ap (λ (own : Run (List ℤ) Cause Word). own.fired) (run_here other same))
      | inr differs ↦
          get_or-set_other machine.fired node other
          (one_more (slice_index machine.fired node)) 0 differs
          ∙ simulates.fired other less
          ∙ sym (ap (λ (own : Run (List ℤ) Cause Word). own.fired) (run_other other differs))
    ]

    -- ---- the program's input

    -- from a reader's port its firing takes an item
    rest_read : (other : ℕ) (text : List ℕ)
        → slice_get graph.nodes other ≡ Some (FileReader text)
        → (same : Bool) → eqb other node ≡ same
        → drop (cond same (pops_at code firing 0) 0) (now.queues other 0)
        ≡ drop (next.runs other).fired input
    unfolding after_firing
    rest_read other text reader true e =
        let here = eqb-true other node e in
        let is_reader : code ≡ FileReader text = same_Some code (FileReader text)
        (sym there ∙ ap (slice_get graph.nodes) (sym here) ∙ reader) in
        let one : (now.runs other).fired + 1 ≡ suc firing = omega (
          arith,
          ap (λ (n : ℕ). (now.runs n).fired) here,
        ) in
        ap (λ (own : NodeCode). drop (pops_at own firing 0) (now.queues other 0)) is_reader
        ∙ ap (drop 1) (simulates.reads other text reader)
        ∙ drop-drop 1 (now.runs other).fired input
        ∙ ap (λ (n : ℕ). drop n input) one
        ∙ sym (ap (λ (own : Run (List ℤ) Cause Word). drop own.fired input) (run_here other here))
    rest_read other text reader false e =
        simulates.reads other text reader
        ∙ sym (ap (λ (own : Run (List ℤ) Cause Word). drop own.fired input)
        (run_other other (eqb-false other node e)))

    next_reads : (other : ℕ) (text : List ℕ)
        → slice_get graph.nodes other ≡ Some (FileReader text)
        → next.queues other 0 ≡ drop (next.runs other).fired input
    unfolding moved added
    next_reads other text reader =
        ap (λ (origin : Origin). drop (cond (eqb other node) (pops_at code firing 0) 0)
        (now.queues other 0) ++ added node pushes origin) (joins.inputs other text reader)
        ∙ append-nil (drop (cond (eqb other node) (pops_at code firing 0) 0) (now.queues other 0))
        ∙ rest_read other text reader (eqb other node) refl

    -- ---- words

    next_words : (other : ℕ) → other < count → words_at later.words other ≡ (next.runs other).words
    unfolding after_firing
    next_words other less = elim (cases_eq other node) [
      | inl same ↦
          ap (words_at later.words) same
          ∙ get_or-set_same machine.words node (words_at machine.words node ++ words) []
          (omega (arith, within, simulates.each_words))
          ∙ ap (λ (l : List Word). l ++ words) (simulates.words node within)
          ∙ sym (ap (λ (own : Run (List ℤ) Cause Word). own.words) (run_here other same))
      | inr differs ↦
          get_or-set_other machine.words node other (words_at machine.words node ++ words) []
          differs
          ∙ simulates.words other less
          ∙ sym (ap (λ (own : Run (List ℤ) Cause Word). own.words) (run_other other differs))
    ]

    -- ---- both machines

    pub next_simulates : FitNow graph.channels sizes next → Simulates graph sizes input next later
    next_simulates fit = record {
      each_fields = length-set machine.fields node fields ∙ simulates.each_fields;
      each_fired = length-set machine.fired node (one_more (slice_index machine.fired node))
          ∙ simulates.each_fired;
      each_ring = moves.each ∙ simulates.each_ring;
      fields = next_fields;
      fired = next_fired (fit.firings node);
      rings = λ number channel listed.
          ring_holds running graph joins circuit is node (pops_at code firing) pushes machine.rings
          after moves number channel listed now firing (slice_index sizes number) refl
          (simulates.rings number channel listed) (fit.items number channel listed);
      reads = next_reads;
      each_words = length-set machine.words node (words_at machine.words node ++ words)
          ∙ simulates.each_words;
      words = next_words;
    }
