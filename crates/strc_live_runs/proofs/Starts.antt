-- The start-up of live runs.
use Rattle.std.proofs.Common.{◌≡◌, ℕ, zero, suc, ℤ, true, List, [], ◌∷◌, Some, map, refl, ◌+◌}
use Rattle.std.proofs.Common.{◌<◌, ◌≤◌, false, length, get_or, sym, ap, ◌∙◌, subst, arith}
use Rattle.std.proofs.Common.{below_more}
use Rattle.std.proofs.lemmas.List.{append-nil, get_or-map, length-map}
use Rattle.std.proofs.lemmas.Option.{slice_get-get_or, slice_get_within}
use Rattle.std.specs.Prelude.{slice_get}
use Rattle.std.specs.List.{list_any}
use Rattle.strc_elab_dataflow.specs.Streams as trees
use Rattle.strc_work_meaning.specs.declared.word.Word.{Word}
use Rattle.strc_elab_graph.specs.FlatGraphs.{IsProgram}
use Rattle.strc_elab_graph.specs.Graphs as graphs
use Rattle.strc_elab_graph.specs.Graphs.{NodeCode, FileReader, reads_input}
use Rattle.strc_elab_graph.specs.NodeView.{node_view}
use Rattle.strc_elab_graph.specs.declared.graph.Node.{Node}
use Rattle.strc_sched_orders.specs.Greedy.{firings_of}
use Rattle.strc_sched_laws.specs.Laws.{round_order}
use Rattle.strc_sched_laws.specs.Machine.{CircuitView, MachineView, words_at}
use Rattle.strc_sched_rings.specs.Circuits.{circuit_view}
use Rattle.strc_sched_machine.specs.Batches.{units_of}
use Rattle.strc_sched_machine.specs.Running.{machine_view}
use Rattle.strc_stage_plan.specs.Plans.{PlanParts, graph_of, transformed_of}
use Rattle.strc_stage_steps.specs.Plans.{IsReadyFor}
use Rattle.strc_stage_cut.specs.Startups.{HasEnded}
use Rattle.strc_live_laws.specs.Live.{renewed}
use Rattle.strc_live_plans.specs.Runs.{HasGoneOn, LivePlansBegin}
use Rattle.strc_live_plans.specs.Startups.{CanBegin, HasBegun, StartupFaultsAnswer}
use Rattle.strc_live_runs.specs.Runs.{HasSamePlace, IsWired}
use Rattle.strc_live_runs.specs.Serving.{LiveStartsFault}
use Rattle.strc_live_runs.specs.Starts.{CanBeginWith, HasStartedLive, IsFirstReader, IsOneTape}
use Rattle.strc_live_runs.specs.declared.live_run.LiveRun.{LiveRun}

-- ---- the reader

record Reads (nodes : List NodeCode) : Type 0 where
  node : ℕ
  text : List ℕ
  there : slice_get nodes node ≡ Some (FileReader text)

further : (nodes : List NodeCode) (code : NodeCode) → Reads nodes → Reads (code ∷ nodes)
further nodes code is = record { node = suc is.node; text = is.text; there = is.there }

is_one : (code : NodeCode) (nodes : List NodeCode)
    → (list_any reads_input nodes ≡ true → Reads nodes)
    → list_any reads_input (code ∷ nodes) ≡ true → Reads (code ∷ nodes)
is_one (FileReader text) nodes later is = record { node = zero; text = text; there = refl }
is_one (graphs.Filter name filter) nodes later is = further nodes _ (later is)
is_one graphs.Identity nodes later is = further nodes _ (later is)
is_one (graphs.FileWriter text) nodes later is = further nodes _ (later is)
is_one (graphs.Splitter splitter) nodes later is = further nodes _ (later is)
is_one (graphs.Joiner weights) nodes later is = further nodes _ (later is)
is_one (graphs.Scatter fission) nodes later is = further nodes _ (later is)
is_one (graphs.Copy copied fission) nodes later is = further nodes _ (later is)
is_one (graphs.Gather fission) nodes later is = further nodes _ (later is)

reads_some : (nodes : List NodeCode) → list_any reads_input nodes ≡ true → Reads nodes
reads_some [] is = absurd (cc)
reads_some (code ∷ nodes) is = is_one code nodes (reads_some nodes) is

-- ---- the first of them

reader_text : (code : NodeCode) → reads_input code ≡ true
    → (text : List ℕ) × (code ≡ FileReader text)
reader_text (FileReader text) is = (text, refl)
reader_text (graphs.Filter name filter) is = absurd (cc)
reader_text graphs.Identity is = absurd (cc)
reader_text (graphs.FileWriter text) is = absurd (cc)
reader_text (graphs.Splitter splitter) is = absurd (cc)
reader_text (graphs.Joiner weights) is = absurd (cc)
reader_text (graphs.Scatter fission) is = absurd (cc)
reader_text (graphs.Copy copied fission) is = absurd (cc)
reader_text (graphs.Gather fission) is = absurd (cc)

pub code_at : (nodes : List Node) (node : ℕ) (own : Node) → node < length nodes
    → own ≡ get_or nodes node own → slice_get (map node_view nodes) node ≡ Some (node_view own)
code_at nodes node own less is =
    slice_get-get_or (map node_view nodes) node (node_view own)
    (let many = length-map nodes node_view in omega (arith, many, less))
    ∙ ap (λ (c : NodeCode). Some c)
    (get_or-map node_view nodes node own (node_view own) less ∙ ap node_view (sym is))

pub first_reader : (codes : List NodeCode) (node : ℕ) (code : NodeCode)
    → slice_get codes node ≡ Some code → reads_input code ≡ true → IsFirstReader codes node
first_reader codes node code there reads other text here alone =
    let (own, is) = reader_text code reads in
    alone node own (there ∙ ap (λ (c : NodeCode). Some c) is)

-- no node below a number reads the input
abbrev pub NoneReads : List NodeCode → (count : ℕ) → Type 0
NoneReads codes count = (node : ℕ) → node < count → (code : NodeCode)
    → slice_get codes node ≡ Some code → reads_input code ≡ false

some_same : (own code : NodeCode) → Some own ≡ Some code → own ≡ code
some_same own code e = cc

pub none_more : (codes : List NodeCode) (count : ℕ) (own : NodeCode) → NoneReads codes count
    → slice_get codes count ≡ Some own → reads_input own ≡ false → NoneReads codes (count + 1)
none_more codes count own none there quiet = below_more
    (λ node. (code : NodeCode) → slice_get codes node ≡ Some code → reads_input code ≡ false)
    count none
    (λ code here. let same : own ≡ code = some_same own code (sym there ∙ here) in
    ap reads_input (sym same) ∙ quiet)

pub no_reader : (codes : List NodeCode) (count node : ℕ) → NoneReads codes count
    → length codes ≤ count → IsFirstReader codes node
no_reader codes count node none all other text here alone =
    let within = slice_get_within codes other (FileReader text) here in
    let quiet = none other (omega (arith, all, within)) (FileReader text) here in
    absurd (cc quiet)

-- ---- the run

can_begin : (plan : PlanParts) (items : List ℤ) (old : CircuitView) → CanBeginWith plan items
    → IsReadyFor plan items old → CanBegin plan items old
can_begin plan items old can ready =
    let reader = reads_some (graph_of plan).nodes can.reads in record {
      ready = ready;
      node = reader.node;
      text = reader.text;
      reads = reader.there;
      just = can.just;
    }

pub fault_law : StartupFaultsAnswer → LiveStartsFault
fault_law law tree plan items more rounds node firing cause program can enough faulted =
    law tree plan items more rounds faulted.old faulted.first node firing cause program
    (can_begin plan items faulted.old can faulted.ready) enough faulted.is_first faulted.stopped

begun_so : (plan : PlanParts) (items : List ℤ) (circuit : CircuitView) (started : MachineView)
    → CanBeginWith plan items → (ended : HasEnded plan items circuit started)
    → HasBegun plan items ended.old circuit started
begun_so plan items circuit started can ended = record {
  can = can_begin plan items ended.old can ended.ready;
  startup = ended.startup;
}

pub started_live : LivePlansBegin → (tree : trees.Stream NodeCode) (plan : PlanParts)
    (items : List ℤ) (fresh run : LiveRun) (words : List Word)
    → IsProgram tree (graph_of plan) → CanBeginWith plan items
    → HasEnded plan items (circuit_view fresh.circuit) (machine_view fresh.machine)
    → IsFirstReader (transformed_of plan).nodes fresh.reader
    → IsOneTape (transformed_of plan).nodes fresh.tape
    → firings_of (units_of fresh.order) ≡ round_order plan.split.schedule
    → fresh.done ≡ 0 → IsWired run → HasSamePlace fresh run → run.circuit ≡ fresh.circuit
    → machine_view run.machine ≡ renewed fresh.reader (machine_view fresh.machine)
    → words ≡ words_at (machine_view fresh.machine).words fresh.tape
    → HasStartedLive plan items words run
started_live begin tree plan items fresh run words program can ended first one_tape firings none
    wired place circuit machine own =
    let started = machine_view fresh.machine in
    let own_circuit = circuit_view fresh.circuit in
    let begun = begun_so plan items own_circuit started can ended in
    let (reader, gone) = begin tree plan items ended.old own_circuit started program begun in
    let reader_is = gone.reader_is.is in
    let same_reader : fresh.reader ≡ reader = first reader reader_is.text
    (ap (λ l. slice_get l reader) (sym ended.startup.circuit_is.codes) ∙ reader_is.there)
    (λ node text there. reader_is.only node text
    (ap (λ l. slice_get l node) ended.startup.circuit_is.codes ∙ there)) in
    let past = words_at started.words in record {
      past = past;
      written = ap past place.tape ∙ sym own;
      is = record {
        begin = items;
        later = [];
        is_read = sym (append-nil items);
        old = ended.old;
        circuit = own_circuit;
        started = started;
        gone = subst (λ (m : MachineView). HasGoneOn plan items [] ended.old own_circuit started
            run.reader run.done past m)
            (sym (machine ∙ ap (λ r. renewed r started) same_reader))
            (subst (λ d. HasGoneOn plan items [] ended.old own_circuit started run.reader d past
            (renewed reader started)) (sym (place.done ∙ none))
            (subst (λ r. HasGoneOn plan items [] ended.old own_circuit started r 0 past
            (renewed reader started)) (sym (place.reader ∙ same_reader)) gone));
        input = own_circuit.input;
        circuit_is = ap circuit_view circuit;
        firings = ap (λ o. firings_of (units_of o)) place.order ∙ firings;
      };
      wired = wired;
      none_done = place.done ∙ none;
      tape = subst (IsOneTape (transformed_of plan).nodes) (sym place.tape) one_tape;
    }
