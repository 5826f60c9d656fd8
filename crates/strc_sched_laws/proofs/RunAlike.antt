-- The run over rings ends as the run over queues does: order by order, and round by round.
use Rattle.std.proofs.Common.{◌≡◌, refl, sym, ap, ◌∙◌, subst, ℕ, zero, suc, ◌<◌, ◌≤◌, ℤ, List, []}
use Rattle.std.proofs.Common.{◌++◌, length, get_or, Some, slice_get}
use Rattle.std.proofs.Common.{slice_index, slice_index_or, false}
use Rattle.std.proofs.lemmas.List.{append-nil, get_or-map, get_or-replicate, length-map}
use Rattle.std.proofs.lemmas.List.{length-replicate}
use Rattle.std.proofs.lemmas.Option.{slice_get-get_or}
use Rattle.circular_buffer.specs.Buffer.{buffer}
use Rattle.strc_work_meaning.specs.declared.fault.Cause.{Cause}
use Rattle.strc_work_meaning.specs.declared.word.Word.{Word}
use Rattle.strc_elab_dataflow.specs.Answer.{Outcome, words_of}
use Rattle.strc_elab_dataflow.specs.Flat.{Source, items_of, arrived}
use Rattle.strc_elab_dataflow.specs.Histories.{initial_run}
use Rattle.strc_elab_dataflow.specs.Queues.{FifoProgress, FifoProgress.FifoWent}
use Rattle.strc_elab_dataflow.specs.Queues.{FifoProgress.FifoStopped, fifo_go}
use Rattle.strc_elab_dataflow.specs.Queues.{fifo_at_first, fifo_round_outcome, fifo_rounds}
use Rattle.strc_elab_dataflow.specs.Queues.{fifo_startup_outcome, fifo_run}
use Rattle.strc_elab_dataflow.specs.Streams.{Stream, flat}
use Rattle.strc_elab_graph.specs.Graphs.{NodeCode, Identity, Graph}
use Rattle.strc_elab_graph.specs.FlatGraphs.{IsProgram}
use Rattle.strc_elab_graph.specs.Meaning.{node_meaning, node_fields}
use Rattle.strc_elab_graph.specs.Rates.{fires_by_rounds}
use Rattle.strc_sched_orders.specs.Order.{repeated}
use Rattle.strc_sched_laws.specs.Circuits.{IsCircuit, IsFirst}
use Rattle.strc_sched_laws.specs.Fits.{Queues, FitNow, FitThen, Fit}
use Rattle.strc_sched_laws.specs.Machine as machines
use Rattle.strc_sched_laws.specs.Machine.{CircuitView, MachineView, next_step, after_step}
use Rattle.strc_sched_laws.specs.Machine.{then_go, order_run, after_round, rounds_run}
use Rattle.strc_sched_laws.specs.Machine.{after_startup, whole_run, words_at}
use Rattle.strc_sched_laws.specs.ByChannels.{IsByChannels}
use Rattle.strc_sched_laws.specs.NodeSteps.{HasOwnWindow}
use Rattle.strc_sched_laws.specs.RingAnswer.{AreWordsOf, Tells}
use Rattle.strc_sched_laws.specs.Simulation.{Simulates, IsAlike}
use Rattle.strc_sched_laws.proofs.Changes.{extended_all}
use Rattle.strc_sched_laws.proofs.Codes.{code_is}
use Rattle.strc_sched_laws.proofs.NodeSteps.{window_unasked}
use Rattle.strc_sched_laws.proofs.Orders.{AreNodes}
use Rattle.strc_sched_laws.proofs.OrdersAlike.{node_there}
use Rattle.strc_sched_laws.proofs.OrdersAlike.{order_alike as any_order_alike}
use Rattle.strc_sched_laws.proofs.Splitting.{fit_now, fit_split}
use Rattle.strc_sched_laws.proofs.TreeGraphs.{by_channels, source_is}

module _ (tree : Stream NodeCode) (graph : Graph) (program : IsProgram tree graph)
    (each : (node : ℕ) (code : NodeCode) → slice_get graph.nodes node ≡ Some code
    → fires_by_rounds code ≡ false)
    (circuit : CircuitView) (is : IsCircuit graph circuit) (sizes : List ℕ) (input : List ℤ)
    (reads_it : circuit.input ≡ input) where
  abbrev count : ℕ
  count = length graph.nodes

  abbrev go : List ℕ → Queues → FifoProgress (List ℤ) Cause Word
  go = fifo_go node_meaning (flat tree)

  abbrev FitsFor : List ℕ → Queues → Type 0
  FitsFor = Fit (flat tree) graph.channels sizes

  abbrev Alike : FifoProgress (List ℤ) Cause Word → machines.Progress → Type 0
  Alike = IsAlike graph sizes input

  joins : IsByChannels (flat tree) graph
  joins = by_channels tree graph program

  -- no node is one of fission
  windows : (node firing : ℕ) → node < count → HasOwnWindow ((flat tree).code node) firing
  windows node firing within =
      window_unasked ((flat tree).code node) firing (each node ((flat tree).code node)
      (node_there (flat tree) graph joins circuit is sizes input reads_it node within))

  pub order_alike : (order : List ℕ) → AreNodes graph order → (now : Queues)
      (machine : MachineView) → FitsFor order now → Simulates graph sizes input now machine
      → Alike (go order now) (order_run circuit order machine)
  order_alike =
      any_order_alike (flat tree) graph joins circuit is sizes input reads_it windows

  -- ---- rounds

  module _ (round : List ℕ) (round_nodes : AreNodes graph round) where
    abbrev rounds_left : ℕ → ℕ → Queues → Outcome Cause Word
    rounds_left = fifo_rounds node_meaning (flat tree) input round

    round_tells : (left q : ℕ) (progress : FifoProgress (List ℤ) Cause Word)
        (own : machines.Progress) (words : ℕ → List Word) (given : List (List Word))
        → AreWordsOf count words given
        → Alike progress own → FitThen (FitsFor (repeated left round)) progress
        → ((now : Queues) (machine : MachineView) → FitsFor (repeated left round) now
        → Simulates graph sizes input now machine
        → Tells count (rounds_left left (suc q) now)
        (rounds_run circuit round left (suc q) machine))
        → Tells count
        (fifo_round_outcome node_meaning (flat tree) input round q words progress
        (rounds_left left (suc q)))
        (after_round q given (rounds_run circuit round left (suc q)) own)
    unfolding fifo_round_outcome
    round_tells left q (FifoWent next) (machines.Went machine) words given same alike fit later =
        later next machine fit alike
    round_tells left q (FifoStopped stop) (machines.Stopped node firing cause) words given same
        alike fit later = (refl, alike, same)
    round_tells left q (FifoWent next) (machines.Stopped node firing cause) words given same
        alike fit later = absurd alike
    round_tells left q (FifoStopped stop) (machines.Went machine) words given same alike fit later
        = absurd alike

    rounds_alike : (left q : ℕ) (now : Queues) (machine : MachineView)
        → FitsFor (repeated left round) now → Simulates graph sizes input now machine
        → Tells count (rounds_left left q now) (rounds_run circuit round left q machine)
    unfolding fifo_rounds words_of
    rounds_alike zero q now machine fit simulates = simulates.words
    rounds_alike (suc left) q now machine fit simulates =
        let parts = fit_split (flat tree) graph.channels sizes round (repeated left round) now fit
        in
        round_tells left q (go round now) (order_run circuit round machine) (words_of now.runs)
        machine.words simulates.words (order_alike round round_nodes now machine parts.0 simulates)
        parts.1 (rounds_alike left (suc q))

    -- ---- the whole run

    startup_tells : (rounds : ℕ) (progress : FifoProgress (List ℤ) Cause Word)
        (own : machines.Progress) → Alike progress own
        → FitThen (FitsFor (repeated rounds round)) progress
        → Tells count (fifo_startup_outcome node_meaning (flat tree) input round rounds progress)
        (after_startup (rounds_run circuit round rounds 0) own)
    unfolding fifo_startup_outcome
    startup_tells rounds (FifoWent next) (machines.Went machine) alike fit =
        rounds_alike rounds 0 next machine fit alike
    startup_tells rounds (FifoStopped stop) (machines.Stopped node firing cause) alike fit = alike
    startup_tells rounds (FifoWent next) (machines.Stopped node firing cause) alike fit =
        absurd alike
    startup_tells rounds (FifoStopped stop) (machines.Went machine) alike fit = absurd alike

    pub first_simulates : (machine : MachineView) → IsFirst graph sizes machine
        → FitNow graph.channels sizes (fifo_at_first node_meaning (flat tree) input)
        → Simulates graph sizes input (fifo_at_first node_meaning (flat tree) input) machine
    unfolding fifo_at_first initial_run arrived items_of
    first_simulates machine first fit = record {
      each_fields = ap (λ (l : List (List ℤ)). length l) first.fields
          ∙ length-map graph.nodes node_fields;
      each_fired = ap (λ (l : List ℕ). length l) first.fired ∙ length-replicate count 0;
      each_ring = first.rings.each;
      fields = λ node less.
          ap (λ (l : List (List ℤ)). slice_index_or l node []) first.fields
          ∙ get_or-map node_fields graph.nodes node Identity [] less
          ∙ ap node_fields (sym (code_is tree graph program.flat node
          (get_or graph.nodes node Identity)
          (slice_get-get_or graph.nodes node Identity less)));
      fired = λ node less.
          ap (λ (l : List ℕ). slice_index l node) first.fired
          ∙ get_or-replicate count node 0 0 less;
      rings = λ number channel listed.
          let size = slice_index sizes number in
          let comes = ap (λ (source : Source). arrived input (λ v. initial_run node_meaning
          ((flat tree).code v)) source)
          (source_is tree graph program number channel listed)
          ∙ append-nil channel.enqueued in
          first.rings.first number channel listed
          ∙ extended_all channel.enqueued (buffer [] size)
          (subst (λ (l : List ℤ). length l ≤ size) comes (fit.items number channel listed))
          ∙ ap (λ (l : List ℤ). buffer l size) (sym comes);
      reads = λ node text reader.
          ap (λ (source : Source). arrived input
          (λ v. initial_run node_meaning ((flat tree).code v))
          source) (program.inputs node text reader);
      each_words = ap (λ (l : List (List Word)). length l) first.words
          ∙ length-replicate count [];
      words = λ node less.
          ap (λ (l : List (List Word)). words_at l node) first.words
          ∙ get_or-replicate count node [] [] less;
    }

    -- from the machine before any firing, both end alike
    pub run_alike : (startup : List ℕ) → AreNodes graph startup → (rounds : ℕ)
        (machine : MachineView) → IsFirst graph sizes machine
        → FitsFor (startup ++ repeated rounds round)
        (fifo_at_first node_meaning (flat tree) input)
        → Tells count (fifo_run node_meaning (flat tree) input round startup rounds)
        (whole_run circuit startup round rounds machine)
    unfolding fifo_run
    run_alike startup startup_nodes rounds machine first fit =
        let at_first = fifo_at_first node_meaning (flat tree) input in
        let parts = fit_split (flat tree) graph.channels sizes startup (repeated rounds round)
        at_first fit in
        startup_tells rounds (go startup at_first) (order_run circuit startup machine)
        (order_alike startup startup_nodes at_first machine parts.0
        (first_simulates machine first
        (fit_now (flat tree) graph.channels sizes startup at_first parts.0))) parts.1
