-- The run of a stage's order over rings comes to what it comes to over queues; and a stage's own
-- circuit is as good as the whole one.
use Rattle.std.proofs.Common.{◌≡◌, refl, sym, ap, ◌∙◌, ℕ, ◌<◌, ℤ, Bool, true}
use Rattle.std.proofs.Common.{List, [], ◌∷◌, ◌++◌, length, get_or, Option, Some, None, slice_get}
use Rattle.std.proofs.Common.{slice_index, slice_index_or, append_assoc}
use Rattle.std.proofs.lemmas.Option.{slice_get-get_or}
use Rattle.strc_work_meaning.specs.declared.fault.Cause.{Cause}
use Rattle.strc_work_meaning.specs.declared.word.Word.{Word}
use Rattle.strc_elab_dataflow.specs.Flat as flat
use Rattle.strc_elab_dataflow.specs.Queues.{FifoProgress, FifoProgress.FifoWent}
use Rattle.strc_elab_dataflow.specs.Queues.{FifoProgress.FifoStopped, fifo_fire, fifo_then, fifo_go}
use Rattle.strc_elab_graph.specs.Graphs.{NodeCode, Identity, FileReader, Channel, Graph}
use Rattle.strc_elab_graph.specs.Graphs.{reads_input}
use Rattle.strc_elab_graph.specs.Meaning.{node_meaning}
use Rattle.strc_sched_laws.specs.ByChannels.{IsByChannels}
use Rattle.strc_sched_laws.specs.Circuits.{IsCircuit}
use Rattle.strc_sched_laws.specs.Fits.{Queues, FitThen}
use Rattle.strc_sched_laws.specs.Machine as machines
use Rattle.strc_sched_laws.specs.Machine.{CircuitView, MachineView, next_step, after_step}
use Rattle.strc_sched_laws.specs.Machine.{then_go, order_run}
use Rattle.strc_sched_laws.specs.NodeSteps.{HasOwnWindow}
use Rattle.strc_sched_laws.specs.Rings.{Ring}
use Rattle.strc_sched_laws.specs.Steps.{Step, maybe_step, node_step}
use Rattle.strc_sched_laws.specs.Wiring.{ports_at}
use Rattle.strc_sched_laws.proofs.Splitting.{go, go_append}
use Rattle.strc_elab_dataflow.specs.Cut.{AllIn}
use Rattle.strc_stage_steps.specs.Holding.{AgreeAt}
use Rattle.strc_stage_steps.proofs.OwnSteps.{SimulatesOwn, FitOwn, IsAlikeOwn, fire_alike}

-- ---- one circuit for another

-- only readers look at the program's input
input_read : (code : NodeCode) (firing : ℕ) (fields : List ℤ) (inputs outputs : List (Option ℕ))
    (a b : List ℤ) (rings : List Ring) → (reads_input code ≡ true → a ≡ b)
    → node_step code firing fields inputs outputs a rings
    ≡ node_step code firing fields inputs outputs b rings
input_read (FileReader text) firing fields inputs outputs a b rings same =
    ap (λ (l : List ℤ). node_step (FileReader text) firing fields inputs outputs l rings)
    (same refl)
input_read code firing fields inputs outputs a b rings same = refl

input_maybe : (found : Option NodeCode) (firing : ℕ) (fields : List ℤ)
    (inputs outputs : List (Option ℕ)) (a b : List ℤ) (rings : List Ring)
    → ((code : NodeCode) → found ≡ Some code → reads_input code ≡ true → a ≡ b)
    → maybe_step found firing fields inputs outputs a rings
    ≡ maybe_step found firing fields inputs outputs b rings
input_maybe None firing fields inputs outputs a b rings same = refl
input_maybe (Some code) firing fields inputs outputs a b rings same =
    input_read code firing fields inputs outputs a b rings (same code refl)

module _ (circuit other : CircuitView) (own : ℕ → Bool)
    (agree : (node : ℕ) → own node ≡ true → AgreeAt circuit other node) where
  step_same : (machine : MachineView) (node : ℕ) → own node ≡ true
      → next_step other machine node ≡ next_step circuit machine node
  step_same machine node is_own =
      let firing = slice_index machine.fired node in
      let fields = slice_index_or machine.fields node [] in
      let at = agree node is_own in
      ap (λ (found : Option NodeCode). maybe_step found firing fields
      (ports_at other.inputs node) (ports_at other.outputs node) other.input machine.rings)
      at.codes
      ∙ ap (λ (ports : List (Option ℕ)). maybe_step (slice_get circuit.codes node) firing fields
      ports (ports_at other.outputs node) other.input machine.rings) at.inputs
      ∙ ap (λ (ports : List (Option ℕ)). maybe_step (slice_get circuit.codes node) firing fields
      (ports_at circuit.inputs node) ports other.input machine.rings) at.outputs
      ∙ input_maybe (slice_get circuit.codes node) firing fields (ports_at circuit.inputs node)
      (ports_at circuit.outputs node) other.input circuit.input machine.rings at.input

  then_same : (order : List ℕ) (progress : machines.Progress)
      → ((machine : MachineView) → order_run other order machine ≡ order_run circuit order machine)
      → then_go (order_run other order) progress ≡ then_go (order_run circuit order) progress
  then_same order (machines.Went machine) same = same machine
  then_same order (machines.Stopped node firing cause) same = refl

  -- then an order of such nodes runs alike on both
  pub order_same : (order : List ℕ) → AllIn own order → (machine : MachineView)
      → order_run other order machine ≡ order_run circuit order machine
  order_same [] all machine = refl
  order_same (node ∷ order) (is_own, all) machine =
      ap (λ (step : Step). then_go (order_run other order) (after_step machine node step))
      (step_same machine node is_own)
      ∙ then_same order (after_step machine node (next_step circuit machine node))
      (order_same order all)

-- ---- an order

module _ (by_source : flat.Graph NodeCode) (graph : Graph) (joins : IsByChannels by_source graph)
    (windows : (node firing : ℕ) → node < length graph.nodes
    → HasOwnWindow (by_source.code node) firing) (circuit : CircuitView)
    (is : IsCircuit graph circuit) (own : ℕ → Bool) (size : ℕ → Channel → ℕ) where
  abbrev input : List ℤ
  input = circuit.input

  abbrev Alike : FifoProgress (List ℤ) Cause Word → machines.Progress → Type 0
  Alike = IsAlikeOwn graph own size input

  node_there : (node : ℕ) → node < length graph.nodes
      → slice_get graph.nodes node ≡ Some (by_source.code node)
  node_there node within =
      let there = slice_get-get_or graph.nodes node Identity within in
      there ∙ ap Some (sym (joins.codes node (get_or graph.nodes node Identity) there))

  -- nodes of the graph that are looked at
  abbrev pub AreOwn : List ℕ → Type 0
  AreOwn [] = Unit {0}
  AreOwn (node ∷ order) = (node < length graph.nodes) × (own node ≡ true) × AreOwn order

  module _ (order : List ℕ) (start : Queues)
      (fits : (done left : List ℕ) (now : Queues) → done ++ left ≡ order
      → go by_source done start ≡ FifoWent now → FitOwn graph.channels own size now) where
    further : (done left : List ℕ) (node : ℕ) (now next : Queues) → done ++ node ∷ left ≡ order
        → go by_source done start ≡ FifoWent now
        → fifo_fire node_meaning by_source now node ≡ FifoWent next
        → ((done ++ node ∷ []) ++ left ≡ order)
        × (go by_source (done ++ node ∷ []) start ≡ FifoWent next)
    unfolding fifo_go fifo_then
    further done left node now next e went fires = (
      append_assoc done (node ∷ []) left ∙ e,
      go_append by_source done (node ∷ []) start ∙ ap (fifo_then (go by_source (node ∷ []))) went
          ∙ ap (fifo_then (go by_source [])) fires,
    )

    fit_then : (done left : List ℕ) (node : ℕ) (now : Queues) → done ++ node ∷ left ≡ order
        → go by_source done start ≡ FifoWent now → (progress : FifoProgress (List ℤ) Cause Word)
        → fifo_fire node_meaning by_source now node ≡ progress
        → FitThen (FitOwn graph.channels own size) progress
    fit_then done left node now e went (FifoWent next) fires =
        let more = further done left node now next e went fires in
        fits (done ++ node ∷ []) left next more.0 more.1
    fit_then done left node now e went (FifoStopped stop) fires = tt

    then_alike : (done left : List ℕ) (node : ℕ) (now : Queues) → done ++ node ∷ left ≡ order
        → go by_source done start ≡ FifoWent now
        → (progress : FifoProgress (List ℤ) Cause Word) (its : machines.Progress)
        → fifo_fire node_meaning by_source now node ≡ progress → Alike progress its
        → ((next : Queues) (machine : MachineView)
        → (done ++ node ∷ []) ++ left ≡ order
        → go by_source (done ++ node ∷ []) start ≡ FifoWent next
        → SimulatesOwn graph own size input next machine
        → Alike (go by_source left next) (order_run circuit left machine))
        → Alike (fifo_then (go by_source left) progress) (then_go (order_run circuit left) its)
    unfolding fifo_then
    then_alike done left node now e went (FifoWent next) (machines.Went machine) fires alike
        later =
        let more = further done left node now next e went fires in
        later next machine more.0 more.1 alike
    then_alike done left node now e went (FifoStopped stop) (machines.Stopped other firing cause)
        fires alike later = alike
    then_alike done left node now e went (FifoWent next) (machines.Stopped other firing cause)
        fires alike later = absurd alike
    then_alike done left node now e went (FifoStopped stop) (machines.Went machine) fires alike
        later = absurd alike

    -- where each front leaves a state that fits, what is left of the order runs alike
    pub left_alike : (done left : List ℕ) (now : Queues) (machine : MachineView)
        → AreOwn left → done ++ left ≡ order → go by_source done start ≡ FifoWent now
        → SimulatesOwn graph own size input now machine
        → Alike (go by_source left now) (order_run circuit left machine)
    unfolding fifo_go
    left_alike done [] now machine all e went simulates = simulates
    left_alike done (node ∷ left) now machine (within, is_own, all) e went simulates =
        let there = node_there node within in
        then_alike done left node now e went (fifo_fire node_meaning by_source now node)
        (after_step machine node (next_step circuit machine node)) refl
        (fire_alike by_source graph joins circuit is own size now machine simulates node within
        is_own there (windows node (now.runs node).fired within)
        (fit_then done left node now e went (fifo_fire node_meaning by_source now node) refl))
        (λ next later more gone held.
        left_alike (done ++ node ∷ []) left next later all more gone held)
