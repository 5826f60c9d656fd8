-- An order over rings goes as over queues.
use Rattle.std.proofs.Common.{◌≡◌, sym, ap, ◌∙◌, ℕ, ◌<◌, ℤ, List, [], ◌∷◌, length, get_or, Some}
use Rattle.std.proofs.Common.{slice_get, refl, arith}
use Rattle.std.proofs.lemmas.Option.{slice_get-get_or}
use Rattle.strc_work_meaning.specs.declared.fault.Cause.{Cause}
use Rattle.strc_work_meaning.specs.declared.word.Word.{Word}
use Rattle.strc_elab_dataflow.specs.Flat as flat
use Rattle.strc_elab_dataflow.specs.Queues.{FifoProgress, FifoProgress.FifoWent}
use Rattle.strc_elab_dataflow.specs.Queues.{FifoProgress.FifoStopped, fifo_fire, fifo_then, fifo_go}
use Rattle.strc_elab_graph.specs.Graphs.{NodeCode, Identity, Graph}
use Rattle.strc_elab_graph.specs.Meaning.{node_meaning}
use Rattle.strc_sched_laws.specs.ByChannels.{IsByChannels}
use Rattle.strc_sched_laws.specs.Circuits.{IsCircuit}
use Rattle.strc_sched_laws.specs.Fits.{Queues, FitNow, FitThen, Fit}
use Rattle.strc_sched_laws.specs.Machine as machines
use Rattle.strc_sched_laws.specs.Machine.{CircuitView, MachineView, next_step, after_step}
use Rattle.strc_sched_laws.specs.Machine.{then_go, order_run}
use Rattle.strc_sched_laws.specs.NodeSteps.{HasOwnWindow}
use Rattle.strc_sched_laws.specs.Simulation.{Simulates, IsAlike, StepsGoAlike, OrdersGoAlike}
use Rattle.strc_sched_orders.proofs.FiringCounts.{turns_same}
use Rattle.strc_sched_laws.proofs.FiringAlike.{fire_alike}
use Rattle.strc_sched_laws.proofs.Orders.{AreNodes}
use Rattle.strc_sched_laws.proofs.Splitting.{fit_now}

module _ (running : flat.Graph NodeCode) (graph : Graph) (joins : IsByChannels running graph)
    (circuit : CircuitView) (is : IsCircuit graph circuit) (sizes : List ℕ) (input : List ℤ)
    (reads_it : circuit.input ≡ input) where
  abbrev count : ℕ
  count = length graph.nodes

  abbrev go : List ℕ → Queues → FifoProgress (List ℤ) Cause Word
  go = fifo_go node_meaning running

  abbrev FitsFor : List ℕ → Queues → Type 0
  FitsFor = Fit running graph.channels sizes

  abbrev Alike : FifoProgress (List ℤ) Cause Word → machines.Progress → Type 0
  Alike = IsAlike graph sizes input

  pub node_there : (node : ℕ) → node < count → slice_get graph.nodes node ≡ Some (running.code node)
  node_there node within =
      let there = slice_get-get_or graph.nodes node Identity within in
      there ∙ ap Some (sym (joins.codes node (get_or graph.nodes node Identity) there))

  pub then_fits : (order : List ℕ) (progress : FifoProgress (List ℤ) Cause Word)
      → FitThen (FitsFor order) progress → FitThen (FitNow graph.channels sizes) progress
  then_fits order (FifoWent next) fit =
      fit_now running graph.channels sizes order next fit
  then_fits order (FifoStopped stop) fit = tt

  then_alike : (order : List ℕ) (progress : FifoProgress (List ℤ) Cause Word)
      (own : machines.Progress) → Alike progress own → FitThen (FitsFor order) progress
      → ((now : Queues) (machine : MachineView) → FitsFor order now
      → Simulates graph sizes input now machine
      → Alike (go order now) (order_run circuit order machine))
      → Alike (fifo_then (go order) progress) (then_go (order_run circuit order) own)
  unfolding fifo_then
  then_alike order (FifoWent next) (machines.Went machine) alike fit later =
      later next machine fit alike
  then_alike order (FifoStopped stop) (machines.Stopped node firing cause) alike fit later = alike
  then_alike order (FifoWent next) (machines.Stopped node firing cause) alike fit later =
      absurd alike
  then_alike order (FifoStopped stop) (machines.Went machine) alike fit later = absurd alike

  -- a copy's window is that of what it copies
  module _ (windows : (node firing : ℕ) → node < count
      → HasOwnWindow (running.code node) firing) where
    pub order_alike : (order : List ℕ) → AreNodes graph order → (now : Queues)
        (machine : MachineView) → FitsFor order now → Simulates graph sizes input now machine
        → Alike (go order now) (order_run circuit order machine)
    unfolding fifo_go
    order_alike [] nodes now machine fit simulates = simulates
    order_alike (node ∷ order) nodes now machine (fit, then_fit) simulates =
        let within = nodes node (omega (arith, turns_same 1 node node refl)) in
        then_alike order (fifo_fire node_meaning running now node)
        (after_step machine node (next_step circuit machine node))
        (fire_alike running graph joins circuit is sizes input reads_it now machine simulates node
        within (node_there node within) (windows node (now.runs node).fired within)
        (then_fits order (fifo_fire node_meaning running now node) then_fit))
        then_fit
        (order_alike order (λ other some. nodes other (omega (arith, some))))

pub steps_go_alike : StepsGoAlike
steps_go_alike running graph circuit sizes input now machine node joins is reads_it simulates within
    own fit =
    fire_alike running graph joins circuit is sizes input reads_it now machine simulates node
    within (node_there running graph joins circuit is sizes input reads_it node within) own fit

pub orders_go_alike : OrdersGoAlike
orders_go_alike running graph circuit sizes input now machine order joins is reads_it simulates
    nodes windows fit =
    order_alike running graph joins circuit is sizes input reads_it windows order nodes now machine
    fit simulates
