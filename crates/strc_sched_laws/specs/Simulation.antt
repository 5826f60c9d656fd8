-- The machine over rings goes as the one over queues, firing by firing.
use Rattle.std.specs.Prelude.{◌≡◌, ℕ, ◌<◌, ℤ, List, [], length, drop, Some, slice_get}
use Rattle.std.specs.Prelude.{slice_index, slice_index_or}
use Rattle.circular_buffer.specs.Buffer.{buffer}
use Rattle.strc_elab_dataflow.specs.Flat as flat
use Rattle.strc_elab_dataflow.specs.Queues.{FifoProgress, FifoProgress.FifoWent}
use Rattle.strc_elab_dataflow.specs.Queues.{FifoProgress.FifoStopped, fifo_fire, fifo_go}
use Rattle.strc_work_meaning.specs.declared.fault.Cause.{Cause}
use Rattle.strc_work_meaning.specs.declared.word.Word.{Word}
use Rattle.strc_elab_graph.specs.Graphs.{NodeCode, FileReader, Channel, Graph}
use Rattle.strc_elab_graph.specs.Meaning.{node_meaning}
use Rattle.strc_sched_orders.specs.Order.{firing_count}
use Rattle.strc_sched_laws.specs.ByChannels.{IsByChannels}
use Rattle.strc_sched_laws.specs.Circuits.{IsCircuit}
use Rattle.strc_sched_laws.specs.Fits.{Queues, FitNow, FitThen, Fit}
use Rattle.strc_sched_laws.specs.Machine as machines
use Rattle.strc_sched_laws.specs.Machine.{CircuitView, MachineView, next_step, after_step}
use Rattle.strc_sched_laws.specs.Machine.{order_run}
use Rattle.strc_sched_laws.specs.NodeSteps.{HasOwnWindow}
use Rattle.strc_sched_laws.specs.Rings.{ring_at}
use Rattle.strc_sched_laws.specs.RingAnswer.{AreWordsOf}

-- each ring holds the queue of its channel and has its room; the program's input is read as far as
-- its reader has fired; and each node has its words
pub record Simulates (graph : Graph) (sizes : List ℕ) (input : List ℤ) (now : Queues)
    (machine : MachineView) : Type 0 where
  pub each_fields : length machine.fields ≡ length graph.nodes
  pub each_fired : length machine.fired ≡ length graph.nodes
  pub each_ring : length machine.rings ≡ length graph.channels
  pub fields : (node : ℕ) → node < length graph.nodes
      → slice_index_or machine.fields node [] ≡ (now.runs node).state
  pub fired : (node : ℕ) → node < length graph.nodes
      → slice_index machine.fired node ≡ (now.runs node).fired
  pub rings : (number : ℕ) (channel : Channel) → slice_get graph.channels number ≡ Some channel
      → ring_at machine.rings number
      ≡ buffer (now.queues channel.target.node channel.target.port) (slice_index sizes number)
  pub reads : (node : ℕ) (text : List ℕ) → slice_get graph.nodes node ≡ Some (FileReader text)
      → now.queues node 0 ≡ drop (now.runs node).fired input
  pub each_words : length machine.words ≡ length graph.nodes
  pub words : AreWordsOf (length graph.nodes) (λ node. (now.runs node).words) machine.words

-- both went on alike, or both stopped at the same fault
abbrev pub IsAlike : Graph → (sizes : List ℕ) → (input : List ℤ)
    → FifoProgress (List ℤ) Cause Word → machines.Progress → Type 0
IsAlike graph sizes input (FifoWent now) (machines.Went machine) =
    Simulates graph sizes input now machine
IsAlike graph sizes input (FifoStopped stop) (machines.Stopped node firing cause) =
    stop ≡ record { node = node; firing = firing; cause = cause }
IsAlike _ _ _ _ _ = ⊥

-- A node's next step over rings that hold the queues comes to what its firing over the queues
-- comes to, where the rings have room for the queues after it.
abbrev pub StepsGoAlike : Type 0
StepsGoAlike =
    (running : flat.Graph NodeCode) (graph : Graph) (circuit : CircuitView) (sizes : List ℕ)
    (input : List ℤ) (now : Queues) (machine : MachineView) (node : ℕ)
    → IsByChannels running graph → IsCircuit graph circuit → circuit.input ≡ input
    → Simulates graph sizes input now machine → node < length graph.nodes
    → HasOwnWindow (running.code node) (now.runs node).fired
    → FitThen (FitNow graph.channels sizes) (fifo_fire node_meaning running now node)
    → IsAlike graph sizes input (fifo_fire node_meaning running now node)
    (after_step machine node (next_step circuit machine node))

-- So does an order of nodes, where they have room along all of it.
abbrev pub OrdersGoAlike : Type 0
OrdersGoAlike =
    (running : flat.Graph NodeCode) (graph : Graph) (circuit : CircuitView) (sizes : List ℕ)
    (input : List ℤ) (now : Queues) (machine : MachineView) (order : List ℕ)
    → IsByChannels running graph → IsCircuit graph circuit → circuit.input ≡ input
    → Simulates graph sizes input now machine
    → ((node : ℕ) → 0 < firing_count order node → node < length graph.nodes)
    → ((node firing : ℕ) → node < length graph.nodes → HasOwnWindow (running.code node) firing)
    → Fit running graph.channels sizes order now
    → IsAlike graph sizes input (fifo_go node_meaning running order now)
    (order_run circuit order machine)
