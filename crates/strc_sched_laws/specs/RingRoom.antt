-- Rings have room (Lee and Messerschmitt 1987: static buffers): between any two firings of a run.
use Rattle.std.specs.Prelude.{◌≡◌, ℕ, ◌<◌, ◌≤◌, ◌^◌, cond, eqb, ℤ, List, [], ◌∷◌, ◌++◌, length}
use Rattle.std.specs.Prelude.{drop, Some, slice_get, slice_index}
use Rattle.circular_buffer.specs.Buffer.{buffer}
use Rattle.strc_elab_dataflow.specs.Node as generic
use Rattle.strc_elab_dataflow.specs.Node.{ByPort}
use Rattle.strc_elab_dataflow.specs.Queues.{FifoProgress.FifoWent, fifo_go, fifo_at_first, fronts}
use Rattle.strc_elab_dataflow.specs.Streams as trees
use Rattle.strc_work_meaning.specs.declared.fault.Cause.{Cause}
use Rattle.strc_work_meaning.specs.declared.word.Word.{Word}
use Rattle.strc_elab_graph.specs.Graphs.{NodeCode, Channel, Graph}
use Rattle.strc_elab_graph.specs.FlatGraphs.{IsProgram}
use Rattle.strc_elab_graph.specs.Meaning.{node_meaning, node_fired}
use Rattle.strc_elab_graph.specs.Rates.{pops_at}
use Rattle.strc_sched_orders.specs.Order.{repeated}
use Rattle.strc_sched_orders.specs.Schedules.{ScheduleParts}
use Rattle.strc_sched_laws.specs.Circuits.{IsCircuit, IsFirst}
use Rattle.strc_sched_laws.specs.Fits.{Queues}
use Rattle.strc_sched_laws.specs.Laws.{startup_order, round_order, counts_at}
use Rattle.strc_sched_laws.specs.Machine.{CircuitView, MachineView, Went, next_step, order_run}
use Rattle.strc_sched_laws.specs.Planned.{IsPlanned, AreKnown, items_read}
use Rattle.strc_sched_laws.specs.Rings.{Ring, ring_at}
use Rattle.strc_sched_laws.specs.Steps as steps
use Rattle.strc_sched_laws.specs.Steps.{Step}

-- how many items a firing of a node takes from a channel
abbrev pub items_taken : (node : ℕ) → (pops : ℕ → ℕ) → Channel → ℕ
items_taken node pops channel = cond (eqb channel.target.node node) (pops channel.target.port) 0

-- and which it pushes there
abbrev pub items_pushed : (node : ℕ) → (pushes : ByPort) → Channel → List ℤ
items_pushed node pushes channel =
    cond (eqb channel.source.node node) (pushes channel.source.port) []

module _ (channels : List Channel) (sizes : List ℕ) where
  -- each ring has its channel's size, and these items, for which it has room
  pub record HoldItems (items : ℕ → Channel → List ℤ) (rings : List Ring) : Type 0 where
    pub each : length rings ≡ length channels
    pub holds : (number : ℕ) (channel : Channel) → slice_get channels number ≡ Some channel
        → ring_at rings number ≡ buffer (items number channel) (slice_index sizes number)
    pub room : (number : ℕ) (channel : Channel) → slice_get channels number ≡ Some channel
        → length (items number channel) ≤ slice_index sizes number

  -- each ring holds its channel's queue, which has no bound
  abbrev pub HoldQueues : Queues → List Ring → Type 0
  HoldQueues now = HoldItems
      (λ number channel. now.queues channel.target.node channel.target.port)

  -- no item is lost in a firing: each ring holds what the firing left there, and all that it pushed
  abbrev pub LosesNone : (node : ℕ) → (pops : ℕ → ℕ) → ByPort → (rings after : List Ring) → Type 0
  LosesNone node pops pushes rings after = HoldItems
      (λ number channel. drop (items_taken node pops channel) (ring_at rings number).items
      ++ items_pushed node pushes channel) after

  -- a step finds its windows: it fires, and each push finds room; or it faults as the node does
  abbrev pub FindsRoom : (node : ℕ) → (pops : ℕ → ℕ) → List Ring
      → generic.Fired (List ℤ) Cause Word → Step → Type 0
  FindsRoom node pops rings (generic.Fired.Fires state pushes words)
      (steps.Goes fields after printed) = LosesNone node pops pushes rings after
  FindsRoom node pops rings (generic.Fired.Faults cause) (steps.Faults own) = own ≡ cause
  FindsRoom _ _ _ _ _ = ⊥

module _ (tree : trees.Stream NodeCode) where
  -- what the next firing of a node over queues comes to
  abbrev pub next_fired : Queues → (node : ℕ) → generic.Fired (List ℤ) Cause Word
  next_fired now node =
      node_fired ((trees.flat tree).code node) (now.runs node).fired (now.runs node).state
      (fronts node_meaning (trees.flat tree) node (now.runs node).fired (now.queues node))

  -- the rings hold the queues, and the next firing of an order, where one is left, finds room
  pub record HasRoom (graph : Graph) (sizes : List ℕ) (circuit : CircuitView) (left : List ℕ)
      (now : Queues) (machine : MachineView) : Type 0 where
    pub rings : HoldQueues graph.channels sizes now machine.rings
    pub next : (node : ℕ) (rest : List ℕ) → left ≡ node ∷ rest
        → FindsRoom graph.channels sizes node
        (pops_at ((trees.flat tree).code node) (now.runs node).fired) machine.rings
        (next_fired now node) (next_step circuit machine node)

-- wherever the machine over rings comes to in start-up and so many rounds of a program's schedule,
-- after some firings and before the others, its rings have room, as the queues after these firings
abbrev pub RingsHaveRoom : Type 0
RingsHaveRoom =
    (tree : trees.Stream NodeCode) (graph : Graph) (schedule : ScheduleParts) (input : List ℤ)
    (rounds : ℕ) (circuit : CircuitView) (machine : MachineView)
    → IsProgram tree graph → IsPlanned graph schedule → AreKnown graph
    → rounds < 2 ^ 32
    → items_read graph.nodes (counts_at schedule rounds) ≤ length input
    → IsCircuit graph circuit → circuit.input ≡ input → IsFirst graph schedule.sizes machine
    → (done left : List ℕ) (now : MachineView)
    → done ++ left ≡ startup_order schedule ++ repeated rounds (round_order schedule)
    → order_run circuit done machine ≡ Went now
    → (queues : Queues)
    × (fifo_go node_meaning (trees.flat tree) done
    (fifo_at_first node_meaning (trees.flat tree) input) ≡ FifoWent queues)
    × HasRoom tree graph schedule.sizes circuit left queues now
