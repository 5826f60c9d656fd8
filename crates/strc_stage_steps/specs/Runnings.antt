-- A graph whose rounds go on from a state, and what is asked of it so that stages can run them.
use Rattle.std.specs.Prelude.{◌≡◌, ℕ, suc, ◌+◌, ◌*◌, ◌<◌, ◌≤◌, ◌^◌, List, [], ◌++◌, length, drop}
use Rattle.std.specs.Prelude.{ℤ, Some, None, slice_get, slice_index}
use Rattle.strc_work_meaning.specs.declared.fault.Cause.{Cause}
use Rattle.strc_work_meaning.specs.declared.word.Word.{Word}
use Rattle.strc_elab_dataflow.specs.Flat as flat
use Rattle.strc_elab_dataflow.specs.Histories.{KeepsRates}
use Rattle.strc_elab_dataflow.specs.Order.{counted, counts_after, fill, IsSchedule}
use Rattle.strc_elab_dataflow.specs.Queues.{TakesWithinWindow}
use Rattle.strc_elab_graph.specs.Graphs.{NodeCode, FileReader, Channel, Graph}
use Rattle.strc_elab_graph.specs.Meaning.{node_meaning}
use Rattle.strc_elab_graph.specs.Rates.{pushes_at}
use Rattle.strc_startup.specs.Rates.{push_at}
use Rattle.strc_sched_orders.specs.Firings.{Firings}
use Rattle.strc_sched_laws.specs.ByChannels.{IsByChannels}
use Rattle.strc_sched_laws.specs.Circuits.{IsCircuit}
use Rattle.strc_sched_laws.specs.Fits.{Queues}
use Rattle.strc_sched_laws.specs.Machine.{CircuitView}
use Rattle.strc_sched_laws.specs.NodeSteps.{HasOwnWindow}
use Rattle.strc_elab_dataflow.specs.Restart.{restarted_meaning, restarted}
use Rattle.strc_elab_dataflow.specs.Chains.{Resumption, IsResumption}
use Rattle.strc_sched_laws.specs.GoingOn as going
use Rattle.strc_elab_dataflow.specs.Ranges.{stage_within}
use Rattle.strc_stage_plan.specs.Cuts.{segment_of}

-- The nodes and channels that run, how often each node fires in a round, the firings of a round in
-- order, and for how many items the ring of each channel has room.
pub record Running : Type 0 where
  pub graph : Graph
  pub counts : Firings
  pub order : List ℕ
  pub sizes : List ℕ

-- How many items a channel's source pushes in a round.
abbrev pub round_pushes : Running → Channel → ℕ
round_pushes running channel =
    running.counts channel.source.node * push_at running.graph.nodes 1 channel.source

-- Between any two firings of a round no channel has more items than its ring has room for, by
-- counts from a state on, after so many rounds.
abbrev pub HasRoom : Running → flat.Graph NodeCode → (from : Queues) → (round : ℕ) → Type 0
HasRoom running by_source from round =
    (done left : List ℕ) → done ++ left ≡ running.order → (number : ℕ) (channel : Channel)
    → slice_get running.graph.channels number ≡ Some channel
    → fill (restarted_meaning node_meaning) (restarted from by_source) []
    (counted (counts_after (λ node. 0) running.counts round) done)
    channel.target.node channel.target.port ≤ slice_index running.sizes number

module _ (running : Running) (by_source : flat.Graph NodeCode) (from : Queues) (rounds : ℕ)
    (bound : (stage : ℕ) → ℕ) (last : ℕ) where
  -- So many rounds from there, in stages whose nodes go from one bound up to the next.
  abbrev pub resumed : Resumption NodeCode (List ℤ) Cause Word
  resumed = going.resumption by_source from running.counts running.order rounds
      (stage_within bound last) (segment_of bound running.order) (suc last)

  -- What stages ask of it.
  pub record IsRunning (circuit : CircuitView) : Type 0 where
    pub resumption : IsResumption resumed
    -- it is the graph of these nodes and channels, which the circuit has; and copies have the
    -- windows of what they copy
    pub joins : IsByChannels by_source running.graph
    pub is_circuit : IsCircuit running.graph circuit
    pub windows : (node firing : ℕ) → node < length running.graph.nodes
        → HasOwnWindow (by_source.code node) firing
    -- nodes that fire are nodes of the graph
    pub nodes : (node : ℕ) → 0 < running.counts node → node < length running.graph.nodes
    -- the program's input has been read as far as its reader has fired
    pub reads : (node : ℕ) (text : List ℕ)
        → slice_get running.graph.nodes node ≡ Some (FileReader text)
        → from.queues node 0 ≡ drop (from.runs node).fired circuit.input
    -- from here on each firing pushes as many items onto a channel
    pub pushes : (number : ℕ) (channel : Channel)
        → slice_get running.graph.channels number ≡ Some channel → (firing : ℕ)
        → (from.runs channel.source.node).fired ≤ firing
        → pushes_at (by_source.code channel.source.node) firing channel.source.port
        ≡ push_at running.graph.nodes 1 channel.source
    -- firings have numbers of 64 bits
    pub numbered : (node : ℕ)
        → (from.runs node).fired + rounds * running.counts node < 2 ^ 64
    -- rings have room in each round
    pub room : (round : ℕ) → round < rounds → HasRoom running by_source from round

-- What one machine that runs so many rounds from there asks of it.
pub record CanGoOn (running : Running) (by_source : flat.Graph NodeCode) (from : Queues)
    (rounds : ℕ) (circuit : CircuitView) : Type 0 where
  -- the state has no faults, the graph restarted there keeps its rates, and its rounds find their
  -- windows
  pub faultless : (node : ℕ) → (from.runs node).fault ≡ None
  pub keeps : (node : ℕ) → KeepsRates (restarted_meaning node_meaning)
      ((restarted from by_source).code node)
  pub takes_within : TakesWithinWindow node_meaning by_source
  pub schedule : IsSchedule (restarted_meaning node_meaning) (restarted from by_source) []
      (λ node. 0) running.counts [] running.order rounds
  -- it is the graph of these nodes and channels, as stages ask
  pub joins : IsByChannels by_source running.graph
  pub is_circuit : IsCircuit running.graph circuit
  pub windows : (node firing : ℕ) → node < length running.graph.nodes
      → HasOwnWindow (by_source.code node) firing
  pub nodes : (node : ℕ) → 0 < running.counts node → node < length running.graph.nodes
  pub numbered : (node : ℕ) → (from.runs node).fired + rounds * running.counts node < 2 ^ 64
  pub room : (round : ℕ) → round < rounds → HasRoom running by_source from round
