-- A graph whose rounds go on from a state, run by batches of rounds (Sermulins, Thies, Rabbah and
-- Amarasinghe 2005: execution scaling): first the rounds that are no whole batch, then the batches,
-- all over the same rings.
use Rattle.std.specs.Prelude.{◌≡◌, ℕ, ◌+◌, ◌*◌, List, length}
use Rattle.strc_work_meaning.specs.declared.word.Word.{Word}
use Rattle.strc_elab_dataflow.specs.Flat as flat
use Rattle.strc_elab_dataflow.specs.Histories.{KeepsRates}
use Rattle.strc_elab_dataflow.specs.Queues.{fifo_rounds}
use Rattle.strc_elab_dataflow.specs.Restart.{restarted_meaning, restarted}
use Rattle.strc_elab_dataflow.specs.RestartRounds.{RepeatsByRounds, IsBalancedByRounds}
use Rattle.strc_elab_dataflow.specs.Schedules.{fired_in}
use Rattle.strc_elab_dataflow.specs.Staging.{repeated, IsStaged}
use Rattle.strc_elab_graph.specs.Graphs.{NodeCode}
use Rattle.strc_elab_graph.specs.Meaning.{node_meaning}
use Rattle.strc_sched_laws.specs.Fits.{Queues}
use Rattle.strc_sched_laws.specs.Machine.{CircuitView, MachineView, Went, Ended, order_run}
use Rattle.strc_sched_laws.specs.Machine.{rounds_run}
use Rattle.strc_sched_laws.specs.RingAnswer.{Tells}
use Rattle.strc_sched_laws.specs.Simulation.{Simulates}
use Rattle.strc_stage_steps.specs.Runnings.{Running, HasRoom, CanGoOn}
use Rattle.strc_batch_laws.specs.Batches.{batch_order, batch_counts}
use Rattle.strc_batch_laws.specs.Runs.{AreBatchedFrom}

-- The same nodes, channels and rings, with an order of b rounds' firings in place of a round.
abbrev pub batched : Running → (b : ℕ) → (order : List ℕ) → Running
batched running b order = record {
  graph = running.graph;
  counts = batch_counts b running.counts;
  order = order;
  sizes = running.sizes;
}

-- How a round is parted into groups, and how many rounds a batch has.
pub record Batching : Type 0 where
  pub group_of : ℕ → ℕ
  pub segment : ℕ → List ℕ
  pub groups : ℕ
  pub rounds : ℕ

-- A batch's firings in order.
abbrev pub order_of : Batching → List ℕ
order_of batch = batch_order batch.rounds batch.segment batch.groups

-- A batch, over the rings of the rounds.
abbrev pub in_batches : Running → Batching → Running
in_batches running batch = batched running batch.rounds (order_of batch)

-- What batches ask of rounds that go on from a state.
pub record CanBeBatched (running : Running) (by_source : flat.Graph NodeCode) (from : Queues)
    (batch : Batching) : Type 0 where
  -- the groups' firings are the round, and no channel goes back from a group to an earlier one
  pub staged : IsStaged by_source batch.group_of batch.segment batch.groups running.order
  -- from the state on the rates repeat round by round, and the channels balance over a round
  pub repeats : RepeatsByRounds node_meaning by_source (fired_in node_meaning by_source from)
      running.counts
  pub balanced : IsBalancedByRounds node_meaning by_source (fired_in node_meaning by_source from)
      running.counts
  -- codes keep their rates wherever they are restarted
  pub keeps : (now : Queues) (node : ℕ) → KeepsRates (restarted_meaning node_meaning)
      ((restarted now by_source).code node)
  -- rings have room in a batch that is fired first
  pub room : HasRoom (in_batches running batch) by_source from 0

-- From what a machine has come to by m rounds, n batches go on: each firing finds its windows, and
-- rings have room; and where the machine comes to the end of the batches, its words are those of m
-- and n times b rounds.
pub record GoesByBatches (running : Running) (by_source : flat.Graph NodeCode) (from : Queues)
    (batch : Batching) (m n : ℕ) (circuit : CircuitView) (later : MachineView) : Type 0 where
  pub mid : Queues
  pub are : AreBatchedFrom node_meaning by_source from mid batch.group_of batch.segment
      batch.groups running.counts running.order batch.rounds m n
  pub holds : Simulates running.graph running.sizes circuit.input mid later
  pub goes : CanGoOn (in_batches running batch) by_source mid n circuit
  pub tells : (words : List (List Word))
      → rounds_run circuit (order_of batch) n 0 later ≡ Ended words
      → Tells (length running.graph.nodes)
      (fifo_rounds node_meaning by_source circuit.input running.order (m + n * batch.rounds) 0 from)
      (Ended words)

-- So they do where the rounds can go on and be batched, and the machine holds the state that the
-- rounds go on from and went through m of them without a fault.
abbrev pub BatchesGoOn : Type 0
BatchesGoOn =
    (running : Running) (by_source : flat.Graph NodeCode) (from : Queues) (batch : Batching)
    (m n : ℕ) (circuit : CircuitView) (started later : MachineView)
    → CanGoOn running by_source from (m + n * batch.rounds) circuit
    → CanBeBatched running by_source from batch
    → Simulates running.graph running.sizes circuit.input from started
    → order_run circuit (repeated m running.order) started ≡ Went later
    → GoesByBatches running by_source from batch m n circuit later

-- A machine goes through m rounds without a fault, and then comes to the end of n batches.
pub record EndsByBatches (circuit : CircuitView) (order batch : List ℕ) (m n : ℕ)
    (started : MachineView) : Type 0 where
  pub later : MachineView
  pub went : order_run circuit (repeated m order) started ≡ Went later
  pub words : List (List Word)
  pub ends : rounds_run circuit batch n 0 later ≡ Ended words

-- And the other way: where the machine comes to the end of the rounds one by one, it comes to the
-- end of the m rounds and of the n batches. So it stops only at a fault of the rounds.
abbrev pub RoundsEndByBatches : Type 0
RoundsEndByBatches =
    (running : Running) (by_source : flat.Graph NodeCode) (from : Queues) (batch : Batching)
    (m n : ℕ) (circuit : CircuitView) (started : MachineView) (words : List (List Word))
    → CanGoOn running by_source from (m + n * batch.rounds) circuit
    → CanBeBatched running by_source from batch
    → Simulates running.graph running.sizes circuit.input from started
    → rounds_run circuit running.order (m + n * batch.rounds) 0 started ≡ Ended words
    → EndsByBatches circuit running.order (order_of batch) m n started
