-- A firing of a node that only passes items on leaves what it has to.
use Rattle.std.specs.Prelude.{◌≡◌, ℕ, zero, suc, ◌<◌, ◌≤◌, ◌^◌, ℤ, pos, List, [], length, Some, Ok}
use Rattle.std.specs.Prelude.{slice_get, slice_index_or}
use Rattle.strc_elab_dataflow.specs.Node.{ByPort}
use Rattle.strc_elab_graph.specs.declared.graph.Channel.{Channel}
use Rattle.strc_elab_graph.specs.Graphs.{NodeCode}
use Rattle.strc_elab_graph.specs.Meaning.{node_fired}
use Rattle.strc_emit_moves.specs.declared.places.Items.{Items}
use Rattle.strc_emit_moves.specs.declared.places.Phase.{Phase}
use Rattle.strc_emit_moves.specs.declared.places.Phase.TheVariants as phase
use Rattle.strc_emit_moves.specs.Places.{taken_at, given_at, taken_before, given_before}
use Rattle.strc_emit_moves.specs.Places.{pops_of, pushes_of}
use Rattle.strc_emit_passes.specs.Passing.{IsPassing, SeesWindows, HasInputs, ReadsNext, GivesBy}
use Rattle.strc_emit_passes.specs.Passing.{numbers_taken}
use Rattle.strc_emit_runs.specs.Running.{Program, Running, rooms_in, node_done, code_at}
use Rattle.strc_emit_runs.specs.Orders.{Queues, RunShows, items_end, reader_from, fired_on}
use Rattle.strc_emit_runs.specs.Steps.{FiresTo, pushes_next}

-- items at a port of a node are those of the channel that ends there, or that begins there
pub record TakesOf (program : Program) (when : Phase) (node port : ℕ) (items : Items) : Type 0
  where
    pub channel : Channel
    pub there : slice_get program.network.channels.now items.channel ≡ Some channel
    pub node_is : channel.target.node ≡ node
    pub port_is : channel.target.port ≡ port
    pub after : items.after ≡ taken_before program.network when node port
    pub each : items.each ≡ pops_of program.network.nodes.now node 1 port
    pub phase_is : items.phase ≡ when

pub record GivesOf (program : Program) (when : Phase) (node port : ℕ) (items : Items) : Type 0
  where
    pub channel : Channel
    pub there : slice_get program.network.channels.now items.channel ≡ Some channel
    pub node_is : channel.source.node ≡ node
    pub port_is : channel.source.port ≡ port
    pub after : items.after ≡ given_before program.network when node port items.channel
    pub each : items.each ≡ pushes_of program.network.nodes.now node 1 port
    pub phase_is : items.phase ≡ when

-- the first firing of start-up has its items where it is to have them: it takes and gives as many
-- as the later ones, and few
abbrev pub IsSteady : Program → Phase → (node i : ℕ) → Type 0
IsSteady program phase.Startup node zero = (port : ℕ)
    → (pops_of program.network.nodes.now node 0 port
    ≡ pops_of program.network.nodes.now node 1 port)
    × (pushes_of program.network.nodes.now node 0 port
    ≡ pushes_of program.network.nodes.now node 1 port)
    × (pops_of program.network.nodes.now node 0 port < 2 ^ 31)
IsSteady program phase.Startup node (suc i) = Unit {0}
IsSteady program phase.Round node i = Unit {0}

-- each port's items are those of its channel, no channel begins at the node where it ends, and
-- arrays have room for a firing more, numbered within an int
pub record IsWired (program : Program) (when : Phase) (node : ℕ) (fired : ℕ → ℕ) : Type 0 where
  pub takes : (port : ℕ) (items : Items)
      → taken_at program.network when node port ≡ Some items
      → TakesOf program when node port items
  pub gives : (port : ℕ) (items : Items)
      → given_at program.network when node port ≡ Some items
      → GivesOf program when node port items
  pub given : (number : ℕ) (channel : Channel)
      → slice_get program.network.channels.now number ≡ Some channel
      → channel.source.node ≡ node
      → (items : Items)
      × (given_at program.network when node channel.source.port ≡ Some items)
      × (items.channel ≡ number)
  pub apart : (number : ℕ) (channel : Channel)
      → slice_get program.network.channels.now number ≡ Some channel
      → channel.source.node ≡ channel.target.node → ⊥
  pub room : (number : ℕ) (channel : Channel)
      → slice_get program.network.channels.now number ≡ Some channel
      → items_end program when number channel (fired_on fired node 1) ≤ rooms_in program number
  pub small : (number : ℕ) → rooms_in program number < 2 ^ 31
  pub few : fired node < 2 ^ 31

-- what a node sees is at the front of its queues
abbrev pub SeesFronts : Queues → (node : ℕ) → (seen : ByPort) → Type 0
SeesFronts now node seen = (port : ℕ) → (length (seen port) ≤ length (now.queues node port))
    × ((k : ℕ) → k < length (seen port)
    → slice_index_or (now.queues node port) k (pos 0) ≡ slice_index_or (seen port) k (pos 0))

-- it gives as many items as its rates say
abbrev pub GivesRates : Program → Phase → (node times : ℕ) → (pushes : ByPort) → Type 0
GivesRates program when node times pushes = (port : ℕ)
    → length (pushes port) ≡ pushes_next program when node times port

-- the program's reader is the node just where the code takes a number of the input
pub record ReadsAsReader (program : Program) (node : ℕ) (code : NodeCode) : Type 0 where
  pub own : reader_from 0 program.network.nodes.now ≡ Some node → numbers_taken code ≡ 1
  pub other : (reader : ℕ) → reader_from 0 program.network.nodes.now ≡ Some reader
      → (reader ≡ node → ⊥) → numbers_taken code ≡ 0

-- a firing leaves what it has to
abbrev pub PassingFiresTo : Type 0
PassingFiresTo =
    (program : Program) (when : Phase) (round : ℕ) (fired : ℕ → ℕ) (now : Queues)
    (running : Running) (node : ℕ) (code : NodeCode) (fields : List ℤ) (seen : ByPort)
    → RunShows program when round fired now running → IsWired program when node fired
    → IsSteady program when node (fired node) → SeesFronts now node seen
    → ReadsAsReader program node code
    → code_at program node ≡ Some code → IsPassing code → SeesWindows code seen
    → HasInputs program.network when node code
    → ReadsNext code seen program.input running.taken
    → GivesBy (node_fired code 0 fields seen) (λ pushes printed.
    GivesRates program when node (fired node) pushes
    → (after : Running)
    × (node_done program when node code (pos (fired node)) running ≡ Ok after)
    × FiresTo program when node fired [] pushes printed running after)
