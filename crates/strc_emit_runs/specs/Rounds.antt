-- A round in C goes as over queues, where its firings do, and so does start-up.
use Rattle.std.specs.Prelude.{◌≡◌, ℕ, ◌+◌, ◌*◌, ◌<◌, ◌≤◌, List, Some, length}
use Rattle.std.specs.Prelude.{slice_get, slice_index}
use Rattle.strc_elab_dataflow.specs.Flat as flat
use Rattle.strc_elab_dataflow.specs.Queues.{fifo_go}
use Rattle.strc_elab_graph.specs.declared.graph.Channel.{Channel}
use Rattle.strc_elab_graph.specs.Graphs.{NodeCode}
use Rattle.strc_elab_graph.specs.Meaning.{node_meaning}
use Rattle.strc_emit_moves.specs.declared.places.Phase.TheVariants as phase
use Rattle.strc_emit_moves.specs.Places.{pops_of, pushes_of}
use Rattle.strc_emit_moves.specs.Rooms.{taken_first, taken_later, given_first}
use Rattle.strc_emit_runs.specs.Running.{Program, Running, NodeCall, rooms_in, order_done}
use Rattle.strc_emit_runs.specs.Orders.{Queues, Goes, RunShows, FindsAlong, FiringsGo, AreCallsOf}
use Rattle.strc_emit_runs.specs.Orders.{fired_after, IsBetween, RoundsGo}

-- the calls are a round's: each node fires as often as it does in a round, and as many items leave
-- a channel as come to it, for which its array has room
pub record AreRound (program : Program) (calls : List NodeCall) : Type 0 where
  pub all : (node : ℕ) → fired_after (λ node. 0) calls node
      ≡ slice_index program.network.round.now node
  pub gone : (number : ℕ) (channel : Channel)
      → slice_get program.network.channels.now number ≡ Some channel
      → taken_later program.network number
      ≡ pops_of program.network.nodes.now channel.target.node 1 channel.target.port
      * slice_index program.network.round.now channel.target.node
  pub balanced : (number : ℕ) (channel : Channel)
      → slice_get program.network.channels.now number ≡ Some channel
      → taken_later program.network number
      ≡ pushes_of program.network.nodes.now channel.source.node 1 channel.source.port
      * slice_index program.network.round.now channel.source.node
  pub room : (number : ℕ) → number < length program.network.channels.now
      → taken_later program.network number + slice_index program.network.left.now number
      ≤ rooms_in program number

-- the calls of a round, and the slides after them, go as its order of firings
abbrev pub FiringsMakeRounds : Type 0
FiringsMakeRounds =
    (graph : flat.Graph NodeCode) (program : Program) (most : ℕ → ℕ) (calls : List NodeCall)
    (order : List ℕ)
    → FiringsGo graph program phase.Round most
    → AreCallsOf program phase.Round most (λ node. 0) calls order
    → AreRound program calls
    → RoundsGo graph program calls order

-- the calls are those of start-up: each node fires as often as it does there, and what is left of a
-- channel's items was there or came, and wasn't taken
pub record AreStartup (program : Program) (calls : List NodeCall) : Type 0 where
  pub all : (node : ℕ) → fired_after (λ node. 0) calls node
      ≡ slice_index program.network.startup.now node
  pub rest : (number : ℕ) (channel : Channel)
      → slice_get program.network.channels.now number ≡ Some channel
      → taken_first program.network number + slice_index program.network.left.now number
      ≡ length channel.enqueued.items + given_first program.network channel.source
  pub room : (number : ℕ) → number < length program.network.channels.now
      → taken_first program.network number + slice_index program.network.left.now number
      ≤ rooms_in program number

-- the calls of start-up, and the slides after them, go as its order of firings
abbrev pub FiringsMakeStartup : Type 0
FiringsMakeStartup =
    (graph : flat.Graph NodeCode) (program : Program) (most : ℕ → ℕ) (calls : List NodeCall)
    (order : List ℕ) (now : Queues) (running : Running)
    → FiringsGo graph program phase.Startup most
    → AreCallsOf program phase.Startup most (λ node. 0) calls order
    → AreStartup program calls → FindsAlong graph order now
    → RunShows program phase.Startup 0 (λ node. 0) now running
    → Goes (λ after left. IsBetween program 0 after (record left { round = 0 }))
    (fifo_go node_meaning graph order now) (order_done program phase.Startup calls running)
