-- Rounds of a graph's program go in C as over queues, and so does start-up.
use Rattle.std.specs.Prelude.{ℕ, ℤ, List, slice_index}
use Rattle.strc_elab_dataflow.specs.Flat as flat
use Rattle.strc_elab_dataflow.specs.Queues.{fifo_go, fifo_rounds}
use Rattle.strc_elab_graph.specs.Graphs.{NodeCode}
use Rattle.strc_elab_graph.specs.Meaning.{node_meaning}
use Rattle.strc_emit_moves.specs.declared.places.Phase.TheVariants as phase
use Rattle.strc_emit_runs.specs.Running.{Program, Running, NodeCall, rounds_done, order_done}
use Rattle.strc_emit_runs.specs.Orders.{Queues, Goes, RunShows, FindsAlong, AreCallsOf}
use Rattle.strc_emit_runs.specs.Orders.{FindsInRounds, IsBetween, TellsEnd}
use Rattle.strc_emit_runs.specs.Rounds.{AreRound, AreStartup}
use Rattle.strc_emit_network.specs.Programs.{IsProgramOf}

-- a program of a graph, whose calls are a round's and follow an order: any number of rounds end
-- with the words, or in the same round at the same fault, of the machine over queues
abbrev pub NetworkRuns : Type 0
NetworkRuns =
    (graph : flat.Graph NodeCode) (program : Program) (calls : List NodeCall) (order : List ℕ)
    (input : List ℤ)
    → IsProgramOf graph program phase.Round
    → AreCallsOf program phase.Round (slice_index program.network.round.now) (λ node. 0) calls order
    → AreRound program calls
    → (left round : ℕ) (now : Queues) (running : Running) → FindsInRounds graph order left now
    → IsBetween program round now running
    → TellsEnd (fifo_rounds node_meaning graph input order left round now)
    (rounds_done program calls left running)

-- start-up of such a program goes in C as over queues
abbrev pub NetworkStarts : Type 0
NetworkStarts =
    (graph : flat.Graph NodeCode) (program : Program) (calls : List NodeCall) (order : List ℕ)
    (now : Queues) (running : Running)
    → IsProgramOf graph program phase.Startup
    → AreCallsOf program phase.Startup (slice_index program.network.startup.now) (λ node. 0) calls
    order
    → AreStartup program calls → FindsAlong graph order now
    → RunShows program phase.Startup 0 (λ node. 0) now running
    → Goes (λ after left. IsBetween program 0 after (record left { round = 0 }))
    (fifo_go node_meaning graph order now) (order_done program phase.Startup calls running)
