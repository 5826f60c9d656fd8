-- Calls of nodes' functions in C follow an order of firings, and rounds follow rounds, of the
-- machine over queues, where each firing does.
use Rattle.std.specs.Prelude.{◌≡◌, ℕ, zero, suc, ◌+◌, ◌<◌, ◌≤◌, ℤ, pos, true, List, [], ◌∷◌}
use Rattle.std.specs.Prelude.{◌++◌, drop}
use Rattle.std.specs.Prelude.{length, replicate, Option, Some, None, Result, Ok, Err, ◌==◌}
use Rattle.std.specs.Prelude.{slice_get, slice_index, slice_index_or, if◌then◌else◌}
use Rattle.strc_work_meaning.specs.declared.fault.Cause.{Cause}
use Rattle.strc_work_meaning.specs.declared.word.Word.{Word}
use Rattle.strc_work_meaning.specs.Filters.{Filter}
use Rattle.strc_elab_dataflow.specs.Answer.{Outcome, Outcome.Done, Outcome.StartupFault}
use Rattle.strc_elab_dataflow.specs.Answer.{Outcome.RoundFault}
use Rattle.strc_elab_dataflow.specs.Flat as flat
use Rattle.strc_elab_dataflow.specs.Queues.{Fifo, FifoProgress, FifoProgress.FifoWent, fifo_fire}
use Rattle.strc_elab_dataflow.specs.Queues.{FifoProgress.FifoStopped, fifo_go, fifo_rounds, holds}
use Rattle.strc_elab_graph.specs.declared.graph.Channel.{Channel}
use Rattle.strc_elab_graph.specs.declared.graph.Node.{Node}
use Rattle.strc_elab_graph.specs.Graphs.{NodeCode, reads_input}
use Rattle.strc_elab_graph.specs.Graphs as graphs
use Rattle.strc_elab_graph.specs.Meaning.{node_meaning}
use Rattle.strc_elab_graph.specs.NodeView.{node_view}
use Rattle.strc_emit_c.specs.Meaning.{Field}
use Rattle.strc_emit_moves.specs.Places.{pops_of, pushes_of}
use Rattle.strc_emit_moves.specs.declared.places.Phase.{Phase}
use Rattle.strc_emit_moves.specs.declared.places.Phase.TheVariants as phase
use Rattle.strc_emit_runs.specs.Places.{moved_in}
use Rattle.strc_emit_runs.specs.Running.{Program, Running, Halt, FaultsIn, next_firing}
use Rattle.strc_emit_runs.specs.Running.{NodeCall, code_at, calls_done, order_done, RunEnd, Printed}
use Rattle.strc_emit_runs.specs.Running.{FaultedAtStart, FaultedIn, rounds_done, firing_number}
use Rattle.strc_emit_runs.specs.Windows.{StandFrom}

-- the queues of a graph's nodes
abbrev pub Queues : Type 0
Queues = Fifo (List ℤ) Cause Word

-- both machines went on, to states that go with each other, or both came to the same fault of the
-- same firing; C is never without a meaning
abbrev pub Goes : (Queues → Running → Type 0) → FifoProgress (List ℤ) Cause Word
    → Result Running Halt → Type 0
Goes Shown (FifoWent now) (Ok running) = Shown now running
Goes Shown (FifoStopped stop) (Err (FaultsIn node firing cause)) =
    stop ≡ record { node = node; firing = firing; cause = cause }
Goes Shown _ _ = ⊥

-- how often nodes have fired in a round, once one has fired so many times more
abbrev pub fired_on : (fired : ℕ → ℕ) → (node count : ℕ) → ℕ → ℕ
fired_on fired node count other = if other == node then fired node + count else fired other

-- the first node that takes the program's input, where the first of these nodes has this number
abbrev pub reader_from : (number : ℕ) → List Node → Option ℕ
reader_from number [] = None
reader_from number (code ∷ rest) =
    if reads_input (node_view code) then Some number else reader_from (suc number) rest

-- where the items of a channel begin in its array, and where they end, once nodes have fired so
-- often in a phase: as many were taken, and as many came after those that were there
abbrev pub items_begin : Program → Phase → Channel → (fired : ℕ → ℕ) → ℕ
items_begin program when channel fired = moved_in when
    (pops_of program.network.nodes.now channel.target.node 0 channel.target.port)
    (pops_of program.network.nodes.now channel.target.node 1 channel.target.port)
    (fired channel.target.node)

abbrev pub items_before : Program → Phase → (number : ℕ) → Channel → ℕ
items_before program phase.Startup number channel = length channel.enqueued.items
items_before program phase.Round number channel = slice_index program.network.left.now number

abbrev pub items_end : Program → Phase → (number : ℕ) → Channel → (fired : ℕ → ℕ) → ℕ
items_end program when number channel fired =
    items_before program when number channel + moved_in when
    (pushes_of program.network.nodes.now channel.source.node 0 channel.source.port)
    (pushes_of program.network.nodes.now channel.source.node 1 channel.source.port)
    (fired channel.source.node)

-- a program is where the machine over queues is: each channel's queue stands in its array, nodes
-- have their fields, as many as their functions have, and their words, and the input is read as
-- far as its reader has fired: what is left of it is the reader's queue
pub record RunShows (program : Program) (when : Phase) (round : ℕ) (fired : ℕ → ℕ) (now : Queues)
    (running : Running) : Type 0 where
  pub round_is : running.round ≡ round
  pub items : (number : ℕ) (channel : Channel)
      → slice_get program.network.channels.now number ≡ Some channel
      → StandFrom number (items_begin program when channel fired)
      (now.queues channel.target.node channel.target.port) running.cells
  pub ends : (number : ℕ) (channel : Channel)
      → slice_get program.network.channels.now number ≡ Some channel
      → items_begin program when channel fired
      + length (now.queues channel.target.node channel.target.port)
      ≡ items_end program when number channel fired
  pub fields : (node slot : ℕ) (code : NodeCode) → code_at program node ≡ Some code
      → slot < length (now.runs node).state
      → running.cells (Field node slot) ≡ slice_index_or (now.runs node).state slot (pos 0)
  pub counts : (node : ℕ) (name : Option (List ℕ)) (filter : Filter)
      → code_at program node ≡ Some (graphs.Filter name filter)
      → length (now.runs node).state ≡ (program.functions node).work.function.fields
  pub numbers : (node : ℕ) → (now.runs node).fired
      ≡ firing_number program when node (fired node) round
  pub tapes : (node : ℕ) → running.tapes node ≡ (now.runs node).words
  pub reads : (node : ℕ) → reader_from 0 program.network.nodes.now ≡ Some node
      → running.taken ≡ (now.runs node).fired
  pub input_is : (node : ℕ) → reader_from 0 program.network.nodes.now ≡ Some node
      → now.queues node 0 ≡ drop (now.runs node).fired program.input

-- what holds of the queues after firings, where these went on
abbrev pub IfWent : (Queues → Type 0) → FifoProgress (List ℤ) Cause Word → Type 0
IfWent Later (FifoWent now) = Later now
IfWent Later (FifoStopped stop) = Unit {0}

-- each firing of an order finds its windows
abbrev pub FindsAlong : flat.Graph NodeCode → (order : List ℕ) → Queues → Type 0
FindsAlong graph [] now = Unit {0}
FindsAlong graph (node ∷ order) now =
    (holds node_meaning graph node (now.runs node).fired (now.queues node) ≡ true)
    × IfWent (FindsAlong graph order) (fifo_fire node_meaning graph now node)

-- and in so many rounds
abbrev pub FindsInRounds : flat.Graph NodeCode → (order : List ℕ) → (left : ℕ) → Queues → Type 0
FindsInRounds graph order zero now = Unit {0}
FindsInRounds graph order (suc left) now = FindsAlong graph order now
    × IfWent (FindsInRounds graph order left) (fifo_go node_meaning graph order now)

-- nodes have fired no more often than this
abbrev pub AreWithin : (most fired : ℕ → ℕ) → Type 0
AreWithin most fired = (node : ℕ) → fired node ≤ most node

-- a firing of a node that has firings left in the phase, and finds its windows, goes in C as over
-- queues
abbrev pub FiringsGo : flat.Graph NodeCode → Program → Phase → (most : ℕ → ℕ) → Type 0
FiringsGo graph program when most =
    (round : ℕ) (fired : ℕ → ℕ) (now : Queues) (running : Running) (node : ℕ) (code : NodeCode)
    → code_at program node ≡ Some code → AreWithin most fired → fired node < most node
    → holds node_meaning graph node (now.runs node).fired (now.queues node) ≡ true
    → RunShows program when round fired now running
    → Goes (RunShows program when round (fired_on fired node 1))
    (fifo_fire node_meaning graph now node)
    (next_firing program when node code (fired node) running)

-- in start-up a call fires its node, since one from 0 on does the prework
abbrev pub FiresSome : Phase → (count : ℕ) → Type 0
FiresSome phase.Startup count = 1 ≤ count
FiresSome phase.Round count = Unit {0}

-- calls are those of an order: each one's firings go on from those before, and are no more than a
-- phase has
abbrev pub AreCallsOf : Program → Phase → (most fired : ℕ → ℕ) → List NodeCall → (order : List ℕ)
    → Type 0
AreCallsOf program when most fired [] order = order ≡ []
AreCallsOf program when most fired (call ∷ rest) order =
    (call.from ≡ fired call.node) × (fired call.node + call.count ≤ most call.node)
    × FiresSome when call.count
    × ((code : NodeCode) × (code_at program call.node ≡ Some code))
    × ((later : List ℕ) × (order ≡ replicate call.count call.node ++ later)
    × AreCallsOf program when most (fired_on fired call.node call.count) rest later)

abbrev pub fired_after : (fired : ℕ → ℕ) → List NodeCall → ℕ → ℕ
fired_after fired [] = fired
fired_after fired (call ∷ rest) = fired_after (fired_on fired call.node call.count) rest

-- calls follow their order, where firings go
abbrev pub OrdersGo : Type 0
OrdersGo =
    (graph : flat.Graph NodeCode) (program : Program) (when : Phase) (most : ℕ → ℕ)
    → FiringsGo graph program when most
    → (calls : List NodeCall) (order : List ℕ) (round : ℕ) (fired : ℕ → ℕ) (now : Queues)
    (running : Running)
    → AreWithin most fired → AreCallsOf program when most fired calls order
    → FindsAlong graph order now
    → RunShows program when round fired now running
    → Goes (RunShows program when round (fired_after fired calls))
    (fifo_go node_meaning graph order now)
    (calls_done program when calls running)

-- an end of a run is an outcome
abbrev pub TellsEnd : Outcome Cause Word → RunEnd → Type 0
TellsEnd (Done words) (Printed tapes) = (node : ℕ) → tapes node ≡ words node
TellsEnd (StartupFault stop) (FaultedAtStart node firing cause) =
    stop ≡ record { node = node; firing = firing; cause = cause }
TellsEnd (RoundFault q stop words) (FaultedIn round node firing cause tapes) =
    (q ≡ round) × (stop ≡ record { node = node; firing = firing; cause = cause })
    × ((node : ℕ) → tapes node ≡ words node)
TellsEnd _ _ = ⊥

-- between rounds no node has fired in the next one, which has this number
abbrev pub IsBetween : Program → (round : ℕ) → Queues → Running → Type 0
IsBetween program round now running =
    RunShows program phase.Round round (λ node. 0) now running

-- a round goes in C as over queues
abbrev pub RoundsGo : flat.Graph NodeCode → Program → (calls : List NodeCall) → (order : List ℕ)
    → Type 0
RoundsGo graph program calls order =
    (round : ℕ) (now : Queues) (running : Running) → FindsAlong graph order now
    → IsBetween program round now running
    → Goes (λ after left. IsBetween program (suc round) after
    (record left { round = running.round + 1 }))
    (fifo_go node_meaning graph order now) (order_done program phase.Round calls running)

-- so do any number of rounds: they end with the words, or at the fault, of the machine over queues
abbrev pub RunsGo : Type 0
RunsGo =
    (graph : flat.Graph NodeCode) (program : Program) (calls : List NodeCall) (order : List ℕ)
    (input : List ℤ)
    → RoundsGo graph program calls order
    → (left round : ℕ) (now : Queues) (running : Running) → FindsInRounds graph order left now
    → IsBetween program round now running
    → TellsEnd (fifo_rounds node_meaning graph input order left round now)
    (rounds_done program calls left running)
