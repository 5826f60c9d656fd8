-- What a program's C does: firings of nodes, orders of firings, and rounds.
use Rattle.std.specs.Prelude.{ℕ, zero, suc, ◌+◌, ◌-◌, ◌*◌, max, ℤ, pos, negsuc}
use Rattle.std.specs.Prelude.{List, [], ◌∷◌, length, Option, Some, None, Result, Ok, Err}
use Rattle.std.specs.Prelude.{◌==◌, ◌&&◌, ◌||◌, nat_le, nat_lt, slice_get, slice_index}
use Rattle.std.specs.Prelude.{if◌then◌else◌}
use Rattle.std.specs.Option.{option_map}
use Rattle.strc_lex_names.specs.Results.{result_and_then}
use Rattle.strc_work_meaning.specs.declared.fault.Cause.{Cause}
use Rattle.strc_work_meaning.specs.declared.fault.TheConstants.{CALL_LIMIT}
use Rattle.strc_work_meaning.specs.declared.word.Word.{Word}
use Rattle.strc_elab_graph.specs.Graphs.{NodeCode}
use Rattle.strc_elab_graph.specs.Graphs as graphs
use Rattle.strc_elab_graph.specs.NodeView.{node_view}
use Rattle.strc_emit_c.specs.Meaning.{Cell, Field, Local, Counted, Item, Memory, Stop, Faults}
use Rattle.strc_emit_c.specs.Meaning.{Undefined, Standing}
use Rattle.strc_emit_moves.specs.declared.places.Network.{Network}
use Rattle.strc_emit_moves.specs.declared.places.Items.{Items}
use Rattle.strc_emit_moves.specs.declared.places.Phase.{Phase}
use Rattle.strc_emit_moves.specs.declared.places.Phase.TheVariants as phase
use Rattle.strc_emit_moves.specs.Places.{taken_at, given_at, enqueued_items}
use Rattle.strc_emit_moves.specs.Rooms.{room, taken_first, taken_later}
use Rattle.strc_emit_firings.specs.Functions.{Unset, helpers_done, firing_done, without_items}
use Rattle.strc_emit_bodies.specs.Spelling.{BodyFunction, FilterFunctions}
use Rattle.strc_emit_passes.specs.Moves.{node_moves}
use Rattle.strc_emit_passes.specs.Meaning.{Passing, Surroundings, place_value, moves_done}

-- a program: its network, the functions of its filters, the numbers of its input, and what unset
-- locals hold; loops turn no more often than its fuel
pub record Program : Type 0 where
  pub network : Network
  pub functions : (node : ℕ) → FilterFunctions
  pub input : List ℤ
  pub unset : Unset
  pub fuel : ℕ

-- how large the array of a channel is; it has an item at the least
abbrev pub rooms_in : Program → (channel : ℕ) → ℕ
rooms_in program channel = max (room program.network channel) 1

abbrev pub around : Program → Surroundings
around program = record { rooms = rooms_in program; input = program.input }

-- where a program has come to: what is in its cells, the words on each node's tape, how many
-- numbers of the input were taken, and the number of the round
pub record Running : Type 0 where
  pub cells : Cell → ℤ
  pub tapes : (node : ℕ) → List Word
  pub taken : ℕ
  pub round : ℕ

-- why it ends early: a firing of a node faults, or C gives it no meaning
pub data Halt : Type 0 where
  FaultsIn : (node firing : ℕ) → Cause → Halt
  NoMeaning : Halt

-- what one node sees and leaves
abbrev pub memory_of : Running → (node : ℕ) → Memory
memory_of running node = record { cells = running.cells; words = running.tapes node }

abbrev pub memory_left : Running → (node : ℕ) → Memory → Running
memory_left running node memory = record running {
  cells = memory.cells;
  tapes = λ other. if other == node then memory.words else running.tapes other;
}

-- the address of items: `c4 + (2 + 3 * i)`, within an array or at its end; the array of a port
-- without a channel has a number of its own, and nothing in it is read or written
abbrev pub place_up_to : (room : ℕ) → ℤ → Result ℕ Stop
place_up_to room (pos place) = if nat_le place room then Ok place else Err Undefined
place_up_to room (negsuc place) = Err Undefined

abbrev pub pointer : Program → Option Items → (nothing : ℕ) → (i : ℤ) → Result (ℕ × ℕ) Stop
pointer program None nothing i = Ok (nothing, 0)
pointer program (Some items) nothing i =
    result_and_then (place_value items i) (λ value.
    result_and_then (place_up_to (rooms_in program items.channel) value) (λ place.
    Ok (items.channel, place)))

abbrev pub no_input : Program → ℕ
no_input program = length program.network.channels.now

abbrev pub no_output : Program → ℕ
no_output program = length program.network.channels.now + 1

abbrev pub room_of : Program → (channel : ℕ) → ℕ
room_of program channel = if nat_lt channel (length program.network.channels.now)
    then rooms_in program channel else 0

-- where a body stands, by the address of what it takes and of what it gives
abbrev pub standing : Program → (node : ℕ) → BodyFunction → (from to : ℕ × ℕ) → Standing
standing program node body from to = record {
  node = node;
  fields = body.function.fields;
  source = from.0;
  reads_from = from.1;
  source_room = room_of program from.0;
  target = to.0;
  writes_from = to.1;
  target_room = room_of program to.0;
}

-- a firing of a body: `work3(c4 + .., c5 + ..)`
abbrev pub body_done : Program → (node : ℕ) → BodyFunction → (from to : ℕ × ℕ) → Running
    → Result Running Stop
body_done program node body from to running =
    let stand = standing program node body from to in
    result_and_then (firing_done program.fuel (helpers_done program.fuel (without_items stand)
    program.unset (program.functions node).helpers (suc CALL_LIMIT)) stand program.unset
    body.statements (memory_of running node)) (λ memory. Ok (memory_left running node memory))

abbrev pub work_done : Program → Phase → (node : ℕ) → (i : ℤ) → Running → Result Running Stop
work_done program when node i running =
    result_and_then (pointer program (taken_at program.network when node 0) (no_input program) i)
    (λ from. result_and_then
    (pointer program (given_at program.network when node 0) (no_output program) i)
    (λ to. body_done program node (program.functions node).work from to running))

-- a firing of a node that only passes items on
abbrev pub passed_left : Running → (node : ℕ) → Passing → Running
passed_left running node passing =
    record (memory_left running node passing.memory) { taken = passing.taken }

abbrev pub passing_done : Program → Phase → (node : ℕ) → NodeCode → (i : ℤ) → Running
    → Result Running Stop
passing_done program when node code i running =
    result_and_then (moves_done (around program) i (node_moves program.network when node code)
    (record { memory = memory_of running node; taken = running.taken }))
    (λ passing. Ok (passed_left running node passing))

-- firing i of a node in start-up, where that isn't a prework, or in a round
abbrev pub node_done : Program → Phase → (node : ℕ) → NodeCode → (i : ℤ) → Running
    → Result Running Stop
node_done program when node (graphs.Filter name filter) i running =
    work_done program when node i running
node_done program when node code i running = passing_done program when node code i running

-- the number of a firing in a node's life
abbrev pub firing_number : Program → Phase → (node i round : ℕ) → ℕ
firing_number program phase.Startup node i round = i
firing_number program phase.Round node i round =
    slice_index program.network.startup.now node + i
    + round * slice_index program.network.round.now node

abbrev pub halted : (node firing : ℕ) → Result Running Stop → Result Running Halt
halted node firing (Ok running) = Ok running
halted node firing (Err (Faults cause)) = Err (FaultsIn node firing cause)
halted node firing (Err Undefined) = Err NoMeaning

abbrev pub firing_of : Program → Phase → (node : ℕ) → NodeCode → (i : ℕ) → Running
    → Result Running Halt
firing_of program when node code i running =
    halted node (firing_number program when node i running.round)
    (node_done program when node code (pos i) running)

-- so many firings, from one on
abbrev pub firings_done : Program → Phase → (node : ℕ) → NodeCode → (from count : ℕ) → Running
    → Result Running Halt
firings_done program when node code from zero running = Ok running
firings_done program when node code from (suc count) running =
    result_and_then (firing_of program when node code from running)
    (firings_done program when node code (from + 1) count)

-- the first firing of start-up is that of a prework, where there is one: it takes the items at the
-- front, and gives its own after those that are enqueued
abbrev pub first_source : Program → Option Items → ℕ × ℕ
first_source program None = (no_input program, 0)
first_source program (Some items) = (items.channel, 0)

abbrev pub first_target : Program → Option Items → ℕ × ℕ
first_target program None = (no_output program, 0)
first_target program (Some items) =
    (items.channel, length (enqueued_items program.network.channels.now items.channel))

abbrev pub prework_done : Program → (node : ℕ) → Option BodyFunction → Running
    → Option (Result Running Halt)
prework_done program node None running = None
prework_done program node (Some body) running = Some (halted node 0 (body_done program node body
    (first_source program (taken_at program.network phase.Startup node 0))
    (first_target program (given_at program.network phase.Startup node 0)) running))

-- `start3(0, 5);`, `fire3(0, 5);`
abbrev pub first_or_all : Program → (node : ℕ) → NodeCode → (count : ℕ)
    → Option (Result Running Halt) → Running → Result Running Halt
first_or_all program node code count None running =
    firings_done program phase.Startup node code 0 count running
first_or_all program node code count (Some first) running =
    result_and_then first (firings_done program phase.Startup node code 1 (count - 1))

abbrev pub started : Program → (node : ℕ) → NodeCode → (from count : ℕ) → Running
    → Result Running Halt
started program node (graphs.Filter name filter) zero count running =
    first_or_all program node (graphs.Filter name filter) count
    (prework_done program node (program.functions node).prework running) running
started program node code from count running =
    firings_done program phase.Startup node code from count running

abbrev pub call_done : Program → Phase → (node : ℕ) → Option NodeCode → (from count : ℕ) → Running
    → Result Running Halt
call_done program when node None from count running = Err NoMeaning
call_done program phase.Startup node (Some code) from count running =
    started program node code from count running
call_done program phase.Round node (Some code) from count running =
    firings_done program phase.Round node code from count running

-- the next firing of a node in start-up: the first one is the prework, where there is one
abbrev pub first_firing : Program → (node : ℕ) → NodeCode → Option (Result Running Halt) → Running
    → Result Running Halt
first_firing program node code None running = firing_of program phase.Startup node code 0 running
first_firing program node code (Some first) running = first

abbrev pub next_firing : Program → Phase → (node : ℕ) → NodeCode → (i : ℕ) → Running
    → Result Running Halt
next_firing program phase.Startup node (graphs.Filter name filter) zero running =
    first_firing program node (graphs.Filter name filter)
    (prework_done program node (program.functions node).prework running) running
next_firing program when node code i running = firing_of program when node code i running

-- a call of a node's function: its firings from one number on, so many
pub record NodeCall : Type 0 where
  pub node : ℕ
  pub from : ℕ
  pub count : ℕ

abbrev pub code_at : Program → (node : ℕ) → Option NodeCode
code_at program node = option_map node_view
    (slice_get program.network.nodes.now node)

abbrev pub calls_done : Program → Phase → List NodeCall → Running → Result Running Halt
calls_done program when [] running = Ok running
calls_done program when (first ∷ rest) running =
    result_and_then (call_done program when first.node (code_at program first.node) first.from
    first.count running) (calls_done program when rest)

-- `slide(c5, 3, 2);` (`memmove`): so many items that are left move to the front, from behind those
-- that were taken
abbrev pub slid_cell : (channel gone left : ℕ) → (Cell → ℤ) → Cell → ℤ
slid_cell channel gone left cells (Item other place) =
    if other == channel && nat_lt place left then cells (Item other (gone + place))
    else cells (Item other place)
slid_cell channel gone left cells (Field node slot) = cells (Field node slot)
slid_cell channel gone left cells (Local slot) = cells (Local slot)
slid_cell channel gone left cells (Counted counter) = cells (Counted counter)

abbrev pub slide_done : Program → (channel gone left : ℕ) → Running → Result Running Halt
slide_done program channel gone left running =
    if nat_le (gone + left) (rooms_in program channel)
    then Ok (record running { cells = slid_cell channel gone left running.cells })
    else Err NoMeaning

abbrev pub gone_in : Program → Phase → (channel : ℕ) → ℕ
gone_in program phase.Startup channel = taken_first program.network channel
gone_in program phase.Round channel = taken_later program.network channel

abbrev pub slide_if : Program → (channel gone left : ℕ) → Running → Result Running Halt
slide_if program channel gone left running =
    if gone == 0 || left == 0 then Ok running else slide_done program channel gone left running

abbrev pub slides_done : Program → Phase → (channels : ℕ) → Running → Result Running Halt
slides_done program when zero running = Ok running
slides_done program when (suc channel) running =
    result_and_then (slides_done program when channel running)
    (slide_if program channel (gone_in program when channel)
    (slice_index program.network.left.now channel))

-- start-up, and a round: all calls, and then the slides of all channels
abbrev pub order_done : Program → Phase → List NodeCall → Running → Result Running Halt
order_done program when calls running =
    result_and_then (calls_done program when calls running)
    (slides_done program when (length program.network.channels.now))

-- how a run ends: with all words; or with the words of the rounds before a fault
pub data RunEnd : Type 0 where
  Printed : (tapes : (node : ℕ) → List Word) → RunEnd
  FaultedAtStart : (node firing : ℕ) → Cause → RunEnd
  FaultedIn : (round node firing : ℕ) → Cause → (tapes : (node : ℕ) → List Word) → RunEnd
  Meaningless : RunEnd

abbrev pub after_round : (tapes : (node : ℕ) → List Word) → (round : ℕ) → (Running → RunEnd)
    → Result Running Halt → RunEnd
after_round tapes round later (Ok running) = later running
after_round tapes round later (Err (FaultsIn node firing cause)) =
    FaultedIn round node firing cause tapes
after_round tapes round later (Err NoMeaning) = Meaningless

abbrev pub rounds_done : Program → List NodeCall → (left : ℕ) → Running → RunEnd
rounds_done program calls zero running = Printed running.tapes
rounds_done program calls (suc left) running =
    after_round running.tapes running.round (λ after.
    rounds_done program calls left (record after { round = running.round + 1 }))
    (order_done program phase.Round calls running)

abbrev pub after_start : (Running → RunEnd) → Result Running Halt → RunEnd
after_start later (Ok running) = later running
after_start later (Err (FaultsIn node firing cause)) = FaultedAtStart node firing cause
after_start later (Err NoMeaning) = Meaningless

-- start-up and so many rounds
abbrev pub program_done : Program → (startup round : List NodeCall) → (rounds : ℕ) → Running
    → RunEnd
program_done program startup round rounds running =
    after_start (λ after. rounds_done program round rounds (record after { round = 0 }))
    (order_done program phase.Startup startup running)
