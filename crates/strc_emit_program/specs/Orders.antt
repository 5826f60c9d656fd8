-- The text of orders of firings.
use Rattle.std.specs.Prelude.{ℕ, zero, suc, ◌+◌, ◌*◌, ◌/◌, ◌==◌, ◌||◌, List, [], ◌∷◌, ◌++◌, length}
use Rattle.std.specs.Prelude.{codes, decimal, slice_get, slice_index, slice_set, replicate}
use Rattle.std.specs.Prelude.{Option, Some, None, if◌then◌else◌}
use Rattle.strc_sched_orders.specs.declared.unit.Unit.{Unit}
use Rattle.strc_emit_text.specs.Texts.{texts_below}
use Rattle.strc_emit_moves.specs.declared.places.Network.{Network}
use Rattle.strc_emit_moves.specs.declared.places.Phase.{Phase}
use Rattle.strc_emit_moves.specs.declared.places.Phase.TheVariants as phase
use Rattle.strc_emit_moves.specs.Rooms.{taken_first, taken_later}
use Rattle.strc_emit_program.specs.declared.orders.Call.{Call}
use Rattle.strc_emit_program.specs.declared.orders.TheConstants.{PART}
use Rattle.strc_emit_program.specs.Fires.{fire_name}

-- the name of an order's function
abbrev pub order_name : Phase → List ℕ
order_name phase.Startup = codes "start_up"
order_name phase.Round = codes "one_round"

-- `fire3(0, 5);`
abbrev pub call_text : Phase → Call → List ℕ
call_text when call =
    codes "    " ++ fire_name when ++ decimal call.node ++ codes "(" ++ decimal call.from
    ++ codes ", " ++ decimal call.to ++ codes ");\n"

-- how often nodes have fired once one fires so many times more, and its call
abbrev pub fired_more : (turns node : ℕ) → List ℕ → List ℕ
fired_more turns node fired = slice_set fired node (slice_index fired node + turns)

abbrev pub node_call : (turns node : ℕ) → List ℕ → Call
node_call turns node fired = record {
  node = node;
  from = slice_index fired node;
  to = slice_index fired node + turns;
}

-- the calls of a unit, whose nodes fire so many times each, and how often nodes have then fired
abbrev pub nodes_calls : (turns : ℕ) → (nodes fired : List ℕ) → List Call
nodes_calls turns [] fired = []
nodes_calls turns (node ∷ rest) fired =
    node_call turns node fired ∷ nodes_calls turns rest (fired_more turns node fired)

abbrev pub fired_after : (turns : ℕ) → (nodes fired : List ℕ) → List ℕ
fired_after turns [] fired = fired
fired_after turns (node ∷ rest) fired = fired_after turns rest (fired_more turns node fired)

-- the calls of units, where nodes have fired so often
abbrev pub units_calls : List Unit → (fired : List ℕ) → List Call
units_calls [] fired = []
units_calls (first ∷ rest) fired =
    nodes_calls first.turns first.nodes.items fired
    ++ units_calls rest (fired_after first.turns first.nodes.items fired)

-- the calls of an order, at whose beginning none of so many nodes has fired
abbrev pub calls_of : (nodes : ℕ) → List Unit → List Call
calls_of nodes units = units_calls units (replicate nodes 0)

-- the call at a place of a part, where there is one
abbrev pub call_if : Phase → Option Call → List ℕ
call_if when None = []
call_if when (Some call) = call_text when call

abbrev pub call_at : Phase → List Call → (part place : ℕ) → List ℕ
call_at when calls part place = call_if when (slice_get calls (part * PART + place))

-- the function of a part
abbrev pub part_text : Phase → List Call → (part : ℕ) → List ℕ
part_text when calls part =
    codes "\nstatic APART void " ++ order_name when ++ codes "_part" ++ decimal part
    ++ codes "(void) {\n" ++ texts_below (call_at when calls part) PART ++ codes "}\n"

-- `one_round_part3();`
abbrev pub part_call : Phase → (part : ℕ) → List ℕ
part_call when part =
    codes "    " ++ order_name when ++ codes "_part" ++ decimal part ++ codes "();\n"

-- how many items an order takes of a channel
abbrev pub gone_from : Network → Phase → (channel : ℕ) → ℕ
gone_from network phase.Startup channel = taken_first network channel
gone_from network phase.Round channel = taken_later network channel

-- `slide(c5, 3, 2);`
abbrev pub move_text : (channel gone left : ℕ) → List ℕ
move_text channel gone left =
    codes "    slide(c" ++ decimal channel ++ codes ", " ++ decimal gone ++ codes ", "
    ++ decimal left ++ codes ");\n"

-- where items are taken of a channel, and some are left
abbrev pub slide_text : Network → Phase → (channel : ℕ) → List ℕ
slide_text network when channel =
    let gone = gone_from network when channel in
    let left = slice_index network.left.now channel in
    if gone == 0 || left == 0 then [] else move_text channel gone left

-- the functions of an order: its calls in parts, and the one that does them all and moves what is
-- left in the channels to the front
abbrev pub order_text : Network → Phase → (nodes : ℕ) → List Unit → List ℕ
order_text network when nodes units =
    let calls = calls_of nodes units in
    let parts = length calls / PART + 1 in
    texts_below (part_text when calls) parts ++ codes "\nstatic void " ++ order_name when
    ++ codes "(void) {\n" ++ texts_below (part_call when) parts
    ++ texts_below (slide_text network when) (length network.channels.now) ++ codes "}\n"
