-- The calls of an order, and the firings that they are.
use Rattle.std.specs.Prelude.{◌≡◌, ℕ, ◌-◌, ◌<◌, List, length, map}
use Rattle.strc_startup.specs.declared.channel_rates.ChannelRates.{ChannelRates}
use Rattle.strc_sched_orders.specs.Firings.{Firings}
use Rattle.strc_sched_orders.specs.Greedy.{firings_of, IsGreedyOrder}
use Rattle.strc_sched_orders.specs.declared.unit as units
use Rattle.strc_emit_moves.specs.declared.places.Phase.{Phase}
use Rattle.strc_emit_program.specs.declared.orders.Call.{Call}
use Rattle.strc_emit_program.specs.Orders.{calls_of}
use Rattle.strc_emit_runs.specs.Running.{Program, NodeCall}
use Rattle.strc_emit_runs.specs.Orders.{AreCallsOf, fired_after}

-- `fire3(2, 5);`: three firings
abbrev pub call_made : Call → NodeCall
call_made call = record { node = call.node; from = call.from; count = call.to - call.from }

abbrev pub calls_made : Program → List units.Unit.Unit → List NodeCall
calls_made program order = map call_made (calls_of (length program.network.nodes.now) order)

-- calls are those of an order, which fires each node so often
pub record AreAllCalls (program : Program) (when : Phase) (firings : Firings)
    (calls : List NodeCall) (order : List ℕ) : Type 0 where
  pub are : AreCallsOf program when firings (λ node. 0) calls order
  pub all : (node : ℕ) → fired_after (λ node. 0) calls node ≡ firings node

-- the calls that are made of a greedy order, whose units have one node each, are its firings
abbrev pub OrdersAreCalled : Type 0
OrdersAreCalled =
    (program : Program) (when : Phase) (channels : List ChannelRates) (counts firings : Firings)
    (order : List units.Unit.Unit)
    → IsGreedyOrder channels counts firings order
    → ((node : ℕ) → 0 < firings node → node < length program.network.nodes.now)
    → AreAllCalls program when firings (calls_made program order) (firings_of order)

-- firings 2, 3 and 4 of node 3
abbrev pub CallRow : Type 0
CallRow = call_made (record { node = 3; from = 2; to = 5 })
    ≡ record { node = 3; from = 2; count = 3 }
