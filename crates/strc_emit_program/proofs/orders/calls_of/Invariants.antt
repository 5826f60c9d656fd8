use Rattle.std.proofs.Common.{◌≡◌, ◌++◌, drop}
use Rattle.strc_emit_program.specs.Orders.{calls_of, units_calls}
use Rattle.strc_emit_program.proofs.orders.calls_of.Given as goal

-- the calls so far and those of the units left are the whole
abbrev pub invariant-loop-unit : goal.invariant-loop-unit
invariant-loop-unit l = l.calls.items ++ units_calls (drop l.unit-index l.units) l.fired.items
    ≡ calls_of l.nodes l.units
