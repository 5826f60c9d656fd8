use Rattle.std.proofs.Common.{◌≡◌, take, map}
use Rattle.strc_balance.specs.Balance.{count_at}
use Rattle.strc_sched_orders.specs.Firings.{fill}
use Rattle.strc_sched_orders.proofs.buffers.fills.Given as goal

abbrev pub invariant-loop-rates : goal.invariant-loop-rates
invariant-loop-rates l = l.fills.items
    ≡ map (λ rates. fill rates (count_at l.counts)) (take l.rates-index l.channels)
