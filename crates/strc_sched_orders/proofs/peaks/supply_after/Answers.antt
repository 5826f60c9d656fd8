use Rattle.std.proofs.Common.{subst, ◌+◌, ◌<◌, ◌^◌, arith}
use Rattle.std.specs.Prelude.{SomeIff}
use Rattle.strc_sched_orders.proofs.Overflowing.{none_past}
use Rattle.strc_sched_orders.proofs.peaks.supply_after.Goals as goal

pub returns-clause-none : goal.returns-clause-none
returns-clause-none c =
    let rates = c.args.rates.now in
    let first = rates.enqueued + rates.first_push in
    none_past c.checked_add.result rates.push first c.args.firings (c.in_ok-later.later + first)
    c.requires.push (omega (arith, c.requires.enqueued, c.requires.first_push))
    (subst (λ n. SomeIff c.checked_add.result (n + first < 2 ^ 128) (c.in_ok-later.later + first))
    c.in_ok-later.ensures.1 c.checked_add.ensures)
