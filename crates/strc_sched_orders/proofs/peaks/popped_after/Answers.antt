use Rattle.std.proofs.Common.{subst, ◌+◌, ◌<◌, ◌^◌, arith}
use Rattle.std.specs.Prelude.{SomeIff}
use Rattle.strc_sched_orders.proofs.Overflowing.{none_past}
use Rattle.strc_sched_orders.proofs.peaks.popped_after.Goals as goal

pub returns-clause-none : goal.returns-clause-none
returns-clause-none c =
    let rates = c.args.rates.now in
    none_past c.checked_add.result rates.pop rates.first_pop c.args.firings
    (c.in_ok-later.later + rates.first_pop) c.requires.pop (omega (arith, c.requires.first_pop))
    (subst (λ n. SomeIff c.checked_add.result (n + rates.first_pop < 2 ^ 128)
    (c.in_ok-later.later + rates.first_pop)) c.in_ok-later.ensures.1 c.checked_add.ensures)
