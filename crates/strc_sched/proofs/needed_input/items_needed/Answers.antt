use Rattle.std.proofs.Common.{◌∙◌, ap, sym, ◌+◌, ◌*◌}
use Rattle.strc_sched_orders.specs.Greedy.{firings_of}
use Rattle.strc_sched_orders.specs.Order.{firing_count}
use Rattle.strc_sched_laws.specs.Laws.{counts_at, startup_order}
use Rattle.strc_sched.specs.Reading.{count_of}
use Rattle.strc_sched.proofs.Counting.{counts_are}
use Rattle.strc_sched.proofs.needed_input.items_needed.Goals as goal

pub returns-in-Some : goal.returns-in-Some
returns-in-Some c =
    let node = c.in-Some.node in
    let schedule = c.args.schedule.now in
    let counts = counts_at schedule c.args.rounds in
    ap (λ n. n + c.from.result * c.firings_of.result)
    (c.firings_of-before.ensures.firings
    ∙ ap (λ l. firing_count (firings_of l) node) c.startup.ensures)
    ∙ ap (λ n. firing_count (startup_order schedule) node + n * c.firings_of.result) c.from.ensures
    ∙ ap (λ n. firing_count (startup_order schedule) node + c.args.rounds * n)
    (c.firings_of.ensures.firings ∙ ap (λ l. firing_count (firings_of l) node) c.round.ensures)
    ∙ sym (counts_are schedule c.args.rounds node)
    ∙ sym (c.reader_of.ensures counts ∙ ap (λ found. count_of found counts) c.in-Some.is)
