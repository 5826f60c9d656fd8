use Rattle.std.proofs.Common.{sym, ap, subst, arith, All, ◌≤◌}
use Rattle.strc_sched_orders.specs.Buffers.{size_limit}
use Rattle.strc_sched_orders.specs.Greedy.{firings_of}
use Rattle.strc_sched_orders.specs.Order.{firing_count}
use Rattle.strc_sched_orders.specs.Network.{size_of}
use Rattle.strc_sched_orders.specs.Peaks.{HasNodes}
use Rattle.strc_sched_orders.specs.Schedules.{AreBuffers, HasNoBuffers}
use Rattle.strc_sched_orders.proofs.Buffering.{same_buffers}
use Rattle.strc_sched_orders.proofs.Scheduling.{passed_on}
use Rattle.strc_sched_orders.proofs.scheduler.fitted.Goals as goal

pub buffers_of-requires-clause-startup : goal.buffers_of-requires-clause-startup
buffers_of-requires-clause-startup c =
    subst (All (HasNodes (size_of c.args.network.now))) (sym c.deref.ensures.value)
    c.requires.startup

pub buffers_of-requires-clause-round : goal.buffers_of-requires-clause-round
buffers_of-requires-clause-round c =
    subst (All (HasNodes (size_of c.args.network.now))) (sym c.deref-2.ensures.value)
    c.requires.round

pub buffers_of-requires-clause-few : goal.buffers_of-requires-clause-few
buffers_of-requires-clause-few c node =
    omega (
      arith,
      c.requires.few node,
      ap (λ o. firing_count (firings_of o) node) c.deref.ensures.value,
      ap (λ o. firing_count (firings_of o) node) c.deref-2.ensures.value,
    )

pub returns-in_err-greatest-clause-none : goal.returns-in_err-greatest-clause-none
returns-in_err-greatest-clause-none c =
    let channels = c.args.network.now.channels in
    passed_on (HasNoBuffers channels c.args.startup.items c.args.round.items)
    c.from_residual.result c.in_err-greatest.field-0.0 c.from_residual.ensures
    (subst (λ o. HasNoBuffers channels o c.args.round.items c.in_err-greatest.field-0.0)
    c.deref.ensures.value
    (subst (λ o. HasNoBuffers channels c.deref.result.now o c.in_err-greatest.field-0.0)
    c.deref-2.ensures.value c.in_err-greatest.ensures.none))

pub returns-clause-fitted : goal.returns-clause-fitted
returns-clause-fitted c =
    let channels = c.args.network.now.channels in
    let parts = c.in_ok-greatest.field-0 in
    let peaks = parts.greatest.items in
    let fills = parts.last.items in
    let limits = parts.sizes.items in
    let are : AreBuffers channels c.args.startup.items c.args.round.items peaks fills limits =
    subst (λ o. AreBuffers channels o c.args.round.items peaks fills limits)
    c.deref.ensures.value
    (subst (λ o. AreBuffers channels c.deref.result.now o peaks fills limits)
    c.deref-2.ensures.value c.in_ok-greatest.ensures.buffers) in
    let sizes = c.new.ensures.sizes in
    record {
      startup = c.new.ensures.startup;
      round = c.new.ensures.round;
      buffers = same_buffers channels c.args.startup.items c.args.round.items peaks fills limits are
          c.new.result.greatest c.new.result.last c.new.result.sizes
          c.new.ensures.greatest c.new.ensures.last sizes;
      within = subst (All (λ size. size ≤ size_limit)) (sym sizes) c.in_ok-greatest.ensures.within;
    }
