use Rattle.std.proofs.Common.{◌≡◌, sym, subst, IfSome, IfNone}
use Rattle.strc_balance.specs.Balance.{count_at}
use Rattle.strc_sched_orders.specs.Progress.{IsStuck, TakesUnit, Orders}
use Rattle.strc_sched_orders.proofs.Ordering.{no_units, one_taken, fewer_left, all_ordered}
use Rattle.strc_sched_orders.proofs.greedy.all_units.Goals as goal

pub loop-units-init : goal.loop-units-init
loop-units-init c =
    let network = c.args.network.now in
    let start = c.args.progress.now in
    subst (λ order. Orders network (count_at start.counts) (count_at start.left) order start)
    (sym c.new-units.ensures.items) (no_units network start c.requires)

pub loop-units-smaller : goal.loop-units-smaller
loop-units-smaller c =
    let network = c.args.network.now in
    let start = c.args.progress.now in
    let before = c.loop-units.progress in
    let now = c.take_unit.new.self in
    fewer_left network (count_at start.counts) (count_at start.left) c.loop-units.units.items
    before c.loop-units.invariant now c.in-Some.turns c.in-Some.node
    (subst (λ o. IfSome o (λ unit. TakesUnit network before now unit.0 unit.1)) c.in-Some.is
    c.in_ok-turns.ensures.next)

pub loop-units-preserved : goal.loop-units-preserved
loop-units-preserved c =
    let network = c.args.network.now in
    let start = c.args.progress.now in
    let before = c.loop-units.progress in
    let now = c.take_unit.new.self in
    subst (λ items. Orders network (count_at start.counts) (count_at start.left) items now)
    (sym c.in_ok-push.ensures.items)
    (one_taken network (count_at start.counts) (count_at start.left) c.loop-units.units.items
    before c.loop-units.invariant now c.in-Some.turns c.in-Some.node c.in_ok-unit_of.field-0
    c.in_ok-unit_of.ensures.turns c.in_ok-unit_of.ensures.nodes
    (subst (λ o. IfSome o (λ unit. TakesUnit network before now unit.0 unit.1)) c.in-Some.is
    c.in_ok-turns.ensures.next))

pub returns : goal.returns
returns c =
    let network = c.args.network.now in
    let before = c.loop-units.progress in
    let now = c.take_unit.new.self in
    let (stuck, same) = subst (λ o. IfNone o (IsStuck network.channels (count_at before.counts)
    (count_at before.left) × (now ≡ before))) c.in_default.is c.in_ok-turns.ensures.stuck in
    all_ordered network c.args.progress.now before now c.loop-units.units.items
    c.loop-units.invariant stuck same
