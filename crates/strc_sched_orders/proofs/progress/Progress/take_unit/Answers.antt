use Rattle.std.proofs.Common.{◌≡◌, ◌∙◌, sym, ap, subst, ◌<◌, All, length, IfSome, IfNone}
use Rattle.strc_balance.specs.Balance.{count_at}
use Rattle.strc_sched_orders.specs.Progress.{IsCompleteBut, EndsAt, FiresNext, IsStuck}
use Rattle.strc_sched_orders.proofs.Networks.{listed_within}
use Rattle.strc_sched_orders.proofs.progress.Progress.take_unit.Goals as goal

pub returns-in_default-clause-stuck : goal.returns-in_default-clause-stuck
returns-in_default-clause-stuck c =
    let old = c.args.self.now in
    subst (λ o. IfNone o (IsStuck c.args.network.now.channels (count_at old.counts)
    (count_at old.left) × (c.fire_lowest.new.self ≡ old))) c.in_default.is
    c.fire_lowest.ensures.stuck

pub outgoing-requires : goal.outgoing-requires
outgoing-requires c =
    let fires = subst (λ o. IfSome o (λ unit. FiresNext c.args.network.now c.args.self.now
    c.fire_lowest.new.self unit.0 unit.1)) c.in-Some.is c.fire_lowest.ensures.next in
    fires.there

pub look_along-requires-clause-sound : goal.look_along-requires-clause-sound
look_along-requires-clause-sound c =
    let fires = subst (λ o. IfSome o (λ unit. FiresNext c.args.network.now c.args.self.now
    c.fire_lowest.new.self unit.0 unit.1)) c.in-Some.is c.fire_lowest.ensures.next in
    fires.sound

pub look_along-requires-clause-complete : goal.look_along-requires-clause-complete
look_along-requires-clause-complete c =
    let network = c.args.network.now in
    let now = c.fire_lowest.new.self in
    let fires = subst (λ o. IfSome o (λ unit. FiresNext network c.args.self.now now unit.0 unit.1))
    c.in-Some.is c.fire_lowest.ensures.next in
    subst (λ l. IsCompleteBut network now (EndsAt network l)) (sym c.outgoing.ensures.numbers)
    fires.pending

pub look_along-requires-clause-numbers : goal.look_along-requires-clause-numbers
look_along-requires-clause-numbers c =
    let network = c.args.network.now in
    subst (All (λ number. number < length network.channels)) (sym c.outgoing.ensures.numbers)
    (listed_within network.outgoing network.channels (λ r. r.source)
    c.outgoing.ensures.network.outgoing c.in-Some.node)

pub returns-clause-next : goal.returns-clause-next
returns-clause-next c =
    let fires = subst (λ o. IfSome o (λ unit. FiresNext c.args.network.now c.args.self.now
    c.fire_lowest.new.self unit.0 unit.1)) c.in-Some.is c.fire_lowest.ensures.next in
    let done = c.in_ok-look_along.ensures in
    record {
      progress = done.progress;
      next = fires.next;
      counts = ap count_at done.counts ∙ fires.counts;
      left = ap count_at done.left ∙ fires.left;
    }
