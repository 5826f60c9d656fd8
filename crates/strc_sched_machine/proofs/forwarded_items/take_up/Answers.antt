use Rattle.std.proofs.Common.{◌∙◌, sym, ap, take, subst, get_or, IfSome, length, ◌<◌, ◌≤◌}
use Rattle.std.proofs.lemmas.List.{get_or_default}
use Rattle.strc_sched_laws.specs.Rings.{given}
use Rattle.strc_sched_machine.proofs.Held.{picked_up}
use Rattle.strc_sched_machine.proofs.forwarded_items.take_up.Goals as goal

pub returns-else-count-items-clause-same : goal.returns-else-count-items-clause-same
returns-else-count-items-clause-same c =
    let rings = c.args.rings.now in
    let held = c.args.held.now in
    let number = c.in-Some.ring in
    let less = subst (λ p. IfSome p (λ n. n < length rings)) c.in-Some.is c.requires.port in
    let seen = get_or rings number c.index-rings-ring-in-None.result in
    let ring = get_or rings number c.index-rings-ring-in-None-2.result in
    picked_up rings number seen ring
    c.pick_up.new.ring (take c.args.count c.pick_up.new.items) less
    (get_or_default rings number c.index-rings-ring-in-None.result seen less)
    (get_or_default rings number c.index-rings-ring-in-None-2.result ring less)
    (subst (λ n. n ≤ seen.capacity) c.len.ensures.len c.len.ensures.within.0)
    c.pick_up.ensures.left c.pick_up.ensures.taken
    ∙ sym (ap (λ p. given p (take held.count c.args.items.now) rings) c.in-None.is)
