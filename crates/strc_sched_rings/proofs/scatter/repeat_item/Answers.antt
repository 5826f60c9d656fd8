use Rattle.std.proofs.Common.{◌≡◌, ◌∙◌, sym, ap, [], ◌∷◌, arith, of_z, to_z, w32, to_z-of_z}
use Rattle.strc_sched_laws.specs.Rings as spec
use Rattle.strc_sched_laws.proofs.Changes.{extended_none}
use Rattle.strc_sched_rings.proofs.Scattering.{one_at, none_at}
use Rattle.strc_sched_rings.proofs.scatter.repeat_item.Goals as goal

pub returns-in-Some : goal.returns-in-Some
returns-in-Some c =
    let items = c.args.ring.now.items in
    let same : to_z w32 (of_z w32 c.in-Some.item) ≡ c.in-Some.item = grind (arith, to_z-of_z) in
    c.push_one.ensures
    ∙ ap (λ item. spec.extended (item ∷ []) c.args.ring.now) same
    ∙ ap (λ l. spec.extended l c.args.ring.now) (sym (one_at items c.args.place c.in-Some.item
    (sym c.get.ensures ∙ sym c.copied.ensures ∙ c.in-Some.is)))

pub returns-in_default : goal.returns-in_default
returns-in_default c =
    let items = c.args.ring.now.items in
    sym (extended_none c.args.ring.now)
    ∙ ap (λ l. spec.extended l c.args.ring.now) (sym (none_at items c.args.place
    (sym c.get.ensures ∙ sym c.copied.ensures ∙ c.in_default.is)))
