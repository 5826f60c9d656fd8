use Rattle.std.proofs.Common.{◌∙◌, sym, ap, take, drop}
use Rattle.strc_sched_laws.specs.Rings.{items_at}
use Rattle.strc_sched_rings.proofs.Scattering.{given_none, no_part}
use Rattle.strc_sched_rings.proofs.scatter.give_part.Goals as goal

pub returns-in_default-2 : goal.returns-in_default-2
returns-in_default-2 c =
    let rings = c.args.rings.now in
    sym (given_none c.args.to _ rings
    (ap (λ port. take c.args.count (drop c.args.start (items_at rings port))) c.in_default.is-0
    ∙ no_part c.args.start c.args.count))
