use Rattle.std.proofs.Common.{◌∙◌, ◌<◌, ap, length, subst, sym}
use Rattle.std.specs.Prelude.{IfSome, Some}
use Rattle.strc_sched_rings.proofs.Fronts.{moved_around}
use Rattle.strc_sched_rings.proofs.ring.move_items.Goals as goal

pub returns-then-source-target : goal.returns-then-source-target
returns-then-source-target c =
    let source = c.in-Some.source in
    moved_around c.args.from c.args.to source c.args.count c.args.rings.now
    c.index-rings-source-then-source-target.result c.rotate.new.ring c.in-Some.is
    (c.in-Some-to.is ∙ ap Some (sym c.if-source-target.true))
    (subst (λ port. IfSome port (λ number. number < length c.args.rings.now)) c.in-Some.is
    c.requires.from) c.rotate.ensures
