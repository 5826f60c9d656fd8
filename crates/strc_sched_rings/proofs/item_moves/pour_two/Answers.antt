use Rattle.std.proofs.Common.{◌∙◌, ap, take}
use Rattle.strc_sched_laws.specs.Rings as spec
use Rattle.strc_sched_rings.proofs.Moves.{shortened_twice, two_first}
use Rattle.strc_sched_rings.proofs.item_moves.pour_two.Goals as goal

pub returns-clause-source : goal.returns-clause-source
returns-clause-source c =
    c.pour_one-2.ensures.source
    ∙ ap (spec.shortened 1) c.pour_one.ensures.source
    ∙ shortened_twice c.args.source.now

pub returns-clause-target : goal.returns-clause-target
returns-clause-target c =
    let source = c.args.source.now in
    let target = c.args.target.now in
    c.pour_one-2.ensures.target
    ∙ ap (λ ring. spec.extended (take 1 ring.items) c.pour_one.new.target)
    c.pour_one.ensures.source
    ∙ ap (spec.extended (take 1 (spec.shortened 1 source).items)) c.pour_one.ensures.target
    ∙ two_first source.items target
