use Rattle.std.proofs.Common.{◌∙◌, ◌++◌, ap, ℤ, List, take, drop, ◌-◌, length}
use Rattle.strc_sched_laws.specs.Rings as spec
use Rattle.strc_sched_rings.proofs.Scattering.{part_pieces, parts_join}
use Rattle.strc_sched_rings.proofs.scatter.pour_part.Goals as goal

pub returns : goal.returns
returns c =
    let front : List ℤ = c.as_slices.result.0.now in
    let back : List ℤ = c.as_slices.result.1.now in
    let head = c.first_of-head.result.now in
    let count = c.args.count in
    let start = c.args.start in
    let all = take count (drop start c.args.source.now.items) in
    let rest = c.first_of.ensures
    ∙ ap (λ (l : List ℤ). take (count - length head) l) (c.rest_of-tail.ensures
    ∙ ap (λ n. drop n back) c.saturating_sub.ensures) in
    c.extend-2.ensures
    ∙ ap (spec.extended c.first_of.result.now) c.extend.ensures
    ∙ parts_join head c.first_of.result.now all c.args.target.now
    (ap (λ (l : List ℤ). head ++ l) rest
    ∙ part_pieces front back c.args.source.now.items head start count c.as_slices.ensures
    (c.first_of-head.ensures ∙ ap (take count) c.rest_of.ensures))
