use Rattle.std.proofs.Common.{◌∙◌, ap, ℤ, List, take, ◌-◌, length}
use Rattle.strc_sched_laws.specs.Rings as spec
use Rattle.strc_sched_rings.proofs.Moves.{both_pieces, one_piece}
use Rattle.strc_sched_rings.proofs.item_moves.pour_many.Goals as goal
use Rattle.strc_sched_rings.proofs.item_moves.pour_many.Goals.{then-front-count, else-front-count}

pub returns-clause-target : goal.returns-clause-target
returns-clause-target c =
    let front : List ℤ = c.as_slices.result.0.now in
    let back : List ℤ = c.as_slices.result.1.now in
    let count = c.args.count in
    let target = c.args.target.now in
    let first = c.extend.ensures
    ∙ ap (λ (l : List ℤ). spec.extended l target) c.first_of.ensures in
    elim c.if-front-count.branch [
      | then-front-count w ↦
          w.target-is ∙ w.extend-then-front-count.ensures
          ∙ ap (λ (l : List ℤ). spec.extended l c.extend.new.ring)
          w.first_of-then-front-count.ensures
          ∙ ap (spec.extended (take (count - length front) back)) first
          ∙ both_pieces front back c.args.source.now.items count target c.as_slices.ensures
      | else-front-count w ↦
          w.target-is ∙ first
          ∙ one_piece front back c.args.source.now.items count target c.as_slices.ensures
          w.if-front-count.false
    ]
