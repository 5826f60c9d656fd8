use Rattle.std.proofs.Common.{◌≡◌, ◌<◌, ◌+◌, ◌∙◌, Some, None, length, drop, sym, ap, subst, arith}
use Rattle.strc_balance.specs.Divisors.{multiple}
use Rattle.strc_balance.specs.Balance as spec
use Rattle.strc_balance.proofs.Scales.{scale_more, scale-passes, multiple-positive}
use Rattle.strc_balance.proofs.multiples.scale_of.Goals as goal
use Rattle.strc_balance.proofs.multiples.scale_of.Goals.{in-Some+else-scale-gt-COUNT_LIMIT}
use Rattle.strc_balance.proofs.multiples.scale_of.Goals.{in_default}

pub returns-then-scale-gt-COUNT_LIMIT-clause-passes :
    goal.returns-then-scale-gt-COUNT_LIMIT-clause-passes
returns-then-scale-gt-COUNT_LIMIT-clause-passes c =
    let fractions = c.args.fractions.now in
    let i = c.loop-fraction.fraction-index in
    let scale = c.loop-fraction.scale in
    let fraction = c.in-Some.fraction in
    let next = multiple scale fraction.bottom in
    let is : c.multiple-scale.result ≡ next = c.multiple-scale.ensures
    ∙ ap (λ n. multiple scale n) c.from.ensures in
    let some : 0 < next = multiple-positive scale fractions i fraction
    c.loop-fraction.invariant.some c.requires c.in-Some.is in
    let within : i < length fractions = omega arith in
    scale-passes next fractions (i + 1) some c.requires
    (sym (scale_more scale fractions i (Some fraction) within c.in-Some.is)
    ∙ c.loop-fraction.invariant.rest)
    (subst (λ n. 1000000 < n) is c.if-scale-gt-COUNT_LIMIT.true)

pub loop-fraction-preserved : goal.loop-fraction-preserved
loop-fraction-preserved c =
    let fractions = c.args.fractions.now in
    let i = c.loop-fraction.fraction-index in
    let scale = c.loop-fraction.scale in
    let within : i < length fractions = omega arith in
    elim c.match-fraction.branch [
      | in-Some+else-scale-gt-COUNT_LIMIT w ↦
          let fraction = w.in-Some.fraction in
          let next = multiple scale fraction.bottom in
          let is : next ≡ c.match-fraction.scale =
          sym (w.scale-is ∙ w.multiple-scale.ensures
          ∙ ap (λ n. multiple scale n) w.from.ensures) in
          let limit = w.if-scale-gt-COUNT_LIMIT.false in
          let same = w.scale-is in
          record {
            rest = ap (λ n. spec.scale_from n (drop (i + 1) fractions)) (sym is)
                ∙ sym (scale_more scale fractions i (Some fraction) within w.in-Some.is)
                ∙ c.loop-fraction.invariant.rest;
            some = subst (λ n. 0 < n) is
                (multiple-positive scale fractions i fraction c.loop-fraction.invariant.some
                c.requires w.in-Some.is);
            within = omega arith;
          }
      | in_default w ↦
          let same = w.scale-is in
          record {
            rest = ap (λ n. spec.scale_from n (drop (i + 1) fractions)) same
                ∙ sym (scale_more scale fractions i None within w.in_default.is)
                ∙ c.loop-fraction.invariant.rest;
            some = (let some = c.loop-fraction.invariant.some in omega arith);
            within = (let below = c.loop-fraction.invariant.within in omega arith);
          }
    ]
