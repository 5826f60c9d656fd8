use Rattle.std.proofs.Common.{◌≡◌, ◌∙◌, length, map, slice_index_or, ap, sym, subst}
use Rattle.strc_balance.specs.Balance.{HasRates, passes, scale_from, whole_count}
use Rattle.strc_balance.specs.Frontiers.{ArePositive}
use Rattle.strc_balance.proofs.Judging.{spread-positive, counts-length, scale_too_large}
use Rattle.strc_balance.proofs.Judging.{judged-too_large}
use Rattle.strc_balance.proofs.solution.solve.Goals as goal

pub scale_of-requires : goal.scale_of-requires
scale_of-requires c =
    subst ArePositive (sym (c.deref.ensures.value ∙ c.in-Ok.ensures.found))
    (spread-positive c.args.size c.args.equations.now c.requires.rates)

pub returns-in_default-clause-verdict : goal.returns-in_default-clause-verdict
returns-in_default-clause-verdict c =
    let same = c.deref.ensures.value ∙ c.in-Ok.ensures.found in
    judged-too_large c.args.size c.args.equations.now
    (scale_too_large c.args.size c.args.equations.now
    (ap (λ l. passes (scale_from 1 l)) (sym same) ∙ c.in_default.ensures.passes))

pub whole_counts-requires-clause-positive : goal.whole_counts-requires-clause-positive
whole_counts-requires-clause-positive c =
    subst ArePositive (sym (c.deref-2.ensures.value ∙ c.in-Ok.ensures.found))
    (spread-positive c.args.size c.args.equations.now c.requires.rates)

pub first_unbalanced-requires-clause-rates : goal.first_unbalanced-requires-clause-rates
first_unbalanced-requires-clause-rates c k d within =
    let fractions = c.deref-2.ensures.value ∙ c.in-Ok.ensures.found in
    let size : length c.deref-3.result.now ≡ c.args.size =
    ap length (c.deref-3.ensures.value ∙ c.in-Ok-whole_counts.ensures.found
    ∙ ap (map (whole_count c.in-Some.scale)) fractions)
    ∙ counts-length c.args.size c.args.equations.now c.in-Some.scale in
    subst (λ n. HasRates n (slice_index_or c.args.equations.now k d)) (sym size)
    (c.requires.rates k d within)
