use Rattle.std.proofs.Common.{◌/◌, Some, ap, sym, ◌∙◌}
use Rattle.std.proofs.Math.Nat.{pos_of_dvd_of_pos}
use Rattle.strc_balance.specs.declared.fraction.Fraction.{Fraction}
use Rattle.strc_balance.specs.Balance.{fraction_passes}
use Rattle.strc_balance.proofs.Divisors.{lowest_terms-by}
use Rattle.strc_balance.proofs.Limits.{top_passes, bottom_passes, parts_within}
use Rattle.strc_balance.proofs.fraction.lowest_terms.Goals as goal

pub nonzero_div-lowest_top : goal.nonzero_div-lowest_top
nonzero_div-lowest_top c = pos_of_dvd_of_pos c.greatest_divisor-divisor.ensures.0 c.requires

pub nonzero_div-lowest_bottom : goal.nonzero_div-lowest_bottom
nonzero_div-lowest_bottom c = pos_of_dvd_of_pos c.greatest_divisor-divisor.ensures.0 c.requires

pub returns-then-lowest_top-gt-COUNT_LIMIT-clause-passes :
    goal.returns-then-lowest_top-gt-COUNT_LIMIT-clause-passes
returns-then-lowest_top-gt-COUNT_LIMIT-clause-passes c =
    let g = c.greatest_divisor-divisor.result in
    let fraction : Fraction = record { top = c.args.top / g; bottom = c.args.bottom / g } in
    ap (λ (f : Fraction). fraction_passes (Some f))
    (lowest_terms-by c.args.top c.args.bottom g c.greatest_divisor-divisor.ensures)
    ∙ top_passes fraction c.if-lowest_top-gt-COUNT_LIMIT.true

pub returns-then-lowest_bottom-gt-COUNT_LIMIT-clause-passes :
    goal.returns-then-lowest_bottom-gt-COUNT_LIMIT-clause-passes
returns-then-lowest_bottom-gt-COUNT_LIMIT-clause-passes c =
    let g = c.greatest_divisor-divisor.result in
    let fraction : Fraction = record { top = c.args.top / g; bottom = c.args.bottom / g } in
    ap (λ (f : Fraction). fraction_passes (Some f))
    (lowest_terms-by c.args.top c.args.bottom g c.greatest_divisor-divisor.ensures)
    ∙ bottom_passes fraction c.if-lowest_bottom-gt-COUNT_LIMIT.true

pub returns-clause-lowest : goal.returns-clause-lowest
returns-clause-lowest c = sym (lowest_terms-by c.args.top c.args.bottom
    c.greatest_divisor-divisor.result c.greatest_divisor-divisor.ensures)

pub returns-clause-within : goal.returns-clause-within
returns-clause-within c =
    let g = c.greatest_divisor-divisor.result in
    let fraction : Fraction = record { top = c.args.top / g; bottom = c.args.bottom / g } in
    parts_within fraction c.if-lowest_top-gt-COUNT_LIMIT.false
    c.if-lowest_bottom-gt-COUNT_LIMIT.false
