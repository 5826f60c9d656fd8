use Rattle.std.proofs.Common.{◌∙◌, ap, neg_ℤ}
use Rattle.std.specs.Int.{cast_signed, cast_unsigned}
use Rattle.std.proofs.lemmas.Int.{wrapping_neg_is, SFits-int_wrap, to_z-of_z}
use mir.Syntax.{w32}
use Rattle.strc_work_meaning.proofs.arithmetic.negate.Goals as goal

pub returns : goal.returns
returns c =
    let fits = c.ranges.value in
    let e = simp to_z-of_z at c.wrapping_neg.ensures in
    ap (λ z. cast_signed w32 (cast_unsigned w32 z)) (e ∙ wrapping_neg_is w32 c.args.value fits)
    ∙ to_z-of_z w32 _ (SFits-int_wrap w32 (neg_ℤ c.args.value))
