use Rattle.std.proofs.Common.{◌∙◌, ap}
use Rattle.std.specs.Int.{cast_signed, cast_unsigned}
use Rattle.std.specs.Int.RustNames.{int_div}
use Rattle.std.proofs.lemmas.Int.{SFits-int_wrap, to_z-of_z}
use mir.Syntax.{w32}
use Rattle.strc_work_meaning.proofs.Wrapping.{quotient_wraps}
use Rattle.strc_work_meaning.proofs.arithmetic.divide.Goals as goal

pub returns : goal.returns
returns c =
    let a = c.args.dividend in
    let b = c.args.divisor in
    let fits = c.ranges.dividend in
    let fits' = c.ranges.divisor in
    let e = simp to_z-of_z at c.wrapping_div.ensures in
    ap (λ z. cast_signed w32 (cast_unsigned w32 z)) (e ∙ quotient_wraps a b fits)
    ∙ to_z-of_z w32 _ (SFits-int_wrap w32 (int_div a b))
