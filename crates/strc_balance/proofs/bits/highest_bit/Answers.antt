use Rattle.std.proofs.Common.{◌≡◌, ◌∙◌, ◌-◌, ap, suc, arith, w64}
use Rattle.std.specs.Int.{bit_at, leading_zeros}
use Rattle.std.proofs.lemmas.Nat.{leading_top}
use Rattle.std.proofs.lemmas.Nat.Bits.{bit_at_above}
use Rattle.strc_balance.proofs.Words.{top_bit}
use Rattle.strc_balance.proofs.bits.highest_bit.Goals as goal

pub returns-clause-there : goal.returns-clause-there
returns-clause-there c =
    let (place, count, least, most) = leading_top 64 c.args.word c.requires c.ranges.word.fits in
    let is : 63 - leading_zeros w64 c.args.word ≡ place = omega (arith, count) in
    ap (bit_at c.args.word) is
    ∙ top_bit c.args.word place least most

pub returns-clause-highest : goal.returns-clause-highest
returns-clause-highest c higher more =
    let (place, count, least, most) = leading_top 64 c.args.word c.requires c.ranges.word.fits in
    bit_at_above c.args.word (suc place) higher most (omega (arith, count, more))
