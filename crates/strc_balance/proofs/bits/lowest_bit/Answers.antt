use Rattle.std.proofs.Common.{w64}
use Rattle.std.proofs.lemmas.Nat.Bits.{bit_at-trailing_zeros}
use Rattle.strc_balance.proofs.bits.lowest_bit.Goals as goal

pub returns-clause-there : goal.returns-clause-there
returns-clause-there c = (bit_at-trailing_zeros w64 c.args.word c.requires c.ranges.word.fits).1

pub returns-clause-lowest : goal.returns-clause-lowest
returns-clause-lowest c = (bit_at-trailing_zeros w64 c.args.word c.requires c.ranges.word.fits).2
