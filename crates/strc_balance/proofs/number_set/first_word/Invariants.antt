use Rattle.std.proofs.Common.{◌≡◌, ℕ, ◌<◌, slice_index}
use Rattle.strc_balance.proofs.number_set.first_word.Given as goal

abbrev pub invariant-loop-place : goal.invariant-loop-place
invariant-loop-place l = (lower : ℕ) → lower < l.place → slice_index l.words lower ≡ 0
