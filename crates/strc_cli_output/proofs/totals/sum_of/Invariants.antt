use Rattle.std.proofs.Common.{◌≡◌, ◌<◌, ◌+◌, ◌^◌, drop, sum}
use Rattle.strc_cli_output.specs.Totals.{held, sum_of}
use Rattle.strc_cli_output.proofs.totals.sum_of.Given as goal

-- the numbers so far, and those left
abbrev pub invariant-loop-number : goal.invariant-loop-number
invariant-loop-number l = record {
  fits : l.sum < 2 ^ 64;
  is : held (l.sum + sum (drop l.number-index l.numbers)) ≡ sum_of l.numbers;
}
