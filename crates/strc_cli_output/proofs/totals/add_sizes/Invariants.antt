use Rattle.std.proofs.Common.{◌≡◌, ◌<◌, ◌+◌, ◌^◌, ℕ, drop, length, slice_index_or}
use Rattle.strc_cli_output.specs.Totals.{held, size_behind}
use Rattle.strc_cli_output.proofs.totals.add_sizes.Given as goal

-- of each node: its sum so far, and the sizes of the channels left
abbrev pub invariant-loop-number : goal.invariant-loop-number
invariant-loop-number l = record {
  fits : (node : ℕ) → slice_index_or l.sums node 0 < 2 ^ 64;
  each : (node : ℕ) → node < length l.fn.sums
      → held (slice_index_or l.sums node 0
      + size_behind node (drop l.number l.channels) (drop l.number l.sizes))
      ≡ held (slice_index_or l.fn.sums node 0 + size_behind node l.channels l.sizes);
}
