use Rattle.std.proofs.Common.{◌≡◌, ◌+◌, ◌*◌, ◌<◌, ◌≤◌, ℕ, All, length, slice_index}
use Rattle.strc_sched_orders.specs.Buffers.{size_limit}
use Rattle.strc_batch.proofs.sizes.enlarged.Given as goal

abbrev pub invariant-loop-channel : goal.invariant-loop-channel
invariant-loop-channel l = record {
  long : length l.larger.items ≡ l.channel;
  each : (number : ℕ) → number < l.channel → slice_index l.larger.items number
      ≡ slice_index l.sizes number + l.rounds * slice_index l.rooms number;
  within : All (λ size. size ≤ size_limit) l.larger.items;
}
