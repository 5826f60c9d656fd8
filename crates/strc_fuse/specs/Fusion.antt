-- What fusion of a schedule's round comes to.
use Rattle.std.specs.Prelude.{◌≡◌, ℕ, ◌≤◌, ℤ, Bool, List, All, length}
use Rattle.strc_elab_dataflow.specs.Flat as flat
use Rattle.strc_elab_dataflow.specs.Queues.{Fifo, fifo_go}
use Rattle.strc_work_meaning.specs.declared.fault.Cause.{Cause}
use Rattle.strc_work_meaning.specs.declared.word.Word.{Word}
use Rattle.strc_elab_graph.specs.Graphs.{Graph, NodeCode}
use Rattle.strc_elab_graph.specs.Meaning.{node_meaning}
use Rattle.strc_startup.specs.declared.channel_rates.ChannelRates.{ChannelRates}
use Rattle.strc_sched_orders.specs.Buffers.{size_limit}
use Rattle.strc_sched_orders.specs.Firings.{Firings, none_fired}
use Rattle.strc_sched_orders.specs.Greedy as order
use Rattle.strc_sched_orders.specs.Peaks.{AreRaised}
use Rattle.strc_sched_orders.specs.Rounds.{IsPastPrework, RoundBalances}
use Rattle.strc_sched_orders.specs.Schedules.{ScheduleParts, IsRunnable}
use Rattle.strc_sched_orders.specs.Sizing.{IsCovered, round_rates_on, PassesOn}
use Rattle.strc_elab_dataflow.specs.FusedUnits.{RoundUnit, AreFused, firings_of}
use Rattle.strc_elab_dataflow.specs.Same.{gone, IsValid}
use Rattle.strc_fuse.specs.Units.{is_free, round_units, ArePlaced}

-- the same start-up, and a round of fused units with lists of at most so many entries; the size of
-- each buffer is the greatest number of items in start-up and in this round, within the limit
pub record IsFusion (graph : Graph) (threshold : ℕ) (schedule fused : ScheduleParts) : Type 0 where
  pub startup : round_units fused.startup ≡ round_units schedule.startup
  pub round : AreFused (is_free graph) threshold (round_units schedule.round)
      (round_units fused.round)
  pub greatest : fused.greatest ≡ schedule.greatest
  pub last : fused.last ≡ schedule.last
  pub each : length fused.sizes ≡ length graph.channels
  pub sizes : AreRaised (round_rates_on graph schedule.last) none_fired
      (order.firings_of fused.round) schedule.greatest fused.sizes
  pub within : All (λ size. size ≤ size_limit) fused.sizes

-- the buffer of a channel passes the limit while the fused units of a schedule's round fire, and of
-- no lower channel
pub record FusedPass (graph : Graph) (threshold : ℕ) (schedule : ScheduleParts) (channel : ℕ)
    : Type 0 where
  pub units : List RoundUnit
  pub fused : AreFused (is_free graph) threshold (round_units schedule.round) units
  pub passes : PassesOn (round_rates_on graph schedule.last) none_fired (firings_of units)
      schedule.greatest channel

-- a schedule of these firings that can be run round after round, and whose round has all firings of
-- each node that may be fused in one unit, after all firings of the nodes that give to it
pub record IsFusible (channels : List ChannelRates) (free : ℕ → Bool) (startup round : Firings)
    (schedule : ScheduleParts) : Type 0 where
  pub runnable : IsRunnable channels startup round schedule
  pub past_prework : All (IsPastPrework startup) channels
  pub covered : All (IsCovered startup) channels
  pub balanced : All (RoundBalances round) channels
  pub placed : ArePlaced channels round free (round_units schedule.round)

-- from each state of a graph's queues in which both orders are valid, they come to the same state,
-- or both to a fault
abbrev pub DoTheSame : flat.Graph NodeCode → (first second : List ℕ) → Type 0
DoTheSame graph first second =
    (now : Fifo (List ℤ) Cause Word)
    → IsValid node_meaning graph first now → IsValid node_meaning graph second now
    → gone (fifo_go node_meaning graph first now) ≡ gone (fifo_go node_meaning graph second now)
