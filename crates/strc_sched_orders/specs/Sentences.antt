-- What a person reads where a graph has no schedule.
use Rattle.std.specs.Prelude.{ℕ, List, true, false, codes, decimal, ◌++◌}
use Rattle.strc_sched_orders.specs.declared.error.ScheduleError.{ScheduleError}
use Rattle.strc_sched_orders.specs.declared.error.ScheduleError.TheVariants.{Deadlock, BufferLimit}
use Rattle.strc_sched_orders.specs.declared.error.ScheduleError.TheVariants.{NoMemory}

abbrev pub schedule_sentence : ScheduleError → List ℕ
schedule_sentence (Deadlock true) = codes "no order of the firings before the first round exists"
schedule_sentence (Deadlock false) = codes "no order of the firings of a round exists"
schedule_sentence (BufferLimit channel) =
    codes "too many items on channel " ++ decimal channel
schedule_sentence NoMemory = codes "out of memory"
