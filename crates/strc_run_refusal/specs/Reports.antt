-- How the refusals of the layers are reported.
use Rattle.strc_elab_statements.specs.declared.error.ElabError.{ElabError}
use Rattle.strc_elab_statements.specs.declared.error.ElabErrorKind.TheVariants as error
use Rattle.strc_balance.specs.declared.error.BalanceError.{BalanceError}
use Rattle.strc_balance.specs.declared.error.BalanceError.TheVariants as unbalanced
use Rattle.strc_startup.specs.declared.error.StartupError.{StartupError}
use Rattle.strc_startup.specs.declared.error.StartupError.TheVariants as unprimed
use Rattle.strc_sched_orders.specs.declared.error.ScheduleError.{ScheduleError}
use Rattle.strc_sched_orders.specs.declared.error.ScheduleError.TheVariants as unscheduled
use Rattle.strc_run_refusal.specs.declared.refusal.Refusal.{Refusal}
use Rattle.strc_run_refusal.specs.declared.refusal.Refusal.TheVariants as refusal

-- of elaboration and of flat graphs
abbrev pub refusal_of : ElabError → Refusal
refusal_of (error.UnknownName name) = refusal.UnknownName name
refusal_of (error.TypeMismatch stream) = refusal.TypeMismatch stream
refusal_of error.NoMain = refusal.NoMain
refusal_of error.ManyMains = refusal.ManyMains
refusal_of error.DepthLimit = refusal.DepthLimit
refusal_of error.NodeLimit = refusal.NodeLimit
refusal_of (error.BadArguments stream) = refusal.BadArguments stream
refusal_of (error.BadWeights stream) = refusal.BadWeights stream
refusal_of (error.ConstFault cause) = refusal.ConstFault cause
refusal_of error.TwoInputs = refusal.TwoInputs
refusal_of (error.TapeTwice node) = refusal.TapeTwice node
refusal_of error.Disconnected = refusal.Disconnected
refusal_of error.NoMemory = refusal.NoMemory

-- of the balance
abbrev pub balance_refusal_of : BalanceError → Refusal
balance_refusal_of unbalanced.CountsTooLarge = refusal.CountsTooLarge
balance_refusal_of (unbalanced.Inconsistent channel) = refusal.Inconsistent channel
balance_refusal_of unbalanced.NoMemory = refusal.NoMemory

-- of start-up
abbrev pub startup_refusal_of : StartupError → Refusal
startup_refusal_of unprimed.Unbounded = refusal.StartupUnbounded
startup_refusal_of unprimed.NoMemory = refusal.NoMemory

-- of the schedule
abbrev pub schedule_refusal_of : ScheduleError → Refusal
schedule_refusal_of (unscheduled.Deadlock in_startup) = refusal.Deadlock in_startup
schedule_refusal_of (unscheduled.BufferLimit channel) = refusal.BufferLimit channel
schedule_refusal_of unscheduled.NoMemory = refusal.NoMemory
