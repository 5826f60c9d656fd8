-- Rounds that go one after another.
use Rattle.std.specs.Prelude.{◌≡◌, ℕ, ◌+◌, List}
use Rattle.strc_sched_orders.specs.Order.{repeated}
use Rattle.strc_sched_laws.specs.Machine.{CircuitView, MachineView, Went, order_run, rounds_run}

-- Where so many rounds come to a machine, a run of these and of more rounds goes on from there.
abbrev pub StepsAreRounds : Type 0
StepsAreRounds =
    (circuit : CircuitView) (order : List ℕ) (done left round : ℕ) (first last : MachineView)
    → order_run circuit (repeated done order) first ≡ Went last
    → rounds_run circuit order (done + left) round first
    ≡ rounds_run circuit order left (round + done) last
