-- What the core sees of toys.
use Rattle.strc_stage_core.specs.Actors.{Stage, Collector}
use Rattle.strc_sched_outcome.specs.declared.stop.Stop.{Stop}
use Rattle.strc_stage_steps.specs.Steps.{StageState, Gathered}
use Rattle.strc_tests_rings.specs.declared.idle_stages.Idle.{Idle}
use Rattle.strc_tests_rings.specs.declared.collectors.Counter.{Counter}
use Rattle.strc_tests_rings.specs.Toys.{idle_stage, counter}

abbrev pub idle_view : Idle → Stage StageState Stop
idle_view idle = idle_stage idle.first idle.rounds idle.taken idle.stop idle.finished

abbrev pub counter_view : Counter → Collector Gathered Stop
counter_view own = counter own.rounds own.taken own.gathered own.stop own.finished
