use Rattle.std.proofs.Common.{◌∙◌, ap, set}
use Rattle.strc_sched_laws.specs.Machine.{MachineView}
use Rattle.strc_sched_machine.specs.Running.{with_fired}
use Rattle.strc_live_runs.proofs.live_run.LiveRun.take_words.Goals as goal

pub returns-clause-machine : goal.returns-clause-machine
returns-clause-machine c =
    c.renew.ensures.renewed
    ∙ ap (λ (m : MachineView). with_fired (set m.fired c.args.self.now.reader 0) m)
    c.take_tape.ensures.others

pub returns-clause-wired : goal.returns-clause-wired
returns-clause-wired c = record {
  machine = c.renew.ensures.machine _ (c.take_tape.ensures.machine _ c.requires.wired.machine);
  order = c.requires.wired.order;
}
