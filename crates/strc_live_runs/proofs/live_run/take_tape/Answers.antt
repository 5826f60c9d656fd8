use Rattle.strc_sched_machine.specs.Running.{machine_view}
use Rattle.strc_live_runs.proofs.Rounds.{forgets_after}
use Rattle.strc_live_runs.proofs.live_run.take_tape.Goals as goal

pub returns-clause-others : goal.returns-clause-others
returns-clause-others c =
    forgets_after (machine_view c.args.machine.now) (machine_view c.swap_words.new.self)
    c.args.node c.args.words.now.items c.swap_words.ensures.given
