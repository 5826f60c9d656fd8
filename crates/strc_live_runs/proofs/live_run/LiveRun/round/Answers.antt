use Rattle.std.proofs.Common.{◌+◌, ap}
use Rattle.strc_sched_machine.specs.Running.{machine_view}
use Rattle.strc_live_runs.proofs.Rounds.{done_round, round_stops}
use Rattle.strc_live_runs.proofs.live_run.LiveRun.round.Goals as goal

pub returns-in-Ok-clause-round : goal.returns-in-Ok-clause-round
returns-in-Ok-clause-round c plan read past is many =
    let place = c.take_words.ensures.place in
    done_round plan read c.args.items.now.items past c.args.self.now is c.live_plans_go_on.ensures
    c.fire.new.self _ c.take_words.new.words.items many c.requires.limit
    c.in-Ok.ensures.gone.0 c.fire.ensures.place c.in-Ok.ensures.circuit
    c.take_words.ensures.circuit place.order place.tape place.reader
    (ap (λ n. n + 1) place.done) c.take_words.ensures.machine c.take_words.ensures.words

pub returns-in-Err-clause-stopped : goal.returns-in-Err-clause-stopped
returns-in-Err-clause-stopped c plan read past is many =
    round_stops plan read c.args.items.now.items past c.args.self.now is
    c.live_plans_fault.ensures c.in-Err.stop (machine_view c.args.self.now.machine).words
    (machine_view c.fire.new.self.machine) many c.in-Err.ensures.gone
