use Rattle.strc_stage.proofs.Piping.{ended_at_once, launched_pipe}
use Rattle.strc_stage.proofs.pipe.Pipe.new.Goals as goal

pub returns-clause-state : goal.returns-clause-state
returns-clause-state c =
    launched_pipe c.args.stages.plan c.args.input.now c.args.rounds
    c.args.stages.workers c.in_ok-launched.launched c.in_ok-state_of.field-0
    c.in_ok-launched.ensures c.in_ok-state_of.ensures

pub returns-clause-ended : goal.returns-clause-ended
returns-clause-ended c = λ none.
    ended_at_once c.args.stages.plan c.args.input.now c.args.rounds c.args.stages.workers
    c.in_ok-launched.launched c.in_ok-state_of.field-0 none c.in_ok-launched.ensures
    c.in_ok-state_of.ensures

pub returns-clause-first : goal.returns-clause-first
returns-clause-first c =
    (c.in_ok-launched.launched, c.in_ok-launched.ensures, c.in_ok-state_of.ensures)
