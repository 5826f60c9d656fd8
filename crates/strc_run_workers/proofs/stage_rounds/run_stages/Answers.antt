use Rattle.strc_stage.proofs.Answering.{answers_told}
use Rattle.strc_run_workers.proofs.Rings.{lacks_so}
use Rattle.strc_run_workers.proofs.stage_rounds.run_stages.Goals as goal

pub returns-in-Ok-clause-answer : goal.returns-in-Ok-clause-answer
returns-in-Ok-clause-answer g c =
    answers_told c.args.plan.now c.args.input.now c.args.rounds c.ranges.rounds.fits
    c.requires.enough c.args.workers c.in-Ok.launched c.in-Ok.ensures c.run_launched.result
    c.run_launched.ensures.ended

pub returns-in-Ok-clause-means : goal.returns-in-Ok-clause-means
returns-in-Ok-clause-means g c =
    lacks_so c.args.plan.now c.args.input.now c.args.rounds c.args.workers c.in-Ok.launched
    c.in-Ok.ensures c.run_launched.result c.run_launched.ensures.means
