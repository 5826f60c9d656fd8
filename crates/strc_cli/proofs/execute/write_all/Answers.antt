use Rattle.strc_cli.proofs.Telling.{gone_more}
use Rattle.strc_cli.proofs.execute.write_all.Goals as goal

pub loop-rest-preserved : goal.loop-rest-preserved
loop-rest-preserved g c = gone_more _ c.loop-rest.rest.now c.in-Ok.count _ _ _ c.loop-rest.invariant
    c.in-Ok.ensures.bytes c.in-Ok.ensures.ok
