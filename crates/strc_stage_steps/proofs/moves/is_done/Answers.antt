use Rattle.std.proofs.Common.{◌∙◌, arith}
use Rattle.strc_stage_steps.proofs.Acting.{stage_done, collector_done, past_done}
use Rattle.strc_stage_steps.proofs.moves.is_done.Goals as goal

pub returns-then-actor-len : goal.returns-then-actor-len
returns-then-actor-len g c = c.finished.ensures ∙ stage_done g.S.StageActor.see
    c.args.parts.now.stages.items (g.C.CollectorActor.sees c.args.parts.now.collector)
    c.args.actor c.index.result.now (omega (arith, c.if-actor-len.true, c.len.ensures))
    c.index.ensures g.S.Actor.has_finished g.met.S.StageActor.goes g.met.S.StageActor.ends
    c.requires

pub returns-then-actor-len-2 : goal.returns-then-actor-len-2
returns-then-actor-len-2 g c = c.finished-then-actor-len-2.ensures
    ∙ collector_done g.S.StageActor.see g.C.CollectorActor.sees c.args.parts.now.stages.items
    c.args.parts.now.collector c.args.actor g.C.Actor.has_finished g.met.C.CollectorActor.goes
    g.met.C.CollectorActor.ends
    (omega (arith, c.if-actor-len-2.true, c.len-else-actor-len.ensures)) c.requires

pub returns-else-actor-len-2 : goal.returns-else-actor-len-2
returns-else-actor-len-2 g c = past_done g.S.StageActor.see g.C.CollectorActor.sees
    c.args.parts.now.stages.items c.args.parts.now.collector c.args.actor (omega (
      arith,
      c.if-actor-len.false,
      c.len.ensures,
      c.if-actor-len-2.false,
      c.len-else-actor-len.ensures,
    ))
