use Rattle.std.proofs.Common.{arith}
use Rattle.strc_stage_steps.specs.Steps.{stage_work}
use Rattle.strc_stage_steps.proofs.Acting.{stage_goes, collector_goes, stage_does, collector_does}
use Rattle.strc_stage_steps.proofs.moves.act.Goals as goal

pub step-requires : goal.step-requires
step-requires g c = record {
  «open» = stage_goes g.S.StageActor.see c.args.parts.now.stages.items
      (g.C.CollectorActor.sees c.args.parts.now.collector) c.args.actor c.index_mut.result.now
      (omega (arith, c.if-actor-len.true, c.len.ensures)) c.index_mut.ensures.value
      g.S.Actor.has_finished g.met.S.StageActor.goes c.requires;
}

pub step-requires-else-actor-len : goal.step-requires-else-actor-len
step-requires-else-actor-len g c = record {
  «open» = collector_goes g.S.StageActor.see g.C.CollectorActor.sees
      c.args.parts.now.stages.items c.args.parts.now.collector c.args.actor
      g.C.Actor.has_finished g.met.C.CollectorActor.goes
      (omega (arith, c.if-actor-len.false, c.len.ensures)) c.requires;
}

pub returns-then-actor-len-clause-does : goal.returns-then-actor-len-clause-does
returns-then-actor-len-clause-does g c = stage_does g.S.StageActor.see
    c.args.parts.now.stages.items (g.C.CollectorActor.sees c.args.parts.now.collector)
    c.args.actor c.index_mut.result.now (omega (arith, c.if-actor-len.true, c.len.ensures))
    c.index_mut.ensures.value stage_work c.args.parcel c.step.result c.step.new.self
    (g.met.S.StageActor.steps c.index_mut.result.now c.args.parcel c.step.new.self c.step.result
    c.step.ensures)

pub returns-else-actor-len-clause-does : goal.returns-else-actor-len-clause-does
returns-else-actor-len-clause-does g c = collector_does g.S.StageActor.see
    g.C.CollectorActor.sees c.args.parts.now.stages.items c.args.parts.now.collector c.args.actor
    stage_work c.args.parcel c.step-else-actor-len.result c.step-else-actor-len.new.self
    (omega (arith, c.if-actor-len.false, c.len.ensures)) c.requires
    (g.met.C.CollectorActor.collects c.args.parts.now.collector c.args.parcel
    c.step-else-actor-len.new.self c.step-else-actor-len.result c.step-else-actor-len.ensures)
