use Rattle.std.proofs.Common.{refl, vec_items, vec_capacity}
use Rattle.strc_stage_core.proofs.Reading.{give_holding, give_room, gives_by}
use Rattle.strc_stage_core.specs.Seeing.{core_of_parts}
use Rattle.strc_stage_steps.specs.Steps.{stage_work}
use Rattle.strc_stage_steps.proofs.moves.give.Goals as goal

pub release-parcel-requires : goal.release-parcel-requires
release-parcel-requires g c = give_holding
    (core_of_parts g.S.StageActor.see g.C.CollectorActor.sees c.args.parts.now) c.args.actor
    c.requires.allowed

pub lay-requires : goal.lay-requires
lay-requires g c = give_room stage_work vec_items vec_capacity c.args.parts.now.links.items
    c.requires.state.0 (core_of_parts g.S.StageActor.see g.C.CollectorActor.sees c.args.parts.now)
    c.args.actor c.requires.state.1 refl c.requires.roomy c.requires.allowed

pub returns-clause-gives : goal.returns-clause-gives
returns-clause-gives g c = gives_by stage_work c.requires.state.0
    (core_of_parts g.S.StageActor.see g.C.CollectorActor.sees c.args.parts.now) _ c.args.actor
    c.release-parcel.result c.requires.state.1 c.release-parcel.ensures.was refl refl
    c.lay.ensures.lays c.release-parcel.ensures.now
