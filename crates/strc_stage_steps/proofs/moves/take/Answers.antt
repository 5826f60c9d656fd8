use Rattle.std.proofs.Common.{◌∙◌, ap, set, Some, slice_get, vec_items}
use Rattle.strc_stage_core.specs.Events.{is_free}
use Rattle.strc_stage_core.proofs.Reading.{take_free}
use Rattle.strc_stage_core.proofs.Taking.{taker_has_rounds}
use Rattle.strc_stage_core.specs.Seeing.{core_of_parts}
use Rattle.strc_stage_steps.specs.Steps.{stage_work}
use Rattle.strc_stage_steps.proofs.Moving.{from_is, from_loaded, takes_parts}
use Rattle.strc_stage_steps.proofs.moves.take.Goals as goal

pub pull-parcel-requires : goal.pull-parcel-requires
pull-parcel-requires g c = from_loaded g.S.StageActor.see g.C.CollectorActor.sees
    c.args.parts.now c.args.actor c.link_before-from.result
    (from_is g.S.StageActor.see g.C.CollectorActor.sees c.args.parts.now c.args.actor
    c.link_before-from.result c.len.result c.link_before-from.ensures
    (c.len.ensures ∙ c.args.parts.now.stages.ok.0))
    c.requires.allowed

pub act-made-requires : goal.act-made-requires
act-made-requires g c = taker_has_rounds stage_work c.requires.state.0
    (core_of_parts g.S.StageActor.see g.C.CollectorActor.sees c.args.parts.now) c.requires.state.1
    c.args.actor c.requires.allowed

pub hold-requires : goal.hold-requires
hold-requires g c = ap (λ v. is_free (slice_get (vec_items v) c.args.actor)) c.act-made.ensures.held
    ∙ take_free (core_of_parts g.S.StageActor.see g.C.CollectorActor.sees c.args.parts.now)
    c.args.actor c.requires.allowed

pub returns-clause-takes : goal.returns-clause-takes
returns-clause-takes g c = takes_parts g.S.StageActor.see g.C.CollectorActor.sees stage_work
    c.args.parts.now (record {
      stages = c.act-made.new.parts.stages;
      links = c.act-made.new.parts.links;
      held = c.hold.new.hands;
      collector = c.act-made.new.parts.collector;
    }) c.args.actor c.link_before-from.result c.pull-parcel.new.links.items
    c.pull-parcel.result c.act-made.result c.requires.allowed
    (from_is g.S.StageActor.see g.C.CollectorActor.sees c.args.parts.now c.args.actor
    c.link_before-from.result c.len.result c.link_before-from.ensures
    (c.len.ensures ∙ c.args.parts.now.stages.ok.0))
    c.pull-parcel.ensures.pulls (ap vec_items c.act-made.ensures.links) c.act-made.ensures.does
    (c.hold.ensures ∙ ap (λ v. set (vec_items v) c.args.actor (Some c.act-made.result))
    c.act-made.ensures.held)
