use Rattle.std.proofs.Common.{◌∙◌, sym}
use Rattle.std.proofs.lemmas.List.{length-map}
use Rattle.strc_stage_core.specs.Seeing.{core_of_parts}
use Rattle.strc_stage_steps.specs.Steps.{stage_work}
use Rattle.strc_stage_steps.proofs.Timely.{unfinished_has_rounds}
use Rattle.strc_stage_steps.proofs.Moving.{over_taken, over_not_taken}
use Rattle.strc_stage_steps.proofs.moves.has_ended.Goals as goal

pub is_done-requires : goal.is_done-requires
is_done-requires g c = unfinished_has_rounds stage_work c.requires.0
    (core_of_parts g.S.StageActor.see g.C.CollectorActor.sees c.args.parts.now) c.requires.1
    c.len.result

pub returns-then-is_done : goal.returns-then-is_done
returns-then-is_done g c =
    let count = c.args.parts.now.stages.ok.0
    ∙ sym (length-map c.args.parts.now.stages.items g.S.StageActor.see) in
    over_taken (core_of_parts g.S.StageActor.see g.C.CollectorActor.sees c.args.parts.now)
    c.len.result c.len-then-is_done.result c.is_done.result c.hand_is_free.result
    (c.len.ensures ∙ count) (c.len-then-is_done.ensures ∙ count) c.is_done.ensures c.if-is_done.true
    c.hand_is_free.ensures

pub returns-else-is_done : goal.returns-else-is_done
returns-else-is_done g c = over_not_taken
    (core_of_parts g.S.StageActor.see g.C.CollectorActor.sees c.args.parts.now) c.len.result
    c.is_done.result (c.len.ensures ∙ c.args.parts.now.stages.ok.0
    ∙ sym (length-map c.args.parts.now.stages.items g.S.StageActor.see)) c.is_done.ensures
    c.if-is_done.false
