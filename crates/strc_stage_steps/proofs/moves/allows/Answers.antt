use Rattle.std.proofs.Common.{◌∙◌, sym}
use Rattle.std.proofs.lemmas.List.{length-map}
use Rattle.strc_stage_core.specs.Seeing.{core_of_parts}
use Rattle.strc_stage_steps.specs.Steps.{stage_work}
use Rattle.strc_stage_steps.proofs.Timely.{unfinished_has_rounds}
use Rattle.strc_stage_steps.proofs.Moving.{allows_take, allows_give}
use Rattle.strc_stage_steps.proofs.moves.allows.Goals as goal

pub is_done-requires : goal.is_done-requires
is_done-requires g c = unfinished_has_rounds stage_work c.requires.0
    (core_of_parts g.S.StageActor.see g.C.CollectorActor.sees c.args.parts.now) c.requires.1
    c.in-Take.actor

pub returns-in-Take : goal.returns-in-Take
returns-in-Take g c = c.can_take.ensures ∙ allows_take
    (core_of_parts g.S.StageActor.see g.C.CollectorActor.sees c.args.parts.now) c.args.event
    c.in-Take.actor c.len.result c.is_done.result c.in-Take.is
    (c.len.ensures ∙ c.args.parts.now.stages.ok.0
    ∙ sym (length-map c.args.parts.now.stages.items g.S.StageActor.see))
    c.is_done.ensures

pub returns-in-Give : goal.returns-in-Give
returns-in-Give g c = c.can_give.ensures ∙ allows_give
    (core_of_parts g.S.StageActor.see g.C.CollectorActor.sees c.args.parts.now) c.args.event
    c.in-Give.actor c.in-Give.is
