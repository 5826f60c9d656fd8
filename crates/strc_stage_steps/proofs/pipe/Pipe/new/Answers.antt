use Rattle.std.proofs.Common.{◌≡◌, ap, ◌∙◌}
use Rattle.std.proofs.lemmas.Result.{IfOk-weaker}
use Rattle.strc_stage_core.specs.Seeing.{ring_of, core_of, start_of}
use Rattle.strc_stage_core.specs.States.{first_core}
use Rattle.strc_stage_steps.specs.Steps.{stage_work}
use Rattle.strc_stage_steps.proofs.Beginning.{parts, parts_are_first, parts_are_state}
use Rattle.strc_stage_steps.proofs.pipe.Pipe.new.Goals as goal

pub join-requires : goal.join-requires
join-requires g c = record {
  state = parts_are_state g.S.StageActor.see g.C.CollectorActor.sees c.args.start
      c.in_ok-links.links c.in_ok-held.held c.len.result c.len-2.result
      (c.len.ensures ∙ c.args.start.stages.ok.0) (c.len-2.ensures ∙ c.args.start.stages.ok.0)
      c.in_ok-links.ensures c.in_ok-held.ensures stage_work c.requires.start;
}

pub returns : goal.returns
returns g c =
    let see = g.S.StageActor.see in
    let sees = g.C.CollectorActor.sees in
    let start = c.args.start in
    let links = c.in_ok-links.links in
    let held = c.in_ok-held.held in
    let same = parts_are_first see sees start links held c.len.result c.len-2.result
    (c.len.ensures ∙ start.stages.ok.0) (c.len-2.ensures ∙ start.stages.ok.0)
    c.in_ok-links.ensures c.in_ok-held.ensures in
    IfOk-weaker c.join.result
    (λ pipe. pipe ≡ ring_of (parts see sees start links held c.len.result c.len-2.result
    (c.len.ensures ∙ start.stages.ok.0) (c.len-2.ensures ∙ start.stages.ok.0)
    c.in_ok-links.ensures c.in_ok-held.ensures))
    (λ pipe. core_of see sees pipe ≡ first_core (start_of see sees start))
    (λ pipe is. ap (core_of see sees) is ∙ same) c.join.ensures
