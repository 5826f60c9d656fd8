use Rattle.std.proofs.Common.{ap}
use Rattle.strc_stage_core.specs.Seeing.{core_of, core_of_parts}
use Rattle.strc_stage_steps.specs.Steps.{stage_work}
use Rattle.strc_stage_steps.proofs.Happening.{some_after, state_kept, counted, room_stays}
use Rattle.strc_stage_steps.proofs.pipe.Pipe.event.Goals as goal

pub invariant_of-self : goal.invariant_of-self
invariant_of-self g c =
    let see = g.S.StageActor.see in
    let sees = g.C.CollectorActor.sees in (
      room_stays see sees stage_work c.self.inside.parts c.happen.new.parts c.args.event
          c.self.invariant.1 c.happen.ensures.happens c.happen.ensures.rooms c.self.invariant.0,
      some_after stage_work (core_of_parts see sees c.self.inside.parts)
          (core_of_parts see sees c.happen.new.parts) c.args.event c.self.invariant.1
          c.happen.ensures.happens,
    )

pub returns-clause-counted : goal.returns-clause-counted
returns-clause-counted g c =
    let see = g.S.StageActor.see in
    let sees = g.C.CollectorActor.sees in
    λ _. counted stage_work (core_of_parts see sees c.self.inside.parts)
    (core_of see sees c.args.self.now) (core_of_parts see sees c.happen.new.parts) c.args.event
    (ap (core_of see sees) c.self.view_is) c.self.invariant.1 c.happen.ensures.happens

pub returns-clause-state : goal.returns-clause-state
returns-clause-state g c =
    let see = g.S.StageActor.see in
    let sees = g.C.CollectorActor.sees in
    state_kept stage_work (core_of_parts see sees c.self.inside.parts)
    (core_of see sees c.args.self.now) (core_of_parts see sees c.happen.new.parts) c.args.event
    (ap (core_of see sees) c.self.view_is) c.happen.ensures.happens
