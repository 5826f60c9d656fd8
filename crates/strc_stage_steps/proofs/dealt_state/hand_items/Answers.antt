use Rattle.std.proofs.Common.{◌≡◌, ◌∙◌, ap, Some}
use Rattle.strc_sched_laws.specs.Rings.{items_at}
use Rattle.strc_sched_machine.specs.Running.{machine_view}
use Rattle.strc_stage_steps.proofs.FilledChannels.{both_enter}
use Rattle.strc_stage_steps.proofs.dealt_state.hand_items.Goals as goal

pub returns-in-Some-clause-items : goal.returns-in-Some-clause-items
returns-in-Some-clause-items c =
    let found = c.in-Some.is in
    let is : Some c.in-Some.ring ≡ c.args.ring = cc in
    both_enter (machine_view c.args.after.now) (machine_view c.clear_ring.new.self)
    (machine_view c.enter.new.self) (machine_view c.enter-in-Some.new.self) c.args.number
    c.items.result.0.now c.items.result.1.now _ c.requires c.clear_ring.ensures.cleared
    c.enter.ensures.entered c.enter-in-Some.ensures.entered
    (c.items.ensures
    ∙ ap (items_at (machine_view c.args.left.now).rings) is)
