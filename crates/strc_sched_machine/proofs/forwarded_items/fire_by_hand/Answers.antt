use Rattle.std.proofs.Common.{◌∙◌, refl, subst, List, Ok, Err}
use Rattle.strc_work_meaning.specs.Filters.{body_prints, filter_of}
use Rattle.strc_elab_graph.specs.Rates.{body_at}
use Rattle.strc_sched_laws.specs.Rings.{Ring}
use Rattle.strc_sched_laws.specs.Steps.{filter_step}
use Rattle.strc_sched_rings.specs.Answers.{HasStepped}
use Rattle.strc_sched_rings.specs.Words.{WantsWordOfStep}
use Rattle.strc_sched_machine.specs.Handing.{with_held}
use Rattle.strc_sched_machine.proofs.forwarded_items.fire_by_hand.Goals as goal

pub fire_held-requires-clause-takes : goal.fire_held-requires-clause-takes
fire_held-requires-clause-takes c =
    c.if-not-take_up.ensures.count refl
    ∙ (c.taking_at-pops.ensures (filter_of c.args.code.now) c.requires.actor).1

pub returns-in-Ok-clause-step : goal.returns-in-Ok-clause-step
returns-in-Ok-clause-step c =
    let left = c.fire_held.new in
    subst (λ (l : List Ring). HasStepped (filter_step (filter_of c.args.code.now) c.args.firing
    c.args.actor.now.state.fields c.args.batch.now.input c.args.batch.now.output l)
    (Ok c.in-Ok.found) c.args.actor.now.state.fields left.actor.state.fields l
    (with_held left.held left.items left.rings) c.args.words.now.items left.words.items)
    c.take_up.ensures.same c.in-Ok.ensures.step

pub returns-in-Err-clause-step : goal.returns-in-Err-clause-step
returns-in-Err-clause-step c =
    let left = c.fire_held.new in
    subst (λ (l : List Ring). HasStepped (filter_step (filter_of c.args.code.now) c.args.firing
    c.args.actor.now.state.fields c.args.batch.now.input c.args.batch.now.output l)
    (Err c.in-Err.halt) c.args.actor.now.state.fields left.actor.state.fields l
    (with_held left.held left.items left.rings) c.args.words.now.items left.words.items)
    c.take_up.ensures.same c.in-Err.ensures.step

pub returns-in-Err-clause-memory : goal.returns-in-Err-clause-memory
returns-in-Err-clause-memory c =
    let filter = filter_of c.args.code.now in
    subst (λ (l : List Ring). WantsWordOfStep (body_prints (body_at c.args.firing) filter)
    (filter_step filter c.args.firing c.args.actor.now.state.fields c.args.batch.now.input
    c.args.batch.now.output l) (Err c.in-Err.halt)) c.take_up.ensures.same
    c.in-Err.ensures.memory
