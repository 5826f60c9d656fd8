use Rattle.std.proofs.Common.{◌≤◌, ◌++◌, subst, length, arith, Err}
use Rattle.strc_work_meaning.specs.Filters.{body_prints, filter_of}
use Rattle.strc_work_meaning.specs.Firing.{fired}
use Rattle.strc_work_instructions.specs.Running.{WantsOnlyWords}
use Rattle.strc_work.specs.Answers.{WantsGivenWords}
use Rattle.strc_sched_laws.specs.Rings.{items_at}
use Rattle.strc_sched_machine.proofs.Looking.{goes_so, halts_so}
use Rattle.strc_sched_machine.proofs.Wanting.{filter_wants}
use Rattle.strc_sched_machine.proofs.filter.fire_taking.Goals as goal

pub returns-in-Err-clause-memory : goal.returns-in-Err-clause-memory
returns-in-Err-clause-memory c =
    let filter = filter_of c.args.code.now in
    let firing = c.args.firing in
    let rings = c.args.rings.now in
    let taking = c.args.taking in
    let fields = c.args.actor.now.state.fields in
    let before = c.args.words.now.items in
    let after = c.fire.new.words.items in
    let window = c.window_at-window.ensures in
    let body_is = c.body_at.ensures in
    let found : taking.window ≤ length (items_at rings c.args.input) =
    let test = c.if-count_at-taking.false in let count = c.count_at.ensures in omega arith in
    filter_wants filter firing taking.window taking.pops fields c.args.input c.args.output rings
    c.in-Err.halt before after found
    (subst (λ b. WantsOnlyWords (body_prints b filter) (Err c.in-Err.halt)) body_is
    c.in-Err.ensures.memory)
    (subst (λ b. WantsGivenWords (fired filter b fields (items_at rings c.args.input))
    (Err c.in-Err.halt) before after) body_is
    (subst (λ items. WantsGivenWords (fired filter c.body_at.result fields items)
    (Err c.in-Err.halt) before after) window c.in-Err.ensures.silent))

pub returns-in-Err-clause-step : goal.returns-in-Err-clause-step
returns-in-Err-clause-step c =
    let window = c.window_at-window.result in
    let test = c.if-count_at-taking.false in
    let count = c.count_at.ensures in
    halts_so (filter_of c.args.code.now) c.args.firing c.args.taking.window c.args.taking.pops
    c.args.actor.now.state.fields c.args.input c.args.output c.args.rings.now c.body_at.result
    (window.front.now ++ window.back.now) (omega (arith, test, count)) c.body_at.ensures
    c.window_at-window.ensures c.in-Err.halt c.fire.new.state.fields c.fire.new.frame.items
    c.args.rings.now c.args.rings.now c.args.words.now.items c.fire.new.words.items
    c.in-Err.ensures.fired c.in-Err.ensures.words

pub returns-clause-step : goal.returns-clause-step
returns-clause-step c =
    let window = c.window_at-window.result in
    let test = c.if-count_at-taking.false in
    let count = c.count_at.ensures in
    goes_so (filter_of c.args.code.now) c.args.firing c.args.taking.window c.args.taking.pops
    c.args.actor.now.state.fields c.args.input c.args.output c.args.rings.now c.body_at.result
    (window.front.now ++ window.back.now) (omega (arith, test, count)) c.body_at.ensures
    c.window_at-window.ensures c.fire.new.state.fields c.fire.new.frame.items
    c.pushes.result.now c.take_from.new.rings c.give_to.new.rings c.args.words.now.items
    c.fire.new.words.items c.in-Ok.ensures.fired c.pushes.ensures c.take_from.ensures
    c.give_to.ensures
