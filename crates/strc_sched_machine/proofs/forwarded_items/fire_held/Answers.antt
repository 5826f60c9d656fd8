use Rattle.std.proofs.Common.{refl, sym, ap, subst, length, arith, Err}
use Rattle.std.proofs.lemmas.List.{length-take-le}
use Rattle.strc_work_meaning.specs.Filters.{body_prints, filter_of}
use Rattle.strc_work_meaning.specs.Firing.{fired}
use Rattle.strc_work_instructions.specs.Running.{WantsOnlyWords}
use Rattle.strc_work.specs.Answers.{WantsGivenWords}
use Rattle.strc_elab_graph.specs.Rates.{filter_pops}
use Rattle.strc_sched_laws.specs.Rings.{items_at}
use Rattle.strc_sched_laws.specs.Steps.{filter_looks}
use Rattle.strc_sched_machine.specs.Handing.{with_held}
use Rattle.strc_sched_machine.proofs.Held.{all_found, goes_held, halts_held, stays_held}
use Rattle.strc_sched_machine.proofs.Wanting.{filter_wants}
use Rattle.strc_sched_machine.proofs.forwarded_items.fire_held.Goals as goal

pub returns-then-held-taking_at-clause-step : goal.returns-then-held-taking_at-clause-step
returns-then-held-taking_at-clause-step c =
    let filter = filter_of c.args.code.now in
    let looks = (c.taking_at.ensures filter c.requires.actor).0 in
    let less = c.if-held-taking_at.true in (
      stays_held filter c.args.firing c.args.actor.now.state.fields c.args.batch.now.input
          c.args.batch.now.output c.args.rings.now c.args.held.now c.args.items.now
          c.requires.held c.requires.all (omega (arith, looks, less)),
      refl,
      refl,
      refl,
    )

pub returns-in-Err-clause-step : goal.returns-in-Err-clause-step
returns-in-Err-clause-step c =
    let filter = filter_of c.args.code.now in
    let looks = (c.taking_at.ensures filter c.requires.actor).0 in
    let test = c.if-held-taking_at.false in
    halts_held filter c.args.firing c.args.actor.now.state.fields c.args.batch.now.input
    c.args.batch.now.output c.args.rings.now c.args.held.now c.args.items.now c.requires.held
    c.requires.all c.taking_at.result.window c.body_at.result _ looks (omega (arith, test))
    c.body_at.ensures refl c.in-Err.halt c.fire.new.state.fields _ _ _ c.args.words.now.items
    c.fire.new.words.items c.in-Err.ensures.fired c.in-Err.ensures.words

pub returns-in-Err-clause-memory : goal.returns-in-Err-clause-memory
returns-in-Err-clause-memory c =
    let filter = filter_of c.args.code.now in
    let firing = c.args.firing in
    let held = c.args.held.now in
    let items = c.args.items.now in
    let joined = with_held held items c.args.rings.now in
    let fields = c.args.actor.now.state.fields in
    let before = c.args.words.now.items in
    let after = c.fire.new.words.items in
    let looks = (c.taking_at.ensures filter c.requires.actor).0 in
    let test = c.if-held-taking_at.false in
    let body_is = c.body_at.ensures in
    let window = all_found c.args.batch.now.input c.args.rings.now held items c.requires.held
    c.requires.all in
    let many = ap length window in
    let cut = length-take-le held.count items c.requires.held.count in
    filter_wants filter firing (filter_looks filter firing) (filter_pops filter firing) fields
    c.args.batch.now.input c.args.batch.now.output joined c.in-Err.halt before after
    (omega (arith, many, cut, test, looks))
    (subst (λ b. WantsOnlyWords (body_prints b filter) (Err c.in-Err.halt)) body_is
    c.in-Err.ensures.memory)
    (subst (λ b. WantsGivenWords (fired filter b fields (items_at joined c.args.batch.now.input))
    (Err c.in-Err.halt) before after) body_is
    (subst (λ l. WantsGivenWords (fired filter c.body_at.result fields l)
    (Err c.in-Err.halt) before after) (sym window) c.in-Err.ensures.silent))

pub returns-clause-step : goal.returns-clause-step
returns-clause-step c =
    let filter = filter_of c.args.code.now in
    let looks = (c.taking_at.ensures filter c.requires.actor).0 in
    let test = c.if-held-taking_at.false in
    goes_held filter c.args.firing c.args.actor.now.state.fields c.args.batch.now.input
    c.args.batch.now.output c.args.rings.now c.args.held.now c.args.items.now c.requires.held
    c.requires.all c.taking_at.result.window c.body_at.result _ looks (omega (arith, test))
    c.body_at.ensures refl c.requires.takes c.fire.new.state.fields c.fire.new.frame.items _ _
    c.args.words.now.items c.fire.new.words.items c.in-Ok.ensures.fired c.pushes.ensures
    c.hold.ensures.given
