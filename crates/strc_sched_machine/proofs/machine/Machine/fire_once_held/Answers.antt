use Rattle.std.proofs.Common.{◌∙◌, ap, subst, set, ◌<◌, length, arith, Ok, Err, true}
use Rattle.std.proofs.lemmas.Grind.{get_or_default_zero}
use Rattle.strc_sched_laws.specs.Machine.{next_step, one_more, step_at}
use Rattle.strc_sched_rings.specs.Circuits.{circuit_view}
use Rattle.strc_sched_rings.specs.Words.{WantsWordOfStep}
use Rattle.strc_sched_machine.specs.Handing.{HasDoneByHand, held_view}
use Rattle.strc_sched_machine.specs.Memory.{prints_at}
use Rattle.strc_sched_machine.specs.Running.{HasDone}
use Rattle.strc_sched_machine.proofs.Done.{gone_once, one_more_is}
use Rattle.strc_sched_machine.proofs.Going.{one_node, wants_once}
use Rattle.strc_sched_machine.proofs.WordLists.{words_many}
use Rattle.strc_sched_machine.proofs.machine.Machine.fire_once_held.Goals as goal

pub returns-in-Ok-Some-true-clause-gone : goal.returns-in-Ok-Some-true-clause-gone
returns-in-Ok-Some-true-clause-gone c =
    let machine = c.args.self.now in
    let circuit = circuit_view c.args.circuit.now in
    let node = c.args.batch.now.node in
    let before = held_view c.args.held.now machine in
    let after = held_view c.step_held.new.held c.step_held.new.self in
    let step = next_step circuit before node in
    let firing = c.index-firing.result.now in
    let there : node < length machine.fired.items =
    let less = c.requires.batch.node in
    let many = c.requires.machine.fired in omega arith in
    let held : node < length machine.words.items =
    let less = c.requires.batch.node in
    let many = c.requires.machine.words in omega arith in
    let number = c.index-firing.ensures
    ∙ get_or_default_zero machine.fired.items node firing there in
    let counted = one_more_is firing c.saturating_add.result
    (let fits = c.index-firing.type_inv in omega arith)
    c.saturating_add.ensures in
    let done = subst (λ found. HasDoneByHand (step_at circuit before node firing) node (Ok found)
    before after) c.in-Ok-Some-true.field-0-is c.in-Ok-Some-true.ensures.step in
    let gone = gone_once before after node step _
    (subst (λ n. HasDone (step_at circuit before node n) node (Ok true) before after) number
    (subst (λ went. HasDone (step_at circuit before node firing) node (Ok went) before after)
    c.in-Ok-Some-true.field-0-0-test done)) (words_many machine.words.items node held)
    (ap (λ fired. set fired.items node c.saturating_add.result) c.in-Ok-Some-true.ensures.fired
    ∙ ap (set machine.fired.items node) (counted ∙ ap one_more number)) in
    (one_node circuit node before ∙ gone.0, gone.1)

pub returns-in-Err-NoMemory-clause-memory : goal.returns-in-Err-NoMemory-clause-memory
returns-in-Err-NoMemory-clause-memory c =
    let machine = c.args.self.now in
    let node = c.args.batch.now.node in
    let firing = c.index-firing.result.now in
    let circuit = circuit_view c.args.circuit.now in
    let before = held_view c.args.held.now machine in
    let there : node < length machine.fired.items =
    let less = c.requires.batch.node in
    let many = c.requires.machine.fired in omega arith in
    wants_once circuit node firing before
    (c.index-firing.ensures ∙ get_or_default_zero machine.fired.items node firing there)
    (subst (λ why. WantsWordOfStep (prints_at circuit node firing)
    (step_at circuit before node firing) (Err why)) c.in-Err-NoMemory.field-0-is
    c.in-Err-NoMemory.ensures.memory)
