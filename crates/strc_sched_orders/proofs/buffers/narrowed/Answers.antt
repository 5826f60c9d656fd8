use Rattle.std.proofs.Common.{◌∙◌, sym, ap, get_or, ◌++◌, ◌∷◌, []}
use Rattle.std.proofs.lemmas.List.{take_all, take_more}
use Rattle.strc_sched_orders.proofs.buffers.narrowed.Goals as goal

pub loop-number-init : goal.loop-number-init
loop-number-init c = c.in_ok-narrowed.ensures.items

pub loop-number-preserved : goal.loop-number-preserved
loop-number-preserved c =
    let numbers = c.args.numbers.now in
    let place = c.loop-number.number-index in
    c.in_ok-push.ensures.items
    ∙ ap (λ l. l ++ get_or numbers place 0 ∷ []) c.loop-number.invariant
    ∙ sym (take_more numbers place 0 c.loop-number-test.true)

pub returns : goal.returns
returns c =
    c.loop-number.invariant
    ∙ take_all c.loop-number.number-index c.args.numbers.now c.loop-number-test.false
