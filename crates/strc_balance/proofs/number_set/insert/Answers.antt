use Rattle.std.proofs.Common.{◌∙◌, ◌==◌, ◌/◌, true, cond, ap, refl, eq-eqb}
use Rattle.std.specs.Int.{bit_at}
use Rattle.std.proofs.Common.{◌%◌}
use Rattle.strc_balance.specs.NumberSets.{has_number}
use Rattle.strc_balance.proofs.Words.{more_words, more_used, inserted}
use Rattle.strc_balance.proofs.number_set.insert.Goals as goal

pub returns-in_err-grow-clause-are : goal.returns-in_err-grow-clause-are
returns-in_err-grow-clause-are c =
    more_words c.args.words.now.items c.grow.new.words.items c.args.used.now.items c.requires
    c.grow.ensures.same c.grow.ensures.few

pub returns-in_err-grow-2-clause-are : goal.returns-in_err-grow-2-clause-are
returns-in_err-grow-2-clause-are c =
    let words = c.grow.new.words.items in
    more_used words c.args.used.now.items c.grow-2.new.words.items
    (more_words c.args.words.now.items words c.args.used.now.items c.requires
    c.grow.ensures.same c.grow.ensures.few) c.grow-2.ensures.same c.grow-2.ensures.few

pub returns-clause-are : goal.returns-clause-are
returns-clause-are c =
    let words = c.grow.new.words.items in
    let used = c.grow-2.new.words.items in
    let number = c.args.number in
    let are = more_used words c.args.used.now.items used
    (more_words c.args.words.now.items words c.args.used.now.items c.requires
    c.grow.ensures.same c.grow.ensures.few) c.grow-2.ensures.same c.grow-2.ensures.few in
    let has = c.set_bit.ensures.numbers number
    ∙ ap (λ t. cond t true (has_number words number)) (eq-eqb number number refl) in
    inserted words used c.set_bit.new.words.items c.set_bit-2.new.words.items are number
    c.set_bit.ensures.others c.set_bit.ensures.each has c.set_bit-2.ensures.each
    c.set_bit-2.ensures.numbers

pub returns-clause-numbers : goal.returns-clause-numbers
returns-clause-numbers c other =
    c.set_bit.ensures.numbers other
    ∙ ap (λ at. cond (other == c.args.number) true (bit_at (at (other / 64)) (other % 64) == 1))
    c.grow.ensures.same
