use Rattle.std.proofs.Common.{◌≡◌, ℕ, ◌/◌, ◌==◌, true, cond, set, bit_or, sym, subst}
use Rattle.std.proofs.lemmas.List.{get_or_read}
use Rattle.strc_balance.specs.NumberSets.{has_number}
use Rattle.strc_balance.proofs.Words.{bit_of, with_number}
use Rattle.strc_balance.proofs.bits.set_bit.Goals as goal

pub returns-clause-numbers : goal.returns-clause-numbers
returns-clause-numbers c =
    let words = c.args.words.now.items in
    let word = c.args.number / 64 in
    let own = get_or_read words word c.index_mut.result.now c.requires c.index_mut.ensures.value
    0 in
    subst (λ w. (other : ℕ) → has_number (set words word (bit_or w (bit_of c.args.number))) other
    ≡ cond (other == c.args.number) true (has_number words other)) (sym own)
    (with_number words c.args.number c.requires)
