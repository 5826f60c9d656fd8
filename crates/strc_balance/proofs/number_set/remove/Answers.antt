use Rattle.std.proofs.Common.{◌/◌, arith}
use Rattle.std.proofs.lemmas.List.{get_or_read}
use Rattle.strc_balance.proofs.Words.{number_within, emptied, left_used}
use Rattle.strc_balance.proofs.number_set.remove.Goals as goal

pub clear_bit-requires : goal.clear_bit-requires
clear_bit-requires c = number_within c.args.words.now.items c.args.used.now.items c.requires.are
    c.args.number c.requires.there

pub returns-then-index-eq0-clause-are : goal.returns-then-index-eq0-clause-are
returns-then-index-eq0-clause-are c =
    let words = c.args.words.now.items in
    let used = c.args.used.now.items in
    let later = c.clear_bit.new.words.items in
    let number = c.args.number in
    let within = number_within words used c.requires.are number c.requires.there in
    let own = get_or_read later (number / 64) c.index.result.now
    (omega (arith, within, c.clear_bit.ensures.each)) c.index.ensures 0 in
    emptied words used later c.clear_bit-then-index-eq0.new.words.items c.requires.are number
    c.clear_bit.ensures.others c.clear_bit.ensures.each
    (omega (arith, own, c.if-index-eq0.true)) c.clear_bit-then-index-eq0.ensures.each
    c.clear_bit-then-index-eq0.ensures.numbers

pub returns-else-index-eq0-clause-are : goal.returns-else-index-eq0-clause-are
returns-else-index-eq0-clause-are c =
    let words = c.args.words.now.items in
    let used = c.args.used.now.items in
    let later = c.clear_bit.new.words.items in
    let number = c.args.number in
    let within = number_within words used c.requires.are number c.requires.there in
    let own = get_or_read later (number / 64) c.index.result.now
    (omega (arith, within, c.clear_bit.ensures.each)) c.index.ensures 0 in
    left_used words used later c.requires.are number c.clear_bit.ensures.others
    c.clear_bit.ensures.each c.requires.there
    (λ none. omega (arith, own, none, c.if-index-eq0.false))
