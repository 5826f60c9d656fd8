use Rattle.std.proofs.Common.{◌+◌, ◌*◌, arith}
use Rattle.strc_balance.proofs.Words.{has_bit, in_words}
use Rattle.strc_balance.proofs.number_set.lowest_of.Goals as goal

pub overflow_mul-result : goal.overflow_mul-result
overflow_mul-result c =
    let words = c.args.words.now in
    let used = c.args.used.now in
    let word = c.in-Some.first * 64 + c.lowest_bit.result in
    let has = has_bit used c.in-Some.first c.lowest_bit.result c.lowest_bit.ensures.within
    c.lowest_bit.ensures.there in
    omega (arith, in_words words used c.requires word has, c.requires.few)

pub offset_bounds-words-word : goal.offset_bounds-words-word
offset_bounds-words-word c =
    let words = c.args.words.now in
    let used = c.args.used.now in
    let word = c.in-Some.first * 64 + c.lowest_bit.result in
    let has = has_bit used c.in-Some.first c.lowest_bit.result c.lowest_bit.ensures.within
    c.lowest_bit.ensures.there in
    omega (arith, in_words words used c.requires word has, c.requires.few)

pub bounds-words-word : goal.bounds-words-word
bounds-words-word c =
    let used = c.args.used.now in
    let word = c.in-Some.first * 64 + c.lowest_bit.result in
    let has = has_bit used c.in-Some.first c.lowest_bit.result c.lowest_bit.ensures.within
    c.lowest_bit.ensures.there in
    in_words c.args.words.now used c.requires word has
