use Rattle.std.proofs.Common.{◌≡◌, ◌∙◌, ◌+◌, ◌-◌, ◌++◌, ap, length, replicate, take, slice_index}
use Rattle.std.proofs.Common.{rules, arith}
use Rattle.std.proofs.lemmas.List.{take_all}
use Rattle.strc_balance.proofs.Words.{with_words}
use Rattle.strc_balance.proofs.number_set.grow.Goals as goal

pub returns-in_ok-resize-clause-same : goal.returns-in_ok-resize-clause-same
returns-in_ok-resize-clause-same c =
    let size = c.args.word + 1 in
    let words = c.args.words.now.items in
    let resized : c.resize.new.self.items ≡ take size words ++ replicate (size - length words) 0 =
    search rules in
    ap slice_index (resized ∙ ap (λ l. l ++ replicate (size - length words) 0)
    (take_all size words (omega (arith, c.if-word-len.true, c.len.ensures))))
    ∙ with_words words (size - length words)
