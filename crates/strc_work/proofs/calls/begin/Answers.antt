use Rattle.std.proofs.Common.{◌≡◌, ◌+◌, ◌-◌, length, take, drop, ap, arith, refl, ◌∙◌}
use Rattle.std.proofs.Common.{ℤ, pos, List, ◌++◌, set}
use Rattle.std.proofs.lemmas.List.{length-take-le, length-drop}
use Rattle.strc_work.proofs.Begun.{begun_is}
use Rattle.strc_work.proofs.calls.begin.Goals as goal

pub returns-clause-slots : goal.returns-clause-slots
returns-clause-slots c =
    let fields = c.args.fields in
    let count = c.args.count in
    let slots = c.args.slots.now in
    let values = take count (drop c.args.first slots) in
    let k : c.args.first + count - c.args.first ≡ count = omega arith in
    let size : length values ≡ count =
    length-take-le count (drop c.args.first slots)
    (omega (arith, length-drop c.args.first slots, c.requires.arguments)) in
    ap (λ (l : List ℤ). set (set l fields (pos 0)) (fields + 1) (pos 0)) c.copy_within.ensures.after
    ∙ ap (λ n. set (set ((take (fields + 2) slots ++ take n (drop c.args.first slots))
    ++ drop (fields + 2 + (c.args.first + count - c.args.first)) slots) fields (pos 0))
    (fields + 1) (pos 0)) k
    ∙ begun_is fields count values slots (fields + 2) (fields + 1)
    (c.args.first + count - c.args.first) c.requires.own size refl refl k
