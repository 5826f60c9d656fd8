use Rattle.std.proofs.Common.{◌∙◌, ap, set}
use Rattle.strc_sched_machine.specs.Running.{machine_view, with_words, words_of}
use Rattle.strc_sched_machine.proofs.WordLists.{words_set}
use Rattle.strc_sched_machine.proofs.machine.Machine.swap_words.Goals as goal

pub returns-clause-given : goal.returns-clause-given
returns-clause-given c =
    let before = c.args.self.now in
    let node = c.args.node in
    ap (λ l. with_words l (machine_view before))
    (words_set before.words.items node c.swap.new.x
    ∙ ap (λ w. set (words_of before.words.items) node w.items) c.swap.ensures.x_after)
