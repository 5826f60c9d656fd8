use Rattle.std.proofs.Common.{◌∙◌, ap, set}
use Rattle.std.specs.Vec.{vec_items}
use Rattle.std.proofs.lemmas.List.{map-set}
use Rattle.strc_sched_machine.specs.Running.{words_of}
use Rattle.strc_stage_cut.proofs.tapes.taken_words.Goals as goal

pub returns-clause-left : goal.returns-clause-left
returns-clause-left c =
    map-set vec_items c.args.left.now.items c.args.node c.replace.new.dest
    ∙ ap (set (words_of c.args.left.now.items) c.args.node)
    (ap vec_items c.replace.ensures.after ∙ c.new.ensures.items)
