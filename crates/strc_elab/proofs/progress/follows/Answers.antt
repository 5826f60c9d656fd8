use Rattle.std.proofs.Common.{sym, ◌∙◌}
use Rattle.strc_elab.proofs.TypeRows.{follows_last}
use Rattle.strc_elab.proofs.progress.follows.Goals as goal

pub returns-in-len1-up : goal.returns-in-len1-up
returns-in-len1-up c = c.same_item.ensures
    ∙ sym (follows_last c.args.types.now c.args.next _ c.in-len1-up.len_at_least)
