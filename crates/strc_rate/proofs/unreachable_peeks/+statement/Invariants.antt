use Rattle.std.proofs.Common.{◌≡◌, ◌+◌, ◌*◌, ◌++◌, max, drop}
use Rattle.strc_parse_tree.proofs.tree.Stmt.TheLaws.{the_size}
use Rattle.strc_parse_tree.specs.View.{block_view}
use Rattle.strc_rate.specs.Entries.{peeks_of}
use Rattle.strc_rate.specs.Peeks.{unreached}
use Rattle.strc_rate.proofs.unreachable_peeks.+statement.Given as goal

abbrev pub decreases-skip_statement : goal.decreases-skip_statement
decreases-skip_statement l = 2 * the_size l.statement.now

abbrev pub decreases-skip_block : goal.decreases-skip_block
decreases-skip_block l = 2 * goal.size-skip_block l + 1

abbrev pub decreases-skip_guarded : goal.decreases-skip_guarded
decreases-skip_guarded l = 2 * the_size l.body.now + 1

abbrev pub decreases-skip_if_else : goal.decreases-skip_if_else
decreases-skip_if_else l = 2 * max (the_size l.chosen.now) (the_size l.other.now) + 1

abbrev pub decreases-skip_for : goal.decreases-skip_for
decreases-skip_for l =
    2 * max (the_size l.first.now) (max (the_size l.step.now) (the_size l.body.now)) + 1

abbrev pub invariant-skip_block-loop-statement : goal.invariant-skip_block-loop-statement
invariant-skip_block-loop-statement l =
    l.sites.items ++ unreached (peeks_of (block_view (drop l.statement-index l.block)))
    ≡ l.initial.sites.items ++ unreached (peeks_of (block_view l.block))
